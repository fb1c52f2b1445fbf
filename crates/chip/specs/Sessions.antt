-- The paper's sessions at both sides of each limit, 1 to 8 (the marked ones) and 9, and two of our own, as one table.
-- A line is a call with the answer that the paper names, or a register with the byte that it shows.
-- proofs/Sessions.antt has the claim: what the definitions play from a fresh state is the table, line for line.
use Rattle.std.specs.Prelude.{List, [], ◌∷◌, ◌++◌, ℕ, zero, suc}
use Rattle.chip.specs.declared.State.{State}
use Rattle.chip.specs.declared.Answer.{Answer}
use Rattle.chip.specs.declared.Answer.TheVariants.{Done, Held, OutOfPlace, BadNumber, Blind, CommandIgnored, ReselectionIgnored, NoDataNow, Reported}
use Rattle.chip.specs.State.{fresh}
use Rattle.chip.specs.Calls.{Call, pointer, auxiliary, register, time, answer, reselection, request, free, step}
use Rattle.chip.specs.Registers.{register_at}

infix 20 ◌⇒◌
pub data Line : Type 0 where
  ◌⇒◌ : Call → Answer → Line
  shows : (address byte : ℕ) → Line

-- the same calls and registers, with the answers and bytes that the definitions give
unfoldable pub played : List Line → State → List Line
played [] s = []
played ((c ⇒ a) ∷ l) s = (c ⇒ (step c s).answer) ∷ played l (step c s).state
played (shows a b ∷ l) s = shows a (register_at a s.registers) ∷ played l s

unfoldable pub played_each : List (List Line) → List (List Line)
played_each [] = []
played_each (x ∷ l) = played x fresh ∷ played_each l

-- a register or the command register written, a register read: the pointer is set first
abbrev pub writes : ℕ → ℕ → List Line
writes a b = (pointer 1 a ⇒ Done 0) ∷ (register 1 b ⇒ Done 0) ∷ []

abbrev pub reads : ℕ → ℕ → List Line
reads a b = (pointer 1 a ⇒ Done 0) ∷ (register 0 0 ⇒ Done b) ∷ []

-- the Data register, with the pointer at 19h
abbrev gives : ℕ → Answer → Line
gives b a = register 1 b ⇒ a

abbrev times : ℕ → Line → List Line
times zero x = []
times (suc n) x = x ∷ times n x

-- a Request with good parity
abbrev asks : ℕ → ℕ → Answer → Line
asks p b a = request p b 0 ⇒ a

-- connected by Select with ATN, status read; then Transfer Info of a count below 256 in phase p, the pointer left at 19h
abbrev selected : List Line
selected = writes 0x18 0x06 ++ ((answer ⇒ Done 0) ∷ reads 0x17 0x11)

abbrev transfer_info_of : ℕ → ℕ → ℕ → List Line
transfer_info_of p code count =
    selected
    ++ ((asks p 0 Reported ∷ reads 0x17 code) ++ (writes 0x14 count ++ (writes 0x18 0x20 ++ ((pointer 1 0x19 ⇒ Done 0) ∷ []))))

-- our identity 7, ER set
abbrev reselectable : List Line
reselectable = writes 0x00 7 ++ (writes 0x18 0x00 ++ (reads 0x17 0x00 ++ writes 0x16 0x80))

unfoldable pub sessions : List (List Line)
sessions =
    -- 1: "Command 08, registers 03 to 08 zero, timeout 2, LUN 0, ER 0: Time 1, Answer, Message Out takes 80h, six Commands take 00 (36h),
    -- Status 02 puts 02 in 0Fh, Message In 00: code 16h, auxiliary 80h. Free is Held; read 17h; Free raises 85h."
    (writes 0x02 2
    ++ (writes 0x18 0x08
    ++ (((time 1 ⇒ Done 0) ∷ (answer ⇒ Done 0) ∷ asks 6 0 (Done 0x80) ∷ times 6 (asks 2 0 (Done 0)))
    ++ (shows 0x10 0x36
    ∷ asks 3 0x02 (Done 0x02)
    ∷ shows 0x0F 0x02
    ∷ asks 7 0x00 (Done 0)
    ∷ (auxiliary ⇒ Done 0x80)
    ∷ (free ⇒ Held)
    ∷ reads 0x17 0x16
    ++ ((free ⇒ Done 0) ∷ (auxiliary ⇒ Done 0x80) ∷ reads 0x17 0x85)))))
    -- 2: "Timeout 2: Time 1 twice gives 42h." One unit is not enough
    ∷ (writes 0x02 2
    ++ (writes 0x18 0x06
    ++ ((time 1 ⇒ Done 0) ∷ (auxiliary ⇒ Done 0x20) ∷ (time 1 ⇒ Done 0) ∷ (auxiliary ⇒ Done 0x80) ∷ reads 0x17 0x42)))
    ∷ (writes 0x02 2
    ++ (writes 0x18 0x06 ++ ((time 1 ⇒ Done 0) ∷ (answer ⇒ Done 0) ∷ reads 0x17 0x11)))
    -- "Timeout 0: 255 twice, still selecting."
    ∷ (writes 0x18 0x06
    ++ ((time 255 ⇒ Done 0) ∷ (time 255 ⇒ Done 0) ∷ (auxiliary ⇒ Done 0x20) ∷ (answer ⇒ Done 0) ∷ reads 0x17 0x11))
    -- 3: "Outgoing, count 13: twelve writes, the next is 7. Count 5: the sixth is 7."
    ∷ (transfer_info_of 0 0x88 13 ++ (times 12 (gives 0xA5 (Done 0)) ++ (gives 0xA5 NoDataNow ∷ (auxiliary ⇒ Done 0x20) ∷ [])))
    ∷ (transfer_info_of 0 0x88 5
    ++ (times 4 (gives 0xA5 (Done 0)) ++ ((auxiliary ⇒ Done 0x21) ∷ gives 0xA5 (Done 0) ∷ gives 0xA5 NoDataNow ∷ [])))
    -- 4: "Incoming, count 13: twelve bytes, the next Held; one read, then Done."
    ∷ (transfer_info_of 1 0x89 13
    ++ (times 12 (asks 1 0x5A (Done 0x5A))
    ++ (asks 1 0x5B Held ∷ (register 0 0 ⇒ Done 0x5A) ∷ asks 1 0x5B (Done 0x5B) ∷ shows 0x14 0 ∷ [])))
    -- 5: "Transfer Info out, count 5: 5 written, 2 taken, Status asked: 4Bh, count 3."
    ∷ (transfer_info_of 0 0x88 5
    ++ ((gives 0x01 (Done 0) ∷ gives 0x02 (Done 0) ∷ gives 0x03 (Done 0) ∷ gives 0x04 (Done 0) ∷ gives 0x05 (Done 0) ∷ [])
    ++ (shows 0x14 5
    ∷ asks 0 0 (Done 0x01)
    ∷ asks 0 0 (Done 0x02)
    ∷ asks 3 0x02 Reported
    ∷ shows 0x0F 0
    ∷ reads 0x17 0x4B
    ++ (reads 0x12 0 ++ (reads 0x13 0 ++ reads 0x14 3)))))
    -- 6: "Our identity 7, ER, each afresh: lines 88h give 16h = 8Bh; 80h give 80h; 98h and 08 are ignored."
    ∷ (reselectable ++ ((reselection 0x88 ⇒ Done 0) ∷ reads 0x17 0x80 ++ reads 0x16 0x8B))
    ∷ (reselectable ++ ((reselection 0x80 ⇒ Done 0) ∷ reads 0x17 0x80 ++ reads 0x16 0x80))
    ∷ (reselectable ++ ((reselection 0x98 ⇒ ReselectionIgnored) ∷ reads 0x16 0x80))
    ∷ (reselectable ++ ((reselection 0x08 ⇒ ReselectionIgnored) ∷ reads 0x16 0x80))
    -- 7: "Pointer FFh read: FFh, pointer 00. At 19h it stays."
    ∷ ((pointer 1 0xFF ⇒ Done 0) ∷ (register 0 0 ⇒ Blind) ∷ (pointer 0 0 ⇒ Done 0x00) ∷ [])
    ∷ ((pointer 1 0x19 ⇒ Done 0) ∷ (register 0 0 ⇒ NoDataNow) ∷ (pointer 0 0 ⇒ Done 0x19) ∷ [])
    -- 8: "Phase 8: answer 3." Phase 7 is good. "Command 20h with INT: answer 5, auxiliary C0h."
    ∷ (selected ++ (asks 8 0 BadNumber ∷ asks 7 0 Reported ∷ reads 0x17 0x8F))
    ∷ (writes 0x18 0x20 ++ ((auxiliary ⇒ Done 0x80) ∷ (register 1 0x20 ⇒ CommandIgnored) ∷ (auxiliary ⇒ Done 0xC0) ∷ []))
    -- 9: "Abort while an incoming FIFO holds 3: three reads, then the code."
    ∷ (transfer_info_of 1 0x89 13
    ++ ((asks 1 0x11 (Done 0x11) ∷ asks 1 0x12 (Done 0x12) ∷ asks 1 0x13 (Done 0x13) ∷ writes 0x18 0x01)
    ++ ((auxiliary ⇒ Done 0x21)
    ∷ reads 0x19 0x11
    ++ ((register 0 0 ⇒ Done 0x12) ∷ (auxiliary ⇒ Done 0x21) ∷ (register 0 0 ⇒ Done 0x13) ∷ (auxiliary ⇒ Done 0x80) ∷ reads 0x17 0x29))))
    -- our own. The fault that this model is built against: the Target answers when 42h is raised and unread. It is turned away, and so is
    -- its Request: nobody is connected when the driver reads that nobody answered
    ∷ (writes 0x02 1
    ++ (writes 0x18 0x06 ++ ((time 1 ⇒ Done 0) ∷ (answer ⇒ OutOfPlace) ∷ asks 1 0x11 OutOfPlace ∷ reads 0x17 0x42)))
    -- "Until then BSY stays and bus events are Held, except Time, which is Done without effect.": the byte and the code still come
    ∷ (transfer_info_of 1 0x89 13
    ++ (asks 1 0x11 (Done 0x11)
    ∷ writes 0x18 0x01
    ++ ((time 255 ⇒ Done 0) ∷ asks 1 0x12 Held ∷ (auxiliary ⇒ Done 0x21) ∷ reads 0x19 0x11 ++ ((auxiliary ⇒ Done 0x80) ∷ reads 0x17 0x29))))
    ∷ []
