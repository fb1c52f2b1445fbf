-- Why a code is raised: one table over every code, the call that raises it and the state that it is made in.
--   Because c s k        the table: the call c, made in s, raises the code k
--   Brings c s k         its rows that end a running command: k is raised at once, or when the incoming bytes are read out
--   Begins c s k         such a row with incoming bytes unread: an ending with k begins
--   BeginsReadOut c s    a Free at 42h without IDI, with incoming bytes unread: the read-out begins, an ending with no code
--   ReadsLast c s        the call c reads the last incoming byte that waits: at 19h, or by a block
--   ReadsOut c s k       .. of an ending with k
--   RaisedBecause f      the table is sound and complete for the step f
--   EndingBecause f      an ending with k begins exactly where the table says so, and the read-out exactly where BeginsReadOut does
--   Quiet s              nothing is pending in s: no INT and no ending
--   is_idle a             no command that Requests are for: none runs, or one that only selects
--   Offered n b m p s    the Request n b m, of phase p, comes to the running command
--   LastMessage n b m s  .. is the last Message In byte of a Transfer Info
--   Translates c s       the call c is a Translate Address that s carries out
--   is_off_disk s          one of the five reasons for 45h holds of the registers of s
--   expects g p b s      at the stage g a Request of phase p with the byte b is expected (expects_body, expects_late: two stages of it)
--   is_before_status g     the stage g is one that takes the messages 02 and 04
--   wants p b s          the running command wants it: a byte of it would cross, were there room or a byte
--   fits p s             there is room for a byte of phase p
--   halts m s            with the parity m a byte that would be taken in is not: it halts the transfer
--   is_spent s            no Select-And-Transfer runs, and no byte is left
use Rattle.std.specs.Prelude.{◌≡◌, Bool, true, false, not, ◌||◌, List, ◌⊎◌, ℕ, ◌+◌, ◌<◌, ◌≤◌, eqb, leb, length}
use Rattle.chip.specs.Choice.{pick, both, either}
use Rattle.chip.specs.Phases.{phase_of, phase_number, comes_in, same_phase, is_noted, is_message_in, is_message_out, is_command_out}
use Rattle.chip.specs.Lines.{hsp, idi, identify, lun_of, qualifies}
use Rattle.chip.specs.Fifo.{waits, has_room}
use Rattle.chip.specs.Count.{none_left, is_last}
use Rattle.chip.specs.Interrupts.{is_incoming, is_outgoing, bytes_unread}
use Rattle.chip.specs.Activity.{is_running, goes_on, is_select_and_transfer, is_transfer_info}
use Rattle.chip.specs.SelectAndTransfer.{stage}
use Rattle.chip.specs.Translate.{geometry_of, address_of, exceeds}
use Rattle.chip.specs.Commands.{is_valid, abort_phase, reset_code}
use Rattle.chip.specs.Connections.{is_connected, is_waiting}
use Rattle.chip.specs.Events.{names_target}
use Rattle.chip.specs.Calls.{Call, Outcome, block, time, answer, reselection, request, free, is_good, is_set}
use Rattle.chip.specs.declared.State.{State}
use Rattle.chip.specs.declared.Stage.{Stage}
use Rattle.chip.specs.declared.Stage.TheVariants.{SendIdentify, SendCommand, Body, AfterData, Disconnecting, Reselected, AfterStatus, Elsewhere}
use Rattle.chip.specs.declared.Activity.{Activity}
use Rattle.chip.specs.declared.Connection.TheVariants.{Disconnected, Selecting, Connected}
use Rattle.chip.specs.declared.Phase.{Phase}
use Rattle.chip.specs.declared.Phase.TheVariants.{DataOut, DataIn, CommandOut, StatusIn, UnspecifiedOut, UnspecifiedIn, MessageOut, MessageIn}
use Rattle.unread.specs.Status.{Nothing, Ending, ReadOut, pending, is_command, is_reset, reads_at, raised}

-- the words of the table

abbrev pub Quiet : State → Type 0
Quiet s = pending s ≡ Nothing

abbrev pub is_idle : Activity → Bool
is_idle a = not (is_select_and_transfer a || is_transfer_info a)

pub record Offered (n b m : ℕ) (p : Phase) (s : State) : Type 0 where
  pub good : is_good (request n b m) ≡ true
  pub phase : phase_of n ≡ p
  pub quiet : Quiet s
  pub connected : s.wire.connection ≡ Connected
  pub released : s.wire.handshake.ack ≡ false

-- 3xh at the size, 41h, 45h: data in the way that is fixed, while a byte is left; Status; the messages 02 and 04
unfoldable pub expects_body : Phase → ℕ → State → Bool
expects_body DataOut b s = both (not (none_left s)) (not (is_incoming s.transfer.direction))
expects_body DataIn b s = both (not (none_left s)) (not (is_outgoing s.transfer.direction))
expects_body CommandOut b s = false
expects_body StatusIn b s = true
expects_body UnspecifiedOut b s = false
expects_body UnspecifiedIn b s = false
expects_body MessageOut b s = false
expects_body MessageIn b s = either (eqb b 0x02) (eqb b 0x04)

-- 46h: Status; the messages 02 and 04
unfoldable pub expects_late : Phase → ℕ → Bool
expects_late DataOut b = false
expects_late DataIn b = false
expects_late CommandOut b = false
expects_late StatusIn b = true
expects_late UnspecifiedOut b = false
expects_late UnspecifiedIn b = false
expects_late MessageOut b = false
expects_late MessageIn b = either (eqb b 0x02) (eqb b 0x04)

unfoldable pub expects : Stage → Phase → ℕ → State → Bool
expects SendIdentify p b s = is_message_out p
expects (SendCommand x) p b s = is_command_out p
expects Body p b s = expects_body p b s
expects AfterData p b s = expects_late p b
expects Disconnecting p b s = false
expects Reselected p b s = both (is_message_in p) (eqb b (identify (lun_of s) false))
expects AfterStatus p b s = both (is_message_in p) (eqb b 0x00)
expects Elsewhere p b s = false

unfoldable pub wants : Phase → ℕ → State → Bool
wants p b s =
    pick (is_select_and_transfer s.activity) (expects (stage s) p b s)
    (both (is_noted p s.wire.seen.reported) (not (none_left s)))

-- only the data of a Select-And-Transfer goes into the FIFO, and every byte of a Transfer Info
unfoldable pub fits : Phase → State → Bool
fits p s = either (both (is_select_and_transfer s.activity) (not (same_phase p DataIn))) (has_room s.fifo)

unfoldable pub halts : ℕ → State → Bool
halts m s = both (is_set m) (hsp s)

unfoldable pub is_spent : State → Bool
is_spent s = both (not (is_select_and_transfer s.activity)) (none_left s)

abbrev pub is_before_status : Stage → Bool
is_before_status SendIdentify = false
is_before_status (SendCommand x) = false
is_before_status Body = true
is_before_status AfterData = true
is_before_status Disconnecting = false
is_before_status Reselected = false
is_before_status AfterStatus = false
is_before_status Elsewhere = false

pub record LastMessage (n b m : ℕ) (s : State) : Type 0 where
  pub offered : Offered n b m MessageIn s
  pub runs : is_transfer_info s.activity ≡ true
  pub wanted : wants MessageIn b s ≡ true
  pub last : is_last s ≡ true
  pub room : has_room s.fifo ≡ true
  pub sound : halts m s ≡ false

pub record Translates (c : Call) (s : State) : Type 0 where
  pub command : is_command 0x18 c s ≡ true
  pub quiet : Quiet s
  pub idle : is_running s.activity ≡ false
  pub apart : s.wire.connection ≡ Disconnected

abbrev pub is_off_disk : State → Bool
is_off_disk s = exceeds (geometry_of s.registers.descriptor.cdb) (address_of s.registers.descriptor.cdb)

-- the table

pub data Brings : Call → State → ℕ → Type 0 where
  -- 16h: Select-And-Transfer, Message In 00 after the status
  completes : {n b m : ℕ} {s : State} → Offered n b m MessageIn s → is_select_and_transfer s.activity ≡ true
      → stage s ≡ AfterStatus → eqb b 0x00 ≡ true → halts m s ≡ false → Brings (request n b m) s 0x16
  -- 18h+p: Transfer Info, a Request with no byte left
  overruns : {n b m : ℕ} {p : Phase} {s : State} → Offered n b m p s → is_idle s.activity ≡ false
      → is_spent s ≡ true → Brings (request n b m) s (0x18 + phase_number p)
  -- 21h: Select-And-Transfer, Message In 02 before the status
  saves : {n b m : ℕ} {s : State} → Offered n b m MessageIn s → is_select_and_transfer s.activity ≡ true
      → is_before_status (stage s) ≡ true → eqb b 0x02 ≡ true → halts m s ≡ false → Brings (request n b m) s 0x21
  -- 28h+p: Abort, connected
  aborts_connected : {c : Call} {s : State} → is_command 0x01 c s ≡ true → goes_on s.activity ≡ true
      → s.wire.connection ≡ Connected → Brings c s (0x28 + phase_number (abort_phase s.wire.seen.last))
  -- 41h: Free, bytes left in a Transfer Info; in a Select-And-Transfer elsewhere than at 42h
  cuts_info : {s : State} → Quiet s → s.wire.connection ≡ Connected → is_transfer_info s.activity ≡ true
      → none_left s ≡ false → Brings free s 0x41
  cuts_transfer : {s : State} → Quiet s → s.wire.connection ≡ Connected → is_select_and_transfer s.activity ≡ true
      → eqb s.registers.descriptor.phase 0x42 ≡ false → Brings free s 0x41
  -- 43h: a byte of bad parity with HSP, where it would be taken in
  spoils : {n b m : ℕ} {p : Phase} {s : State} → Offered n b m p s → is_idle s.activity ≡ false
      → wants p b s ≡ true → comes_in p ≡ true → fits p s ≡ true → halts m s ≡ true → Brings (request n b m) s 0x43
  -- 48h+p: a Request that the running command does not want
  surprises : {n b m : ℕ} {p : Phase} {s : State} → Offered n b m p s → is_idle s.activity ≡ false
      → wants p b s ≡ false → is_spent s ≡ false → Brings (request n b m) s (0x48 + phase_number p)
  -- 85h: Free, no byte left in a Transfer Info; in a Select-And-Transfer at 42h with IDI
  leaves_info : {s : State} → Quiet s → s.wire.connection ≡ Connected → is_transfer_info s.activity ≡ true
      → none_left s ≡ true → Brings free s 0x85
  leaves_transfer : {s : State} → Quiet s → s.wire.connection ≡ Connected → is_select_and_transfer s.activity ≡ true
      → eqb s.registers.descriptor.phase 0x42 ≡ true → idi s ≡ true → Brings free s 0x85

pub data Begins : Call → State → ℕ → Type 0 where
  brings_unread : {c : Call} {s : State} {k : ℕ} → Brings c s k → bytes_unread s ≡ true → Begins c s k
  -- 20h: the last Message In byte itself is unread
  keeps_last : {n b m : ℕ} {s : State} → LastMessage n b m s → is_incoming s.transfer.direction ≡ true
      → Begins (request n b m) s 0x20

pub data BeginsReadOut : Call → State → Type 0 where
  leaves_unread : {s : State} → Quiet s → s.wire.connection ≡ Connected → is_select_and_transfer s.activity ≡ true
      → eqb s.registers.descriptor.phase 0x42 ≡ true → idi s ≡ false → bytes_unread s ≡ true → BeginsReadOut free s

pub data ReadsLast : Call → State → Type 0 where
  byte : {c : Call} {s : State} → reads_at 0x19 c s ≡ true → is_incoming s.transfer.direction ≡ true → waits s.fifo ≡ 1
      → ReadsLast c s
  slice : {m : ℕ} {l : List ℕ} {s : State} → is_good (block m l) ≡ true → is_set m ≡ false
      → is_incoming s.transfer.direction ≡ true → 0 < waits s.fifo → waits s.fifo ≤ length l → ReadsLast (block m l) s

pub record ReadsOut (c : Call) (s : State) (k : ℕ) : Type 0 where
  pub last : ReadsLast c s
  pub ending : pending s ≡ Ending k

pub data Because : Call → State → ℕ → Type 0 where
  brings : {c : Call} {s : State} {k : ℕ} → Brings c s k → bytes_unread s ≡ false → Because c s k
  -- any code: the read that empties the FIFO of its ending
  reads : {c : Call} {s : State} {k : ℕ} → ReadsOut c s k → Because c s k
  -- Reset's own code
  resets : {c : Call} {s : State} → is_reset c s ≡ true → Because c s (reset_code s)
  -- 11h: Answer to a Select
  answers : {s : State} → goes_on s.activity ≡ true → s.wire.connection ≡ Selecting → is_select_and_transfer s.activity ≡ false
      → Because answer s 0x11
  -- 15h: Translate Address, with no reason for 45h
  locates : {c : Call} {s : State} → Translates c s → is_off_disk s ≡ false → Because c s 0x15
  -- 16h: the resume at 60h
  resumes : {c : Call} {s : State} (k : ℕ) → is_command k c s ≡ true → either (eqb k 0x08) (eqb k 0x09) ≡ true → Quiet s
      → is_running s.activity ≡ false → s.wire.connection ≡ Connected → s.registers.descriptor.phase ≡ 0x60
      → Because c s 0x16
  -- 20h: the last Message In byte of a Transfer Info whose data does not come in
  takes_last : {n b m : ℕ} {s : State} → LastMessage n b m s → is_incoming s.transfer.direction ≡ false
      → Because (request n b m) s 0x20
  -- 22h: Abort, not connected
  aborts : {c : Call} {s : State} → is_command 0x01 c s ≡ true → goes_on s.activity ≡ true
      → is_connected s.wire.connection ≡ false → Because c s 0x22
  -- 40h: a command that is not valid, and no command runs
  refuses : {c : Call} {s : State} (k : ℕ) → is_command k c s ≡ true → eqb k 0x00 ≡ false → Quiet s
      → is_running s.activity ≡ false → is_valid k s ≡ false → Because c s 0x40
  -- 42h: Time, selecting, when the units that have added up reach register 02, which is not 0
  times_out : {n : ℕ} {s : State} → is_good (time n) ≡ true → goes_on s.activity ≡ true → s.wire.connection ≡ Selecting
      → eqb s.registers.setup.timeout 0 ≡ false → leb s.registers.setup.timeout (s.wire.elapsed + n) ≡ true
      → Because (time n) s 0x42
  -- 45h: Translate Address, with one
  misses : {c : Call} {s : State} → Translates c s → is_off_disk s ≡ true → Because c s 0x45
  -- 80h: Reselection, not connected, other than by the Target that a waiting Select-And-Transfer names
  reselects : {lines : ℕ} {s : State} → is_good (reselection lines) ≡ true → Quiet s → qualifies lines s ≡ true
      → is_connected s.wire.connection ≡ false → both (is_waiting s.wire.connection) (names_target lines s) ≡ false
      → Because (reselection lines) s 0x80
  -- 85h: Free, connected and idle
  frees : {s : State} → Quiet s → s.wire.connection ≡ Connected → is_idle s.activity ≡ true
      → Because free s 0x85
  -- 88h+p: a Request of a phase not yet reported, connected and idle
  asks : {n b m : ℕ} {p : Phase} {s : State} → Offered n b m p s → is_idle s.activity ≡ true
      → is_noted p s.wire.seen.reported ≡ false → Because (request n b m) s (0x88 + phase_number p)

pub record RaisedBecause (f : Call → State → Outcome) : Type 0 where
  pub sound : (c : Call) (s : State) → raised c s (f c s).state ≡ true → Because c s (f c s).state.status.code
  pub complete : (c : Call) (s : State) (k : ℕ) → Because c s k → raised c s (f c s).state ≡ true
  pub code : (c : Call) (s : State) (k : ℕ) → Because c s k → (f c s).state.status.code ≡ k

pub record EndingBecause (f : Call → State → Outcome) : Type 0 where
  pub sound : (c : Call) (s : State) (k : ℕ) → pending (f c s).state ≡ Ending k
      → (pending s ≡ Ending k) ⊎ Begins c s k
  pub complete : (c : Call) (s : State) (k : ℕ) → Begins c s k → pending (f c s).state ≡ Ending k
  pub read_out_sound : (c : Call) (s : State) → pending (f c s).state ≡ ReadOut
      → (pending s ≡ ReadOut) ⊎ BeginsReadOut c s
  pub read_out_complete : (c : Call) (s : State) → BeginsReadOut c s → pending (f c s).state ≡ ReadOut
