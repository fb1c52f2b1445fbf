-- Translate Address at both sides of each limit, as sessions: paper 02, Req 01. The places are reckoned by hand.
-- proofs/Sessions.antt has the claim: what the definitions play from a fresh state is this table, line for line.
use Rattle.std.specs.Prelude.{List, [], ◌∷◌, ◌++◌, ℕ}
use Rattle.chip.specs.declared.Answer.TheVariants.{Done}
use Rattle.chip.specs.Calls.{pointer, auxiliary, register}
use Rattle.chip.specs.Sessions.{Line, ◌⇒◌, writes, reads}

-- the next registers written, and read
abbrev written : List ℕ → List Line
written [] = []
written (b ∷ l) = (register 1 b ⇒ Done 0) ∷ written l

abbrev read : List ℕ → List Line
read [] = []
read (b ∷ l) = (register 0 0 ⇒ Done b) ∷ read l

-- 18h: INT at once and no BSY, the code, and registers 03 to 0Eh as they then are: up to 0Ah as they were
abbrev commanded : List ℕ → ℕ → List ℕ → List Line
commanded asked code place =
    writes 0x18 0x18
    ++ ((auxiliary ⇒ Done 0x80) ∷ reads 0x17 code ++ ((pointer 1 0x03 ⇒ Done 0) ∷ read (asked ++ place)))

-- registers 03 to 0Ah and 0Bh to 0Eh are loaded first
abbrev translates : List ℕ → List ℕ → ℕ → List ℕ → List Line
translates asked rest code place = (pointer 1 0x03 ⇒ Done 0) ∷ written (asked ++ rest) ++ commanded asked code place

-- 03 to 06: sectors, heads, cylinders; 07 to 0Ah: the address; 0Bh to 0Eh
abbrev four : ℕ → ℕ → ℕ → ℕ → List ℕ
four a b c d = a ∷ b ∷ c ∷ d ∷ []

unfoldable pub translations : List (List Line)
translations =
    -- 17 sectors, 4 heads, 615 cylinders: the last sector is 41819, on cylinder 614, head 3, sector 16
    translates (four 17 4 2 0x67 ++ four 0 0 0xA3 0x5B) (four 0 0 0 0) 0x15 (four 16 3 2 0x66)
    ∷ translates (four 17 4 2 0x67 ++ four 0 0 0xA3 0x5C) (four 0 0 0 0) 0x45 (four 0 0 0 0)
    -- no spares: 0D/0Eh is not looked at
    ∷ translates (four 17 4 2 0x67 ++ four 0 0 0 67) (four 9 0 0 10) 0x15 (four 16 3 0 0)
    -- two spares: 66 sectors are left on a cylinder
    ∷ translates (four 17 4 2 0x67 ++ four 0 0 0 65) (four 0 2 0 66) 0x15 (four 14 3 0 0)
    ∷ translates (four 17 4 2 0x67 ++ four 0 0 0 66) (four 0 2 0 66) 0x15 (four 0 0 0 1)
    -- 0D/0Eh is believed, also above sectors times heads: address 4 would be on head 2, and there are heads 0 and 1
    ∷ translates (four 2 2 0 10 ++ four 0 0 0 3) (four 0 1 0 10) 0x15 (four 1 1 0 0)
    ∷ translates (four 2 2 0 10 ++ four 0 0 0 4) (four 7 1 0 10) 0x45 (four 7 1 0 10)
    -- 4096 cylinders and 15 heads pass with spares; one more does not
    ∷ translates (four 17 15 0x10 0x00 ++ four 0 0x0C 0x7F 0x38) (four 0 55 0 200) 0x15 (four 0 0 0x0F 0xFF)
    ∷ translates (four 17 15 0x10 0x01 ++ four 0 0 0 0) (four 0 55 0 200) 0x45 (four 0 55 0 200)
    ∷ translates (four 17 16 0x10 0x00 ++ four 0 0 0 0) (four 0 72 0 200) 0x45 (four 0 72 0 200)
    -- without spares there is no such limit
    ∷ translates (four 17 16 0x10 0x01 ++ four 0 0 0 17) (four 0 0 0 0) 0x15 (four 0 1 0 0)
    -- a divisor is zero: no sectors on a track, no head, no sectors on a cylinder; with spares both divisors are asked
    ∷ translates (four 0 4 2 0x67 ++ four 0 0 0 0) (four 0 0 0 0) 0x45 (four 0 0 0 0)
    ∷ translates (four 17 0 2 0x67 ++ four 0 0 0 0) (four 0 0 0 0) 0x45 (four 0 0 0 0)
    ∷ translates (four 17 4 2 0x67 ++ four 0 0 0 0) (four 0 2 0 0) 0x45 (four 0 2 0 0)
    ∷ translates (four 0 4 2 0x67 ++ four 0 0 0 0) (four 0 2 0 66) 0x45 (four 0 2 0 66)
    -- quotients are compared whole: cylinder 10000h and head 100h do not count as 0
    ∷ translates (four 1 1 0xFF 0xFF ++ four 0 0 0xFF 0xFE) (four 0 0 0 0) 0x15 (four 0 0 0xFF 0xFE)
    ∷ translates (four 1 1 0xFF 0xFF ++ four 0 1 0 0) (four 0 0 0 0) 0x45 (four 0 0 0 0)
    ∷ translates (four 1 1 0 16 ++ four 0 0 1 0) (four 0 1 2 0) 0x45 (four 0 1 2 0)
    -- the largest disk, its last sector and the one behind it
    ∷ translates (four 255 255 255 255 ++ four 0xFE 0x00 0x01 0xFE) (four 0 0 0 0) 0x15 (four 254 254 0xFF 0xFE)
    ∷ translates (four 255 255 255 255 ++ four 0xFE 0x00 0x01 0xFF) (four 0 0 0 0) 0x45 (four 0 0 0 0)
    -- a second 18h takes the head for spares and the cylinder for the sectors on one
    ∷ (translates (four 17 4 2 0x67 ++ four 0 0 0 100) (four 0 0 0 0) 0x15 (four 15 1 0 1)
    ++ commanded (four 17 4 2 0x67 ++ four 0 0 0 100) 0x15 (four 0 0 0 100))
    ∷ []
