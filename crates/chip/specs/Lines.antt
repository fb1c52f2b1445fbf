-- Bits: auxiliary status, the bits of registers, the eight data lines, and the two kinds of small number that are never
-- taken for each other.
-- Paper: "Auxiliary status is packed so", "our own bit is on, and one or two bits are on",
-- "A bus identity (0 to 7) and a logical unit number (0 to 7) are never taken for each other".
use Rattle.std.specs.Prelude.{Bool, true, false, ℕ, ◌+◌, ◌-◌, ◌*◌, ◌/◌, ◌%◌, ◌^◌, eqb}
use Rattle.chip.specs.Choice.{pick, both, either}
use Rattle.chip.specs.declared.State.{State}
use Rattle.chip.specs.declared.Identity.{Identity}
use Rattle.chip.specs.declared.Lun.{Lun}

-- bit k of b is on
unfoldable pub is_on : ℕ → ℕ → Bool
is_on k b = eqb (b / 2 ^ k % 2) 1

abbrev pub bit : Bool → ℕ
bit true = 1
bit false = 0

-- "bit 7 INT, 6 LCI, 5 BSY (a Level II command runs), 4 CIP (always 0, house), 1 PE, 0 DBR; the others are 0"
unfoldable pub packed : Bool → Bool → Bool → Bool → Bool → ℕ
packed int lci bsy pe dbr = bit int * 128 + bit lci * 64 + bit bsy * 32 + bit pe * 2 + bit dbr

-- HSP, bit 0 of Control: halt on a bad parity of the bus
unfoldable pub hsp : State → Bool
hsp s = is_on 0 s.registers.setup.control

-- IDI, bit 2 of Control: interrupt on an intermediate disconnect
unfoldable pub idi : State → Bool
idi s = is_on 2 s.registers.setup.control

-- a Control byte with IDI on
unfoldable pub with_idi : ℕ → ℕ
with_idi b = pick (is_on 2 b) b (b + 4)

-- ER, bit 7 of Source ID: reselection is enabled
unfoldable pub er : State → Bool
er s = is_on 7 s.registers.source

-- "Bit 7 (single byte) is taken off first"
unfoldable pub is_single : ℕ → Bool
is_single b = is_on 7 b

unfoldable pub code_of : ℕ → ℕ
code_of b = b % 128

-- "00 is kept and its low three bits become our identity"
unfoldable pub own_identity : ℕ → Identity
own_identity b = record { number = b % 8 }

-- "15h bits 2 to 0"
unfoldable pub destination : State → Identity
destination s = record { number = s.registers.destination % 8 }

unfoldable pub same_identity : Identity → Identity → Bool
same_identity i j = eqb i.number j.number

-- "LUN (0Fh bits 2 to 0)"
unfoldable pub lun_of : State → Lun
lun_of s = record { number = s.registers.descriptor.lun % 8 }

-- Identify: "80h + LUN (0Fh bits 2 to 0), plus 40h if ER"
unfoldable pub identify : Lun → Bool → ℕ
identify l reselects = 0x80 + bit reselects * 0x40 + l.number % 8

-- the data line of an identity
unfoldable pub line_of : Identity → ℕ
line_of i = i.number % 8

-- how many of the eight lines are on
unfoldable pub ones : ℕ → ℕ
ones b = b % 2 + b / 2 % 2 + b / 4 % 2 + b / 8 % 2 + b / 16 % 2 + b / 32 % 2 + b / 64 % 2 + b / 128 % 2

-- "Ignored unless ER (16h bit 7) is set, our own bit is on, and one or two bits are on."
unfoldable pub qualifies : ℕ → State → Bool
qualifies lines s =
    both (er s) (both (is_on (line_of s.wire.identity) lines) (either (eqb (ones lines) 1) (eqb (ones lines) 2)))

-- "With two bits"
unfoldable pub are_two : ℕ → Bool
are_two lines = eqb (ones lines) 2

-- the lowest line that is on
unfoldable pub lowest : ℕ → ℕ
lowest b =
    pick (is_on 0 b) 0
    (pick (is_on 1 b) 1
    (pick (is_on 2 b) 2
    (pick (is_on 3 b) 3 (pick (is_on 4 b) 4 (pick (is_on 5 b) 5 (pick (is_on 6 b) 6 (pick (is_on 7 b) 7 0)))))))

-- the lines with line k off
unfoldable pub without : ℕ → ℕ → ℕ
without k lines = pick (is_on k lines) (lines - 2 ^ k) lines

-- "the other identity": the line that is on beside our own
unfoldable pub other_identity : Identity → ℕ → Identity
other_identity own lines = record { number = lowest (without (line_of own) lines) }

-- "With two bits, SIV and the other identity go into 16h; with one, bits 3 to 0 become 0. Bits 7 to 4 stay."
unfoldable pub source_after : ℕ → State → ℕ
source_after lines s =
    s.registers.source / 16 * 16 + pick (are_two lines) (8 + (other_identity s.wire.identity lines).number) 0
