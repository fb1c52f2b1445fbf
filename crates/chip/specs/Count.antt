-- The count: 12h to 14h are what is left, but for the single byte that they do not show; and DBR, whether the host may read or write
-- a byte now.
-- Paper: "The count is loaded; zero or single byte means one, and then 12h to 14h read 0"; ".. and lowers the count";
-- Select-And-Transfer: "A loaded count of zero expects no data".
use Rattle.std.specs.Prelude.{Bool, false, not, ℕ, ◌-◌, eqb, ltb}
use Rattle.chip.specs.Choice.{pick, both, either}
use Rattle.chip.specs.declared.State.{State}
use Rattle.chip.specs.declared.Direction.{Direction}
use Rattle.chip.specs.declared.Direction.TheVariants.{Unfixed, In, Out}
use Rattle.chip.specs.State.{set_fifo, set_count, set_single, set_direction}
use Rattle.chip.specs.Fifo.{empty, waits, is_empty, has_room}

-- how many bytes are left to cross
unfoldable pub left : State → ℕ
left s = pick s.transfer.single 1 s.registers.count

unfoldable pub none_left : State → Bool
none_left s = eqb (left s) 0

-- the next byte is the last
unfoldable pub is_last : State → Bool
is_last s = eqb (left s) 1

-- "DBR out: fewer bytes written than loaded, and room." What was written and has not crossed waits in the FIFO, so fewer were
-- written than loaded exactly when fewer wait than are left. "DBR in: a byte waits."
abbrev pub dbr_by : Direction → State → Bool
dbr_by Unfixed s = false
dbr_by In s = not (is_empty s.fifo)
dbr_by Out s = both (ltb (waits s.fifo) (left s)) (has_room s.fifo)

unfoldable pub dbr : State → Bool
dbr s = dbr_by s.transfer.direction s

-- one byte less is left
unfoldable pub lowered : State → State
lowered s = set_single false (set_count (pick s.transfer.single 0 (s.registers.count - 1)) s)

-- a Select-And-Transfer loads the count as it stands, and forgets the direction; nothing waits in the FIFO
unfoldable pub loaded : State → State
loaded s = set_single false (set_direction Unfixed (set_fifo empty s))

-- Transfer Info loads one byte, where the count is zero or the command says single byte
unfoldable pub means_one : Bool → State → Bool
means_one single s = either single (eqb s.registers.count 0)

unfoldable pub loaded_for_transfer_info : Bool → State → State
loaded_for_transfer_info single s =
    set_single (means_one single s) (set_count (pick (means_one single s) 0 s.registers.count) (set_fifo empty s))
