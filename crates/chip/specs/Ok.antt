-- What the image's form asks of a state, and of a list of bytes. The laws of the image suppose it; no code requires it.
use Rattle.std.specs.Prelude.{◌≡◌, List, ℕ, ◌<◌, length, get_or}
use Rattle.chip.specs.declared.State.{State}
use Rattle.chip.specs.Fifo.{Whole}

pub record Ok (s : State) : Type 0 where
  pub cdb_long : length s.registers.descriptor.cdb ≡ 12
  pub count_below : s.registers.count < 16777216
  pub identity_below : s.wire.identity.number < 8
  pub fifo : Whole s.fifo

-- each element is a byte
abbrev pub Bytes : List ℕ → Type 0
Bytes l = (k : ℕ) → get_or l k 0 < 256
