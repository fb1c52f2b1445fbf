-- What changes nothing. Paper: "The 8-bit address pointer is read or set, and auxiliary status read, apart from the registers"; of the
-- readings to shut out, "Clearing INT on a read of auxiliary status."
--   AuxiliaryIsSilent   a step's law: a read of auxiliary status, or of the pointer, leaves the state as it was
use Rattle.std.specs.Prelude.{◌≡◌, ℕ}
use Rattle.chip.specs.Calls.{Call, Outcome, pointer, auxiliary}
use Rattle.chip.specs.declared.State.{State}

pub record AuxiliaryIsSilent (f : Call → State → Outcome) : Type 0 where
  pub auxiliary_read : (s : State) → (f auxiliary s).state ≡ s
  pub pointer_read : (b : ℕ) (s : State) → (f (pointer 0 b) s).state ≡ s
