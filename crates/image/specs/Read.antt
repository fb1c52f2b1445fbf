-- What reading bytes gives. Paper: "Another length, or bytes that are no state's image, is Bad number."
use Rattle.std.specs.Prelude.{List, ℕ, Option, Some, None}
use Rattle.chip.specs.Choice.{pick}
use Rattle.chip.specs.Image.{is_image, state_of}
use Rattle.chip.specs.declared.State.{State}

-- the state of an image; none of other bytes
unfoldable pub read_of : List ℕ → Option State
read_of l = pick (is_image l) (Some (state_of l)) None
