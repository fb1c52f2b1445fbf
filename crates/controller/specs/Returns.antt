-- What a call made in the lent bytes comes to: an answer, and the image of the state that it leads to. Bytes that are no state's image
-- are Bad number, and stay as they are.
use Rattle.std.specs.Prelude.{◌≡◌, ℕ, List, Result}
use Rattle.chip.specs.Choice.{pick}
use Rattle.chip.specs.Entries.{result_of}
use Rattle.chip.specs.Image.{is_image, image_of, state_of}
use Rattle.chip.specs.Registers.{Moved}
use Rattle.chip.specs.declared.Answer.{Answer}
use Rattle.chip.specs.declared.Answer.TheVariants.{Done}
use Rattle.chip.specs.declared.Reply.{Reply}
use Rattle.chip.specs.declared.State.{State}
use Rattle.controller.specs.Operands.{tested}
use Rattle.controller.specs.declared.operands.BadNumber.{BadNumber}
use Rattle.controller.specs.declared.operands.BadNumber.TheVariants.{Image}

-- the reply p, where the bytes are known to be an image
pub record Returns (p : Reply) (a : Answer) (after : List ℕ) : Type 0 where
  pub answer : a ≡ p.answer
  pub image : after ≡ image_of p.state

-- the same, with the answer as its number
pub record Tells (p : Reply) (n : ℕ) (after : List ℕ) : Type 0 where
  pub number : n ≡ result_of p.answer
  pub image : after ≡ image_of p.state

-- the call f on the bytes l
pub record Serves (f : State → Reply) (r : Result ℕ BadNumber) (l after : List ℕ) : Type 0 where
  pub number : r ≡ tested Image (is_image l) (result_of (f (state_of l)).answer)
  pub image : after ≡ pick (is_image l) (image_of (f (state_of l)).state) l

-- the block move f, which is lent the bytes d and leaves d' there
pub record ServesBlock (f : State → Moved) (r : Result ℕ BadNumber) (l after d d' : List ℕ) : Type 0 where
  pub number : r ≡ tested Image (is_image l) (result_of (Done (f (state_of l)).number))
  pub image : after ≡ pick (is_image l) (image_of (f (state_of l)).state) l
  pub bytes : d' ≡ pick (is_image l) (f (state_of l)).bytes d
