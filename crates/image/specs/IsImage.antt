-- Bytes that are a state's image, and what the laws of the image (chip's proofs/ImageLaws.antt) then say of them.
use Rattle.std.specs.Prelude.{◌≡◌, true, List, ℕ}
use Rattle.chip.specs.Image.{is_image, state_of, image_of}
use Rattle.chip.specs.Ok.{Ok}

pub record IsImage (l : List ℕ) : Type 0 where
  pub valid : is_image l ≡ true
  pub ok : Ok (state_of l)
  pub same : image_of (state_of l) ≡ l
