-- An image is as long as the code asks for; two tests that hold.
use Rattle.std.proofs.Common.{◌≡◌, ℕ, Bool, true, eqb, List, length}
use Rattle.chip.proofs.Cases.{both_first}
use Rattle.chip.specs.Choice.{both}
use Rattle.chip.specs.Image.{is_image, image_length}

pub long_enough : (l : List ℕ) → is_image l ≡ true → eqb (length l) image_length ≡ true
unfolding is_image
long_enough l h = both_first _ _ h

pub and_true : {a b : Bool} → a ≡ true → b ≡ true → both a b ≡ true
unfolding both
and_true {a} {b} p q = rw (p, q)
