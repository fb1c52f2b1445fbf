-- The image before its end: bytes 0 to 39, which are all but the FIFO's.
--   others_of      those of a state's image
--   others_long    how many they are
--   with_end whole_image   with the FIFO's bytes they are the image
--   before_end     bytes that begin with them, up to the end
--   after_others   .. and from the end on
--   part_of        the FIFO's part of an image
--   went_on        what is stored of a state that a step led to, where that touches one place at most
use mathlib.Core.Path.{◌≡◌, ap, sym, ◌∙◌}
use mathlib.Core.List.{List, ◌++◌, append_assoc}
use Prim.Native.Nat.{ℕ}
use native.Mathlib.Omega.{arith}
use lib.ListN.{length, take, drop, length-append}
use lib.Seq.{take_at, drop_at}
use Rattle.chip.specs.Fifo.{fifo_bytes, ends_over, Goes}
use Rattle.chip.specs.Image.{head_bytes, middle_bytes, image_of, state_of, fifo_place}
use Rattle.chip.specs.declared.State.{State}
use Rattle.chip.proofs.FifoLaws.{goes_over}
use Rattle.image.specs.IsImage.{IsImage}
use Rattle.chip.proofs.ImagePlaces.{head_length, middle_length}

module _ (s : State) (h : length s.registers.descriptor.cdb ≡ 12) where
  abbrev others : List ℕ
  others = head_bytes s ++ (s.registers.descriptor.cdb ++ middle_bytes s)

  long : length others ≡ fifo_place
  long = simp length-append (omega (arith, head_length s, middle_length s))

  pub with_end : others ++ fifo_bytes s.fifo ≡ image_of s
  unfolding image_of
  with_end = simp append_assoc

  pub others_of : take fifo_place (image_of s) ≡ others
  others_of = ap (take fifo_place) (sym with_end) ∙ take_at others (fifo_bytes s.fifo) fifo_place long

  pub others_long : length (take fifo_place (image_of s)) ≡ fifo_place
  others_long = ap length others_of ∙ long

  pub whole_image : take fifo_place (image_of s) ++ fifo_bytes s.fifo ≡ image_of s
  whole_image = ap (λ (x : List ℕ). x ++ fifo_bytes s.fifo) others_of ∙ with_end

  pub before_end : (y z : List ℕ) → y ≡ take fifo_place (image_of s) ++ z → take fifo_place y ≡ take fifo_place (image_of s)
  before_end y z e = ap (take fifo_place) e ∙ take_at (take fifo_place (image_of s)) z fifo_place others_long

  pub after_others : (y z : List ℕ) → y ≡ take fifo_place (image_of s) ++ z → drop fifo_place y ≡ z
  after_others y z e = ap (drop fifo_place) e ∙ drop_at (take fifo_place (image_of s)) z fifo_place others_long

-- the FIFO's part of an image
pub part_of : (l : List ℕ) → IsImage l → drop fifo_place l ≡ fifo_bytes (state_of l).fifo
part_of l o =
    after_others (state_of l) o.ok.cdb_long l (fifo_bytes (state_of l).fifo) (sym o.same ∙ sym (whole_image (state_of l) o.ok.cdb_long))

-- a step that touches one place at most
pub went_on : (l : List ℕ) (s : State) → length s.registers.descriptor.cdb ≡ 12 → IsImage l → Goes (state_of l).fifo s.fifo
    → take fifo_place (image_of s) ++ ends_over s.fifo (drop fifo_place l) ≡ image_of s
went_on l s h o g =
    ap (λ (x : List ℕ). take fifo_place (image_of s) ++ ends_over s.fifo x) (part_of l o)
    ∙ ap (λ (x : List ℕ). take fifo_place (image_of s) ++ x) (goes_over (state_of l).fifo s.fifo o.ok.fifo g)
    ∙ whole_image s h
