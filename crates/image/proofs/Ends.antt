-- The FIFO's part is the image's end: bytes 40 to 53.
--   got_end front_end        what is read off it
--   valid_end                whether it is a FIFO's
--   stored_end               what is stored there
--   run_end                  many bytes moved there
use mathlib.Core.Path.{◌≡◌, refl, ap, sym, ◌∙◌}
use mathlib.Core.List.{List, [], ◌++◌, append-nil}
use Prim.Native.Nat.{ℕ}
use native.Mathlib.Omega.{arith}
use lib.Dec.{eqb}
use lib.ListN.{length, take, drop, length-drop, drop_of_length-le, take-append-drop}
use lib.Seq.{take_all}
use borrow.Author.Tests.{eq-eqb}
use borrow.Rule.Slice.PartMut.{put_mid}
use Rattle.chip.specs.Choice.{pick, both}
use Rattle.chip.specs.Fifo.{empty, front, fifo_length, fifo_of, is_fifo}
use Rattle.fifo.specs.Bulk.{Bulk}
use Rattle.chip.specs.declared.Fifo.{Fifo}
use Rattle.fifo.specs.Part as P
use Rattle.fifo.specs.Part.{is_part, part_moved}
use Rattle.image.specs.Waiting as W
use Rattle.image.specs.Waiting.{holds_fifo, image_moved}
use Rattle.chip.specs.Image.{image_length, state_of, fifo_place}
use Rattle.chip.proofs.Cases.{by_test, taken, passed_over}

module _ (l : List ℕ) (h : length l ≡ image_length) where
  end_long : length (drop fifo_place l) ≡ fifo_length
  end_long = rw length-drop (omega arith)

  end_part : take fifo_length (drop fifo_place l) ≡ drop fifo_place l
  end_part = take_all fifo_length (drop fifo_place l) (omega (arith, end_long))

  fits : eqb (length (take fifo_length (drop fifo_place l))) fifo_length ≡ eqb fifo_length fifo_length
  fits = ap (λ (x : List ℕ). eqb (length x) fifo_length) end_part ∙ ap (λ (n : ℕ). eqb n fifo_length) end_long

  pub got_end : pick (eqb (length (take fifo_length (drop fifo_place l))) fifo_length) (fifo_of (take fifo_length (drop fifo_place l))) empty ≡ (state_of l).fifo
  unfolding state_of
  got_end = taken _ _ fits ∙ ap fifo_of end_part

  pub valid_end : is_part (take fifo_length (drop fifo_place l)) ≡ is_fifo (drop fifo_place l)
  unfolding is_part both
  valid_end = rw fits (ap is_fifo end_part)

  pub front_end : pick (eqb (length (take fifo_length (drop fifo_place l))) fifo_length) (front (fifo_of (take fifo_length (drop fifo_place l)))) 0
      ≡ pick (eqb (length l) image_length) (front (state_of l).fifo) 0
  unfolding state_of
  front_end = taken _ _ fits ∙ ap (λ (x : List ℕ). front (fifo_of x)) end_part ∙ sym (taken _ _ (eq-eqb _ _ h))

  pub stored_end : (p : List ℕ) (f : List ℕ → List ℕ)
      → p ≡ pick (eqb (length (take fifo_length (drop fifo_place l))) fifo_length) (f (take fifo_length (drop fifo_place l))) (take fifo_length (drop fifo_place l))
      → put_mid fifo_place fifo_length l p ≡ pick (eqb (length l) image_length) (take fifo_place l ++ f (drop fifo_place l)) l
  stored_end p f e =
      let q : p ≡ f (drop fifo_place l) = e ∙ taken _ _ fits ∙ ap f end_part in
      let none : drop fifo_length (drop fifo_place l) ≡ [] = drop_of_length-le (drop fifo_place l) {i = fifo_length} (omega (arith, end_long)) in
      ap (λ (x : List ℕ). take fifo_place l ++ (x ++ drop fifo_length (drop fifo_place l))) q
      ∙ ap (λ (x : List ℕ). take fifo_place l ++ (f (drop fifo_place l) ++ x)) none
      ∙ ap (λ (x : List ℕ). take fifo_place l ++ x) (append-nil (f (drop fifo_place l)))
      ∙ sym (taken _ _ (eq-eqb _ _ h))

  -- many bytes: what moved in the part moved in the image

  -- the image with a new end
  end_is : (p x : List ℕ) → p ≡ x → put_mid fifo_place fifo_length l p ≡ take fifo_place l ++ x
  end_is p x e =
      let none : drop fifo_length (drop fifo_place l) ≡ [] = drop_of_length-le (drop fifo_place l) {i = fifo_length} (omega (arith, end_long)) in
      ap (λ (y : List ℕ). take fifo_place l ++ (y ++ drop fifo_length (drop fifo_place l))) e
      ∙ ap (λ (y : List ℕ). take fifo_place l ++ (x ++ y)) none
      ∙ ap (λ (y : List ℕ). take fifo_place l ++ y) (append-nil x)

  -- what a run in the part comes to there, and in the image
  run_part : (f : List ℕ → Fifo → Bulk) (d : List ℕ) → part_moved f d (take fifo_length (drop fifo_place l))
      ≡ pick (is_fifo (drop fifo_place l)) (P.in_part (f d (fifo_of (drop fifo_place l)))) (P.unmoved d (drop fifo_place l))
  unfolding part_moved is_part both
  run_part f d = ap (part_moved f d) end_part ∙ rw (eq-eqb _ _ end_long)

  run_image : (f : List ℕ → Fifo → Bulk) (d : List ℕ) → image_moved f d l
      ≡ pick (is_fifo (drop fifo_place l)) (W.in_image l (f d (fifo_of (drop fifo_place l)))) (W.unmoved d l)
  unfolding image_moved holds_fifo both state_of
  run_image f d = rw (eq-eqb _ _ h)

  pub run_end : (f : List ℕ → Fifo → Bulk) (d : List ℕ) (n : ℕ) (p o : List ℕ)
      → (n ≡ (part_moved f d (take fifo_length (drop fifo_place l))).moved)
      × (p ≡ (part_moved f d (take fifo_length (drop fifo_place l))).part)
      × (o ≡ (part_moved f d (take fifo_length (drop fifo_place l))).bytes)
      → (n ≡ (image_moved f d l).moved) × (put_mid fifo_place fifo_length l p ≡ (image_moved f d l).image) × (o ≡ (image_moved f d l).bytes)
  run_end f d n p o e =
      by_test (is_fifo (drop fifo_place l))
      (λ t. moved (run_part f d ∙ taken _ _ t) (run_image f d ∙ taken _ _ t) (end_is p _) refl refl)
      (λ t. moved (run_part f d ∙ passed_over _ _ t) (run_image f d ∙ passed_over _ _ t) (λ f. end_is p _ f ∙ take-append-drop fifo_place l) refl refl)
    where
      moved : {x : P.PartMoved} {y : W.ImageMoved} → part_moved f d (take fifo_length (drop fifo_place l)) ≡ x → image_moved f d l ≡ y
          → (p ≡ x.part → put_mid fifo_place fifo_length l p ≡ y.image) → x.moved ≡ y.moved → x.bytes ≡ y.bytes
          → (n ≡ (image_moved f d l).moved) × (put_mid fifo_place fifo_length l p ≡ (image_moved f d l).image) × (o ≡ (image_moved f d l).bytes)
      moved {x} {y} a b w g k = (
        e.0 ∙ ap (λ (z : P.PartMoved). z.moved) a ∙ g ∙ sym (ap (λ (z : W.ImageMoved). z.moved) b),
        w (e.1 ∙ ap (λ (z : P.PartMoved). z.part) a) ∙ sym (ap (λ (z : W.ImageMoved). z.image) b),
        e.2 ∙ ap (λ (z : P.PartMoved). z.bytes) a ∙ k ∙ sym (ap (λ (z : W.ImageMoved). z.bytes) b),
      )
