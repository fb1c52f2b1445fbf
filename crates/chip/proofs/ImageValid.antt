-- What a list that is an image has, test by test.
-- `image_long`: its length. `Valid`: each test as a fact. `valid`: an image passes each.
use mathlib.Core.Path.{◌≡◌}
use mathlib.Core.Bool.{true}
use mathlib.Core.List.{List}
use Prim.Native.Nat.{ℕ, ◌<◌}
use lib.Dec.{eqb, ltb}
use lib.ListN.{length, get_or, drop}
use borrow.Author.Tests.{eqb-true, ltb-true}
use Rattle.chip.specs.Fifo.{is_fifo}
use Rattle.chip.specs.Connections.{connection_count}
use Rattle.chip.specs.Activity.{is_activity}
use Rattle.chip.specs.Image.{is_image, image_length, fifo_place}
use Rattle.chip.proofs.Cases.{both_first, both_second}

pub image_long : (l : List ℕ) → is_image l ≡ true → length l ≡ image_length
unfolding is_image
image_long l e = eqb-true (length l) image_length (both_first (eqb (length l) image_length) _ e)

pub record Valid (l : List ℕ) : Type 0 where
  pub long : length l ≡ image_length
  pub b26 : get_or l 26 0 < 2
  pub b27 : get_or l 27 0 < 2
  -- with 29 and 31
  pub b28 : is_activity (get_or l 28 0) (get_or l 29 0) (get_or l 31 0) ≡ true
  pub b30 : get_or l 30 0 < connection_count
  pub b32 : get_or l 32 0 < 3
  pub b33 : get_or l 33 0 < 2
  pub b34 : get_or l 34 0 < 2
  pub b35 : get_or l 35 0 < 2
  pub b36 : get_or l 36 0 < 9
  pub b37 : get_or l 37 0 < 9
  pub b38 : get_or l 38 0 < 8
  pub fifo : is_fifo (drop fifo_place l) ≡ true

pub valid : (l : List ℕ) → is_image l ≡ true → Valid l
unfolding is_image
valid l e =
    let e26 = both_second (eqb (length l) image_length) _ e in
    let e27 = both_second (ltb (get_or l 26 0) 2) _ e26 in
    let e28 = both_second (ltb (get_or l 27 0) 2) _ e27 in
    let e30 = both_second (is_activity (get_or l 28 0) (get_or l 29 0) (get_or l 31 0)) _ e28 in
    let e32 = both_second (ltb (get_or l 30 0) connection_count) _ e30 in
    let e33 = both_second (ltb (get_or l 32 0) 3) _ e32 in
    let e34 = both_second (ltb (get_or l 33 0) 2) _ e33 in
    let e35 = both_second (ltb (get_or l 34 0) 2) _ e34 in
    let e36 = both_second (ltb (get_or l 35 0) 2) _ e35 in
    let e37 = both_second (ltb (get_or l 36 0) 9) _ e36 in
    let e38 = both_second (ltb (get_or l 37 0) 9) _ e37 in
    let e40 = both_second (ltb (get_or l 38 0) 8) _ e38 in
    record {
      long = image_long l e;
      b26 = ltb-true _ _ (both_first (ltb (get_or l 26 0) 2) _ e26);
      b27 = ltb-true _ _ (both_first (ltb (get_or l 27 0) 2) _ e27);
      b28 = both_first (is_activity (get_or l 28 0) (get_or l 29 0) (get_or l 31 0)) _ e28;
      b30 = ltb-true _ _ (both_first (ltb (get_or l 30 0) connection_count) _ e30);
      b32 = ltb-true _ _ (both_first (ltb (get_or l 32 0) 3) _ e32);
      b33 = ltb-true _ _ (both_first (ltb (get_or l 33 0) 2) _ e33);
      b34 = ltb-true _ _ (both_first (ltb (get_or l 34 0) 2) _ e34);
      b35 = ltb-true _ _ (both_first (ltb (get_or l 35 0) 2) _ e35);
      b36 = ltb-true _ _ (both_first (ltb (get_or l 36 0) 9) _ e36);
      b37 = ltb-true _ _ (both_first (ltb (get_or l 37 0) 9) _ e37);
      b38 = ltb-true _ _ (both_first (ltb (get_or l 38 0) 8) _ e38);
      fifo = e40;
    }
