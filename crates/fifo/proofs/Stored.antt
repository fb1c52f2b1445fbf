-- After a run the ends are stored, and the part is that of the FIFO then.
--   run_stored       after a run out of the FIFO or into it
--   place_next       the place behind one byte more
--   some_front       the oldest byte, where one waits
--   turned           one byte less, where one waits: the next place is the oldest's
--   placed           one byte more, where there is room: the place behind the others is stored
--   none_moved       from bytes that are no FIFO's nothing moves
--   part_long part_place   bytes that are a FIFO's are fourteen, and the oldest has one of the twelve places
use mathlib.Core.Path.{◌≡◌, refl, ap, sym, ◌∙◌}
use mathlib.Core.Bool.{true, false}
use mathlib.Core.List.{List}
use Prim.Native.Nat.{ℕ, ◌+◌, ◌-◌, ◌<◌, ◌≤◌}
use native.Mathlib.Omega.{arith}
use lib.Dec.{ltb}
use lib.ListN.{length, take, drop, set, get_or}
use lib.Seq.{drop-set-add, get_or-drop, get_or-take, take-set-lt}
use borrow.Author.Tests.{eqb-true, ltb-true, ltb-false}
use Rattle.chip.specs.Choice.{pick}
use Rattle.chip.specs.Fifo.{is_empty, has_room, front, pop, push, place_behind, round, fifo_bytes, fifo_of, is_fifo}
use Rattle.chip.specs.declared.Fifo.{Fifo}
use Rattle.chip.proofs.Cases.{by_test, both_first, both_second, taken, passed_over}
use Rattle.chip.proofs.FifoLaws.{round_below, round_in, round_over}
use Rattle.fifo.specs.Bulk.{Bulk}
use Rattle.fifo.specs.Part.{is_part, part_moved}
use Rattle.fifo.proofs.Going.{Ended}
use Rattle.fifo.proofs.Places.{under}

-- a run into the FIFO leaves the slice to itself
pub number_and_part : {A B C : Type 0} → A × B × C → A × B
number_and_part u = (u.0, u.1)

-- f: the run; r: the part at its end, in which n bytes wait from the place k on; m of them moved
pub run_stored : (f : List ℕ → Fifo → Bulk) (p l d r : List ℕ) (k n i m : ℕ) (after : List ℕ)
    → is_part p ≡ true → Ended f l (under p (get_or p 1 0) (get_or p 0 0)) d (under r k n) i → m ≡ i → after ≡ fifo_bytes (under r k n)
    → (m ≡ (part_moved f l p).moved) × (after ≡ (part_moved f l p).part) × (d ≡ (part_moved f l p).bytes)
unfolding part_moved pick fifo_of
run_stored f p l d r k n i m after h e c s = rw (h, e) (c, s, refl)

module _ (p : List ℕ) (k n : ℕ) where
  pub some_front : is_empty (under p k n) ≡ false → k < 12 → get_or p (2 + k) 0 ≡ front (under p k n)
  unfolding front
  some_front e h = sym (passed_over _ _ e ∙ get_or-take 12 (drop 2 p) k 0 h ∙ get_or-drop 2 p k 0)

  pub turned : is_empty (under p k n) ≡ false → pop (under p k n) ≡ under p (round (k + 1)) (n - 1)
  unfolding pop
  turned e = passed_over _ _ e

  pub placed : (b : ℕ) → has_room (under p k n) ≡ true → push b (under p k n) ≡ under (set p (2 + round (k + n)) b) k (n + 1)
  unfolding push place_behind
  placed b e =
      taken _ _ e
      ∙ ap (λ (x : List ℕ). record { bytes = x; first = k; held = n + 1 })
      (sym (ap (take 12) (drop-set-add 2 p (round (k + n)) b) ∙ take-set-lt 12 (drop 2 p) (round (k + n)) b (round_below (k + n))))

-- the place of the next byte but one
pub place_next : (k n : ℕ) → k < 12 → n < 12 → round (round (k + n) + 1) ≡ round (k + (n + 1))
place_next k n h m =
    by_test (ltb (k + n) 12)
    (λ e.
    let w : k + n < 12 = ltb-true (k + n) 12 e in
    let one : k + n + 1 ≡ k + (n + 1) = omega arith in
    ap (λ (x : ℕ). round (x + 1)) (round_in (k + n) w) ∙ ap round one)
    (λ e.
    let w : 12 ≤ k + n = ltb-false (k + n) 12 e in
    let down : k + n - 12 + 1 ≡ k + (n + 1) - 12 = omega arith in
    ap (λ (x : ℕ). round (x + 1)) (round_over (k + n) w (omega arith))
    ∙ round_in (k + n - 12 + 1) (omega arith) ∙ down ∙ sym (round_over (k + (n + 1)) (omega arith) (omega arith)))

-- bytes that are no FIFO's move nothing
pub none_moved : (f : List ℕ → Fifo → Bulk) (p l : List ℕ) → is_part p ≡ false
    → (0 ≡ (part_moved f l p).moved) × (p ≡ (part_moved f l p).part) × (l ≡ (part_moved f l p).bytes)
unfolding part_moved pick
none_moved f p l e = rw e (refl, refl, refl)

-- bytes that are a FIFO's
pub part_long : (p : List ℕ) → is_part p ≡ true → length p ≡ 14
unfolding is_part
part_long p e = eqb-true (length p) 14 (both_first _ _ e)

pub part_place : (p : List ℕ) → is_part p ≡ true → get_or p 1 0 < 12
unfolding is_part is_fifo
part_place p e = ltb-true (get_or p 1 0) 12 (both_second _ _ (both_second _ _ e))
