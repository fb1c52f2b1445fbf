-- The FIFO's part of the image: a part is how many wait, the place of the oldest, and the twelve places.
--   copied places_long put_over   the places copied out of a part, and into one
--   front_in popped_in pushed_in   the oldest byte read, taken away, and one byte more, as the code stores them
--   none_in beyond_in empty_in full_in   where there is none to read or to take, and no room
--   ends_in                        the ends stored, and the place behind those that waited
--   ends_put end_put               the ends alone, and how many wait alone
use mathlib.Core.Path.{◌≡◌, refl, ap, ◌∙◌}
use mathlib.Core.Logic.{◌≢◌}
use mathlib.Core.List.{List, [], ◌∷◌, ◌++◌, append-nil}
use Prim.Native.Nat.{ℕ, suc, ◌+◌, ◌-◌, ◌<◌, ◌≤◌}
use native.Mathlib.Omega.{arith}
use lib.Dec.{eqb}
use lib.ListN.{length, take, drop, set, get_or, length-drop, drop_of_length-le, get_or-eq_default}
use lib.Seq.{get_or-drop, get_or-take, length-take-le, take_all}
use borrow.Author.Tests.{eq-eqb, ne_eqb, lt-ltb, le-ltb}
use borrow.Rule.Slice.PartMut.{put_mid}
use Rattle.chip.specs.Choice.{pick}
use Rattle.chip.specs.Fifo.{is_empty, has_room, front, pop, push, place_behind, round, fifo_bytes, fifo_of, ends_over}
use Rattle.chip.specs.declared.Fifo.{Fifo}
use Rattle.chip.proofs.Cases.{by_pick, taken, passed_over}
use Rattle.chip.proofs.FifoLaws.{bytes_back}

-- a copy over as many bytes or fewer is what was copied
pub copied : (src dst m : List ℕ) → length dst ≤ length src → m ≡ take (length src) src ++ drop (length src) dst → m ≡ src
copied src dst m h e =
    e ∙ ap (λ (x : List ℕ). x ++ drop (length src) dst) (take_all (length src) src (omega arith))
    ∙ ap (λ (x : List ℕ). src ++ x) (drop_of_length-le dst {i = length src} h)
    ∙ append-nil src

pub places_long : (l : List ℕ) → length l ≡ 14 → length (take 12 (drop 2 l)) ≡ 12
places_long l h = length-take-le 12 (drop 2 l) (rw length-drop (omega arith))

-- fourteen bytes stored over as many
pub put_over : (l b m : List ℕ) (n k : ℕ) → length l ≡ 14 → length b ≡ 12 → m ≡ take (length b) b ++ drop (length b) (take 12 (drop 2 l))
    → pick (eqb (length (put_mid 2 12 l m)) 14) (set (set (put_mid 2 12 l m) 0 n) 1 k) (put_mid 2 12 l m) ≡ n ∷ k ∷ b
put_over [] b m n k h z e = absurd (omega arith)
put_over (x ∷ []) b m n k h z e = absurd (omega arith)
put_over (x ∷ y ∷ l) b m n k h z e =
    let over : m ++ drop 12 l ≡ b =
    ap (λ (r : List ℕ). r ++ drop 12 l) (copied b (take 12 l) m (omega (arith, places_long (x ∷ y ∷ l) h)) e)
    ∙ ap (λ (r : List ℕ). b ++ r) (drop_of_length-le l {i = 12} (omega arith)) ∙ append-nil b in
    ap (λ (r : List ℕ). pick (eqb (length (x ∷ y ∷ r)) 14) (n ∷ k ∷ r) (x ∷ y ∷ r)) over
    ∙ taken _ _ (eq-eqb (length (x ∷ y ∷ b)) 14 (omega arith))

-- a place, counted from the part's first byte
from_start : (n : ℕ) → 2 + n ≡ suc (suc n)
from_start n = omega arith

-- the oldest byte

pub front_in : (l : List ℕ) → length l ≡ 14 → get_or l 0 0 ≢ 0 → get_or l 1 0 < 12 → front (fifo_of l) ≡ get_or l (2 + get_or l 1 0) 0
unfolding front is_empty fifo_of
front_in l n e k =
    passed_over _ _ (ne_eqb _ _ e) ∙ get_or-take 12 (drop 2 l) (get_or l 1 0) 0 k ∙ get_or-drop 2 l (get_or l 1 0) 0

-- it has none of the twelve places
pub beyond_in : (l : List ℕ) → length l ≡ 14 → 12 ≤ get_or l 1 0 → front (fifo_of l) ≡ 0
unfolding front is_empty fifo_of
beyond_in l n k =
    by_pick (λ (x : ℕ). x ≡ 0) (eqb (get_or l 0 0) 0) refl
    (get_or-eq_default (take 12 (drop 2 l)) 0 (omega (arith, length-take-le 12 (drop 2 l) (rw length-drop (omega arith)))))

pub none_in : (l : List ℕ) → get_or l 0 0 ≡ 0 → front (fifo_of l) ≡ 0
unfolding front is_empty fifo_of
none_in l e = taken _ _ (eq-eqb _ _ e)

-- one byte less, and one more

abbrev pub one_less : List ℕ → List ℕ
one_less l = set l 0 (get_or l 0 0 - 1)

abbrev pub one_more : List ℕ → List ℕ
one_more l = set l 0 (get_or l 0 0 + 1)

pub popped_in : (l : List ℕ) → length l ≡ 14 → get_or l 0 0 ≢ 0
    → fifo_bytes (pop (fifo_of l)) ≡ one_less (set l 1 (round (get_or l 1 0 + 1)))
unfolding pop is_empty fifo_of fifo_bytes pick
popped_in [] n e = absurd (omega arith)
popped_in (h ∷ []) n e = absurd (omega arith)
popped_in (h ∷ f ∷ p) n e = rw (ne_eqb h 0 e, take_all 12 p (omega arith))

pub empty_in : (l : List ℕ) → length l ≡ 14 → get_or l 0 0 ≡ 0 → fifo_bytes (pop (fifo_of l)) ≡ l
unfolding pop is_empty fifo_of
empty_in l n e = ap fifo_bytes (taken _ _ (eq-eqb _ _ e)) ∙ bytes_back l n

pub pushed_in : (b : ℕ) (l : List ℕ) → length l ≡ 14 → get_or l 0 0 < 12
    → fifo_bytes (push b (fifo_of l)) ≡ one_more (set l (2 + round (get_or l 1 0 + get_or l 0 0)) b)
unfolding push has_room place_behind fifo_of fifo_bytes pick
pushed_in b [] n e = absurd (omega arith)
pushed_in b (h ∷ []) n e = absurd (omega arith)
pushed_in b (h ∷ f ∷ p) n e = rw (lt-ltb h 12 e, from_start (round (f + h)), take_all 12 p (omega arith))

pub full_in : (b : ℕ) (l : List ℕ) → length l ≡ 14 → 12 ≤ get_or l 0 0 → fifo_bytes (push b (fifo_of l)) ≡ l
unfolding push has_room fifo_of
full_in b l n e = ap fifo_bytes (passed_over _ _ (le-ltb _ _ e)) ∙ bytes_back l n

pub ends_in : (q : Fifo) (l : List ℕ) → length l ≡ 14
    → ends_over q l ≡ set (set (set l (2 + round (get_or l 1 0 + get_or l 0 0)) (get_or q.bytes (round (get_or l 1 0 + get_or l 0 0)) 0)) 0 q.held) 1 q.first
unfolding ends_over place_behind fifo_of
ends_in q [] n = absurd (omega arith)
ends_in q (h ∷ []) n = absurd (omega arith)
ends_in q (h ∷ f ∷ p) n = rw (from_start (round (f + h)), take_all 12 p (omega arith))

-- the places of a part, under other ends
abbrev pub under : List ℕ → ℕ → ℕ → Fifo
under l k n = record { bytes = take 12 (drop 2 l); first = k; held = n }

pub ends_put : (l : List ℕ) (n k : ℕ) → length l ≡ 14 → set (set l 0 n) 1 k ≡ fifo_bytes (under l k n)
unfolding fifo_bytes
ends_put [] n k e = absurd (omega arith)
ends_put (h ∷ []) n k e = absurd (omega arith)
ends_put (h ∷ f ∷ p) n k e = rw (take_all 12 p (omega arith))

-- the number that waits alone
pub end_put : (l : List ℕ) (k n : ℕ) → length l ≡ 14 → get_or l 1 0 ≡ k → set l 0 n ≡ fifo_bytes (under l k n)
unfolding fifo_bytes
end_put [] k n e o = absurd (omega arith)
end_put (h ∷ []) k n e o = absurd (omega arith)
end_put (h ∷ f ∷ p) k n e o = rw (o, take_all 12 p (omega arith))
