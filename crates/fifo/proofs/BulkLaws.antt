-- Many bytes read out of the FIFO, and written into it.
--   drained_none   an empty FIFO gives nothing
--   drained_more   another gives its oldest byte, and then the rest
--   drained_most   no more is read than waits
--   filled_none    a FIFO that takes no byte is left as it is
--   filled_more    another takes the slice's first byte, and then the rest
--   takes_room     a FIFO that takes a byte has room
--   filled_most    no more is written than there is room for
--   drained_whole  it stays whole
--   drained_still  where nothing is read, it is as it was
use mathlib.Core.Path.{◌≡◌, refl, ap}
use mathlib.Core.Bool.{true, false}
use mathlib.Core.List.{List, [], ◌∷◌}
use Prim.Native.Nat.{ℕ, suc, ◌-◌, ◌<◌, ◌≤◌, zero-le}
use native.Mathlib.Omega.{arith}
use lib.Dec.{ltb}
use borrow.Author.Tests.{eqb-false, ltb-true}
use Rattle.chip.specs.Choice.{pick, both}
use Rattle.chip.specs.Fifo.{is_empty, has_room, waits, front, pop, push, Whole}
use Rattle.chip.specs.declared.Fifo.{Fifo}
use Rattle.fifo.specs.Bulk.{Bulk, more, rest, drained, takes, filled}
use Rattle.chip.proofs.Cases.{by_pick, by_test}
use Rattle.chip.proofs.FifoLaws.{keeps_bytes}

pub drained_none : (l : List ℕ) (q : Fifo) → is_empty q ≡ true → drained l q ≡ rest l q
unfolding drained pick
drained_none [] q e = refl
drained_none (b ∷ l) q e = rw e

pub drained_more : (b : ℕ) (l : List ℕ) (q : Fifo) → is_empty q ≡ false → drained (b ∷ l) q ≡ more (front q) (drained l (pop q))
unfolding drained pick
drained_more b l q e = rw e

waits_pop : (q : Fifo) → is_empty q ≡ false → suc (waits (pop q)) ≡ waits q
unfolding waits pop pick is_empty
waits_pop q e =
    let h = eqb-false q.held 0 e in
    rw e (omega arith)

pub drained_most : (l : List ℕ) (q : Fifo) → (drained l q).moved ≤ waits q
unfolding drained
drained_most [] q = zero-le
drained_most (b ∷ l) q =
    let h = drained_most l (pop q) in
    by_test (is_empty q) (λ e. rw (drained_none (b ∷ l) q e) zero-le)
    (λ e. rw (drained_more b l q e) (omega (arith, waits_pop q e)))

pub filled_none : (n : ℕ) (l : List ℕ) (q : Fifo) → takes n q ≡ false → filled n l q ≡ rest l q
unfolding filled pick
filled_none n [] q e = refl
filled_none n (b ∷ l) q e = rw e

pub filled_more : (n b : ℕ) (l : List ℕ) (q : Fifo) → takes n q ≡ true → filled n (b ∷ l) q ≡ more b (filled n l (push b q))
unfolding filled pick
filled_more n b l q e = rw e

pub takes_room : (n : ℕ) (q : Fifo) → takes n q ≡ true → has_room q ≡ true
unfolding takes both
takes_room n q h =
    by_test (ltb (waits q) n) (λ e. rw e at h)
    (λ e. let z : false ≡ true = rw e at h in cc)

room_waits : (q : Fifo) → has_room q ≡ true → waits q < 12
unfolding has_room waits
room_waits q e = ltb-true q.held 12 e

waits_push : (b : ℕ) (q : Fifo) → has_room q ≡ true → waits (push b q) ≡ suc (waits q)
unfolding waits push pick
waits_push b q e = rw e (omega arith)

pub filled_most : (n : ℕ) (l : List ℕ) (q : Fifo) → (filled n l q).moved ≤ 12 - waits q
unfolding filled
filled_most n [] q = zero-le
filled_most n (b ∷ l) q =
    let h = filled_most n l (push b q) in
    by_test (takes n q)
    (λ e.
    let r = takes_room n q e in
    rw (filled_more n b l q e) (omega (arith, waits_push b q r, room_waits q r)))
    (λ e. rw (filled_none n (b ∷ l) q e) zero-le)

-- it stays whole

pub drained_whole : (l : List ℕ) (q : Fifo) → Whole q → Whole (drained l q).fifo
unfolding drained
drained_whole [] q u = u
drained_whole (b ∷ l) q u = by_pick (λ (r : Bulk). Whole r.fifo) _ u (drained_whole l (pop q) (keeps_bytes.pop_whole q u))

-- where nothing moves, it is as it was
pub drained_still : (l : List ℕ) (q : Fifo) → (drained l q).moved ≡ 0 → (drained l q).fifo ≡ q
unfolding drained
drained_still [] q e = refl
drained_still (b ∷ l) q e =
    by_test (is_empty q) (λ t. ap (λ (r : Bulk). r.fifo) (drained_none (b ∷ l) q t))
    (λ t.
    let m : (drained (b ∷ l) q).moved ≡ suc (drained l (pop q)).moved = ap (λ (r : Bulk). r.moved) (drained_more b l q t) in
    absurd (omega arith))
