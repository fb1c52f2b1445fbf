-- `fifo::bulk::fill`: its loop goes as `filled`.
use Rattle.std.proofs.Common.{ℕ, List, length, set, get_or, length-set, ◌≡◌, ◌+◌, ◌≤◌, ◌<◌, true, false, refl, ap, sym, ◌∙◌, arith, ltb, ltb-true}
use Rattle.std.proofs.lemmas.List.{get_or-set_other}
use lib.Seq.{drop-cons, set-get_or}
use Rattle.chip.specs.Choice.{both}
use Rattle.chip.specs.Fifo.{waits, has_room, round}
use Rattle.chip.specs.declared.Fifo.{Fifo}
use Rattle.fifo.specs.Bulk.{filled, takes}
use Rattle.fifo.specs.Part.{is_part}
use Rattle.fifo.proofs.BulkLaws.{filled_none, filled_more, takes_room}
use Rattle.fifo.proofs.Going.{Going, Ended, start, turn, over, full}
use Rattle.fifo.proofs.Places.{under, end_put}
use Rattle.fifo.proofs.Stored.{number_and_part, run_stored, placed, place_next, none_moved, part_long, part_place}
use Rattle.fifo.proofs.bulk.fill.Goals as goal
use Rattle.fifo.proofs.bulk.fill.Goals.{else-loop-byte-test, then-loop-byte-test+then-not-takes}

takes_is : (n : ℕ) (p : List ℕ) (k m : ℕ) → both (ltb m n) (ltb m 12) ≡ takes n (under p k m)
unfolding takes waits has_room
takes_is n p k m = refl

-- the FIFO takes the byte
below : (n : ℕ) (p : List ℕ) (k m : ℕ) → takes n (under p k m) ≡ true → m < 12
unfolding has_room
below n p k m e = ltb-true m 12 (takes_room n (under p k m) e)

-- the loop has ended where the FIFO takes no byte, and where the slice has
stopped : (x : ℕ) (l d : List ℕ) (q t : Fifo) (j : ℕ) → Going (filled x) l q d t j → takes x t ≡ false → Ended (filled x) l q d t j
stopped x l d q t j g e = over g (filled_none x _ _ e)

ended : (x : ℕ) (l d : List ℕ) (q t : Fifo) (j : ℕ) → Going (filled x) l q d t j → length d ≤ j → Ended (filled x) l q d t j
unfolding filled
ended x l d q t j g e = over g (full (filled x) d t j refl e)

pub returns-then-not-is_fifo : goal.returns-then-not-is_fifo
returns-then-not-is_fifo c = number_and_part (none_moved (filled c.args.n) _ c.args.from.now (sym c.is_fifo.ensures ∙ c.if-not-is_fifo.true))

pub loop-byte-init : goal.loop-byte-init
loop-byte-init c = record {
  long = part_long c.args.part.now (sym c.is_fifo.ensures ∙ c.if-not-is_fifo.false);
  oldest = refl;
  place = c.behind-at.ensures.within;
  behind = c.behind-at.ensures.place;
  number = omega arith;
  going = start (filled c.args.n) _ _;
}

pub overflow_add-held : goal.overflow_add-held
overflow_add-held c =
    omega (
      arith,
      below c.args.n c.loop-byte.part 0 c.loop-byte.held
          (sym (takes_is c.args.n c.loop-byte.part 0 c.loop-byte.held) ∙ sym c.takes.ensures ∙ c.if-not-takes.false),
    )

pub loop-byte-preserved : goal.loop-byte-preserved
loop-byte-preserved c =
    let p = c.loop-byte.part in
    let m = c.loop-byte.held in
    let i = c.loop-byte.byte-index in
    let k = get_or c.args.part.now 1 0 in
    let from = c.args.from.now in
    let v = get_or from i 0 in
    let h = c.loop-byte-test.true in
    let e : takes c.args.n (under p k m) ≡ true = sym (takes_is c.args.n p k m) ∙ sym c.takes.ensures ∙ c.if-not-takes.false in
    let then = placed p k m v (takes_room _ _ e) in
    let w = part_place c.args.part.now (sym c.is_fifo.ensures ∙ c.if-not-is_fifo.false) in
    record {
      long = length-set p _ v ∙ c.loop-byte.invariant.long;
      oldest = get_or-set_other p (2 + c.loop-byte.at) 1 v 0 (omega arith) ∙ c.loop-byte.invariant.oldest;
      place = c.next-at.ensures.within;
      behind = c.next-at.ensures.place ∙ ap (λ (y : ℕ). round (y + 1)) c.loop-byte.invariant.behind
          ∙ place_next k m w (below c.args.n p k m e);
      number = omega (arith, c.loop-byte.invariant.number);
      going = rw c.loop-byte.invariant.behind
          (rw set-get_or at (turn c.loop-byte.invariant.going (under (set p (2 + round (k + m)) v) k (m + 1)) v h
          (rw (drop-cons from i 0 h, ← then) (filled_more _ _ _ _ e))));
    }

pub returns : goal.returns
returns c =
    let p = c.args.part.now in
    let k = get_or p 1 0 in
    let h : is_part p ≡ true = sym c.is_fifo.ensures ∙ c.if-not-is_fifo.false in
    let r = c.loop-byte.part in
    let m = c.loop-byte.held in
    let g = c.loop-byte.invariant.going in
    let e : Ended (filled c.args.n) c.args.from.now (under p k (get_or p 0 0)) c.args.from.now (under r k m) c.loop-byte.byte-index =
    elim c.loop-byte-test.branch [
      | else-loop-byte-test w ↦ ended _ _ _ _ _ _ g w.loop-byte-test.false
      | then-loop-byte-test+then-not-takes w ↦ stopped _ _ _ _ _ _ g (sym (takes_is c.args.n r k m) ∙ sym w.takes.ensures ∙ w.if-not-takes.true)
    ] in
    number_and_part
    (run_stored (filled c.args.n) p _ _ r k m _ _ _ h e (omega (arith, c.loop-byte.invariant.number))
    (end_put r k m c.loop-byte.invariant.long c.loop-byte.invariant.oldest))
