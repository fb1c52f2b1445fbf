-- `fifo::bulk::drain`: its loop goes as `drained`.
use Rattle.std.proofs.Common.{ℕ, List, length, get_or, ◌+◌, ◌≡◌, ◌≢◌, ◌≤◌, ◌<◌, true, false, refl, sym, ◌∙◌, arith, eq-eqb, ne_eqb}
use lib.Seq.{drop-cons, set-get_or}
use Rattle.chip.specs.Fifo.{is_empty}
use Rattle.chip.specs.declared.Fifo.{Fifo}
use Rattle.fifo.specs.Bulk.{drained}
use Rattle.fifo.specs.Part.{is_part}
use Rattle.fifo.proofs.BulkLaws.{drained_none, drained_more}
use Rattle.fifo.proofs.Going.{Going, Ended, start, turn, over, full}
use Rattle.fifo.proofs.Places.{under, ends_put}
use Rattle.fifo.proofs.Stored.{run_stored, some_front, turned, none_moved, part_long, part_place}
use Rattle.fifo.proofs.bulk.drain.Goals as goal
use Rattle.fifo.proofs.bulk.drain.Goals.{else-loop-byte-test, then-loop-byte-test+then-held-eq0}

none : (p : List ℕ) (k n : ℕ) → n ≡ 0 → is_empty (under p k n) ≡ true
unfolding is_empty
none p k n e = eq-eqb n 0 e

some : (p : List ℕ) (k n : ℕ) → n ≢ 0 → is_empty (under p k n) ≡ false
unfolding is_empty
some p k n e = ne_eqb n 0 e

-- the loop has ended where nothing waits, and where the slice has
emptied : (l d : List ℕ) (q t : Fifo) (i : ℕ) → Going drained l q d t i → is_empty t ≡ true → Ended drained l q d t i
emptied l d q t i g e = over g (drained_none _ _ e)

ended : (l d : List ℕ) (q t : Fifo) (i : ℕ) → Going drained l q d t i → length d ≤ i → Ended drained l q d t i
unfolding drained
ended l d q t i g e = over g (full drained d t i refl e)

pub returns-then-not-is_fifo : goal.returns-then-not-is_fifo
returns-then-not-is_fifo c = none_moved drained _ _ (sym c.is_fifo.ensures ∙ c.if-not-is_fifo.true)

pub loop-byte-init : goal.loop-byte-init
loop-byte-init c = record {
  place = part_place c.args.part.now (sym c.is_fifo.ensures ∙ c.if-not-is_fifo.false);
  number = omega arith;
  going = start drained _ _;
}

pub loop-byte-preserved : goal.loop-byte-preserved
loop-byte-preserved c =
    let p = c.args.part.now in
    let f = c.loop-byte.first in
    let n = c.loop-byte.held in
    let e = some p f n c.if-held-eq0.false in
    let h : c.loop-byte.byte-index < length c.loop-byte.out = omega (arith, c.loop-byte-test.true, c.loop-byte.auto.out) in
    record {
      place = c.next-first.ensures.within;
      number = omega (arith, c.loop-byte.invariant.number, c.if-held-eq0.false);
      going = turn c.loop-byte.invariant.going _ (get_or p (2 + f) 0) h
          (rw (
            drop-cons c.loop-byte.out c.loop-byte.byte-index 0 h,
            some_front p f n e c.loop-byte.invariant.place,
            c.next-first.ensures.place,
            ← (turned p f n e),
          ) (drained_more _ _ _ e));
    }

pub returns : goal.returns
returns c =
    let p = c.args.part.now in
    let h : is_part p ≡ true = sym c.is_fifo.ensures ∙ c.if-not-is_fifo.false in
    let f = c.loop-byte.first in
    let n = c.loop-byte.held in
    let g = c.loop-byte.invariant.going in
    let e : Ended drained c.args.out.now (under p (get_or p 1 0) (get_or p 0 0)) c.loop-byte-test.out (under p f n) c.loop-byte.byte-index =
    elim c.loop-byte-test.branch [
      | else-loop-byte-test w ↦ rw w.out-is (ended _ _ _ _ _ g (omega (arith, w.loop-byte-test.false, c.loop-byte.auto.out)))
      | then-loop-byte-test+then-held-eq0 w ↦ rw (w.out-is, set-get_or) (emptied _ _ _ _ _ g (none p f n w.if-held-eq0.true))
    ] in
    run_stored drained p _ _ p f n _ _ _ h e (omega (arith, c.loop-byte.invariant.number)) (ends_put p n f (part_long p h))
