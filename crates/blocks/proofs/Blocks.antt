-- A block, made of single accesses, is a run over the FIFO alone.
--   read_in          coming in: what `drained` moves; an ending settles once, after the last byte
--   none_read        not coming in: nothing is read
--   read_out_lem     going out: nothing is read
--   written_out      going out: what `filled` moves
--   none_written     not going out: nothing is written
--   written_bytes    a write leaves the slice as it is
--   settled_in       where data comes in, an ending that settles leaves the FIFO
use mathlib.Core.Path.{◌≡◌, refl, sym, ap, ◌∙◌}
use mathlib.Core.Logic.{◌≢◌}
use mathlib.Core.Bool.{true, false}
use mathlib.Core.List.{List, [], ◌∷◌}
use Prim.Native.Nat.{ℕ}
use lib.Dec.{eqb-suc-zero}
use Rattle.chip.specs.Choice.{pick}
use Rattle.chip.specs.State.{set_fifo}
use Rattle.chip.specs.Fifo.{is_empty, front, pop, push}
use Rattle.chip.specs.Count.{left, dbr}
use Rattle.chip.specs.Interrupts.{settled, settled_by, raise, outgoing_dropped}
use Rattle.chip.specs.Registers.{Moved, and_then, stopped, data_read, data_written, block_read, block_written}
use Rattle.chip.specs.declared.State.{State}
use Rattle.chip.specs.declared.Answer.TheVariants.{NoDataNow}
use Rattle.chip.specs.declared.Direction.{Direction}
use Rattle.chip.specs.declared.Direction.TheVariants.{Unfixed, In, Out}
use Rattle.chip.specs.declared.Activity.{Activity}
use Rattle.chip.specs.declared.Activity.TheVariants.{Idle, Interrupt, Runs, Ends, ReadOut}
use Rattle.blocks.specs.Blocks.{read_by, written_by}
use Rattle.fifo.specs.Bulk.{Bulk, drained, takes, filled}
use Rattle.chip.proofs.Cases.{by_test, by_pick}
use Rattle.fifo.proofs.BulkLaws.{drained_none, drained_more, filled_none, filled_more}

-- ---- reads

no_read : (l : List ℕ) (s : State) → (data_read s).answer ≡ NoDataNow → block_read l s ≡ stopped l s
unfolding block_read
no_read [] s e = refl
no_read (b ∷ l) s e = rw e

read_by_way : (l : List ℕ) (s : State) (d : Direction) → s.transfer.direction ≡ d → d ≢ In → block_read l s ≡ stopped l s
unfolding data_read
read_by_way l s Unfixed e n = no_read l s (rw e)
read_by_way l s In e n = absurd (n refl)
read_by_way l s Out e n = no_read l s (rw e)

pub none_read : (l : List ℕ) (s : State) → s.transfer.direction ≢ In → block_read l s ≡ stopped l s
none_read l s n = read_by_way l s s.transfer.direction refl n

pub read_out_lem : (l : List ℕ) (s : State) → s.transfer.direction ≡ Out → block_read l s ≡ stopped l s
read_out_lem l s d = none_read l s (λ i. let c : Out ≡ In = sym d ∙ i in cc)

empty_read : (l : List ℕ) (s : State) → s.transfer.direction ≡ In → is_empty s.fifo ≡ true → block_read l s ≡ stopped l s
unfolding data_read dbr pick
empty_read l s d e = no_read l s (rw (d, e))

one_read : (b : ℕ) (l : List ℕ) (s : State) → s.transfer.direction ≡ In → is_empty s.fifo ≡ false
    → block_read (b ∷ l) s ≡ and_then (front s.fifo) (block_read l (settled (set_fifo (pop s.fifo) s)))
unfolding block_read data_read dbr pick
one_read b l s d e = rw (d, e)

settled_waiting : (s : State) → is_empty s.fifo ≡ false → settled s ≡ s
unfolding settled pick
settled_waiting s e = rw e

settled_empty : (s : State) → is_empty s.fifo ≡ true → settled s ≡ settled_by s.activity s
unfolding settled pick
settled_empty s e = rw e

-- data still comes in, and the FIFO is the same
abbrev Kept : State → State → Type 0
Kept s t = (t.transfer.direction ≡ In) × (t.fifo ≡ s.fifo)

settled_by_in : (a : Activity) (s : State) → s.transfer.direction ≡ In → Kept s (settled_by a s)
unfolding settled_by raise outgoing_dropped
settled_by_in Idle s d = (d, refl)
settled_by_in Interrupt s d = (d, refl)
settled_by_in (Runs r) s d = (d, refl)
settled_by_in (Ends r k) s d = rw d (refl, refl)
settled_by_in (ReadOut r) s d = (d, refl)

-- so an ending that settles leaves the FIFO as it is
pub settled_in : (s : State) → s.transfer.direction ≡ In → (settled s).fifo ≡ s.fifo
unfolding settled
settled_in s d = by_pick (λ (x : State). x.fifo ≡ s.fifo) _ (settled_by_in s.activity s d).1 refl

-- the run r, after which an ending settles
abbrev read_out : Bulk → State → Moved
read_out r s = record { number = r.moved; state = settled (set_fifo r.fifo s); bytes = r.bytes }

-- once the FIFO is empty an ending settles, and nothing more is read
last_read : (l : List ℕ) (s : State) → s.transfer.direction ≡ In → is_empty s.fifo ≡ true
    → block_read l (settled s) ≡ read_out (drained l s.fifo) s
last_read l s d e =
    let k : Kept s (settled s) = rw (settled_empty s e) (settled_by_in s.activity s d) in
    empty_read l (settled s) k.0 (ap is_empty k.1 ∙ e) ∙ rw (drained_none l s.fifo e)

waiting_read : (l : List ℕ) (s : State) → s.transfer.direction ≡ In → is_empty s.fifo ≡ false
    → block_read l s ≡ read_out (drained l s.fifo) s
unfolding block_read drained
waiting_read [] s d e = rw (settled_waiting s e)
waiting_read (b ∷ l) s d e =
    let t : State = set_fifo (pop s.fifo) s in
    one_read b l s d e
    ∙ ap (and_then (front s.fifo))
    (by_test (is_empty t.fifo) (last_read l t d) (λ w. rw (settled_waiting t w) (waiting_read l t d w)))
    ∙ rw (drained_more b l s.fifo e)

pub read_in : (l : List ℕ) (s : State) → s.transfer.direction ≡ In → block_read l s ≡ read_by (drained l s.fifo) s
unfolding block_read drained pick
read_in [] s d = refl
read_in (b ∷ l) s d =
    by_test (is_empty s.fifo) (λ e. empty_read (b ∷ l) s d e ∙ rw (drained_none (b ∷ l) s.fifo e))
    (λ e. rw (waiting_read (b ∷ l) s d e, drained_more b l s.fifo e, eqb-suc-zero (drained l (pop s.fifo)).moved))

-- ---- writes

no_write : (l : List ℕ) (s : State) → ((b : ℕ) → (data_written b s).answer ≡ NoDataNow) → block_written l s ≡ stopped l s
unfolding block_written
no_write [] s e = refl
no_write (b ∷ l) s e = rw (e b)

written_by_way : (l : List ℕ) (s : State) (d : Direction) → s.transfer.direction ≡ d → d ≢ Out → block_written l s ≡ stopped l s
unfolding data_written
written_by_way l s Unfixed e n = no_write l s (λ b. rw e)
written_by_way l s In e n = no_write l s (λ b. rw e)
written_by_way l s Out e n = absurd (n refl)

pub none_written : (l : List ℕ) (s : State) → s.transfer.direction ≢ Out → block_written l s ≡ stopped l s
none_written l s n = written_by_way l s s.transfer.direction refl n

full_write : (l : List ℕ) (s : State) → s.transfer.direction ≡ Out → takes (left s) s.fifo ≡ false → block_written l s ≡ stopped l s
unfolding data_written dbr left takes pick
full_write l s d e = no_write l s (λ b. rw (d, e))

one_write : (b : ℕ) (l : List ℕ) (s : State) → s.transfer.direction ≡ Out → takes (left s) s.fifo ≡ true
    → block_written (b ∷ l) s ≡ and_then b (block_written l (set_fifo (push b s.fifo) s))
unfolding block_written data_written dbr left takes pick
one_write b l s d e = rw (d, e)

pub written_out : (l : List ℕ) (s : State) → s.transfer.direction ≡ Out → block_written l s ≡ written_by (filled (left s) l s.fifo) l s
unfolding block_written filled left
written_out [] s d = refl
written_out (b ∷ l) s d =
    let h = written_out l (set_fifo (push b s.fifo) s) d in
    by_test (takes (left s) s.fifo)
    (λ e. one_write b l s d e ∙ ap (and_then b) h ∙ rw (filled_more (left s) b l s.fifo e))
    (λ e. full_write (b ∷ l) s d e ∙ rw (filled_none (left s) (b ∷ l) s.fifo e))

written_bytes_by : (l : List ℕ) (s : State) (d : Direction) → s.transfer.direction ≡ d → (block_written l s).bytes ≡ l
written_bytes_by l s Unfixed e = rw (none_written l s (λ o. let c : Unfixed ≡ Out = sym e ∙ o in cc))
written_bytes_by l s In e = rw (none_written l s (λ o. let c : In ≡ Out = sym e ∙ o in cc))
written_bytes_by l s Out e = rw (written_out l s e)

pub written_bytes : (l : List ℕ) (s : State) → (block_written l s).bytes ≡ l
written_bytes l s = written_bytes_by l s s.transfer.direction refl
