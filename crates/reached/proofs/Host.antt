-- The Data register, the other registers and a block keep the facts.
--   data_read_kept, data_written_kept, block_read_kept, block_written_kept   of the Data register
--   stored_kept, status_read_kept                                            of a register written, and of SCSI Status read
use Rattle.std.specs.Prelude.{Option}
use mathlib.Core.Path.{◌≡◌}
use mathlib.Core.Bool.{Bool, true, false, true≢false, false≢true}
use mathlib.Core.List.{List, [], ◌∷◌}
use Prim.Native.Nat.{ℕ, ◌<◌, ◌≤◌}
use native.Mathlib.Omega.{arith}
use lib.Dec.{ltb}
use lib.ListN.{length-set}
use borrow.Author.Tests.{not-true, ltb-true}
use Rattle.chip.specs.Choice.{pick, both}
use Rattle.chip.specs.State.{set_activity, set_registers}
use Rattle.chip.specs.Fifo.{is_empty, has_room, pop, push}
use Rattle.chip.specs.Fifo as F
use Rattle.chip.specs.Count.{left, dbr}
use Rattle.chip.specs.Interrupts.{settled_by, settled}
use Rattle.chip.specs.Activity.{is_running, without_interrupt}
use Rattle.chip.specs.Registers.{high_written, middle_written, low_written, stored, data_read_by, data_read, data_written_by, data_written, Moved, go_on, and_then, stopped, block_read, block_written, stored_in}
use Rattle.chip.specs.declared.Registers.{Registers}
use Rattle.chip.specs.declared.State.{State}
use Rattle.chip.specs.declared.Answer.{Answer}
use Rattle.chip.specs.declared.Answer.TheVariants.{Done, Held, OutOfPlace, BadNumber, Blind, CommandIgnored, ReselectionIgnored, NoDataNow, Reported}
use Rattle.chip.specs.declared.Fifo.{Fifo}
use Rattle.chip.specs.declared.Activity.{Activity}
use Rattle.chip.specs.declared.Connection.{Connection}
use Rattle.chip.specs.declared.Direction.{Direction}
use Rattle.chip.specs.declared.Direction.TheVariants.{Unfixed, In, Out}
use Rattle.chip.proofs.Cases.{by_pick, by_case, both_first}
use Rattle.reached.specs.Sound.{is_unread, Resting, unasked, told, outgoing, none, out, Shape, idle, selects, waits, selects_and_transfers, transfers_info, ending, read_out}
use Rattle.chip.specs.Fifo.{Whole}
use Rattle.chip.specs.declared.Phase.{Phase}
use Rattle.chip.proofs.FifoLaws.{keeps_bytes, pop_waits, push_waits}
use Rattle.reached.proofs.Shapes.{Numbered, Good, so, Fine, being, clash, pop_way, raised, selects_and_transfers_run}

-- ---- the Data register

still : (d : Direction) (q x : Fifo) → is_unread d q ≡ true → is_empty x ≡ false → is_unread d x ≡ true
unfolding both
still Unfixed q x h e = h
still In q x h e = rw e
still Out q x h e = h

module _ (s : State) (n : Numbered s) where
  settles : {x : Activity} {c : Connection} {d : Direction} {q : Fifo} {atn ack : Bool} {w : Option Phase}
      → Whole q → is_empty q ≡ false → Shape s.transfer.single s.registers.count x c d q atn ack w → Good (settled (being x c d (pop q) atn ack w s))
  unfolding settled settled_by
  settles u f (idle e o h l) = clash h f
  settles u f (selects k o h) = clash h f
  settles u f (waits k (none h)) = clash h f
  settles {q = q} u f (waits k (out h)) =
      by_pick Good _ (so _ n (keeps_bytes.pop_whole q u) (waits k (out (pop_waits q _ h)))) (so _ n (keeps_bytes.pop_whole q u) (waits k (out (pop_waits q _ h))))
  settles {q = q} u f (selects_and_transfers k h) =
      by_pick Good _ (so _ n (keeps_bytes.pop_whole q u) (selects_and_transfers k (pop_way h))) (so _ n (keeps_bytes.pop_whole q u) (selects_and_transfers k (pop_way h)))
  settles {q = q} u f (transfers_info h e) =
      by_pick Good _ (so _ n (keeps_bytes.pop_whole q u) (transfers_info (pop_way h) e)) (so _ n (keeps_bytes.pop_whole q u) (transfers_info (pop_way h) e))
  settles {d = d} {q = q} u f (ending k h l) =
      by_case Good _ (λ e. raised _ _ n (keeps_bytes.pop_whole q u) l (none e))
      (λ e. so _ n (keeps_bytes.pop_whole q u) (ending k (still d q (pop q) h e) l))
  settles {d = d} {q = q} u f (read_out k h) =
      by_case Good _ (λ e. so _ n (keeps_bytes.pop_whole q u) (waits k (none e)))
      (λ e. so _ n (keeps_bytes.pop_whole q u) (read_out k (still d q (pop q) h e)))

  data_read_lem : (d : Direction) {x : Activity} {c : Connection} {q : Fifo} {atn ack : Bool} {w : Option Phase}
      → Whole q → Shape s.transfer.single s.registers.count x c d q atn ack w → Fine (data_read_by d (being x c d q atn ack w s))
  unfolding dbr
  data_read_lem Unfixed u g = so _ n u g
  data_read_lem In {q = q} u g = by_case Fine _ (λ e. settles u (not-true (is_empty q) e) g) (λ e. so _ n u g)
  data_read_lem Out u g = so _ n u g

  -- a byte more, going out
  more : (b : ℕ) {x : Activity} {c : Connection} {q : Fifo} {atn ack : Bool} {w : Option Phase}
      → F.waits (push b q) ≤ pick s.transfer.single 1 s.registers.count
      → Shape s.transfer.single s.registers.count x c Out q atn ack w
      → Shape s.transfer.single s.registers.count x c Out (push b q) atn ack w
  unfolding both
  more b v (idle e o h l) = absurd (true≢false o)
  more b v (selects k o h) = absurd (true≢false o)
  more b v (waits k h) = waits k (out v)
  more b v (selects_and_transfers k h) = selects_and_transfers k (outgoing v)
  more b v (transfers_info h e) = transfers_info (outgoing v) e
  more b v (ending k h l) = absurd (false≢true h)
  more b v (read_out k h) = absurd (false≢true h)

  room : (b : ℕ) (q : Fifo) → both (ltb (F.waits q) (pick s.transfer.single 1 s.registers.count)) (has_room q) ≡ true
      → F.waits (push b q) ≤ pick s.transfer.single 1 s.registers.count
  room b q e =
      let m = pick s.transfer.single 1 s.registers.count in
      omega (arith, ltb-true (F.waits q) m (both_first _ (has_room q) e), push_waits b q)

  data_written_lem : (d : Direction) (b : ℕ) {x : Activity} {c : Connection} {q : Fifo} {atn ack : Bool} {w : Option Phase}
      → Whole q → Shape s.transfer.single s.registers.count x c d q atn ack w → Fine (data_written_by d b (being x c d q atn ack w s))
  unfolding dbr left
  data_written_lem Unfixed b u g = so _ n u g
  data_written_lem In b u g = so _ n u g
  data_written_lem Out b {q = q} u g = by_case Fine _ (λ e. so _ n (keeps_bytes.push_whole q b u) (more b (room b q e) g)) (λ e. so _ n u g)

pub data_read_kept : (s : State) → Good s → Fine (data_read s)
unfolding data_read
data_read_kept s g = data_read_lem s g.numbers s.transfer.direction g.whole g.shape

pub data_written_kept : (b : ℕ) (s : State) → Good s → Fine (data_written b s)
unfolding data_written
data_written_kept b s g = data_written_lem s g.numbers s.transfer.direction b g.whole g.shape

goes : (a : Answer) (on : ℕ → Moved) (stop : Moved) → ((v : ℕ) → Good (on v).state) → Good stop.state → Good (go_on a on stop).state
goes (Done v) on stop x y = x v
goes Held on stop x y = y
goes OutOfPlace on stop x y = y
goes BadNumber on stop x y = y
goes Blind on stop x y = y
goes CommandIgnored on stop x y = y
goes ReselectionIgnored on stop x y = y
goes NoDataNow on stop x y = y
goes Reported on stop x y = y

pub block_read_kept : (l : List ℕ) (s : State) → Good s → Good (block_read l s).state
unfolding block_read
block_read_kept [] s g = g
block_read_kept (b ∷ l) s g =
    goes (data_read s).answer (λ v. and_then v (block_read l (data_read s).state)) (stopped (b ∷ l) s)
    (λ v. block_read_kept l (data_read s).state (data_read_kept s g)) g

pub block_written_kept : (l : List ℕ) (s : State) → Good s → Good (block_written l s).state
unfolding block_written
block_written_kept [] s g = g
block_written_kept (b ∷ l) s g =
    goes (data_written b s).answer (λ v. and_then b (block_written l (data_written b s).state)) (stopped (b ∷ l) s)
    (λ v. block_written_kept l (data_written b s).state (data_written_kept b s g)) g

-- ---- the other registers

-- where nothing is under way the count may be anything
recount : {single : Bool} {n m : ℕ} {x : Activity} {c : Connection} {d : Direction} {q : Fifo} {atn ack : Bool} {w : Option Phase}
    → Shape single n x c d q atn ack w → is_running x ≡ false → Shape single m x c d q atn ack w
recount (idle e o h l) b = idle e o h l
recount (selects k o h) b = selects k o h
recount (waits k h) b = clash (selects_and_transfers_run k) b
recount (selects_and_transfers k h) b = clash (selects_and_transfers_run k) b
recount (transfers_info h e) b = absurd (true≢false b)
recount (ending k h l) b = ending k h l
recount (read_out k h) b = read_out k h

pub stored_kept : (a b : ℕ) (s : State) → b < 256 → is_running s.activity ≡ false
    → Good s → Good (stored a b s)
unfolding stored stored_in high_written middle_written low_written
stored_kept a b s small calm g =
    let n = g.numbers in
    let c = n.count_below in
    by_pick Kept _ (so _ n g.whole g.shape)
    (by_pick Kept _ (so _ n g.whole g.shape)
    (by_pick Kept _ (so _ n g.whole g.shape)
    (by_pick Kept _
    (so _ (record { cdb_long = rw length-set n.cdb_long; count_below = n.count_below; identity_below = n.identity_below }) g.whole g.shape)
    (by_pick Kept _ (so _ n g.whole g.shape)
    (by_pick Kept _ (so _ n g.whole g.shape)
    (by_pick Kept _ (so _ n g.whole g.shape)
    (by_pick Kept _
    (so _ (record { cdb_long = n.cdb_long; count_below = omega arith; identity_below = n.identity_below }) g.whole (recount g.shape calm))
    (by_pick Kept _
    (so _ (record { cdb_long = n.cdb_long; count_below = omega arith; identity_below = n.identity_below }) g.whole (recount g.shape calm))
    (by_pick Kept _
    (so _ (record { cdb_long = n.cdb_long; count_below = omega arith; identity_below = n.identity_below }) g.whole (recount g.shape calm))
    (by_pick Kept _ (so _ n g.whole g.shape) (so _ n g.whole g.shape)))))))))))
  where
    Kept : Registers → Type 0
    Kept r = Good (set_registers r s)

quieter : {x : Activity} → Resting x → Resting (without_interrupt x)
quieter unasked = unasked
quieter told = unasked

read_shape : {single : Bool} {n : ℕ} {x : Activity} {c : Connection} {d : Direction} {q : Fifo} {atn ack : Bool} {w : Option Phase}
    → Shape single n x c d q atn ack w → Shape single n (without_interrupt x) c d q atn ack w
read_shape (idle e o h l) = idle (quieter e) o h l
read_shape (selects k o h) = selects k o h
read_shape (waits k h) = waits k h
read_shape (selects_and_transfers k h) = selects_and_transfers k h
read_shape (transfers_info h e) = transfers_info h e
read_shape (ending k h l) = ending k h l
read_shape (read_out k h) = read_out k h

pub status_read_kept : (s : State) → Good s → Good (set_activity (without_interrupt s.activity) s)
status_read_kept s g = so _ g.numbers g.whole (read_shape g.shape)
