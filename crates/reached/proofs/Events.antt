-- The other bus events keep the facts.
--   time_kept, answer_kept, reselection_kept, free_kept   of each event, from every shape
use Rattle.std.specs.Prelude.{Option}
use mathlib.Core.Path.{◌≡◌, refl}
use mathlib.Core.Bool.{Bool, false, true≢false, false≢true, true}
use Prim.Native.Nat.{ℕ}
use Rattle.chip.specs.Interrupts.{bytes_unread}
use Rattle.chip.specs.Activity.{is_ending}
use Rattle.chip.specs.SelectAndTransfer.{free_to_wait, free_after_disconnect, select_and_transfer_free}
use Rattle.chip.specs.TransferInfo.{transfer_info_free}
use Rattle.chip.specs.Events as E
use Rattle.chip.specs.Events.{timed_out, selection_time, passed, connected, answered_state, answered_selecting, answered, reselected_state, reselected_with_code, reselected_apart, reselected, bus_free, idle_free, freed_running, freed}
use Rattle.chip.specs.declared.State.{State}
use Rattle.chip.specs.declared.Fifo.{Fifo}
use Rattle.chip.specs.declared.Activity.{Activity}
use Rattle.chip.specs.declared.Activity.TheVariants.{Runs}
use Rattle.chip.specs.declared.Command.{Command}
use Rattle.chip.specs.declared.Connection.{Connection}
use Rattle.chip.specs.declared.Connection.TheVariants.{Connected}
use Rattle.chip.specs.declared.Direction.{Direction}
use Rattle.chip.proofs.Cases.{by_pick, by_case, both_first}
use Rattle.reached.specs.Sound.{unasked, told, apart, joined, Way, Drained, none, Shape, idle, selects, waits, selects_and_transfers, transfers_info, ending, read_out, SelectsAndTransfers, select_and_transfer, transfer_info}
use Rattle.chip.specs.Fifo.{Whole}
use Rattle.reached.proofs.Shapes.{Numbered, Good, so, Fine, being, empty_way, drained_way, way_drained, raised, ended, unless_int, selects_transfers, second, clash, transfers_test, first}
use Rattle.chip.specs.Connections.{is_selecting, is_connected}
use Rattle.chip.specs.declared.Phase.{Phase}

module _ (s : State) (n : Numbered s) where
  -- ---- Time

  time_by : (t : ℕ) {x : Activity} {c : Connection} {d : Direction} {q : Fifo} {atn ack : Bool} {w : Option Phase}
      → is_selecting c ≡ true → Whole q → Shape s.transfer.single s.registers.count x c d q atn ack w
      → Fine (selection_time t (being x c d q atn ack w s))
  unfolding selection_time timed_out
  time_by t x u (idle e o h apart) = absurd (false≢true x)
  time_by t x u (idle e o h joined) = absurd (false≢true x)
  time_by t x u (selects k o h) =
      by_pick Fine _ (so _ n u (selects k o h)) (by_pick Fine _ (raised 0x42 _ n u apart (none h)) (so _ n u (selects k o h)))
  time_by t x u (waits k h) = absurd (false≢true x)
  time_by t x u (selects_and_transfers k h) = absurd (false≢true x)
  time_by t x u (transfers_info h e) = absurd (false≢true x)
  time_by t x u (ending k h apart) = absurd (false≢true x)
  time_by t x u (ending k h joined) = absurd (false≢true x)
  time_by t x u (read_out k h) = absurd (false≢true x)

  -- ---- Answer

  answer_by : {x : Activity} {c : Connection} {d : Direction} {q : Fifo} {atn ack : Bool} {w : Option Phase}
      → is_selecting c ≡ true → Whole q → Shape s.transfer.single s.registers.count x c d q atn ack w
      → Fine (answered_selecting (being x c d q atn ack w s))
  unfolding answered_selecting answered_state connected
  answer_by x u (idle e o h apart) = absurd (false≢true x)
  answer_by x u (idle e o h joined) = absurd (false≢true x)
  answer_by x u (selects k o h) =
      by_case Fine _ (λ e. so _ n u (selects_and_transfers (selects_transfers k e) (empty_way _ h)))
      (λ e. raised 0x11 _ n u joined (none h))
  answer_by x u (waits k h) = absurd (false≢true x)
  answer_by x u (selects_and_transfers k h) = absurd (false≢true x)
  answer_by x u (transfers_info h e) = absurd (false≢true x)
  answer_by x u (ending k h apart) = absurd (false≢true x)
  answer_by x u (ending k h joined) = absurd (false≢true x)
  answer_by x u (read_out k h) = absurd (false≢true x)

  -- ---- Reselection

  with_code : (lines : ℕ) {x : Activity} {c : Connection} {d : Direction} {q : Fifo} {atn ack : Bool} {w : Option Phase}
      → Whole q → Shape s.transfer.single s.registers.count x c d q atn ack w
      → Drained s.transfer.single s.registers.count d q → Fine (reselected_with_code lines (being x c d q atn ack w s))
  unfolding reselected_with_code reselected_state connected
  with_code lines u g h = unless_int _ _ (so _ n u g) (raised 0x80 _ n u joined h)

  reselection_by : (lines : ℕ) {x : Activity} {c : Connection} {d : Direction} {q : Fifo} {atn ack : Bool} {w : Option Phase}
      → is_connected c ≡ false → Whole q → Shape s.transfer.single s.registers.count x c d q atn ack w
      → Fine (reselected_apart lines (being x c d q atn ack w s))
  unfolding reselected_apart reselected_state connected
  reselection_by lines x u (idle e o h apart) =
      by_pick Fine _ (so _ n u (idle e o h apart))
      (by_case Fine _ (λ w. absurd (false≢true (both_first _ _ w))) (λ w. with_code lines u (idle e o h apart) (none h)))
  reselection_by lines x u (idle e o h joined) = absurd (true≢false x)
  reselection_by lines x u (selects k o h) =
      by_pick Fine _ (so _ n u (selects k o h))
      (by_case Fine _ (λ w. absurd (false≢true (both_first _ _ w))) (λ w. with_code lines u (selects k o h) (none h)))
  reselection_by lines x u (waits k h) =
      by_pick Fine _ (so _ n u (waits k h))
      (by_pick Fine _ (so _ n u (selects_and_transfers k (drained_way h))) (with_code lines u (waits k h) h))
  reselection_by lines x u (selects_and_transfers k h) = absurd (true≢false x)
  reselection_by lines x u (transfers_info h e) = absurd (true≢false x)
  reselection_by lines x u (ending k h apart) =
      by_case Fine _ (λ e. so _ n u (ending k h apart)) (λ e. absurd (true≢false e))
  reselection_by lines x u (ending k h joined) = absurd (true≢false x)
  reselection_by lines x u (read_out k h) = by_case Fine _ (λ e. so _ n u (read_out k h)) (λ e. absurd (true≢false e))

  -- ---- Free

  select_and_transfer_free_lem : {r : Command} {d : Direction} {q : Fifo} (atn ack : Bool) (w : Option Phase) → Whole q → SelectsAndTransfers r → Way s.transfer.single s.registers.count d q
      → (let t = being (Runs r) Connected d q atn ack w s in Fine (select_and_transfer_free t (bus_free t)))
  unfolding select_and_transfer_free free_after_disconnect free_to_wait bus_free bytes_unread
  select_and_transfer_free_lem atn ack w u k h =
      by_pick Fine _
      (by_pick Fine _ (ended 0x85 _ n u apart refl (select_and_transfer k) h)
      (by_case Fine _ (λ e. so _ n u (read_out k e)) (λ e. so _ n u (waits k (way_drained h e)))))
      (ended 0x41 _ n u apart refl (select_and_transfer k) h)

  free_by : {x : Activity} {c : Connection} {d : Direction} {q : Fifo} {atn ack : Bool} {w : Option Phase}
      → is_connected c ≡ true → is_ending x ≡ false → Whole q → Shape s.transfer.single s.registers.count x c d q atn ack w
      → Fine (freed_running (being x c d q atn ack w s))
  unfolding freed_running transfer_info_free idle_free bus_free
  free_by x f u (idle e o h apart) = absurd (false≢true x)
  free_by x f u (idle unasked o h joined) =
      second _ _ (second _ _ (unless_int _ _ (so _ n u (idle unasked o h joined)) (raised 0x85 _ n u apart (none h))))
  free_by x f u (idle told o h joined) =
      second _ _ (second _ _ (unless_int _ _ (so _ n u (idle told o h joined)) (raised 0x85 _ n u apart (none h))))
  free_by x f u (selects k o h) = absurd (false≢true x)
  free_by x f u (waits k h) = absurd (false≢true x)
  free_by x f u (selects_and_transfers k h) =
      by_case Fine _ (λ e. select_and_transfer_free_lem _ _ _ u k h) (λ e. clash (transfers_test k) e)
  free_by x f u (transfers_info h e) = second _ _ (first _ _ (ended _ _ n u apart refl transfer_info h))
  free_by x f u (ending k h apart) = absurd (false≢true x)
  free_by x f u (ending k h joined) = absurd (true≢false f)
  free_by x f u (read_out k h) = absurd (false≢true x)

module _ (s : State) (g : Good s) where
  pub time_kept : (t : ℕ) → Fine (passed t s)
  unfolding passed E.selects
  time_kept t =
      by_case Fine _ (λ x. time_by s g.numbers t (both_first _ _ x) g.whole g.shape) (λ x. g)

  pub answer_kept : Fine (answered s)
  unfolding answered E.answered_elsewhere E.selects
  answer_kept = by_case Fine _ (λ x. answer_by s g.numbers (both_first _ _ x) g.whole g.shape) (λ x. by_pick Fine _ g g)

  pub reselection_kept : (lines : ℕ) → Fine (reselected lines s)
  unfolding reselected
  reselection_kept lines =
      by_pick Fine _ (by_case Fine _ (λ x. g) (λ x. reselection_by s g.numbers lines x g.whole g.shape)) g

  pub free_kept : Fine (freed s)
  unfolding freed
  free_kept =
      by_case Fine _ (λ x. by_case Fine _ (λ e. g) (λ e. free_by s g.numbers x e g.whole g.shape)) (λ x. g)
