-- Every reply to another event fits it, and leaves the count.
--   time_served, answer_served, reselection_served, free_served   of each event, from every state
use mathlib.Core.Path.{refl}
use mathlib.Core.Bool.{false}
use Prim.Native.Nat.{ℕ}
use Rattle.chip.specs.Answers.{held}
use Rattle.chip.specs.SelectAndTransfer.{free_to_wait, free_after_disconnect, select_and_transfer_free}
use Rattle.chip.specs.TransferInfo.{transfer_info_free}
use Rattle.chip.specs.Events.{timed_out, selection_time, passed, connected, answered_state, answered_selecting, answered_elsewhere, answered, reselected_state, reselected_with_code, reselected_apart, reselected, bus_free, idle_free, freed_running, freed}
use Rattle.chip.specs.Calls.{time, answer, reselection, free}
use Rattle.chip.specs.declared.State.{State}
use Rattle.chip.specs.declared.Reply.{Reply}
use Rattle.refusals.specs.Refusals.{SameCount}
use Rattle.chip.proofs.Cases.{by_pick}
use Rattle.refusals.proofs.Counts.{stands, then, raise_count, end_count}
use Rattle.refusals.proofs.Fitting.{Served, passes, holds, elsewhere, unless_held}

-- ---- Time

module _ (n : ℕ) (s : State) where
  abbrev Timely : Reply → Type 0
  Timely r = Served (time n) false s r

  timed_out_lem : SameCount s (timed_out s)
  unfolding timed_out
  timed_out_lem = then (stands refl refl) (raise_count _ _)

  selection_time_lem : Timely (selection_time n s)
  unfolding selection_time
  selection_time_lem =
      by_pick Timely _ (passes refl (stands refl refl))
      (by_pick Timely _ (passes refl timed_out_lem) (passes refl (stands refl refl)))

  pub time_served : Served (time n) false s (passed n s)
  unfolding passed
  time_served = by_pick Timely _ selection_time_lem (passes refl (stands refl refl))

-- ---- Answer

answered_count : (s : State) → SameCount s (answered_state s)
unfolding answered_state connected
answered_count s = stands refl refl

module _ (s : State) where
  abbrev Answering : Reply → Type 0
  Answering r = Served answer false s r

  answer_selecting : Answering (answered_selecting s)
  unfolding answered_selecting
  answer_selecting =
      let h = answered_count s in
      by_pick Answering _ (passes refl (stands h.shown h.beside)) (passes refl (then h (raise_count _ _)))

  pub answer_served : Served answer false s (answered s)
  unfolding answered answered_elsewhere
  answer_served = by_pick Answering _ answer_selecting (by_pick Answering _ (holds refl refl) (elsewhere refl refl))

-- ---- Reselection

reselected_count : (lines : ℕ) (s : State) → SameCount s (reselected_state lines s)
unfolding reselected_state connected
reselected_count lines s = stands refl refl

module _ (lines : ℕ) (s : State) where
  abbrev Reselecting : Reply → Type 0
  Reselecting r = Served (reselection lines) false s r

  with_code : Reselecting (reselected_with_code lines s)
  unfolding reselected_with_code
  with_code = unless_held (holds refl refl) (passes refl (then (reselected_count lines s) (raise_count _ _)))

  from_apart : Reselecting (reselected_apart lines s)
  unfolding reselected_apart
  from_apart =
      let h = reselected_count lines s in
      by_pick Reselecting _ (holds refl refl)
      (by_pick Reselecting _ (passes refl (stands h.shown h.beside)) with_code)

  pub reselection_served : Served (reselection lines) false s (reselected lines s)
  unfolding reselected
  reselection_served =
      by_pick Reselecting _ (by_pick Reselecting _ (elsewhere refl refl) from_apart)
      (record {
        fits = record { among = refl; row = (refl, refl, record { state = refl; lent = refl }) };
        count = stands refl refl;
      })

-- ---- Free

free_count : (s : State) → SameCount s (bus_free s)
unfolding bus_free
free_count s = stands refl refl

module _ (s : State) where
  abbrev Freeing : Reply → Type 0
  Freeing r = Served free false s r

  hold : Freeing (held s)
  hold = holds refl refl

  to_wait : (t : State) → SameCount s t → Freeing (free_to_wait s t)
  unfolding free_to_wait
  to_wait t h =
      by_pick Freeing _ (passes refl (stands h.shown h.beside)) (passes refl (stands h.shown h.beside))

  after_disconnect : (t : State) → SameCount s t → Freeing (free_after_disconnect s t)
  unfolding free_after_disconnect
  after_disconnect t h = by_pick Freeing _ (passes refl (then h (end_count _ _))) (to_wait t h)

  transfer_free : (t : State) → SameCount s t → Freeing (select_and_transfer_free s t)
  unfolding select_and_transfer_free
  transfer_free t h =
      by_pick Freeing _ (after_disconnect _ (stands h.shown h.beside))
      (passes refl (then h (end_count _ _)))

  idle_free_lem : Freeing (idle_free s)
  unfolding idle_free
  idle_free_lem = unless_held hold (passes refl (then (free_count s) (raise_count _ _)))

  free_running : Freeing (freed_running s)
  unfolding freed_running transfer_info_free
  free_running =
      by_pick Freeing _ (transfer_free (bus_free s) (free_count s))
      (by_pick Freeing _ (passes refl (then (free_count s) (end_count _ _))) idle_free_lem)

  pub free_served : Served free false s (freed s)
  unfolding freed
  free_served = by_pick Freeing _ (by_pick Freeing _ hold free_running) (elsewhere refl refl)
