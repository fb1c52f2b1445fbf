-- The law of specs/Connection.antt holds of the step. Goes.antt has its one half.
--   connection_goes   the table of who is connected is sound and complete
--   Sorted goes       sound: after every call the connection is as before, or the table says so
use mathlib.Core.Path.{◌≡◌, refl, ap}
use mathlib.Core.Bool.{Bool, true, false, not}
use mathlib.Core.List.{List}
use mathlib.Core.Logic.{◌⊎◌, inl, inr}
use Prim.Native.Nat.{ℕ, ◌<◌, ◌≤◌}
use native.Mathlib.Omega.{arith}
use lib.Dec.{eqb}
use borrow.Author.Tests.{not-true}
use Rattle.chip.specs.Choice.{both, either}
use Rattle.chip.specs.Phases.{phase_of}
use Rattle.chip.specs.Lines.{code_of, qualifies}
use Rattle.chip.specs.Count.{loaded, loaded_for_transfer_info}
use Rattle.chip.specs.Fifo.{waits}
use Rattle.chip.specs.State.{fresh}
use Rattle.chip.specs.Interrupts.{interrupted, in_ending, busy, is_incoming, raise, unless_interrupt, outgoing_dropped, bytes_unread}
use Rattle.chip.specs.SelectAndTransfer as X
use Rattle.chip.proofs.Translate.{by_translation}
use Rattle.chip.specs.Commands.{is_valid, is_refused_busy, entry_of, table, reset, aborted, disconnected, selecting, select_and_transfer_begun, transfer_info_begun, carried_out, accepted, commanded}
use Rattle.chip.specs.Connections.{is_connected, is_disconnected, is_selecting}
use Rattle.chip.specs.Registers as R
use Rattle.chip.specs.Events as E
use Rattle.chip.specs.Calls.{Call, Outcome, pointer, auxiliary, register, block, time, answer, reselection, request, free, is_good, is_set, carried, step, run}
use Rattle.chip.specs.declared.State.{State}
use Rattle.chip.specs.declared.Wire.{Wire}
use Rattle.chip.specs.declared.Reply.{Reply}
use Rattle.chip.specs.declared.Connection.{Connection}
use Rattle.chip.specs.declared.Connection.TheVariants.{Disconnected, Selecting, Connected}
use Rattle.chip.specs.declared.Command.{Command}
use Rattle.chip.proofs.Cases.{by_pick, by_case, by_test, both_first, both_second, either_second}
use Rattle.reached.specs.Sound.{Sound}
use Rattle.unread.specs.Status.{pending_in, is_command, is_reset, is_select_code}
use Rattle.unread.specs.Because.{Quiet, ReadsLast, byte, slice}
use Rattle.unread.proofs.Choosing.{one_of}
use Rattle.unread.proofs.Telling.{Summary}
use Rattle.unread.proofs.Pendings.{quiet_of}
use Rattle.unread.proofs.Host.{select_idle, transfer_selects, not_busy_runs, not_busy_ends, abort_goes, is_command_lem, own_code, is_disconnect_lem, is_read, Drains, drains_nothing, drains_wait, drains_ending, then, pops, block_drains, written_keeps, block_keeps, stored_keeps}
use Rattle.unread.proofs.Placed.{place}
use Rattle.belongs.specs.Connection as C
use Rattle.belongs.specs.Connection.{lets_go, Goes, ConnectionGoes}
use Rattle.reached.proofs.Laws.{reached}
use Rattle.belongs.proofs.Unmoved.{unmoved}
use Rattle.belongs.proofs.Goes.{to, ended_stays, reset_parts, free_parts, free_waits, goes_there}
use Rattle.belongs.proofs.Requests.{request_rests}
use Rattle.belongs.proofs.Taken.{row_taken, elsewhere}
use Rattle.chip.proofs.Numbers.{is_disconnected_lem, is_selecting_lem, is_connected_lem}

-- the table is sound: a call that moves the connection is among its rows, and leaves what the row says

abbrev Sorted : Call → State → Connection → Type 0
Sorted c s x = (x ≡ place s) ⊎ Goes c s x

-- the Data register
module _ (s : State) where
  drained_goes : {c : Call} {n : ℕ} {z : Summary}
      → (is_incoming s.transfer.direction ≡ true → 0 < waits s.fifo → waits s.fifo ≤ n → ReadsLast c s) → Drains n s z
      → Sorted c s z.connection
  drained_goes h drains_nothing = inl refl
  drained_goes h (drains_wait d w v e) = inr (C.reads_out_rest (ap pending_in e) (h d w v))
  drained_goes h (drains_ending d w v e) = inl refl

  block_goes : (m : ℕ) (l : List ℕ) → is_good (block m l) ≡ true → Sorted (block m l) s (place (carried (block m l) s).state)
  unfolding carried
  block_goes m l good =
      by_case (λ (r : R.Moved). Sorted (block m l) s (place r.state)) _ (λ w. inl (block_keeps place (λ x t. refl) l s))
      (λ w. drained_goes (λ d v u. slice good w d v u) (block_drains l s))

module _ (s : State) (i : interrupted s ≡ false) where
  -- commands
  module _ (m b : ℕ) (good : is_good (register m b) ≡ true) (set : is_set m ≡ true) (at : eqb s.status.pointer 0x18 ≡ true) where
    abbrev Leads : State → Type 0
    Leads t = Sorted (register m b) s (place t)

    abbrev Replies : Reply → Type 0
    Replies r = Sorted (register m b) s (to r)

    own : (k : ℕ) → eqb (code_of b) k ≡ true → is_command k (register m b) s ≡ true
    own k e = is_command_lem m b s good set at k e

    aborted_goes : eqb (code_of b) 0x01 ≡ true → is_valid (code_of b) s ≡ true → Leads (aborted (accepted b s))
    unfolding aborted accepted raise outgoing_dropped
    aborted_goes e v =
        by_case Leads _ (λ x. inl (ended_stays _ _))
        (λ x. inr (C.aborts (own 0x01 e) (abort_goes _ s e v) x))

    selects_goes : is_refused_busy (code_of b) s ≡ false → is_select_code (code_of b) ≡ true → is_valid (code_of b) s ≡ true
        → place s ≡ Disconnected → Goes (register m b) s Selecting
    selects_goes r w v x =
        let idle : busy s ≡ false = select_idle (code_of b) s w r in
        C.selects (code_of b) (own_code m b s good set at) w (quiet_of s i (not_busy_ends s idle)) (not_busy_runs s idle) x v

    -- where 06 and 07 are valid, and 08 and 09
    only_apart : either (eqb (code_of b) 0x06) (eqb (code_of b) 0x07) ≡ true → is_valid (code_of b) s ≡ true → place s ≡ Disconnected
    unfolding is_valid entry_of table
    only_apart w v =
        is_disconnected_lem (place s)
        (one_of (λ (j : ℕ). is_valid j s ≡ true → is_disconnected (place s) ≡ true) 0x06 0x07 (code_of b) w (both_first _ _) (both_first _ _) v)

    or_joined : either (eqb (code_of b) 0x08) (eqb (code_of b) 0x09) ≡ true → is_valid (code_of b) s ≡ true → is_connected (place s) ≡ false
        → place s ≡ Disconnected
    unfolding is_valid entry_of table
    or_joined w v x =
        is_disconnected_lem (place s)
        (either_second (is_connected (place s)) _
        (one_of (λ (j : ℕ). is_valid j s ≡ true → either (is_connected (place s)) (is_disconnected (place s)) ≡ true) 0x08 0x09 (code_of b) w (both_first _ _) (both_first _ _) v)
        x)

    transferring_goes : (r : Command) → either (eqb (code_of b) 0x08) (eqb (code_of b) 0x09) ≡ true → is_refused_busy (code_of b) s ≡ false
        → is_valid (code_of b) s ≡ true → Leads (select_and_transfer_begun r (accepted b s))
    unfolding select_and_transfer_begun X.resumed accepted selecting X.from_disconnected loaded
    transferring_goes r w f v =
        by_case Leads _ (λ x. by_pick Leads _ (inl (ended_stays _ _)) (inl refl))
        (λ x. inr (selects_goes f (transfer_selects (code_of b) w) v (or_joined w v x)))

    carried_goes : (single : Bool) → is_refused_busy (code_of b) s ≡ false → is_valid (code_of b) s ≡ true
        → Leads (carried_out (code_of b) single (accepted b s))
    unfolding carried_out accepted disconnected selecting transfer_info_begun loaded_for_transfer_info raise outgoing_dropped is_select_code either
    carried_goes single r v =
        by_case Leads _ (λ e. aborted_goes e v)
        (λ n1. by_pick Leads _ (inl refl)
        (by_pick Leads _ (inl refl)
        (by_case Leads _ (λ e. inr (C.disconnects (is_disconnect_lem m b s good set at e v) i))
        (λ n4. by_case Leads _ (λ e. inr (selects_goes r (rw e) v (only_apart (rw e) v)))
        (λ n6. by_case Leads _ (λ e. inr (selects_goes r (rw (n6, e)) v (only_apart (rw (n6, e)) v)))
        (λ n7. by_case Leads _ (λ e. transferring_goes _ (rw e) r v)
        (λ n8. by_case Leads _ (λ e. transferring_goes _ (rw (n8, e)) r v) (λ n9. by_pick Leads _ (inl refl) (by_pick Leads _ (by_translation Leads _ λ k l h. inl refl) (by_pick Leads _ (inl refl) (inl refl)))))))))))

    commanded_goes : Replies (commanded b s)
    unfolding commanded reset accepted is_reset
    commanded_goes =
        by_case Replies _ (λ e. inr (C.resets (own 0x00 e)))
        (λ n. by_case Replies _ (λ f. inl refl)
        (λ f. by_case Replies _ (λ r. inl refl) (λ r. by_case Replies _ (carried_goes _ r) (λ v. inl refl))))

  -- the registers
  module _ (m b : ℕ) (good : is_good (register m b) ≡ true) where
    abbrev Moves : Reply → Type 0
    Moves r = Sorted (register m b) s (to r)

    read_goes : is_set m ≡ false → Moves (R.read_at s.status.pointer s)
    unfolding R.read_at
    read_goes w =
        by_pick Moves _ (inl refl)
        (by_pick Moves _ (inl refl)
        (by_case Moves _
        (λ e. drained_goes s {n = 1} (λ d v u. byte (is_read m b s good 0x19 w e) d (omega arith)) (then (pops s) drains_nothing))
        (λ o. inl refl)))

    written_goes : is_set m ≡ true → Moves (R.written_at s.status.pointer b s)
    unfolding R.written_at
    written_goes w =
        by_case Moves _ (commanded_goes m b good w)
        (λ n. by_pick Moves _ (inl (written_keeps place (λ x t. refl) b s))
        (inl (stored_keeps place (λ x t. refl) s.status.pointer b s)))

    access_goes : Moves (R.accessed (is_set m) b s)
    unfolding R.accessed R.stepped R.accessed_at
    access_goes = by_pick Moves _ (inl refl) (by_case Moves _ written_goes read_goes)

  -- the bus events
  time_goes : (n : ℕ) → is_good (time n) ≡ true → Sorted (time n) s (to (E.passed n s))
  unfolding E.passed E.selects E.selection_time E.timed_out raise outgoing_dropped
  time_goes n good =
      by_case So _
      (λ x. by_case So _ (λ t. inl refl)
      (λ t. by_case So _
      (λ u. inr (C.times_out good (both_second (is_selecting (place s)) _ x) (is_selecting_lem _ (both_first _ _ x)) t u)) (λ u. inl refl)))
      (λ x. inl refl)
    where
      So : Reply → Type 0
      So r = Sorted (time n) s (to r)

  answer_goes : Sorted answer s (to (E.answered s))
  unfolding E.answered E.answered_elsewhere E.selects E.answered_selecting E.answered_state E.connected raise outgoing_dropped
  answer_goes =
      by_case So _
      (λ x. let h : Goes answer s Connected = C.answers (both_second (is_selecting (place s)) _ x) (is_selecting_lem _ (both_first _ _ x)) in
      by_pick So _ (inr h) (inr h))
      (λ x. by_pick So _ (inl refl) (inl refl))
    where
      So : Reply → Type 0
      So r = Sorted answer s (to r)

  reselection_goes : (lines : ℕ) → is_good (reselection lines) ≡ true → Sorted (reselection lines) s (to (E.reselected lines s))
  unfolding E.reselected E.reselected_with_code E.reselected_apart E.reselected_state E.connected raise outgoing_dropped unless_interrupt
  reselection_goes lines good =
      by_case So _
      (λ q. by_case So _ (λ x. inl refl)
      (λ x. by_case So _ (λ e. inl refl)
      (λ e. by_pick So _ (inr (joins q e x)) (by_pick So _ (inl refl) (inr (joins q e x))))))
      (λ q. inl refl)
    where
      So : Reply → Type 0
      So r = Sorted (reselection lines) s (to r)

      joins : qualifies lines s ≡ true → in_ending s ≡ false → is_connected (place s) ≡ false → Goes (reselection lines) s Connected
      joins q e x = C.reselects good (quiet_of s i e) q x

  free_goes : Sorted free s (to (E.freed s))
  unfolding E.freed
  free_goes =
      by_case So _ (λ x. by_case So _ (λ e. inl refl) (λ e. leaves (quiet_of s i e) (is_connected_lem _ x))) (λ x. inl refl)
    where
      So : Reply → Type 0
      So r = Sorted free s (to r)

      leaves : Quiet s → place s ≡ Connected → So (E.freed_running s)
      leaves q x =
          by_test (both (lets_go s) (not (bytes_unread s)))
          (λ e. let f : lets_go s ≡ true = both_first _ _ e in
          let u : bytes_unread s ≡ false = not-true _ (both_second (lets_go s) _ e) in
          rw (free_waits s q x f u) (inr (C.lets_go_waiting q x f u)))
          (λ e. rw (free_parts s q x e) (inr (C.frees q x e)))

  walk : (c : Call) → Sorted c s (place (step c s).state)
  unfolding step carried R.pointer_set R.pointer_read R.auxiliary_read
  walk c = by_case (λ (o : Outcome). Sorted c s (place o.state)) _ (by_call c) (λ g. inl refl)
    where
      by_call : (c : Call) → is_good c ≡ true → Sorted c s (place (carried c s).state)
      by_call (pointer m b) g = by_pick (λ (r : Reply). Sorted (pointer m b) s (to r)) _ (inl refl) (inl refl)
      by_call auxiliary g = inl refl
      by_call (register m b) g = access_goes m b g
      by_call (block m l) g = block_goes s m l g
      by_call (time n) g = time_goes n g
      by_call answer g = answer_goes
      by_call (reselection lines) g = reselection_goes lines g
      by_call (request p b q) g = inl (request_rests s (phase_of p) b (is_set q))
      by_call free g = free_goes

goes : (s : State) → Sound s → (c : Call) → Sorted c s (place (step c s).state)
goes s x c =
    by_test (interrupted s)
    (λ i. by_test (is_reset c s) (λ r. rw (reset_parts c s r) (inr (C.resets r))) (λ r. inl (ap (λ (w : Wire). w.connection) (unmoved s x i c r).wire)))
    (λ i. walk s i c)

pub connection_goes : ConnectionGoes step
connection_goes =
    record {
      sound = λ l c. goes (run step l fresh) (reached l) c;
      complete = λ l c x h. goes_there h;
      taken = λ l c x v h. row_taken v h;
      elsewhere = elsewhere;
    }
