-- How long a selection has waited: the units that have added up are no more than those that have passed since it began.
--   HasWaited has_waited   of a list of calls after which a selection runs
--   all_added      .. and no fewer, where register 02 is not 0
--   elapsed_grows  one call adds its own units at most, while the selection goes on
--   begins_at_zero a selection begins with none
use Rattle.std.specs.Prelude.{Option}
use mathlib.Core.Path.{◌≡◌, refl, sym, ap, subst, ◌∙◌}
use mathlib.Core.Bool.{Bool, true, false}
use mathlib.Core.List.{List, [], ◌∷◌, ◌++◌}
use mathlib.Core.Logic.{⊎_elim}
use Prim.Native.Nat.{ℕ, ◌+◌, ◌≤◌}
use native.Mathlib.Omega.{arith}
use lib.Dec.{eqb}
use borrow.Author.Tests.{eq-eqb}
use Rattle.chip.specs.Choice.{pick, both}
use Rattle.chip.specs.Phases.{phase_of}
use Rattle.chip.specs.Lines.{code_of}
use Rattle.chip.specs.State.{fresh}
use Rattle.chip.specs.Interrupts.{busy, unless_interrupt, raise, outgoing_dropped}
use Rattle.chip.specs.Activity.{goes_on}
use Rattle.chip.proofs.Translate.{by_translation}
use Rattle.chip.specs.Commands.{aborted, disconnected, selecting, select_and_transfer_begun, transfer_info_begun, accepted, carried_out, commanded, reset}
use Rattle.chip.specs.Connections.{is_connected, is_selecting}
use Rattle.chip.specs.Count.{loaded_for_transfer_info}
use Rattle.chip.specs.Registers as R
use Rattle.chip.specs.Events as E
use Rattle.chip.specs.Calls.{Call, Outcome, pointer, auxiliary, register, block, time, answer, reselection, request, free, is_good, is_set, carried, step, run}
use Rattle.chip.specs.declared.State.{State}
use Rattle.chip.specs.declared.Phase.{Phase}
use Rattle.chip.specs.declared.Reply.{Reply}
use Rattle.chip.specs.declared.Fifo.{Fifo}
use Rattle.chip.specs.declared.Activity.{Activity}
use Rattle.chip.specs.declared.Command.{Command}
use Rattle.chip.specs.declared.Direction.{Direction}
use Rattle.chip.specs.declared.Connection.{Connection}
use Rattle.chip.specs.declared.Connection.TheVariants.{Disconnected, Selecting}
use Rattle.chip.proofs.Cases.{by_pick, by_case, by_test, both_first, both_second}
use Rattle.reached.specs.Sound.{Shape, idle, selects, waits, selects_and_transfers, transfers_info, ending, read_out, apart, joined}
use Rattle.unread.specs.Status.{pending_in, is_command_of, is_command, is_select_code, is_selection, is_answer}
use Rattle.unread.specs.Because.{Quiet}
use Rattle.unread.specs.Codes.{Selects}
use Rattle.unread.proofs.Choosing.{clash}
use Rattle.unread.proofs.Pendings.{is_end, going_quiet}
use Rattle.unread.proofs.Rows.{selecting_now}
use Rattle.chip.proofs.Activities.{going_runs}
use Rattle.unread.proofs.Told.{Issued, issued}
use Rattle.unread.proofs.Host.{Pops, nothing_read, one_read, ending_read, wait_read, pops, going, written_keeps, block_keeps, valid_apart}
use Rattle.unread.proofs.Codes.{run_more, by_calls, since_end, selections_begun}
use Rattle.unread.specs.Ending.{is_time}
use Rattle.unread.proofs.Ending.{unreachable}
use Rattle.reached.proofs.Laws.{reached}
use Rattle.belongs.specs.TimedOut.{units, Waited, begun, passed}

-- the units that have added up, and register 02
record Clock : Type 0 where
  elapsed : ℕ
  timeout : ℕ

abbrev clock : State → Clock
clock t = record { elapsed = t.wire.elapsed; timeout = t.registers.setup.timeout }

-- with nothing pending, reads of the Data register leave both
pops_clock : {s t : State} → Quiet s → Pops s t → (clock t ≡ clock s) × Quiet t
pops_clock q nothing_read = (refl, q)
pops_clock q (one_read d w) = (refl, q)
pops_clock q (ending_read d w e) = clash refl (ap is_end (sym (ap pending_in e) ∙ q))
pops_clock q (wait_read d w e) = clash refl (ap is_end (sym (ap pending_in e) ∙ q))

block_clock : (l : List ℕ) (s : State) → Quiet s → clock (R.block_read l s).state ≡ clock s
unfolding R.block_read
block_clock [] s q = refl
block_clock (b ∷ l) s q =
    going (λ (m : R.Moved). clock m.state ≡ clock s) (R.data_read s).answer _ _
    (λ v. let h = pops_clock q (pops s) in block_clock l (R.data_read s).state h.1 ∙ h.0) refl

-- a selection that is over does not run
gone : {P : Type 0} {y : Connection} → y ≡ Selecting → is_selecting y ≡ false → P
gone e n = clash (ap is_selecting e) n

-- while a selection goes on, both stay
module _ (s : State) (x : s.wire.connection ≡ Selecting) (on : goes_on s.activity ≡ true) where
  q : Quiet s
  q = going_quiet s on

  works : busy s ≡ true
  unfolding busy
  works = going_runs s.activity on

  abbrev Stays : State → Type 0
  Stays t = t.wire.connection ≡ Selecting → clock t ≡ clock s

  abbrev So : Reply → Type 0
  So r = Stays r.state

  abbrev Leads : Outcome → Type 0
  Leads o = Stays o.state

  commanded_stays : (b : ℕ) → So (commanded b s)
  unfolding commanded carried_out aborted accepted reset raise outgoing_dropped
  commanded_stays b =
      by_case So _ (λ z e. gone e refl)
      (λ z. by_case So _ (λ i e. refl)
      (λ i. by_case So _ (λ r e. refl)
      (λ r. by_case So _
      (λ v. by_case Stays _ (λ k. by_case Stays _ (λ y. clash y (ap is_connected x)) (λ y e. gone e refl))
      (λ k. clash (ap is_selecting x) (valid_apart (code_of b) s z k v)))
      (λ v e. refl))))

  written_stays : (w : Bool) (b : ℕ) → R.is_blind w s.status.pointer s ≡ false → So (R.written_at s.status.pointer b s)
  unfolding R.written_at
  written_stays w b h =
      by_case So _ (λ a. commanded_stays b)
      (λ m. by_case So _ (λ a e. written_keeps clock (λ x t. refl) b s) (λ n. unreachable s w s.status.pointer works h m n))

  read_stays : (a : ℕ) → So (R.read_at a s)
  unfolding R.read_at
  read_stays a =
      by_pick So _ (λ e. refl) (by_pick So _ (λ e. refl) (by_pick So _ (λ e. (pops_clock q (pops s)).0) (λ e. refl)))

  access_stays : (m b : ℕ) → So (R.accessed (is_set m) b s)
  unfolding R.accessed R.stepped R.accessed_at
  access_stays m b =
      by_case (λ (y : Reply). So (R.stepped s.status.pointer y)) _ (λ h e. refl)
      (λ h. by_pick (λ (y : Reply). So (R.stepped s.status.pointer y)) _ (written_stays (is_set m) b h) (read_stays s.status.pointer))

  not_connected : {P : Type 0} → is_connected s.wire.connection ≡ true → P
  not_connected e = clash e (ap is_connected x)

  reselected_stays : (lines : ℕ) → So (E.reselected lines s)
  unfolding E.reselected E.reselected_with_code E.reselected_apart E.reselected_state E.connected unless_interrupt raise outgoing_dropped
  reselected_stays lines =
      by_pick So _
      (by_pick So _ (λ e. refl)
      (by_pick So _ (λ e. refl) (by_pick So _ (λ e. gone e refl) (by_pick So _ (λ e. refl) (λ e. gone e refl)))))
      (λ e. refl)

  requested_stays : (p : Phase) (b : ℕ) (bad : Bool) → So (E.requested p b bad s)
  unfolding E.requested
  requested_stays p b bad =
      by_case (λ (r : Reply). So (E.remembered p r)) _ not_connected (λ y. unfold E.remembered in λ e. refl)

  call_stays : (c : Call) → is_time c ≡ false → is_answer c ≡ false → Stays (step c s).state
  unfolding step carried R.pointer_set R.pointer_read R.auxiliary_read E.freed
  call_stays (pointer m b) t a = by_pick Leads _ (by_pick So _ (λ e. refl) (λ e. refl)) (λ e. refl)
  call_stays auxiliary t a = by_pick Leads _ (λ e. refl) (λ e. refl)
  call_stays (register m b) t a = by_pick Leads _ (access_stays m b) (λ e. refl)
  call_stays (block m l) t a =
      by_pick Leads _
      (by_pick (λ (r : R.Moved). Stays r.state) _ (λ e. block_keeps clock (λ x t. refl) l s) (λ e. block_clock l s q))
      (λ e. refl)
  call_stays (time n) t a = clash refl t
  call_stays answer t a = clash refl a
  call_stays (reselection lines) t a = by_pick Leads _ (reselected_stays lines) (λ e. refl)
  call_stays (request p b z) t a =
      by_pick Leads _ (requested_stays (phase_of p) b (is_set z)) (λ e. refl)
  call_stays free t a = by_pick Leads _ (by_case So _ not_connected (λ y e. refl)) (λ e. refl)

-- Time adds its own units, where register 02 is not 0, and leaves that register
record Ticks (n : ℕ) (s t : State) : Type 0 where
  timeout : t.registers.setup.timeout ≡ s.registers.setup.timeout
  most : t.wire.elapsed ≤ s.wire.elapsed + n
  least : eqb s.registers.setup.timeout 0 ≡ false → s.wire.elapsed + n ≤ t.wire.elapsed

at_most : (a n : ℕ) → a ≤ a + n
at_most a n = omega arith

at_least : (a : ℕ) → a ≤ a
at_least a = omega arith

abbrev Grows : ℕ → State → Reply → Type 0
Grows n s r = r.state.wire.connection ≡ Selecting → Ticks n s r.state

-- a selection that timed out is over
timed_out_lem : {P : Type 0} (s : State) → (E.timed_out s).wire.connection ≡ Selecting → P
unfolding E.timed_out raise outgoing_dropped
timed_out_lem s e = gone e refl

selection_grows : (n : ℕ) (s : State) → Grows n s (E.selection_time n s)
unfolding E.selection_time
selection_grows n s =
    by_case (Grows n s) _
    (λ z e. record { timeout = refl; most = at_most s.wire.elapsed n; least = λ m. clash z m })
    (λ z. by_pick (Grows n s) _ (timed_out_lem s)
    (λ e. record { timeout = refl; most = at_least (s.wire.elapsed + n); least = λ m. at_least (s.wire.elapsed + n) }))

passed_grows : (n : ℕ) (s : State) → s.wire.connection ≡ Selecting → goes_on s.activity ≡ true → Grows n s (E.passed n s)
unfolding E.passed
passed_grows n s x on = by_case (Grows n s) _ (λ y. selection_grows n s) (λ y. clash (selecting_now s on x) y)

time_grows : (n : ℕ) (s : State) → s.wire.connection ≡ Selecting → goes_on s.activity ≡ true → (step (time n) s).state.wire.connection ≡ Selecting
    → Ticks (units (time n)) s (step (time n) s).state
unfolding step carried pick
time_grows n s x on =
    by_test (is_good (time n)) (λ g. rw g (passed_grows n s x on))
    (λ g. rw g (λ e. record { timeout = refl; most = omega arith; least = λ m. omega arith }))

of_clock : {s t : State} → clock t ≡ clock s → Ticks 0 s t
of_clock e =
    let k = ap (λ (c : Clock). c.elapsed) e in
    record { timeout = ap (λ (c : Clock). c.timeout) e; most = omega (arith, k); least = λ m. omega (arith, k) }

-- one call of a selection that goes on
elapsed_grows : (c : Call) (s : State) → s.wire.connection ≡ Selecting → goes_on s.activity ≡ true → is_answer c ≡ false
    → (step c s).state.wire.connection ≡ Selecting → Ticks (units c) s (step c s).state
elapsed_grows (pointer m b) s x on a e = of_clock (call_stays s x on (pointer m b) refl a e)
elapsed_grows auxiliary s x on a e = of_clock (call_stays s x on auxiliary refl a e)
elapsed_grows (register m b) s x on a e = of_clock (call_stays s x on (register m b) refl a e)
elapsed_grows (block m l) s x on a e = of_clock (call_stays s x on (block m l) refl a e)
elapsed_grows (time n) s x on a e = time_grows n s x on e
elapsed_grows answer s x on a e = clash refl a
elapsed_grows (reselection lines) s x on a e = of_clock (call_stays s x on (reselection lines) refl a e)
elapsed_grows (request p b z) s x on a e = of_clock (call_stays s x on (request p b z) refl a e)
elapsed_grows free s x on a e = of_clock (call_stays s x on free refl a e)

-- a command that finds the controller Disconnected and leaves it selecting starts at 0
module _ (s : State) (x : s.wire.connection ≡ Disconnected) where
  abbrev Zero : State → Type 0
  Zero t = t.wire.connection ≡ Selecting → t.wire.elapsed ≡ 0

  not_so : {P : Type 0} → s.wire.connection ≡ Selecting → P
  not_so e = gone e (ap is_selecting x)

  transferring_zero : (r : Command) (b : ℕ) → Zero (select_and_transfer_begun r (accepted b s))
  unfolding select_and_transfer_begun selecting accepted
  transferring_zero r b = by_case Zero _ (λ y. clash y (ap is_connected x)) (λ y e. refl)

  carried_zero : (b k : ℕ) (single : Bool) → Zero (carried_out k single (accepted b s))
  unfolding carried_out aborted disconnected selecting transfer_info_begun loaded_for_transfer_info accepted raise outgoing_dropped
  carried_zero b k single =
      by_pick Zero _ (by_case Zero _ (λ y. clash y (ap is_connected x)) (λ y e. gone e refl))
      (by_pick Zero _ not_so
      (by_pick Zero _ not_so
      (by_pick Zero _ (λ e. gone e refl)
      (by_pick Zero _ (λ e. refl)
      (by_pick Zero _ (λ e. refl)
      (by_pick Zero _ (transferring_zero _ b)
      (by_pick Zero _ (transferring_zero _ b) (by_pick Zero _ not_so (by_pick Zero _ (by_translation Zero _ λ k l h. not_so) (by_pick Zero _ not_so not_so))))))))))

  commanded_zero : (b : ℕ) → Zero (commanded b s).state
  unfolding commanded accepted reset
  commanded_zero b =
      by_pick (λ (r : Reply). Zero r.state) _ (λ e. gone e refl)
      (by_pick (λ (r : Reply). Zero r.state) _ not_so
      (by_pick (λ (r : Reply). Zero r.state) _ not_so
      (by_pick (λ (r : Reply). Zero r.state) _ (carried_zero b (code_of b) _) not_so)))

  command_zero : (k : ℕ) (c : Call) → is_command k c s ≡ true → Zero (step c s).state
  unfolding R.stepped
  command_zero k c e = let h : Issued k c s = issued k c s e in rw h.leaves (commanded_zero h.byte)

-- a selection is a command
selection_command : (c : Call) (s : State) → is_selection c s ≡ true → (k : ℕ) × (is_command k c s ≡ true)
unfolding is_selection is_command is_command_of both
selection_command (pointer m b) s e = clash e refl
selection_command auxiliary s e = clash e refl
selection_command (register m b) s e =
    let f : both (is_set m) (both (eqb s.status.pointer 0x18) (is_select_code (code_of b))) ≡ true = both_second (is_good (register m b)) _ e in
    let g : both (eqb s.status.pointer 0x18) (is_select_code (code_of b)) ≡ true = both_second (is_set m) _ f in
    let u : is_good (register m b) ≡ true = both_first _ _ e in
    let v : is_set m ≡ true = both_first _ _ f in
    let w : eqb s.status.pointer 0x18 ≡ true = both_first _ _ g in
    (code_of b, rw (u, v, w) (eq-eqb (code_of b) (code_of b) refl))
selection_command (block m l) s e = clash e refl
selection_command (time n) s e = clash e refl
selection_command answer s e = clash e refl
selection_command (reselection lines) s e = clash e refl
selection_command (request p b q) s e = clash e refl
selection_command free s e = clash e refl

begins_at_zero : (c : Call) (s : State) → Selects step c s → (step c s).state.wire.elapsed ≡ 0
begins_at_zero c s h = let k = selection_command c s h.command in command_zero s h.apart k.0 c k.1 h.selecting

-- a reached state that selects does so by a command that goes on
at_work : {single : Bool} {n : ℕ} {x : Activity} {c : Connection} {d : Direction} {f : Fifo} {atn ack : Bool} {w : Option Phase}
    → is_selecting c ≡ true → Shape single n x c d f atn ack w → goes_on x ≡ true
at_work e (idle a b c apart) = clash e refl
at_work e (idle a b c joined) = clash e refl
at_work e (selects a b c) = refl
at_work e (waits a b) = clash e refl
at_work e (selects_and_transfers a b) = clash e refl
at_work e (transfers_info a b) = clash e refl
at_work e (ending a b apart) = clash e refl
at_work e (ending a b joined) = clash e refl
at_work e (read_out a b) = clash e refl

pub selecting_goes : (l : List Call) → (run step l fresh).wire.connection ≡ Selecting → goes_on (run step l fresh).activity ≡ true
selecting_goes l y = at_work (ap is_selecting y) (reached l).shape

-- one more call of a selection that goes on
module _ (l : List Call) (c : Call) (y : (run step l fresh).wire.connection ≡ Selecting) (a : is_answer c ≡ false)
    (e : (run step (l ++ (c ∷ [])) fresh).wire.connection ≡ Selecting) where
  one_more_ticks : Ticks (units c) (run step l fresh) (run step (l ++ (c ∷ [])) fresh)
  one_more_ticks =
      let r : run step (l ++ (c ∷ [])) fresh ≡ (step c (run step l fresh)).state = run_more step l c fresh in
      let x : (step c (run step l fresh)).state.wire.connection ≡ Selecting = sym (ap (λ (t : State). t.wire.connection) r) ∙ e in
      subst (λ (t : State). Ticks (units c) (run step l fresh) t) (sym r) (elapsed_grows c (run step l fresh) y (selecting_goes l y) a x)

pub data HasWaited (l : List Call) : Type 0 where
  waits_for : (n : ℕ) → Waited step n l → (run step l fresh).wire.elapsed ≤ n → HasWaited l

one_more : (l : List Call) (c : Call) → ((run step l fresh).wire.connection ≡ Selecting → HasWaited l)
    → (run step (l ++ (c ∷ [])) fresh).wire.connection ≡ Selecting → HasWaited (l ++ (c ∷ []))
one_more l c h e =
    ⊎_elim
    (λ b. waits_for 0 (begun l c b)
    (omega (arith, ap (λ (t : State). t.wire.elapsed) (run_more step l c fresh), begins_at_zero c (run step l fresh) b)))
    (λ y. goes_on_lem (h y.0) y.0 y.1 (one_more_ticks l c y.0 y.1 e))
    (since_end l c (selections_begun.begun (l ++ (c ∷ [])) e))
  where
    goes_on_lem : HasWaited l → (run step l fresh).wire.connection ≡ Selecting → is_answer c ≡ false
        → Ticks (units c) (run step l fresh) (run step (l ++ (c ∷ [])) fresh) → HasWaited (l ++ (c ∷ []))
    goes_on_lem (waits_for n w m) y a g = waits_for (n + units c) (passed l c w y a) (omega (arith, g.most))

pub has_waited : (l : List Call) → (run step l fresh).wire.connection ≡ Selecting → HasWaited l
unfolding run
has_waited l =
    by_calls (λ (m : List Call). (run step m fresh).wire.connection ≡ Selecting → HasWaited m) (λ e. clash (ap is_selecting e) refl) one_more l

-- all of these units have added up, where register 02 is not 0
pub all_added : {n : ℕ} {l : List Call} → Waited step n l → (run step l fresh).wire.connection ≡ Selecting
    → eqb (run step l fresh).registers.setup.timeout 0 ≡ false → n ≤ (run step l fresh).wire.elapsed
all_added (begun l c b) e z = omega arith
all_added (passed l c w y a) e z =
    let g = one_more_ticks l c y a e in
    let z' : eqb (run step l fresh).registers.setup.timeout 0 ≡ false = rw g.timeout at z in
    omega (arith, all_added w y z', g.least z')
