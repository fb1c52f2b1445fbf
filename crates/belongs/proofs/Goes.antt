-- The table of specs/Connection.antt is complete: each row leaves the connection that it says, from every state.
--   goes_there    of every row
--   to            the connection of the state that a reply leads to
--   ended_stays   an ending leaves it
--   reset_parts free_parts free_waits   the rows of Reset and Free
use mathlib.Core.Path.{◌≡◌, refl, ap, ◌∙◌}
use mathlib.Core.Bool.{Bool, true, false, not}
use Prim.Native.Nat.{ℕ, ◌+◌}
use lib.Dec.{eqb, leb}
use borrow.Author.Tests.{not-true}
use Rattle.chip.specs.Choice.{pick, both}
use Rattle.chip.specs.Lines.{idi, qualifies}
use Rattle.chip.specs.Interrupts.{interrupted, raise, ending_with, unless_interrupt, outgoing_dropped, bytes_unread}
use Rattle.chip.specs.Activity.{is_running, goes_on, is_select_and_transfer}
use Rattle.chip.specs.TransferInfo as I
use Rattle.chip.specs.SelectAndTransfer as X
use Rattle.chip.specs.Commands.{is_valid, aborted, selecting, select_and_transfer_begun, carried_out, accepted}
use Rattle.chip.specs.Connections.{is_connected}
use Rattle.chip.specs.Registers as R
use Rattle.chip.specs.Events as E
use Rattle.chip.specs.Calls.{Call, Outcome, time, answer, reselection, free, is_good, plain, carried, step}
use Rattle.chip.specs.declared.State.{State}
use Rattle.chip.specs.declared.Reply.{Reply}
use Rattle.chip.specs.declared.Connection.{Connection}
use Rattle.chip.specs.declared.Connection.TheVariants.{Disconnected, Selecting, Waiting, Connected}
use Rattle.chip.specs.declared.Command.{Command}
use Rattle.chip.proofs.Cases.{by_pick, by_case, both_first, both_second, taken, passed_over}
use Rattle.unread.specs.Status.{is_command, is_reset, is_select_code, is_disconnect}
use Rattle.unread.specs.Because.{Quiet}
use Rattle.unread.proofs.Choosing.{clash}
use Rattle.unread.proofs.Host.{each_select}
use Rattle.unread.proofs.Told.{good_step, Issued, issued}
use Rattle.unread.proofs.Rows.{taken_command, abort_taken, kept_free, selecting_now}
use Rattle.unread.proofs.Pendings.{int_by, end_by, going_quiet}
use Rattle.unread.proofs.Asked.{transfer_freed}
use Rattle.unread.proofs.Bytes.{ending_stays}
use Rattle.unread.proofs.Placed.{place}
use Rattle.belongs.specs.Connection as C
use Rattle.belongs.specs.Connection.{lets_go, Goes}

abbrev pub to : Reply → Connection
to r = r.state.wire.connection

-- an ending leaves it
pub ended_stays : (k : ℕ) (t : State) → place (ending_with k t) ≡ place t
unfolding ending_with raise outgoing_dropped
ended_stays k t = by_pick (λ (u : State). place u ≡ place t) _ refl refl

-- the table is complete: each row leaves what it says, from every state

pub reset_parts : (c : Call) (s : State) → is_reset c s ≡ true → place (step c s).state ≡ Disconnected
reset_parts c s e = (ending_stays.reset_whole c s e).connection

disconnect_parts : (c : Call) (s : State) → is_disconnect c s ≡ true → interrupted s ≡ false → place (step c s).state ≡ Disconnected
disconnect_parts c s d i = (ending_stays.dropped_whole c s d i).connection

module _ (c : Call) (s : State) where
  abort_parts : is_command 0x01 c s ≡ true → goes_on s.activity ≡ true → is_connected (place s) ≡ false
      → place (step c s).state ≡ Disconnected
  unfolding R.stepped aborted accepted raise outgoing_dropped
  abort_parts e on x =
      let h : Issued 0x01 c s = issued 0x01 c s e in
      rw (h.leaves, abort_taken c s (going_quiet s on) on h.byte h.code) (ap place (passed_over _ _ x))

  module _ (q : Quiet s) (idle : is_running s.activity ≡ false) (x : place s ≡ Disconnected) where
    transferring_selects : (r : Command) (b : ℕ) → place (select_and_transfer_begun r (accepted b s)) ≡ Selecting
    unfolding select_and_transfer_begun selecting accepted
    transferring_selects r b = ap place (passed_over _ _ (ap is_connected x))

    carried_selects : (k b : ℕ) (single : Bool) → is_select_code k ≡ true → place (carried_out k single (accepted b s)) ≡ Selecting
    unfolding carried_out selecting pick
    carried_selects k b single w =
        each_select (λ (j : ℕ). place (carried_out j single (accepted b s)) ≡ Selecting) k w refl refl (transferring_selects _ b)
        (transferring_selects _ b)

    select_selects : (k : ℕ) → is_command k c s ≡ true → is_select_code k ≡ true → is_valid k s ≡ true → place (step c s).state ≡ Selecting
    unfolding R.stepped
    select_selects k e w v =
        let h : Issued k c s = issued k c s e in
        let n : eqb k 0x00 ≡ false = each_select (λ (j : ℕ). eqb j 0x00 ≡ false) k w refl refl refl refl in
        rw (h.leaves, taken_command c s q h.byte (rw h.code n) (kept_free c s q idle _) (rw h.code v))
        (carried_selects _ h.byte _ (rw h.code w))

-- an event, by what it comes to
comes : (c : Call) (s : State) (r : Reply) {x : Connection} → is_good c ≡ true → carried c s ≡ plain r → to r ≡ x → place (step c s).state ≡ x
comes c s r g e h = ap (λ (o : Outcome). place o.state) (good_step c s g ∙ e) ∙ h

module _ (s : State) (on : goes_on s.activity ≡ true) (x : place s ≡ Selecting) where
  time_parts : (n : ℕ) → is_good (time n) ≡ true → eqb s.registers.setup.timeout 0 ≡ false
      → leb s.registers.setup.timeout (s.wire.elapsed + n) ≡ true → place (step (time n) s).state ≡ Disconnected
  unfolding carried E.passed E.selection_time E.timed_out raise outgoing_dropped
  time_parts n g t l =
      comes (time n) s (E.passed n s) g refl (ap to (taken _ _ (selecting_now s on x) ∙ passed_over _ _ t ∙ taken _ _ l))

  answer_joins : place (step answer s).state ≡ Connected
  unfolding carried E.answered E.answered_selecting E.answered_state E.connected raise outgoing_dropped is_good
  answer_joins =
      comes answer s (E.answered s) refl refl (ap to (taken _ _ (selecting_now s on x)) ∙ by_pick Joins _ refl refl)
    where
      Joins : Reply → Type 0
      Joins r = to r ≡ Connected

module _ (s : State) (q : Quiet s) where
  open_to : (r : Reply) → unless_interrupt s r ≡ r
  unfolding unless_interrupt
  open_to r = passed_over _ _ (int_by s q)

  reselection_joins : (lines : ℕ) → is_good (reselection lines) ≡ true → qualifies lines s ≡ true → is_connected (place s) ≡ false
      → place (step (reselection lines) s).state ≡ Connected
  unfolding carried E.reselected E.reselected_with_code E.reselected_apart E.reselected_state E.connected raise outgoing_dropped
  reselection_joins lines g f x =
      comes (reselection lines) s (E.reselected lines s) g refl
      (ap to (taken _ _ f ∙ passed_over _ _ x ∙ passed_over _ _ (end_by s q)) ∙ by_pick Joins _ refl (ap to (open_to _)))
    where
      Joins : Reply → Type 0
      Joins r = to r ≡ Connected

  module _ (x : place s ≡ Connected) where
    free_comes : {y : Connection} → to (E.freed_running s) ≡ y → place (step free s).state ≡ y
    unfolding carried E.freed is_good
    free_comes h =
        comes free s (E.freed s) refl refl (ap to (taken _ _ (ap is_connected x) ∙ passed_over _ _ (end_by s q)) ∙ h)

    abbrev Parts : Reply → Type 0
    Parts r = to r ≡ Disconnected

    transfer_parts : both (both (eqb s.registers.descriptor.phase 0x42) (not (idi s))) (not (bytes_unread s)) ≡ false → Parts (X.select_and_transfer_free s (E.bus_free s))
    unfolding X.select_and_transfer_free X.free_after_disconnect X.free_to_wait E.bus_free both
    transfer_parts e =
        by_case Parts _
        (λ p. by_case Parts _ (λ d. ended_stays _ _)
        (λ d. by_case Parts _ (λ u. refl) (λ u. clash refl (rw (p, d, u) at e))))
        (λ p. ended_stays _ _)

    pub free_parts : both (lets_go s) (not (bytes_unread s)) ≡ false → Parts (E.freed_running s)
    unfolding E.freed_running I.transfer_info_free lets_go E.idle_free E.bus_free raise outgoing_dropped both
    free_parts e =
        by_case Parts _ (λ t. transfer_parts (rw t at e))
        (λ t. by_pick Parts _ (ended_stays _ _) (ap to (open_to _)))

    pub free_waits : lets_go s ≡ true → bytes_unread s ≡ false → to (E.freed_running s) ≡ Waiting
    unfolding lets_go X.select_and_transfer_free X.free_after_disconnect X.free_to_wait
    free_waits e u =
        let f : both (eqb s.registers.descriptor.phase 0x42) (not (idi s)) ≡ true = both_second (is_select_and_transfer s.activity) _ e in
        ap to
        (transfer_freed s q x (both_first _ _ e) ∙ taken _ _ (both_first _ _ f)
        ∙ passed_over _ _ (not-true _ (both_second (eqb s.registers.descriptor.phase 0x42) _ f))
        ∙ passed_over _ _ u)

pub goes_there : {c : Call} {s : State} {x : Connection} → Goes c s x → place (step c s).state ≡ x
goes_there {c} {s} (C.resets e) = reset_parts c s e
goes_there {c} {s} (C.disconnects e i) = disconnect_parts c s e i
goes_there {c} {s} (C.aborts e on x) = abort_parts c s e on x
goes_there {s = s} (C.times_out {n} g on x t l) = time_parts s on x n g t l
goes_there {c} {s} (C.selects k e w q i x v) = select_selects c s q i x k e w v
goes_there {s = s} (C.answers on x) = answer_joins s on x
goes_there {s = s} (C.reselects {lines} g q f x) = reselection_joins s q lines g f x
goes_there {s = s} (C.frees q x e) = free_comes s q x (free_parts s q x e)
goes_there {s = s} (C.lets_go_waiting q x e u) = free_comes s q x (free_waits s q x e u)
goes_there {c} {s} (C.reads_out_rest p l) = (ending_stays.waits_then c s p l).2
