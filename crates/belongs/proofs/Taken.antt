-- Where an Answer, a Reselection or a Free is taken: in the rows of specs/Connection.antt, and nowhere else.
--   row_taken                   one that is in a row is Done
--   quiet_elsewhere elsewhere   one that is in none changes nothing, and is refused
use mathlib.Core.Path.{◌≡◌, refl, ap, ◌∙◌}
use mathlib.Core.Bool.{true, false, not}
use mathlib.Core.List.{List}
use Prim.Native.Nat.{ℕ}
use borrow.Author.Tests.{not-true}
use Rattle.chip.specs.Choice.{pick, both, either}
use Rattle.chip.specs.Lines.{qualifies}
use Rattle.chip.specs.State.{fresh}
use Rattle.chip.specs.Interrupts.{interrupted, in_ending, unless_interrupt, bytes_unread}
use Rattle.chip.specs.TransferInfo as I
use Rattle.chip.specs.SelectAndTransfer as X
use Rattle.chip.specs.Connections.{is_connected, is_selecting}
use Rattle.chip.specs.Events as E
use Rattle.chip.specs.Calls.{Call, Outcome, pointer, auxiliary, register, block, time, answer, reselection, request, free, is_good, plain, carried, step, run}
use Rattle.chip.specs.declared.State.{State}
use Rattle.chip.specs.declared.Reply.{Reply}
use Rattle.chip.specs.declared.Answer.TheVariants.{Done}
use Rattle.chip.specs.declared.Connection.{Connection}
use Rattle.chip.specs.declared.Connection.TheVariants.{Disconnected, Waiting, Connected}
use Rattle.chip.proofs.Cases.{by_pick, by_case, by_test, both_first, both_second, either_first, either_rest, taken, passed_over}
use Rattle.unread.specs.Status.{is_command_of, is_command, is_reset, is_disconnect, reads_at}
use Rattle.unread.specs.Because.{Quiet, ReadsLast, byte, slice}
use Rattle.unread.specs.Ending.{is_event, Untouched}
use Rattle.unread.proofs.Choosing.{clash}
use Rattle.unread.proofs.Pendings.{int_by, end_by, quiet_of}
use Rattle.unread.proofs.Rows.{selecting_now}
use Rattle.unread.proofs.Told.{good_step}
use Rattle.unread.proofs.Ending.{Refuses, refuses, refuses_bad}
use Rattle.belongs.specs.StillBus.{is_pending}
use Rattle.belongs.specs.Connection as C
use Rattle.belongs.specs.Connection.{Goes, lets_go, is_caller}
use Rattle.belongs.proofs.StillBus.{still_bus}
use Rattle.chip.proofs.Numbers.{is_connected_lem, is_selecting_lem}

module _ (s : State) (q : Quiet s) where
  abbrev Takes : Reply → Type 0
  Takes r = r.answer ≡ Done 0

  unless_int : (r : Reply) → Takes r → Takes (unless_interrupt s r)
  unfolding unless_interrupt
  unless_int r h = by_case Takes _ (λ i. clash i (int_by s q)) (λ i. h)

  unless_ends : (r a : Reply) → Takes r → Takes (pick (in_ending s) a r)
  unless_ends r a h = by_case Takes _ (λ e. clash e (end_by s q)) (λ e. h)

  with_code_takes : (lines : ℕ) → Takes (E.reselected_with_code lines s)
  unfolding E.reselected_with_code
  with_code_takes lines = unless_int _ refl

  reselection_takes : (lines : ℕ) → Takes (E.reselected_apart lines s)
  unfolding E.reselected_apart
  reselection_takes lines = unless_ends _ _ (by_pick Takes _ refl (with_code_takes lines))

  transfer_takes : Takes (X.select_and_transfer_free s (E.bus_free s))
  unfolding X.select_and_transfer_free X.free_after_disconnect X.free_to_wait
  transfer_takes =
      by_pick Takes _ (by_pick Takes _ refl (by_pick Takes _ refl refl)) refl

  freed_takes : Takes (E.freed_running s)
  unfolding E.freed_running I.transfer_info_free E.idle_free
  freed_takes = by_pick Takes _ transfer_takes (by_pick Takes _ refl (unless_int _ refl))

-- an Answer to a selection that runs
answer_takes : (s : State) → (E.answered_selecting s).answer ≡ Done 0
unfolding E.answered_selecting
answer_takes s = by_pick (λ (r : Reply). r.answer ≡ Done 0) _ refl refl

-- an event by what it comes to
comes : (c : Call) (s : State) (r : Reply) → is_good c ≡ true → carried c s ≡ plain r → r.answer ≡ Done 0 → (step c s).answer ≡ Done 0
comes c s r g e h = ap (λ (o : Outcome). o.answer) (good_step c s g ∙ e) ∙ h

free_taken : (s : State) → Quiet s → s.wire.connection ≡ Connected → (step free s).answer ≡ Done 0
unfolding carried E.freed is_good
free_taken s q x =
    comes free s (E.freed s) refl refl
    (ap (λ (r : Reply). r.answer) (taken _ _ (ap is_connected x)) ∙ unless_ends s q _ _ (freed_takes s q))

-- an event is no command, and reads nothing
no_command : (k : ℕ) (c : Call) (s : State) → is_caller c ≡ true → is_command k c s ≡ false
unfolding is_command is_command_of either
no_command k (pointer m b) s v = refl
no_command k auxiliary s v = refl
no_command k (register m b) s v = clash v refl
no_command k (block m l) s v = refl
no_command k (time n) s v = refl
no_command k answer s v = refl
no_command k (reselection lines) s v = refl
no_command k (request p b q) s v = refl
no_command k free s v = refl

no_reading : (c : Call) (s : State) → is_caller c ≡ true → reads_at 0x19 c s ≡ false
unfolding reads_at either
no_reading (pointer m b) s v = refl
no_reading auxiliary s v = refl
no_reading (register m b) s v = clash v refl
no_reading (block m l) s v = refl
no_reading (time n) s v = refl
no_reading answer s v = refl
no_reading (reselection lines) s v = refl
no_reading (request p b q) s v = refl
no_reading free s v = refl

no_read : {c : Call} {s : State} → is_caller c ≡ true → ReadsLast c s → ⊥
unfolding either
no_read v (byte {c} {s} e d w) = clash e (no_reading c s v)
no_read v (slice g f d w u) = clash v refl

pub row_taken : {c : Call} {s : State} {x : Connection} → is_caller c ≡ true → Goes c s x → (step c s).answer ≡ Done 0
unfolding carried E.answered E.reselected is_good is_reset is_disconnect either
row_taken v (C.resets {c} {s} e) = clash e (no_command 0x00 c s v)
row_taken v (C.disconnects {c} {s} e i) = clash (both_first _ _ e) (no_command 0x04 c s v)
row_taken v (C.aborts {c} {s} e on x) = clash e (no_command 0x01 c s v)
row_taken v (C.times_out g on x t l) = clash v refl
row_taken v (C.selects {c} {s} k e w q r x u) = clash e (no_command k c s v)
row_taken v (C.answers {s} on x) =
    comes answer s (E.answered s) refl refl (ap (λ (r : Reply). r.answer) (taken _ _ (selecting_now s on x)) ∙ answer_takes s)
row_taken v (C.reselects {lines} {s} g q f x) =
    comes (reselection lines) s (E.reselected lines s) g refl
    (ap (λ (r : Reply). r.answer) (taken _ _ f ∙ passed_over _ _ x) ∙ reselection_takes s q lines)
row_taken v (C.frees {s} q x e) = free_taken s q x
row_taken v (C.lets_go_waiting {s} q x e u) = free_taken s q x
row_taken v (C.reads_out_rest e l) = absurd (no_read v l)

-- elsewhere

module _ (s : State) (q : Quiet s) where
  abbrev Back : Reply → Type 0
  Back r = Refuses s r

  answer_elsewhere : ((x : Connection) → Goes answer s x → ⊥) → Untouched step answer s
  unfolding carried E.answered E.answered_elsewhere E.selects is_good
  answer_elsewhere n =
      refuses answer s (E.answered s) (good_step answer s refl)
      (by_case Back (E.selects s)
      (λ x. absurd (n Connected (C.answers (both_second (is_selecting s.wire.connection) _ x) (is_selecting_lem _ (both_first _ _ x)))))
      (λ x. by_pick Back _ (record { same = refl; refused = refl }) (record { same = refl; refused = refl })))

  reselection_elsewhere : (lines : ℕ) → ((x : Connection) → Goes (reselection lines) s x → ⊥) → Untouched step (reselection lines) s
  unfolding carried E.reselected
  reselection_elsewhere lines n =
      by_test (is_good (reselection lines))
      (λ g. refuses (reselection lines) s (E.reselected lines s) (good_step (reselection lines) s g)
      (by_case Back (qualifies lines s)
      (λ f. by_case Back (is_connected s.wire.connection) (λ x. record { same = refl; refused = refl })
      (λ x. absurd (n Connected (C.reselects g q f x))))
      (λ f. record { same = refl; refused = refl })))
      (refuses_bad (reselection lines) s)

  free_elsewhere : ((x : Connection) → Goes free s x → ⊥) → Untouched step free s
  unfolding carried E.freed is_good
  free_elsewhere n =
      refuses free s (E.freed s) (good_step free s refl)
      (by_case Back (is_connected s.wire.connection) (λ x. connected (is_connected_lem _ x)) (λ x. record { same = refl; refused = refl }))
    where
      connected : s.wire.connection ≡ Connected → {r : Reply} → Back r
      connected x =
          by_test (both (lets_go s) (not (bytes_unread s)))
          (λ e. absurd (n Waiting (C.lets_go_waiting q x (both_first _ _ e) (not-true _ (both_second (lets_go s) _ e)))))
          (λ e. absurd (n Disconnected (C.frees q x e)))

pub quiet_elsewhere : (c : Call) (s : State) → Quiet s → is_caller c ≡ true → ((x : Connection) → Goes c s x → ⊥) → Untouched step c s
unfolding either
quiet_elsewhere (pointer m b) s q v n = clash v refl
quiet_elsewhere auxiliary s q v n = clash v refl
quiet_elsewhere (register m b) s q v n = clash v refl
quiet_elsewhere (block m l) s q v n = clash v refl
quiet_elsewhere (time k) s q v n = clash v refl
quiet_elsewhere answer s q v n = answer_elsewhere s q n
quiet_elsewhere (reselection lines) s q v n = reselection_elsewhere s q lines n
quiet_elsewhere (request p b z) s q v n = clash v refl
quiet_elsewhere free s q v n = free_elsewhere s q n

caller_event : (c : Call) → is_caller c ≡ true → is_event c ≡ true
unfolding either
caller_event (pointer m b) v = clash v refl
caller_event auxiliary v = clash v refl
caller_event (register m b) v = clash v refl
caller_event (block m l) v = clash v refl
caller_event (time k) v = refl
caller_event answer v = refl
caller_event (reselection lines) v = refl
caller_event (request p b z) v = refl
caller_event free v = refl

pub elsewhere : (l : List Call) (c : Call) → is_caller c ≡ true → ((x : Connection) → Goes c (run step l fresh) x → ⊥)
    → Untouched step c (run step l fresh)
elsewhere l c v n =
    by_test (is_pending (run step l fresh)) (λ p. still_bus c (run step l fresh) p (caller_event c v))
    (λ p. quiet_elsewhere c (run step l fresh) (quiet_of (run step l fresh) (either_first _ _ p) (either_rest (interrupted (run step l fresh)) _ p)) v n)
