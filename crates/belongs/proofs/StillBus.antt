-- The law of specs/StillBus.antt holds of the step.
--   still_bus    while something is pending for the host, no bus event changes the controller
--   unread_still   .. a status that nobody has read
use mathlib.Core.Path.{◌≡◌, refl, ap, ◌∙◌}
use mathlib.Core.Bool.{Bool, true, false}
use Prim.Native.Nat.{ℕ}
use Rattle.chip.specs.Choice.{pick, both}
use Rattle.chip.specs.Lines.{qualifies}
use Rattle.chip.specs.Answers.{held, out_of_place}
use Rattle.chip.specs.Activity.{goes_on, is_select_and_transfer, is_transfer_info}
use Rattle.chip.specs.Interrupts.{interrupted, unless_interrupt, in_ending}
use Rattle.chip.specs.Connections.{is_waiting, is_connected}
use Rattle.chip.specs.Events as E
use Rattle.chip.specs.Calls.{Call, step}
use Rattle.chip.specs.declared.State.{State}
use Rattle.chip.specs.declared.Reply.{Reply}
use Rattle.chip.specs.declared.Phase.{Phase}
use Rattle.chip.specs.declared.Activity.TheVariants.{Interrupt}
use Rattle.chip.proofs.Cases.{by_pick, by_case, by_test, either_second, passed_over, taken}
use Rattle.unread.specs.Ending.{is_event, is_refusal, Untouched}
use Rattle.unread.proofs.Choosing.{clash, second_fails}
use Rattle.unread.proofs.Unread.{int_pending}
use Rattle.unread.proofs.Ending.{Refuses, Stands, stands_still, ending_is_still}
use Rattle.belongs.specs.StillBus.{StillBus}

module _ (s : State) (i : interrupted s ≡ true) where
  -- no command runs
  int : s.activity ≡ Interrupt
  int = (int_pending s).0 i

  abbrev Back : Reply → Type 0
  Back r = Refuses s r

  abbrev Holds : Reply → Type 0
  Holds r = r ≡ held s

  holds : (r : Reply) → Holds (unless_interrupt s r)
  unfolding unless_interrupt
  holds r = taken _ _ i

  -- no selection runs, and no Select-And-Transfer waits for reselection
  no_selection : E.selects s ≡ false
  unfolding E.selects
  no_selection = second_fails _ _ (ap goes_on int)

  no_transfer : is_select_and_transfer s.activity ≡ false
  no_transfer = ap is_select_and_transfer int

  no_info : is_transfer_info s.activity ≡ false
  no_info = ap is_transfer_info int

  not_awaited : (lines : ℕ) → both (is_waiting s.wire.connection) (E.names_target lines s) ≡ false
  unfolding E.names_target both
  not_awaited lines = second_fails (is_waiting s.wire.connection) (E.names_target lines s) (rw no_transfer)

  held_back : {r : Reply} → Holds r → Back r
  held_back e = record { same = ap (λ (x : Reply). x.state) e; refused = ap (λ (x : Reply). is_refusal x.answer) e }

  idle_holds : (p : Phase) → Holds (E.idle_request p s)
  unfolding E.idle_request
  idle_holds p = by_pick Holds _ refl (holds _)

  request_holds : (p : Phase) (b : ℕ) (bad : Bool) → Holds (E.requested_connected p b bad s)
  unfolding E.requested_connected E.requested_running
  request_holds p b bad =
      by_pick Holds _ refl
      (by_pick Holds _ refl
      (passed_over _ _ no_transfer ∙ passed_over _ _ no_info ∙ idle_holds p))

  free_holds : Holds (pick (in_ending s) (held s) (E.freed_running s))
  unfolding E.freed_running E.idle_free
  free_holds =
      by_pick Holds _ refl
      (passed_over _ _ no_transfer ∙ passed_over _ _ no_info ∙ holds _)

  request_back : (p : Phase) (b : ℕ) (bad : Bool) → Back (E.requested p b bad s)
  unfolding E.requested
  request_back p b bad =
      by_pick (λ (r : Reply). Back (E.remembered p r)) _ (held_back (ap (λ (r : Reply). E.remembered p r) (request_holds p b bad) ∙ still))
      (unfold E.remembered in record { same = refl; refused = refl })
    where
      still : E.remembered p (held s) ≡ held s
      still = unfold E.remembered in refl

  reselection_back : (lines : ℕ) → Back (pick (is_connected s.wire.connection) (out_of_place s) (E.reselected_apart lines s))
  unfolding E.reselected_apart E.reselected_with_code
  reselection_back lines =
      by_pick Back _ (record { same = refl; refused = refl })
      (held_back (by_pick Holds _ refl (by_case Holds _ (λ w. clash w (not_awaited lines)) (λ w. holds _))))

  unread_stands : Stands s
  unfolding E.passed E.answered E.answered_elsewhere E.reselected E.freed
  unread_stands =
      record {
        time = λ n. passed_over _ _ no_selection;
        answer = by_case Back _ (λ x. clash x no_selection)
            (λ x. by_pick Back _ (record { same = refl; refused = refl }) (record { same = refl; refused = refl }));
        reselection = λ lines. by_pick Back (qualifies lines s) (reselection_back lines) (record { same = refl; refused = refl });
        request = request_back;
        free = by_pick Back _ (held_back free_holds) (record { same = refl; refused = refl });
      }

  pub unread_still : (c : Call) → is_event c ≡ true → Untouched step c s
  unread_still c v = stands_still unread_stands c v

pub still_bus : StillBus step
still_bus c s o v = by_test (interrupted s) (λ i. unread_still s i c v) (λ i. ending_is_still c s (either_second (interrupted s) _ o i) v)
