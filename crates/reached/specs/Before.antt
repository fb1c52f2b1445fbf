-- The rules as they were before Req 14 took tests away (paper 02), and that nobody can tell.
--   passed_before     Time, with "A Time event while a selection runs with INT set is Held too."
--   answered_before   Answer, with the tests for an ending and for INT
--   unless_both       the test in front of a Request and a Free: BSY and INT both set
--   before           the step with these rules
--   Agree f g        two steps give the same to every call, after every list of calls from a fresh controller
use Rattle.std.specs.Prelude.{◌≡◌, List, ℕ}
use Rattle.chip.specs.Choice.{pick}
use Rattle.chip.specs.State.{fresh, set_phase}
use Rattle.chip.specs.Activity.{is_select_and_transfer}
use Rattle.chip.specs.Connections.{is_selecting}
use Rattle.chip.specs.Phases.{phase_of}
use Rattle.chip.specs.Answers.{done, held, out_of_place}
use Rattle.chip.specs.Interrupts.{interrupted, in_ending, raise, unless_interrupt}
use Rattle.chip.specs.Events.{selection_time, answered_state, requested, freed}
use Rattle.chip.specs.Calls.{Call, Outcome, pointer, auxiliary, register, block, time, answer, reselection, request, free, is_good, is_set, plain, carried, lent_by, run}
use Rattle.chip.specs.declared.State.{State}
use Rattle.chip.specs.declared.Reply.{Reply}
use Rattle.chip.specs.declared.Answer.TheVariants.{BadNumber}
use Rattle.reached.specs.NeverBoth.{is_both}

unfoldable pub passed_before : ℕ → State → Reply
passed_before n s =
    pick (in_ending s) (done 0 s)
    (pick (is_selecting s.wire.connection) (pick (interrupted s) (held s) (selection_time n s)) (done 0 s))

unfoldable pub answered_before : State → Reply
answered_before s =
    pick (is_selecting s.wire.connection)
    (pick (in_ending s) (held s)
    (pick (is_select_and_transfer s.activity) (done 0 (set_phase 0x10 (answered_state s)))
    (unless_interrupt s (done 0 (raise 0x11 (answered_state s))))))
    (out_of_place s)

unfoldable pub unless_both : State → Reply → Reply
unless_both s r = pick (is_both s) (held s) r

unfoldable pub carried_before : Call → State → Outcome
carried_before (pointer m b) s = carried (pointer m b) s
carried_before auxiliary s = carried auxiliary s
carried_before (register m b) s = carried (register m b) s
carried_before (block m l) s = carried (block m l) s
carried_before (time n) s = plain (passed_before n s)
carried_before answer s = plain (answered_before s)
carried_before (reselection lines) s = carried (reselection lines) s
carried_before (request p b q) s = plain (unless_both s (requested (phase_of p) b (is_set q) s))
carried_before free s = plain (unless_both s (freed s))

unfoldable pub before : Call → State → Outcome
before c s = pick (is_good c) (carried_before c s) (record { answer = BadNumber; state = s; lent = lent_by c })

pub record Agree (f g : Call → State → Outcome) : Type 0 where
  pub same_state : (l : List Call) → run f l fresh ≡ run g l fresh
  pub same_outcome : (l : List Call) (c : Call) → f c (run f l fresh) ≡ g c (run g l fresh)
