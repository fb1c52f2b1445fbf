-- Paper 02, Req 14: "Show that no sequence of calls from a fresh state has BSY and INT both set, then remove the rule and its test."
--   is_both s      BSY and INT are both set in s
--   NeverBoth f   a step's law: no list of calls from a fresh controller leads to such a state
-- It was proved of the step with the rule, and of its type of states, in which both could be set. Now no state can be written down that
-- has both, so that it holds of every step. What is left to say is that nothing else has changed: specs/Before.antt.
use Rattle.std.specs.Prelude.{◌≡◌, Bool, false, List}
use Rattle.chip.specs.Choice.{both}
use Rattle.chip.specs.State.{fresh}
use Rattle.chip.specs.Interrupts.{interrupted, busy}
use Rattle.chip.specs.Calls.{Call, Outcome, run}
use Rattle.chip.specs.declared.State.{State}

abbrev pub is_both : State → Bool
is_both s = both (busy s) (interrupted s)

abbrev pub NeverBoth : (Call → State → Outcome) → Type 0
NeverBoth f = (l : List Call) → is_both (run f l fresh) ≡ false
