-- BSY and INT are never both set, and the rules that asked for it are gone without a trace.
--   not_both     no state has both, whatever led to it
--   never_both   the law of the controller's step
--   agree        the step with the old rules in front, and the step: the same after every list of calls from a fresh controller
--   holds_time_differs, sleeps_differs   .. which is not so of wrong steps
use Rattle.std.specs.Prelude.{Option}
use mathlib.Core.Path.{◌≡◌, refl, ap, ◌∙◌}
use mathlib.Core.Bool.{Bool, true, false, true≢false, false≢true}
use mathlib.Core.List.{List, [], ◌∷◌}
use Prim.Native.Nat.{ℕ}
use lib.Dec.{eqb}
use Rattle.chip.specs.Choice.{pick, both}
use Rattle.chip.specs.State.{fresh}
use Rattle.chip.specs.Answers.{number}
use Rattle.chip.specs.Interrupts.{busy, unless_interrupt}
use Rattle.chip.specs.Activity.{is_interrupt, is_running}
use Rattle.chip.specs.Events as E
use Rattle.chip.specs.Events.{passed, answered_selecting, answered}
use Rattle.chip.specs.Calls.{Call, Outcome, pointer, auxiliary, register, block, time, answer, reselection, request, free, is_good, plain, carried, lent_by, step, run}
use Rattle.chip.specs.declared.State.{State}
use Rattle.chip.specs.declared.Reply.{Reply}
use Rattle.chip.specs.declared.Answer.TheVariants.{BadNumber}
use Rattle.chip.specs.declared.Fifo.{Fifo}
use Rattle.chip.specs.declared.Direction.{Direction}
use Rattle.chip.specs.declared.Connection.{Connection}
use Rattle.chip.specs.declared.Activity.{Activity}
use Rattle.chip.specs.declared.Activity.TheVariants.{Idle, Interrupt, Runs, Ends, ReadOut}
use Rattle.chip.specs.declared.Phase.{Phase}
use Rattle.chip.proofs.Computing.{everything}
use Rattle.chip.proofs.Cases.{passed_over}
use Rattle.reached.specs.Sound.{Shape, idle, selects, waits, selects_and_transfers, transfers_info, ending, read_out, unasked, told, apart, joined, Sound}
use Rattle.reached.specs.NeverBoth.{is_both, NeverBoth}
use Rattle.reached.specs.Before.{passed_before, answered_before, unless_both, carried_before, before, Agree}
use Rattle.reached.specs.Wrong.{holds_time, sleeps}
use Rattle.reached.proofs.Shapes.{being}
use Rattle.reached.proofs.Laws.{kept, fresh_sound, reached}

both_no : (t : Bool) → both t false ≡ false
unfolding both
both_no true = refl
both_no false = refl

one_of_them : (a : Activity) → both (is_running a) (is_interrupt a) ≡ false
unfolding both
one_of_them Idle = refl
one_of_them Interrupt = refl
one_of_them (Runs r) = both_no (is_running (Runs r))
one_of_them (Ends r k) = both_no (is_running (Ends r k))
one_of_them (ReadOut r) = both_no (is_running (ReadOut r))

pub not_both : (s : State) → is_both s ≡ false
unfolding busy
not_both s = one_of_them s.activity

pub never_both : NeverBoth step
never_both l = not_both (run step l fresh)

-- ---- the old rules, by the shape

module _ (s : State) where
  time_same : (t : ℕ) {single : Bool} {n : ℕ} {x : Activity} {c : Connection} {d : Direction} {q : Fifo} {atn ack : Bool} {w : Option Phase}
      → Shape single n x c d q atn ack w → passed_before t (being x c d q atn ack w s) ≡ passed t (being x c d q atn ack w s)
  unfolding passed_before passed E.selects pick both
  time_same t (idle unasked o h apart) = refl
  time_same t (idle told o h apart) = refl
  time_same t (idle unasked o h joined) = refl
  time_same t (idle told o h joined) = refl
  time_same t (selects k o h) = refl
  time_same t (waits k h) = refl
  time_same t (selects_and_transfers k h) = refl
  time_same t (transfers_info h e) = refl
  time_same t (ending k h apart) = refl
  time_same t (ending k h joined) = refl
  time_same t (read_out k h) = refl

  answer_same : {single : Bool} {n : ℕ} {x : Activity} {c : Connection} {d : Direction} {q : Fifo} {atn ack : Bool} {w : Option Phase}
      → Shape single n x c d q atn ack w → answered_before (being x c d q atn ack w s) ≡ answered (being x c d q atn ack w s)
  unfolding answered_before answered answered_selecting E.answered_elsewhere unless_interrupt E.selects pick both
  answer_same (idle unasked o h apart) = refl
  answer_same (idle told o h apart) = refl
  answer_same (idle unasked o h joined) = refl
  answer_same (idle told o h joined) = refl
  answer_same (selects k o h) = refl
  answer_same (waits k h) = refl
  answer_same (selects_and_transfers k h) = refl
  answer_same (transfers_info h e) = refl
  answer_same (ending k h apart) = refl
  answer_same (ending k h joined) = refl
  answer_same (read_out k h) = refl

unless_same : (s : State) (r : Reply) → unless_both s r ≡ r
unfolding unless_both
unless_same s r = passed_over _ _ (not_both s)

module _ (s : State) (x : Sound s) where
  carried_same : (c : Call) → carried_before c s ≡ carried c s
  unfolding carried_before carried
  carried_same (pointer m b) = refl
  carried_same auxiliary = refl
  carried_same (register m b) = refl
  carried_same (block m l) = refl
  carried_same (time n) = ap plain (time_same s n x.shape)
  carried_same answer = ap plain (answer_same s x.shape)
  carried_same (reselection lines) = refl
  carried_same (request p b q) = ap plain (unless_same s _)
  carried_same free = ap plain (unless_same s _)

  step_same : (c : Call) → before c s ≡ step c s
  unfolding before step
  step_same c = ap (λ (o : Outcome). pick (is_good c) o (record { answer = BadNumber; state = s; lent = lent_by c })) (carried_same c)

run_same : (l : List Call) (s : State) → Sound s → run before l s ≡ run step l s
unfolding run
run_same [] s x = refl
run_same (c ∷ l) s x =
    ap (λ (o : Outcome). run before l o.state) (step_same s x c) ∙ run_same l (step c s).state (kept c s x)

pub agree : Agree before step
agree =
    record {
      same_state = λ l. run_same l fresh fresh_sound;
      same_outcome = λ l c. ap (before c) (run_same l fresh fresh_sound) ∙ step_same (run step l fresh) (reached l) c;
    }

-- Reset, and a Time with its status unread
pub holds_time_differs : Agree holds_time step → ⊥
unfolding everything holds_time
holds_time_differs h =
    true≢false (ap (λ (o : Outcome). eqb (number o.answer) 1) (h.same_outcome (pointer 1 0x18 ∷ register 1 0x00 ∷ []) (time 1)))

-- a selection that times out
pub sleeps_differs : Agree sleeps step → ⊥
unfolding everything sleeps
sleeps_differs h =
    false≢true
    (ap (λ (s : State). is_interrupt s.activity)
    (h.same_state (pointer 1 0x02 ∷ register 1 0x01 ∷ pointer 1 0x18 ∷ register 1 0x06 ∷ time 1 ∷ [])))
