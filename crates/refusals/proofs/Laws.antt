-- What a step gives, of every call from every state.
--   Right                         the outcome stands in the table, its answer is one of the call's kind, the count is as it has to be
--   step_right                    a step's outcome is right
--   refusals_keep                 law: what each answer leaves
--   kinds_kept                    law: which answers a call can get
--   auxiliary_is_silent           law: what changes nothing
--   count_falls_only_on_the_bus   law: when the count falls
use mathlib.Core.Path.{◌≡◌, refl, sym}
use mathlib.Core.Bool.{true, false, true≢false}
use mathlib.Core.List.{List}
use Prim.Native.Nat.{ℕ}
use Rattle.chip.specs.Choice.{pick}
use Rattle.chip.specs.Phases.{phase_of}
use Rattle.chip.specs.Activity.{running_number, is_running}
use Rattle.chip.specs.Answers.{number}
use Rattle.chip.specs.Registers.{Moved, pointer_read, pointer_set, auxiliary_read, accessed}
use Rattle.chip.specs.Calls.{Call, Outcome, pointer, auxiliary, register, block, time, answer, reselection, request, free, is_good, is_set, plain, carried, lent_by, step}
use Rattle.chip.specs.declared.State.{State}
use Rattle.chip.specs.declared.Reply.{Reply}
use Rattle.chip.specs.declared.Answer.TheVariants.{BadNumber}
use Rattle.refusals.specs.Refusals.{Table, SameCount, RefusalsKeep}
use Rattle.refusals.specs.Kinds.{may, is_among, KindsKept}
use Rattle.refusals.specs.Counting.{Counting, is_request, CountFallsOnlyOnTheBus}
use Rattle.refusals.specs.Silence.{AuxiliaryIsSilent}
use Rattle.chip.proofs.Cases.{by_pick, by_case}
use Rattle.refusals.proofs.Counts.{stands}
use Rattle.refusals.proofs.Fitting.{Fits, did, stood}
use Rattle.refusals.proofs.Requests.{request_served}
use Rattle.refusals.proofs.Events.{time_served, answer_served, reselection_served, free_served}
use Rattle.refusals.proofs.Accesses.{access_fits}
use Rattle.refusals.proofs.Blocks.{access_count}
use Rattle.refusals.proofs.GoingOn.{access_goes}
use Rattle.refusals.proofs.DataRegister.{block_read_count, block_written_count}

pub record Right (c : Call) (s : State) (o : Outcome) : Type 0 where
  pub among : is_among (number o.answer) (may c) ≡ true
  pub row : Table o.answer c s o
  pub count : Counting c o.answer s o.state

right : {c : Call} {s : State} {r : Reply} → Fits c s r → Counting c r.answer s r.state → Right c s (plain r)
right h k = record { among = h.among; row = h.row; count = k }

block_count : (m : ℕ) (l : List ℕ) (s : State) → SameCount s (carried (block m l) s).state
unfolding carried
block_count m l s = by_pick (λ (x : Moved). SameCount s x.state) _ (block_written_count l s) (block_read_count l s)

carried_right : (c : Call) (s : State) → Right c s (carried c s)
unfolding carried pointer_read pointer_set auxiliary_read
carried_right (pointer m b) s =
    by_pick (λ (r : Reply). Right (pointer m b) s (plain r)) _ (right (did refl) (stands refl refl))
    (right (did refl) (stands refl refl))
carried_right auxiliary s = right (did refl) (stands refl refl)
carried_right (register m b) s = right (access_fits m b s (is_set m) b) tt
carried_right (block m l) s = record { among = refl; row = (refl, refl, tt); count = block_count m l s }
carried_right (time n) s = let h = time_served n s in right h.fits (stood h)
carried_right answer s = let h = answer_served s in right h.fits (stood h)
carried_right (reselection lines) s = let h = reselection_served lines s in right h.fits (stood h)
carried_right (request p b q) s = let h = request_served p b q s (phase_of p) b (is_set q) in right h.fits h.count
carried_right free s = let h = free_served s in right h.fits (stood h)

-- "3 everywhere first"
abbrev bad : Call → State → Outcome
bad c s = record { answer = BadNumber; state = s; lent = lent_by c }

refused : {c : Call} {s : State} → is_among 3 (may c) ≡ true → Counting c BadNumber s s → Right c s (bad c s)
refused m h = record { among = m; row = (refl, refl, record { state = refl; lent = refl }); count = h }

bad_right : (c : Call) (s : State) → is_good c ≡ false → Right c s (bad c s)
unfolding is_good
bad_right (pointer m b) s e = refused refl (stands refl refl)
bad_right auxiliary s e = refused (sym e) (stands refl refl)
bad_right (register m b) s e = refused refl tt
bad_right (block m l) s e = refused refl (stands refl refl)
bad_right (time n) s e = refused refl (stands refl refl)
bad_right answer s e = refused (sym e) (stands refl refl)
bad_right (reselection lines) s e = refused refl (stands refl refl)
bad_right (request p b q) s e = refused refl (stands refl refl)
bad_right free s e = refused (sym e) (stands refl refl)

pub step_right : (c : Call) (s : State) → Right c s (step c s)
unfolding step
step_right c s = by_case (Right c s) _ (λ e. carried_right c s) (bad_right c s)

pub refusals_keep : RefusalsKeep step
refusals_keep c s = (step_right c s).row

pub kinds_kept : KindsKept step
kinds_kept c s = (step_right c s).among

-- a call that leaves the state where its operands are good leaves it
silent : (c : Call) (s : State) → (carried c s).state ≡ s → (step c s).state ≡ s
unfolding step
silent c s e = by_pick (λ (o : Outcome). o.state ≡ s) _ e refl

pub auxiliary_is_silent : AuxiliaryIsSilent step
unfolding carried auxiliary_read pointer_read pick
auxiliary_is_silent =
    record { auxiliary_read = λ s. silent auxiliary s refl; pointer_read = λ b s. silent (pointer 0 b) s refl }

-- ---- the count

-- a register access whose operands are good, or a refusal
of_access : (m b : ℕ) (s : State) (P : State → Type 0) → P (accessed (is_set m) b s).state → P s → P (step (register m b) s).state
unfolding step carried
of_access m b s P x y = by_pick (λ (o : Outcome). P o.state) _ x y

going_on : (c : Call) (s : State) → is_request c ≡ false → is_running s.activity ≡ true
    → running_number (step c s).state.activity ≡ running_number s.activity → SameCount s (step c s).state
going_on (pointer m b) s n r e = (step_right (pointer m b) s).count
going_on auxiliary s n r e = (step_right auxiliary s).count
going_on (register m b) s n r e =
    of_access m b s (λ t. running_number t.activity ≡ running_number s.activity → SameCount s t) (access_goes s r (is_set m) b).so
    (λ e. stands refl refl) e
going_on (block m l) s n r e = (step_right (block m l) s).count
going_on (time u) s n r e = (step_right (time u) s).count
going_on answer s n r e = (step_right answer s).count
going_on (reselection lines) s n r e = (step_right (reselection lines) s).count
going_on (request p b q) s n r e = absurd (true≢false n)
going_on free s n r e = (step_right free s).count

pub count_falls_only_on_the_bus : CountFallsOnlyOnTheBus step
count_falls_only_on_the_bus =
    record {
      counting = λ c s. (step_right c s).count;
      at_data = λ m b s e. of_access m b s (SameCount s) (access_count (is_set m) b s e) (stands refl refl);
      going_on = going_on;
    }
