-- Wrong steps, each with one mistake. proofs/Wrong.antt refutes the law that the mistake breaks.
--   spoilt             a step that changes the state once more where a test of the call, the state before and the answer holds
--   blind_clears        Blind clears INT too
--   no_data_moves        No data now moves the pointer
--   ignored_quietly     Command ignored does not set LCI
--   held_counts         Held lowers the count
--   report_takes        Reported takes the byte all the same
--   holds_everything    every call is Held
--   nods_at_everything   every call is Done, and nothing happens
--   auxiliary_clears    a read of auxiliary status clears INT
--   write_counts        a byte that the host writes to the Data register lowers the count
--   block_invents       a block claims that all of its slice moved
--   block_moves_one      a block moves its first byte, and only nods at the rest
use Rattle.std.specs.Prelude.{Bool, false, ℕ, eqb, length, take}
use Rattle.chip.specs.Choice.{pick, both}
use Rattle.chip.specs.State.{set_pointer, set_lci, set_activity}
use Rattle.chip.specs.Answers.{number}
use Rattle.chip.specs.Count.{lowered}
use Rattle.chip.specs.TransferInfo.{taken_in}
use Rattle.chip.specs.Calls.{Call, Outcome, pointer, auxiliary, register, block, time, answer, reselection, request, free, lent_by, step, kind}
use Rattle.chip.specs.declared.State.{State}
use Rattle.chip.specs.declared.Answer.{Answer}
use Rattle.chip.specs.declared.Answer.TheVariants.{Done, Held}
use Rattle.chip.specs.declared.Activity.TheVariants.{Idle}

unfoldable pub spoilt : (Call → State → Answer → Bool) → (State → State) → Call → State → Outcome
spoilt test change c s =
    record {
      answer = (step c s).answer;
      state = pick (test c s (step c s).answer) (change (step c s).state) (step c s).state;
      lent = (step c s).lent;
    }

-- the answer has the number n
abbrev answers : ℕ → Call → State → Answer → Bool
answers n c s a = eqb (number a) n

unfoldable pub blind_clears : Call → State → Outcome
unfolding spoilt
blind_clears = spoilt (answers 4) (set_activity Idle)

unfoldable pub no_data_moves : Call → State → Outcome
unfolding spoilt
no_data_moves = spoilt (answers 7) (set_pointer 0x1A)

unfoldable pub ignored_quietly : Call → State → Outcome
unfolding spoilt
ignored_quietly = spoilt (answers 5) (set_lci false)

unfoldable pub held_counts : Call → State → Outcome
unfolding spoilt
held_counts = spoilt (answers 1) lowered

unfoldable pub report_takes : Call → State → Outcome
unfolding spoilt
report_takes = spoilt (answers 8) (taken_in 0x5A false)

unfoldable pub holds_everything : Call → State → Outcome
holds_everything c s = record { answer = Held; state = s; lent = lent_by c }

unfoldable pub nods_at_everything : Call → State → Outcome
nods_at_everything c s = record { answer = Done 0; state = s; lent = lent_by c }

unfoldable pub auxiliary_clears : Call → State → Outcome
unfolding spoilt
auxiliary_clears = spoilt (λ c s a. eqb (kind c) 1) (set_activity Idle)

unfoldable pub write_counts : Call → State → Outcome
unfolding spoilt
write_counts =
    spoilt (λ c s a. both (eqb (kind c) 2) (both (eqb s.status.pointer 0x19) (eqb (number a) 0))) lowered

unfoldable pub block_invents : Call → State → Outcome
block_invents c s =
    record {
      answer = pick (eqb (kind c) 3) (Done (length (lent_by c))) (step c s).answer;
      state = (step c s).state;
      lent = (step c s).lent;
    }

-- a block of the slice's first byte alone
abbrev short : Call → Call
short (pointer m b) = pointer m b
short auxiliary = auxiliary
short (register m b) = register m b
short (block m l) = block m (take 1 l)
short (time n) = time n
short answer = answer
short (reselection lines) = reselection lines
short (request p b q) = request p b q
short free = free

unfoldable pub block_moves_one : Call → State → Outcome
block_moves_one c s = record { answer = (step c s).answer; state = (step (short c) s).state; lent = (step c s).lent }
