-- Where the FIFO's bytes stand is told to nobody. Paper 02, Req 03: "Nothing that a caller is told changes." (That they stay where they are
-- is not said here: it is chip's specs/Fifo.antt, and `Goes` there.) What a caller is told is answers, values, lent bytes and lines; who
-- looks into the lent image sees the places.
--   SameBytes        two FIFOs in which the same bytes wait, in places of their own
--   Alike            two states that differ in nothing but how the FIFO keeps its bytes
--   TellsNoPlaces    a step's law: two alike states are told alike, and stay alike
--   told, told_by     what a caller is told by a call, and by a list of calls
--   AnyKeeping       a step's law: however the bytes are moved about between the calls, the caller is told the same
--   AsBefore         a step's law: the caller is told what the controller told over the old keeping (chip's specs/Before.antt),
--                    from every state
use Rattle.std.specs.Prelude.{◌≡◌, List, [], ◌∷◌, ℕ}
use Rattle.chip.specs.Before.{moved_up}
use Rattle.chip.specs.Calls.{Call, Outcome, step}
use Rattle.chip.specs.Entries.{line_bits}
use Rattle.chip.specs.Fifo.{waiting, Whole}
use Rattle.chip.specs.State.{fresh, set_fifo}
use Rattle.chip.specs.declared.Answer.{Answer}
use Rattle.chip.specs.declared.Fifo.{Fifo}
use Rattle.chip.specs.declared.State.{State}

pub record SameBytes (q r : Fifo) : Type 0 where
  pub left : Whole q
  pub right : Whole r
  pub bytes : waiting q ≡ waiting r

pub record Alike (s t : State) : Type 0 where
  pub rest : set_fifo t.fifo s ≡ t
  pub fifo : SameBytes s.fifo t.fifo

-- the answer, with its value; the lent slice; and the lines that the board may ask for then
pub record Told : Type 0 where
  pub answer : Answer
  pub lent : List ℕ
  pub lines : ℕ

abbrev pub told : Outcome → Told
told o = record { answer = o.answer; lent = o.lent; lines = line_bits o.state }

pub record TellsNoPlaces (f : Call → State → Outcome) : Type 0 where
  pub tells : (c : Call) (s t : State) → Alike s t → told (f c s) ≡ told (f c t)
  pub leads : (c : Call) (s t : State) → Alike s t → Alike (f c s).state (f c t).state

-- what the calls of a list tell, one after the other
unfoldable pub told_by : (Call → State → Outcome) → List Call → State → List Told
told_by f [] s = []
told_by f (c ∷ l) s = told (f c s) ∷ told_by f l (f c s).state

-- how the bytes are moved about in their places after a call, by the call and the state before it
abbrev pub Mover : Type 0
Mover = Call → State → Fifo → Fifo

abbrev pub kept_by : Mover → (Call → State → Outcome) → Call → State → Outcome
kept_by k f c s =
    record { answer = (f c s).answer; state = set_fifo (k c s (f c s).state.fifo) (f c s).state; lent = (f c s).lent }

-- from two alike states, by any list of calls, whatever moves the bytes about on one side
abbrev pub AnyKeeping : (Call → State → Outcome) → Type 0
AnyKeeping f =
    (k : Mover) → ((c : Call) (s : State) (q : Fifo) → Whole q → SameBytes q (k c s q)) → (l : List Call) (s t : State) → Alike s t
    → told_by f l s ≡ told_by (kept_by k f) l t

-- the controller's step over the old keeping: after each call the bytes move up, as they did before. What taking a byte and putting one
-- in are there, is in chip's `KeptAsBefore`
abbrev pub step_before : Call → State → Outcome
step_before = kept_by (λ c s. moved_up) step

-- from every state that an image can say, beside the same state over the old keeping; the fresh one is the same over both
pub record AsBefore (f : Call → State → Outcome) : Type 0 where
  pub anywhere : (l : List Call) (s : State) → Whole s.fifo → told_by f l s ≡ told_by step_before l (set_fifo (moved_up s.fifo) s)
  pub from_fresh : (l : List Call) → told_by f l fresh ≡ told_by step_before l fresh
