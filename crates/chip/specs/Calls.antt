-- All calls as one type, one step over it, and running a list of calls.
-- Paper: "Order of checks: 3 everywhere first"; "Bad number is a bad state image, a phase above 7, a parity or read/write mark above 1,
-- or any other operand above 255."
use Rattle.std.specs.Prelude.{Bool, true, List, [], ◌∷◌, ℕ, eqb, ltb}
use Rattle.chip.specs.Choice.{pick, both}
use Rattle.chip.specs.declared.State.{State}
use Rattle.chip.specs.declared.Reply.{Reply}
use Rattle.chip.specs.declared.Answer.{Answer}
use Rattle.chip.specs.declared.Answer.TheVariants.{Done, BadNumber}
use Rattle.chip.specs.Phases.{phase_of}
use Rattle.chip.specs.Registers.{pointer_read, pointer_set, auxiliary_read, accessed, Moved, block_read, block_written}
use Rattle.chip.specs.Events.{passed, answered, reselected, requested, freed}

-- a mark 0 reads and 1 writes; a parity 0 is good and 1 bad
pub data Call : Type 0 where
  pointer : (mark byte : ℕ) → Call
  auxiliary : Call
  register : (mark byte : ℕ) → Call
  block : (mark : ℕ) (bytes : List ℕ) → Call
  time : (units : ℕ) → Call
  answer : Call
  reselection : (lines : ℕ) → Call
  request : (phase byte parity : ℕ) → Call
  free : Call

-- a number for each kind of call: its place above. 4 and above are the bus events
abbrev pub kind : Call → ℕ
kind (pointer m b) = 0
kind auxiliary = 1
kind (register m b) = 2
kind (block m l) = 3
kind (time n) = 4
kind answer = 5
kind (reselection lines) = 6
kind (request p b q) = 7
kind free = 8

abbrev pub is_mark : ℕ → Bool
is_mark m = ltb m 2

abbrev pub is_byte : ℕ → Bool
is_byte b = ltb b 256

abbrev pub is_bus_phase : ℕ → Bool
is_bus_phase p = ltb p 8

-- every operand is in its range; the length of a slice is no operand
unfoldable pub is_good : Call → Bool
is_good (pointer m b) = both (is_mark m) (is_byte b)
is_good auxiliary = true
is_good (register m b) = both (is_mark m) (is_byte b)
is_good (block m l) = is_mark m
is_good (time n) = is_byte n
is_good answer = true
is_good (reselection lines) = is_byte lines
is_good (request p b q) = both (is_bus_phase p) (both (is_byte b) (is_mark q))
is_good free = true

-- a mark that writes, a parity that is bad
abbrev pub is_set : ℕ → Bool
is_set m = eqb m 1

-- what a call gives: the answer, the new state, and the lent slice as it then is
pub record Outcome : Type 0 where
  pub answer : Answer
  pub state : State
  pub lent : List ℕ

-- a call that lends no slice
abbrev pub plain : Reply → Outcome
plain r = record { answer = r.answer; state = r.state; lent = [] }

-- "It answers 3, or else Done with the number moved as its value."
abbrev pub moved : Moved → Outcome
moved m = record { answer = Done m.number; state = m.state; lent = m.bytes }

-- a call whose operands are in range
unfoldable pub carried : Call → State → Outcome
carried (pointer m b) s = plain (pick (is_set m) (pointer_set b s) (pointer_read s))
carried auxiliary s = plain (auxiliary_read s)
carried (register m b) s = plain (accessed (is_set m) b s)
carried (block m l) s = moved (pick (is_set m) (block_written l s) (block_read l s))
carried (time n) s = plain (passed n s)
carried answer s = plain (answered s)
carried (reselection lines) s = plain (reselected lines s)
carried (request p b q) s = plain (requested (phase_of p) b (is_set q) s)
carried free s = plain (freed s)

abbrev pub lent_by : Call → List ℕ
lent_by (pointer m b) = []
lent_by auxiliary = []
lent_by (register m b) = []
lent_by (block m l) = l
lent_by (time n) = []
lent_by answer = []
lent_by (reselection lines) = []
lent_by (request p b q) = []
lent_by free = []

-- one call, from any state, with any numbers
unfoldable pub step : Call → State → Outcome
step c s = pick (is_good c) (carried c s) (record { answer = BadNumber; state = s; lent = lent_by c })

-- the state that a list of calls leads to, by a step f: the controller's own is `step`
unfoldable pub run : (Call → State → Outcome) → List Call → State → State
run f [] s = s
run f (c ∷ l) s = run f l (f c s).state
