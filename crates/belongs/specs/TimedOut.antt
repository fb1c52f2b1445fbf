-- What a driver may believe of 42h, "selection timed out", over every list of calls from a fresh controller.
--   TimedOutIsTrue f   wherever 42h stands unread, nobody is connected, and since that selection began no Answer was taken; it is raised when
--                      the time in register 02 is over, and only then
--   TurnedAway f c s   the call c, made in s, is no Answer, or it is refused
--   Waited f n l       a selection began in l, has gone on since with no Answer, and n units of time have passed
--   RanOut f l c       after the calls l, the call c uses up the timeout of the selection that runs
use Rattle.std.specs.Prelude.{◌≡◌, true, false, List, [], ◌∷◌, ◌++◌, ℕ, ◌+◌, ◌≤◌, eqb}
use Rattle.chip.specs.Choice.{pick}
use Rattle.chip.specs.State.{fresh}
use Rattle.chip.specs.Interrupts.{interrupted}
use Rattle.chip.specs.Calls.{Call, Outcome, pointer, auxiliary, register, block, time, answer, reselection, request, free, is_good, run}
use Rattle.chip.specs.declared.State.{State}
use Rattle.chip.specs.declared.Connection.TheVariants.{Disconnected, Selecting}
use Rattle.unread.specs.Status.{is_answer}
use Rattle.unread.specs.Codes.{Raises, Since, Selects}
use Rattle.unread.specs.Ending.{is_refusal}

-- an Answer, if one came, was refused
abbrev pub TurnedAway : (Call → State → Outcome) → Call → State → Type 0
TurnedAway f c s = is_answer c ≡ true → is_refusal (f c s).answer ≡ true

-- the units of time that a call passes
abbrev pub units : Call → ℕ
units (pointer m b) = 0
units auxiliary = 0
units (register m b) = 0
units (block m l) = 0
units (time n) = pick (is_good (time n)) n 0
units answer = 0
units (reselection lines) = 0
units (request p b q) = 0
units free = 0

pub data Waited (f : Call → State → Outcome) : ℕ → List Call → Type 0 where
  begun : (l : List Call) (c : Call) → Selects f c (run f l fresh) → Waited f 0 (l ++ (c ∷ []))
  passed : {n : ℕ} (l : List Call) (c : Call) → Waited f n l → (run f l fresh).wire.connection ≡ Selecting → is_answer c ≡ false
      → Waited f (n + units c) (l ++ (c ∷ []))

-- the timeout in register 02 is over: register 02 is not 0, and so many units have passed since the selection began
pub record RanOut (f : Call → State → Outcome) (l : List Call) (c : Call) : Type 0 where
  pub limited : eqb (run f l fresh).registers.setup.timeout 0 ≡ false
  pub waited : ℕ
  pub selected : Waited f waited l
  pub over : (run f l fresh).registers.setup.timeout ≤ waited + units c

pub record TimedOutIsTrue (f : Call → State → Outcome) : Type 0 where
  -- while it is unread nobody is connected ..
  pub apart : (l : List Call) → interrupted (run f l fresh) ≡ true → (run f l fresh).status.code ≡ 0x42
      → (run f l fresh).wire.connection ≡ Disconnected
  -- .. and no Answer was taken since that selection began
  pub nobody : (l : List Call) → interrupted (run f l fresh) ≡ true → (run f l fresh).status.code ≡ 0x42
      → Since f (Selects f) (TurnedAway f) l
  -- it is raised only when the time is over ..
  pub ran_out : (l : List Call) (c : Call) → Raises f l c 0x42 → RanOut f l c
  -- .. and then it is raised
  pub comes : (l : List Call) (n w : ℕ) → is_good (time n) ≡ true → Waited f w l → (run f l fresh).wire.connection ≡ Selecting
      → eqb (run f l fresh).registers.setup.timeout 0 ≡ false → (run f l fresh).registers.setup.timeout ≤ w + n → Raises f l (time n) 0x42
