-- The promise. The status that a driver reads, with INT set, belongs to what last happened: over every list of calls from a fresh controller,
-- the read gives one code, one call is the cause of that code, and between that call and the read no bus event changed the controller.
--   StatusBelongs f     the promise, of a step function
--   flags s             auxiliary status of s
--   Causes c s k        the call c, made in s, is the cause of the code k, by the table `Because` (room unread): it raises k, or it begins an ending
--                       that has k to come
--   Owes k s            the code k is owed: it is to come at the end of an ending, or it stands at 17h and nobody has read it
--   Undisturbed f k c s   the call c, made in s, finds the code k owed, and disturbs neither bus nor connection
--   Gives f k c s       the call c, made in s, is answered with the code k, and leaves bus and command as they were
use Rattle.std.specs.Prelude.{◌≡◌, true, not, List, ℕ}
use Rattle.chip.specs.Choice.{either}
use Rattle.chip.specs.Lines.{packed}
use Rattle.chip.specs.State.{fresh, set_pointer}
use Rattle.chip.specs.Interrupts.{interrupted, in_ending, busy}
use Rattle.chip.specs.Activity.{running_number}
use Rattle.chip.specs.Count.{dbr}
use Rattle.chip.specs.Calls.{Call, Outcome, pointer, auxiliary, register, is_byte, run}
use Rattle.chip.specs.declared.State.{State}
use Rattle.chip.specs.declared.Answer.TheVariants.{Done, Blind}
use Rattle.unread.specs.Status.{Ending, pending, is_reset, reads_at}
use Rattle.unread.specs.Because.{Because, Begins}
use Rattle.unread.specs.Codes.{Since}
use Rattle.unread.specs.Ending.{is_event, Untouched}

-- "Auxiliary status is packed so: bit 7 INT, 6 LCI, 5 BSY .. 1 PE, 0 DBR"
abbrev pub flags : State → ℕ
flags s = packed (interrupted s) s.status.lci (busy s) s.status.pe (dbr s)

-- the read of an ending's last byte raises a code too, but it is not its cause
pub data Causes (c : Call) (s : State) (k : ℕ) : Type 0 where
  at_once : Because c s k → either (not (in_ending s)) (is_reset c s) ≡ true → Causes c s k
  to_come : Begins c s k → Causes c s k

pub data Owes (k : ℕ) (s : State) : Type 0 where
  unread : interrupted s ≡ true → s.status.code ≡ k → Owes k s
  coming : pending s ≡ Ending k → Owes k s

-- the command that runs, if one does, the way of its data and the mark of a single byte
pub record SameCommand (s t : State) : Type 0 where
  pub running : running_number t.activity ≡ running_number s.activity
  pub transfer : t.transfer ≡ s.transfer

pub record Undisturbed (f : Call → State → Outcome) (k : ℕ) (c : Call) (s : State) : Type 0 where
  pub owed : Owes k s
  -- no bus event changes anything, nor is it taken
  pub still : is_event c ≡ true → Untouched f c s
  -- nothing that the host does changes the connection ..
  pub placed : (f c s).state.wire.connection ≡ s.wire.connection
  -- .. and, once the code is raised, nothing on the bus and no command
  pub bus : interrupted s ≡ true → (f c s).state.wire ≡ s.wire
  pub command : interrupted s ≡ true → SameCommand s (f c s).state

pub record Gives (f : Call → State → Outcome) (k : ℕ) (c : Call) (s : State) : Type 0 where
  pub code : (f c s).answer ≡ Done k
  pub bus : (f c s).state.wire ≡ s.wire
  pub command : SameCommand s (f c s).state

pub record StatusBelongs (f : Call → State → Outcome) : Type 0 where
  -- a driver sees INT, and the other flags, in auxiliary status as they are
  pub shown : (l : List Call) → (f auxiliary (run f l fresh)).answer ≡ Done (flags (run f l fresh))
  -- with INT set it sets the pointer to 17h, reads, and hears the code that stands there
  pub heard : (l : List Call) → interrupted (run f l fresh) ≡ true
      → (f (register 0 0) (f (pointer 1 0x17) (run f l fresh)).state).answer ≡ Done (run f l fresh).status.code
  -- the pointer goes where it is set
  pub pointed : (l : List Call) (b : ℕ) → is_byte b ≡ true → (f (pointer 1 b) (run f l fresh)).state ≡ set_pointer b (run f l fresh)
  -- while a command runs, an older code is not told: 17h is Blind
  pub hushed : (l : List Call) (c : Call) → busy (run f l fresh) ≡ true → reads_at 0x17 c (run f l fresh) ≡ true
      → (f c (run f l fresh)).answer ≡ Blind
  -- every read of 17h with INT set gives the code that stands there, and leaves the bus alone
  pub given : (l : List Call) (c : Call) → interrupted (run f l fresh) ≡ true → reads_at 0x17 c (run f l fresh) ≡ true
      → Gives f (run f l fresh).status.code c (run f l fresh)
  -- one call is its cause, and since then nothing disturbed it
  pub belongs : (l : List Call) → interrupted (run f l fresh) ≡ true
      → Since f (λ c s. Causes c s (run f l fresh).status.code) (Undisturbed f (run f l fresh).status.code) l
