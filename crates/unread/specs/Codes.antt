-- Where single codes come from, over any list of calls from a fresh state.
--   Raises f l c k     after the calls l from a fresh state, the call c raises the code k
--   Since f B N l      some call of l did B, and every later one N (of a call and the state that it was made in)
--   EndingsBegun f     a pending ending was begun as the table says, and has been pending since
--   Selects f c s      the call c, made in s, begins a selection: a Select command, Disconnected, with no command running and no status unread
--   Unanswered f l     a selection began in l, has gone on since, and no Answer came to it
--   SelectionsBegun f  .. wherever a selection runs
--   ByFree f l c k     the call c is a Free, or the read of the last byte of an ending with k that a Free began
--   CodesOnlyBy f      who raises which code
use Rattle.std.specs.Prelude.{◌≡◌, true, false, List, [], ◌∷◌, ◌++◌, ◌⊎◌, ℕ, ◌+◌}
use Rattle.chip.specs.State.{fresh}
use Rattle.chip.specs.Phases.{phase_of, phase_number}
use Rattle.chip.specs.Interrupts.{interrupted, busy, bytes_unread}
use Rattle.chip.specs.Calls.{Call, Outcome, time, answer, reselection, request, free, run}
use Rattle.chip.specs.declared.State.{State}
use Rattle.chip.specs.declared.Phase.{Phase}
use Rattle.chip.specs.declared.Connection.TheVariants.{Disconnected, Selecting, Connected}
use Rattle.unread.specs.Status.{Ending, pending, is_command, is_reset, is_selection, is_answer, raised}
use Rattle.unread.specs.Because.{Begins, ReadsOut, Translates, is_idle}
use Rattle.chip.specs.Commands.{reset_code}

pub record Raises (f : Call → State → Outcome) (l : List Call) (c : Call) (k : ℕ) : Type 0 where
  pub raises : raised c (run f l fresh) (f c (run f l fresh)).state ≡ true
  pub code : (f c (run f l fresh)).state.status.code ≡ k

pub data Since (f : Call → State → Outcome) (B N : Call → State → Type 0) : List Call → Type 0 where
  now : (l : List Call) (c : Call) → B c (run f l fresh) → Since f B N (l ++ (c ∷ []))
  still : (l : List Call) (c : Call) → Since f B N l → N c (run f l fresh) → Since f B N (l ++ (c ∷ []))

pub record EndingsBegun (f : Call → State → Outcome) : Type 0 where
  pub begun : (l : List Call) (k : ℕ) → pending (run f l fresh) ≡ Ending k
      → Since f (λ c s. Begins c s k) (λ c s. pending s ≡ Ending k) l

pub record Selects (f : Call → State → Outcome) (c : Call) (s : State) : Type 0 where
  pub command : is_selection c s ≡ true
  pub apart : s.wire.connection ≡ Disconnected
  pub idle : busy s ≡ false
  pub all_told : interrupted s ≡ false
  pub selecting : (f c s).state.wire.connection ≡ Selecting

abbrev pub Unanswered : (Call → State → Outcome) → List Call → Type 0
Unanswered f l = Since f (Selects f) (λ c s. (s.wire.connection ≡ Selecting) × (is_answer c ≡ false)) l

pub record SelectionsBegun (f : Call → State → Outcome) : Type 0 where
  pub begun : (l : List Call) → (run f l fresh).wire.connection ≡ Selecting → Unanswered f l

abbrev pub ByFree : (Call → State → Outcome) → List Call → Call → ℕ → Type 0
ByFree f l c k =
    (c ≡ free) ⊎ (ReadsOut c (run f l fresh) k × Since f (λ d s. (d ≡ free) × Begins d s k) (λ d s. pending s ≡ Ending k) l)

pub record CodesOnlyBy (f : Call → State → Outcome) : Type 0 where
  -- the code that a Reset has, in whatever state, only by Reset
  pub by_reset : (l : List Call) (c : Call) (s : State) → Raises f l c (reset_code s) → is_reset c (run f l fresh) ≡ true
  -- 11h only by an Answer, while selecting
  pub by_answer : (l : List Call) (c : Call) → Raises f l c 0x11 → (c ≡ answer) × ((run f l fresh).wire.connection ≡ Selecting)
  -- 15h and 45h only by Translate Address, Disconnected, with no command running and no status unread
  pub by_translation : (l : List Call) (c : Call) → Raises f l c 0x15 → Translates c (run f l fresh)
  pub by_failed_translation : (l : List Call) (c : Call) → Raises f l c 0x45 → Translates c (run f l fresh)
  -- 16h only with no incoming byte unread
  pub all_read : (l : List Call) (c : Call) → Raises f l c 0x16 → bytes_unread (f c (run f l fresh)).state ≡ false
  -- 22h only by Abort
  pub by_abort : (l : List Call) (c : Call) → Raises f l c 0x22 → is_command 0x01 c (run f l fresh) ≡ true
  -- 40h only by a command
  pub by_command : (l : List Call) (c : Call) → Raises f l c 0x40 → (k : ℕ) × (is_command k c (run f l fresh) ≡ true)
  -- 41h and 85h only by a Free
  pub by_free_early : (l : List Call) (c : Call) → Raises f l c 0x41 → ByFree f l c 0x41
  pub by_free : (l : List Call) (c : Call) → Raises f l c 0x85 → ByFree f l c 0x85
  -- 42h only by Time, while selecting, with no Answer since that selection began
  pub by_time : (l : List Call) (c : Call) → Raises f l c 0x42 → (n : ℕ) × (c ≡ time n) × ((run f l fresh).wire.connection ≡ Selecting)
  pub unanswered : (l : List Call) (c : Call) → Raises f l c 0x42 → Unanswered f l
  -- 80h only by Reselection
  pub by_reselection : (l : List Call) (c : Call) → Raises f l c 0x80 → (lines : ℕ) × (c ≡ reselection lines)
  -- 88h+p only by a Request of phase p, connected and idle
  pub by_request : (l : List Call) (c : Call) (p : Phase) → Raises f l c (0x88 + phase_number p)
      → (n : ℕ) × (b : ℕ) × (m : ℕ) × (c ≡ request n b m) × (phase_of n ≡ p) × ((run f l fresh).wire.connection ≡ Connected)
      × (is_idle (run f l fresh).activity ≡ true)
