-- What becomes of the status at 17h over any list of calls: no code is lost, the one that an ending holds back included, and a read gives
-- the last one raised.
--   Happening             one thing that a call does to the status: a code raised, a Reset, a read of 17h, an ending begun, a Disconnect in it
--   noted c s o           what the call c did, made in s and with the outcome o
--   read_by a              .. where it reads 17h and is answered a
--   begun_by q r           .. where it led from q pending to r: an ending with a code begins
--   history f l s         what the calls l did, one after the other, from s
--   Owed                  what the driver has still to be told: nothing, the code at 17h, or a code to come
--   owed_by q              .. where q is pending
--   is_coming q            a code is to come
--   last_code k h          the code raised last in h, k where none was
--   owed_after w h         what is owed after h, w where nothing happened
--   Orderly k w h         h goes on from the code k at 17h, with w owed: a code is raised only where none is unread, a code to come as itself,
--                         and a read gives the last
--   Follows k h           after an ending with k began, h goes on with that code raised, a Reset or a Disconnect
--   is_raising is_reading has_read   a code is raised; 17h is read; it is read somewhere in the list
--   NoStatusLost f        over every list of calls, from every state, the five promises
use Rattle.std.specs.Prelude.{◌≡◌, Bool, true, false, List, [], ◌∷◌, ◌++◌, ℕ}
use Rattle.chip.specs.Choice.{pick, both, either}
use Rattle.chip.specs.Calls.{Call, Outcome, run}
use Rattle.chip.specs.Commands.{reset_code}
use Rattle.chip.specs.declared.State.{State}
use Rattle.chip.specs.declared.Answer.{Answer}
use Rattle.chip.specs.declared.Answer.TheVariants.{Done, Held, OutOfPlace, BadNumber, Blind, CommandIgnored, ReselectionIgnored, NoDataNow, Reported}
use Rattle.unread.specs.Status.{Pending, Nothing, Interrupt, Ending, ReadOut, pending, is_reset, is_disconnect, reads_at, raised}

pub data Happening : Type 0 where
  raises : (code : ℕ) → Happening
  resets : (code : ℕ) → Happening
  reads : (byte : ℕ) → Happening
  begins : (code : ℕ) → Happening
  disconnects : Happening

pub data Owed : Type 0 where
  nothing unread : Owed
  coming : (code : ℕ) → Owed

-- the read-out after a Free at 42h raises no code
abbrev pub owed_by : Pending → Owed
owed_by Nothing = nothing
owed_by Interrupt = unread
owed_by (Ending k) = coming k
owed_by ReadOut = nothing

abbrev pub is_coming : Pending → Bool
is_coming Nothing = false
is_coming Interrupt = false
is_coming (Ending k) = true
is_coming ReadOut = false

abbrev pub read_by : Answer → List Happening
read_by (Done v) = reads v ∷ []
read_by Held = []
read_by OutOfPlace = []
read_by BadNumber = []
read_by Blind = []
read_by CommandIgnored = []
read_by ReselectionIgnored = []
read_by NoDataNow = []
read_by Reported = []

abbrev pub begun_by : Pending → Pending → List Happening
begun_by q Nothing = []
begun_by q Interrupt = []
begun_by q (Ending k) = pick (is_coming q) [] (begins k ∷ [])
begun_by q ReadOut = []

unfoldable pub noted : Call → State → Outcome → List Happening
noted c s o =
    pick (is_reset c s) (resets (reset_code s) ∷ [])
    (pick (raised c s o.state) (raises o.state.status.code ∷ [])
    (pick (both (is_disconnect c s) (is_coming (pending s))) (disconnects ∷ [])
    (pick (reads_at 0x17 c s) (read_by o.answer) (begun_by (pending s) (pending o.state)))))

unfoldable pub history : (Call → State → Outcome) → List Call → State → List Happening
history f [] s = []
history f (c ∷ l) s = noted c s (f c s) ++ history f l (f c s).state

abbrev pub last_code : ℕ → List Happening → ℕ
last_code k [] = k
last_code k (raises j ∷ h) = last_code j h
last_code k (resets j ∷ h) = last_code j h
last_code k (reads v ∷ h) = last_code k h
last_code k (begins j ∷ h) = last_code k h
last_code k (disconnects ∷ h) = last_code k h

abbrev pub owed_after : Owed → List Happening → Owed
owed_after w [] = w
owed_after w (raises j ∷ h) = owed_after unread h
owed_after w (resets j ∷ h) = owed_after unread h
owed_after w (reads v ∷ h) = owed_after nothing h
owed_after w (begins j ∷ h) = owed_after (coming j) h
owed_after w (disconnects ∷ h) = owed_after nothing h

pub data Orderly : ℕ → Owed → List Happening → Type 0 where
  over : {k : ℕ} {w : Owed} → Orderly k w []
  -- only where nothing is unread
  raising : {j k : ℕ} {h : List Happening} → Orderly j unread h → Orderly k nothing (raises j ∷ h)
  -- where a code is to come, that one and no other
  coming_up : {j k : ℕ} {h : List Happening} → Orderly j unread h → Orderly k (coming j) (raises j ∷ h)
  -- always
  resetting : {j k : ℕ} {w : Owed} {h : List Happening} → Orderly j unread h → Orderly k w (resets j ∷ h)
  -- the code raised last, and no other; not before a code to come, since 17h is Blind then
  reading : {k : ℕ} {h : List Happening} → Orderly k nothing h → Orderly k unread (reads k ∷ h)
  again : {k : ℕ} {h : List Happening} → Orderly k nothing h → Orderly k nothing (reads k ∷ h)
  -- only where nothing is owed
  beginning : {j k : ℕ} {h : List Happening} → Orderly k (coming j) h → Orderly k nothing (begins j ∷ h)
  -- a code to come is dropped
  disconnecting : {j k : ℕ} {h : List Happening} → Orderly k nothing h → Orderly k (coming j) (disconnects ∷ h)

pub data Follows (k : ℕ) : List Happening → Type 0 where
  not_yet : Follows k []
  raised_next : {h : List Happening} → Follows k (raises k ∷ h)
  reset_next : {j : ℕ} {h : List Happening} → Follows k (resets j ∷ h)
  disconnected_next : {h : List Happening} → Follows k (disconnects ∷ h)

abbrev pub is_raising : Happening → Bool
is_raising (raises k) = true
is_raising (resets k) = true
is_raising (reads v) = false
is_raising (begins k) = false
is_raising disconnects = false

abbrev pub is_reading : Happening → Bool
is_reading (raises k) = false
is_reading (resets k) = false
is_reading (reads v) = true
is_reading (begins k) = false
is_reading disconnects = false

unfoldable pub has_read : List Happening → Bool
has_read [] = false
has_read (x ∷ h) = either (is_reading x) (has_read h)

pub record NoStatusLost (f : Call → State → Outcome) : Type 0 where
  -- 17h shows the code raised last; INT says that it waits to be read, and an ending which code is to come
  pub code_is_last : (l : List Call) (s : State) → (run f l s).status.code ≡ last_code s.status.code (history f l s)
  pub pending_is_owed : (l : List Call) (s : State)
      → owed_by (pending (run f l s)) ≡ owed_after (owed_by (pending s)) (history f l s)
  -- none is lost, and a read gives the last
  pub orderly : (l : List Call) (s : State) → Orderly s.status.code (owed_by (pending s)) (history f l s)
  -- between two raised codes stands a read of 17h, or the later one is Reset's
  pub read_between : (l : List Call) (s : State) (g h j : List Happening) (x : Happening) (k : ℕ)
      → history f l s ≡ g ++ (x ∷ (h ++ (raises k ∷ j))) → is_raising x ≡ true → has_read h ≡ true
  -- a code to come is the next that is raised, unless a Reset or a Disconnect comes first
  pub raised_in_turn : (l : List Call) (s : State) (g h : List Happening) (k : ℕ) → history f l s ≡ g ++ (begins k ∷ h) → Follows k h
