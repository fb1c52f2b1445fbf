-- Disconnected, selecting, waiting, connected: one table of every call that moves the connection, and where to, over every list of calls
-- from a fresh controller.
--   Goes c s x         the table: the call c, made in s, leaves the connection x
--   ConnectionGoes f   the table is sound and complete for the step f, and says where Answer, Reselection and Free are taken
--   is_caller c         the call c is one of these three
--   lets_go s           a Free lets a Select-And-Transfer wait for reselection: it is at 42h, and IDI is not set
use Rattle.std.specs.Prelude.{◌≡◌, Bool, true, false, not, List, ◌⊎◌, ℕ, ◌+◌, eqb, leb}
use Rattle.chip.specs.Choice.{both, either}
use Rattle.chip.specs.Lines.{idi, qualifies}
use Rattle.chip.specs.State.{fresh}
use Rattle.chip.specs.Interrupts.{interrupted, bytes_unread}
use Rattle.chip.specs.Activity.{is_running, goes_on, is_select_and_transfer}
use Rattle.chip.specs.Commands.{is_valid}
use Rattle.chip.specs.Connections.{is_connected}
use Rattle.chip.specs.Calls.{Call, Outcome, time, answer, reselection, free, kind, is_good, run}
use Rattle.chip.specs.declared.State.{State}
use Rattle.chip.specs.declared.Answer.TheVariants.{Done}
use Rattle.chip.specs.declared.Connection.{Connection}
use Rattle.chip.specs.declared.Connection.TheVariants.{Disconnected, Selecting, Waiting, Connected}
use Rattle.unread.specs.Status.{ReadOut, pending, is_command, is_reset, is_select_code, is_disconnect}
use Rattle.unread.specs.Because.{Quiet, ReadsLast}
use Rattle.unread.specs.Ending.{Untouched}

unfoldable pub lets_go : State → Bool
lets_go s = both (is_select_and_transfer s.activity) (both (eqb s.registers.descriptor.phase 0x42) (not (idi s)))

pub data Goes : Call → State → Connection → Type 0 where
  -- Reset; Disconnect while connected, with no status unread; Abort while selecting or waiting
  resets : {c : Call} {s : State} → is_reset c s ≡ true → Goes c s Disconnected
  disconnects : {c : Call} {s : State} → is_disconnect c s ≡ true → interrupted s ≡ false → Goes c s Disconnected
  aborts : {c : Call} {s : State} → is_command 0x01 c s ≡ true → goes_on s.activity ≡ true
      → is_connected s.wire.connection ≡ false → Goes c s Disconnected
  -- Time, selecting, when the units that have added up reach register 02, which is not 0
  times_out : {n : ℕ} {s : State} → is_good (time n) ≡ true → goes_on s.activity ≡ true → s.wire.connection ≡ Selecting
      → eqb s.registers.setup.timeout 0 ≡ false → leb s.registers.setup.timeout (s.wire.elapsed + n) ≡ true → Goes (time n) s Disconnected
  -- a valid Select, Disconnected and idle
  selects : {c : Call} {s : State} (k : ℕ) → is_command k c s ≡ true → is_select_code k ≡ true → Quiet s
      → is_running s.activity ≡ false → s.wire.connection ≡ Disconnected → is_valid k s ≡ true → Goes c s Selecting
  -- Answer, selecting
  answers : {s : State} → goes_on s.activity ≡ true → s.wire.connection ≡ Selecting → Goes answer s Connected
  -- Reselection, not connected
  reselects : {lines : ℕ} {s : State} → is_good (reselection lines) ≡ true → Quiet s → qualifies lines s ≡ true
      → is_connected s.wire.connection ≡ false → Goes (reselection lines) s Connected
  -- Free, connected: Disconnected, or, with nothing left to read, waiting for reselection
  frees : {s : State} → Quiet s → s.wire.connection ≡ Connected → both (lets_go s) (not (bytes_unread s)) ≡ false → Goes free s Disconnected
  lets_go_waiting : {s : State} → Quiet s → s.wire.connection ≡ Connected → lets_go s ≡ true → bytes_unread s ≡ false → Goes free s Waiting
  -- .. or when the last byte after such a Free is read
  reads_out_rest : {c : Call} {s : State} → pending s ≡ ReadOut → ReadsLast c s → Goes c s Waiting

-- the events that can move the connection, beside Time
abbrev pub is_caller : Call → Bool
is_caller c = either (eqb (kind c) 5) (either (eqb (kind c) 6) (eqb (kind c) 8))

pub record ConnectionGoes (f : Call → State → Outcome) : Type 0 where
  pub sound : (l : List Call) (c : Call)
      → ((f c (run f l fresh)).state.wire.connection ≡ (run f l fresh).wire.connection)
      ⊎ Goes c (run f l fresh) (f c (run f l fresh)).state.wire.connection
  pub complete : (l : List Call) (c : Call) (x : Connection) → Goes c (run f l fresh) x → (f c (run f l fresh)).state.wire.connection ≡ x
  -- an Answer, a Reselection or a Free is Done where it is in a row; elsewhere it changes nothing, and is refused
  pub taken : (l : List Call) (c : Call) (x : Connection) → is_caller c ≡ true → Goes c (run f l fresh) x → (f c (run f l fresh)).answer ≡ Done 0
  pub elsewhere : (l : List Call) (c : Call) → is_caller c ≡ true → ((x : Connection) → Goes c (run f l fresh) x → ⊥)
      → Untouched f c (run f l fresh)
