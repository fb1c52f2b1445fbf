-- Wrong steps, each the step with one mistake. proofs/Refuted.antt refutes the promise, or the table of the connection, of each.
--   late       with 42h unread and Disconnected an Answer is Done and connects: the fault that this model is built against
--   intrudes   with a status unread a Reselection is Done and connects, and raises nothing
--   swallows   with a status unread a Free is Done, and nothing happens: the board takes the bus for free
--   ticks      with a status unread time adds up
--   startles   the read of a status gives it and leaves a command running
--   hangs_up    the read of a status gives it and disconnects
--   hides      auxiliary status shows 0 while a status is unread
--   misleads   the pointer set to 17h goes to 16h
--   unblinds   17h is read while a command runs: after 42h was read, and the next Target has answered, it gives 42h again
--   impatient  a Select goes on counting where the last selection stopped
--   dawdles    a Time that is short of the timeout adds nothing: passed unit by unit, no selection ever times out
--   poaches    a Select is taken over a running command while connected: the Target is dropped, and 42h comes for one that had answered
--   nods       an Answer while Disconnected is Done, and nothing happens: the board takes its disk for connected
--   barges     a Reselection while connected is Done, and rewrites 16h: one disk takes the place of another
--   hollow     an Answer to 06 or 07 raises 11h, and the controller is Disconnected
--   sticky     a Free, connected and idle, raises 85h, and the controller stays connected
-- `drops` of room unread, a Time that forgets an ending with its code, is refuted here too, and `eager`, a Select taken over an unread status.
use Rattle.std.specs.Prelude.{Bool, not, ℕ, ◌+◌, eqb}
use Rattle.chip.specs.Choice.{pick, both}
use Rattle.chip.specs.State.{set_source, set_pointer, set_activity, set_connection, set_elapsed}
use Rattle.chip.specs.Interrupts.{interrupted, busy, raise}
use Rattle.chip.specs.Activity.{is_running}
use Rattle.chip.specs.Commands.{selecting}
use Rattle.chip.specs.Connections.{is_connected, is_disconnected}
use Rattle.chip.specs.Calls.{Call, Outcome, kind, step}
use Rattle.chip.specs.declared.State.{State}
use Rattle.chip.specs.declared.Answer.TheVariants.{Done}
use Rattle.chip.specs.declared.Connection.TheVariants.{Disconnected, Connected}
use Rattle.chip.specs.declared.Activity.TheVariants.{Runs}
use Rattle.chip.specs.declared.Command.TheVariants.{SelectWithAtn, TransferInfo}
use Rattle.reached.specs.Facts.{is_select}
use Rattle.reached.specs.Wrong.{afterwards}
use Rattle.unread.specs.Status.{is_selection, reads_at}
use Rattle.unread.specs.Wrong.{instead}

-- a call of kind n that finds a status unread
abbrev over_unread : ℕ → Call → State → Bool
over_unread n c s = both (eqb (kind c) n) (interrupted s)

unfoldable pub late : Call → State → Outcome
unfolding instead
late =
    instead (λ c s. both (over_unread 5 c s) (both (eqb s.status.code 0x42) (is_disconnected s.wire.connection)))
    (set_connection Connected)

unfoldable pub intrudes : Call → State → Outcome
unfolding instead
intrudes = instead (over_unread 6) (set_connection Connected)

unfoldable pub swallows : Call → State → Outcome
unfolding instead
swallows = instead (over_unread 8) (λ s. s)

unfoldable pub ticks : Call → State → Outcome
unfolding instead
ticks = instead (over_unread 4) (λ s. set_elapsed (s.wire.elapsed + 1) s)

-- a register read that clears INT
abbrev has_read : State → State → Bool
has_read s t = both (interrupted s) (not (interrupted t))

unfoldable pub startles : Call → State → Outcome
startles = afterwards 2 (λ s t. pick (has_read s t) (set_activity (Runs TransferInfo) t) t)

unfoldable pub hangs_up : Call → State → Outcome
hangs_up = afterwards 2 (λ s t. pick (has_read s t) (set_connection Disconnected t) t)

unfoldable pub hides : Call → State → Outcome
unfolding instead
hides = instead (over_unread 1) (λ s. s)

-- the pointer at 17h, one back
abbrev astray : State → State
astray s = pick (eqb s.status.pointer 0x17) (set_pointer 0x16 s) s

unfoldable pub misleads : Call → State → Outcome
misleads = afterwards 0 (λ s t. astray t)

-- the units of an earlier selection are added to those of the next
unfoldable pub impatient : Call → State → Outcome
impatient c s =
    record {
      answer = (step c s).answer;
      state = pick (is_selection c s) (set_elapsed s.wire.elapsed (step c s).state) (step c s).state;
      lent = (step c s).lent;
    }

unfoldable pub poaches : Call → State → Outcome
unfolding instead
poaches =
    instead (λ c s. both (is_selection c s) (both (is_connected s.wire.connection) (is_running s.activity)))
    (selecting SelectWithAtn)

unfoldable pub hollow : Call → State → Outcome
unfolding instead
hollow =
    instead (λ c s. both (eqb (kind c) 5) (is_select s.activity)) (λ s. raise 0x11 (set_connection Disconnected s))

unfoldable pub sticky : Call → State → Outcome
unfolding instead
sticky =
    instead
    (λ c s. both (eqb (kind c) 8)
    (both (is_connected s.wire.connection) (both (not (is_running s.activity)) (not (interrupted s)))))
    (raise 0x85)

unfoldable pub unblinds : Call → State → Outcome
unblinds c s =
    record {
      answer = pick (both (reads_at 0x17 c s) (busy s)) (Done s.status.code) (step c s).answer;
      state = (step c s).state;
      lent = (step c s).lent;
    }

unfoldable pub nods : Call → State → Outcome
unfolding instead
nods = instead (λ c s. both (eqb (kind c) 5) (is_disconnected s.wire.connection)) (λ s. s)

unfoldable pub barges : Call → State → Outcome
unfolding instead
barges = instead (λ c s. both (eqb (kind c) 6) (is_connected s.wire.connection)) (set_source 0x8B)

unfoldable pub dawdles : Call → State → Outcome
dawdles = afterwards 4 (λ s t. set_elapsed s.wire.elapsed t)
