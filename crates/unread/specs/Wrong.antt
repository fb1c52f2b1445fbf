-- Wrong steps, for the laws to refuse: each is the step with one mistake.
--   hasty      Time runs out although INT is set
--   peeking    reading auxiliary status clears INT
--   eager      a Select is taken although INT is set: the command runs, and the status is gone
--   mumbling   a Free puts its code at 17h without INT
--   soft       Reset does nothing
--   misnames   Reset tells 16h
--   forgetful  a read of 17h gives 0
--   hurried    a code is raised before the incoming bytes are read out
--   sluggish   Time never runs out
--   mistaken   an Answer raises 42h
--   meddling   a Free begins an ending with 42h
--   deaf       an Answer is Done, and the selection goes on
--   drops      Time forgets the ending of a connected Select-And-Transfer without ATN, with its code
--   renames    Time in an ending makes the code to come 42h
--   spills     Time in an ending empties the FIFO: nobody can read it out, and the code never comes
--   shrugs     a Request in an ending is Done, and nothing happens: the board takes it for taken
--   invents    Time with incoming bytes unread under a Select-And-Transfer, and nothing pending, begins a read-out, Disconnected
--   blanks     a read at 19h in an ending gives 0, and takes the byte away
--   eats       the call that begins an ending empties the FIFO
--   hollows    a Disconnect in an ending drops only what is pending and the connection: command and bytes stay
--   shuts      a read of auxiliary status in an ending forgets the way of data: nobody can read the bytes, and the code never comes
--   instead t g   the step, where calls that the test t is true of are Done and do g instead
--   changed n g   .. where calls of kind n are
use Rattle.std.specs.Prelude.{Bool, not, ℕ, eqb}
use Rattle.chip.specs.Choice.{pick, both}
use Rattle.chip.specs.State.{set_fifo, set_code, set_activity, set_direction, set_connection}
use Rattle.chip.specs.Fifo.{empty}
use Rattle.chip.specs.Answers.{done, says}
use Rattle.chip.specs.Interrupts.{interrupted, in_ending, settled_by, bytes_unread}
use Rattle.chip.specs.Connections.{is_connected}
use Rattle.chip.specs.Commands.{selecting}
use Rattle.chip.specs.Events.{timed_out}
use Rattle.chip.specs.Activity.{is_select_and_transfer, sets_atn, reads_out, without_interrupt}
use Rattle.chip.specs.Calls.{Call, Outcome, kind, plain, step}
use Rattle.chip.specs.declared.State.{State}
use Rattle.chip.specs.declared.Activity.{Activity}
use Rattle.chip.specs.declared.Activity.TheVariants.{Idle, Interrupt, Runs, Ends, ReadOut}
use Rattle.chip.specs.declared.Command.TheVariants.{SelectWithAtn, TransferInfo}
use Rattle.chip.specs.declared.Connection.TheVariants.{Disconnected}
use Rattle.chip.specs.declared.Direction.TheVariants.{Unfixed}
use Rattle.chip.specs.declared.Answer.TheVariants.{Done}
use Rattle.unread.specs.Status.{is_reset, is_selection, is_disconnect, reads_at}

unfoldable pub instead : (Call → State → Bool) → (State → State) → Call → State → Outcome
instead test g c s = pick (test c s) (plain (done 0 (g s))) (step c s)

unfoldable pub changed : ℕ → (State → State) → Call → State → Outcome
unfolding instead
changed n g = instead (λ c s. eqb (kind c) n) g

unfoldable pub hasty : Call → State → Outcome
hasty = changed 4 timed_out

unfoldable pub peeking : Call → State → Outcome
peeking = changed 1 (λ s. set_activity (without_interrupt s.activity) s)

unfoldable pub eager : Call → State → Outcome
unfolding instead
eager = instead (λ c s. both (is_selection c s) (interrupted s)) (selecting SelectWithAtn)

unfoldable pub mumbling : Call → State → Outcome
mumbling = changed 8 (set_code 0x85)

unfoldable pub soft : Call → State → Outcome
soft c s = pick (is_reset c s) (plain (done 0 s)) (step c s)

unfoldable pub misnames : Call → State → Outcome
misnames c s = pick (is_reset c s) (plain (says (step c s).answer (set_code 0x16 (step c s).state))) (step c s)

unfoldable pub forgetful : Call → State → Outcome
forgetful c s = pick (reads_at 0x17 c s) (plain (says (Done 0) (step c s).state)) (step c s)

unfoldable pub hurried : Call → State → Outcome
hurried c s =
    record {
      answer = (step c s).answer;
      state = settled_by (step c s).state.activity (step c s).state;
      lent = (step c s).lent;
    }

unfoldable pub sluggish : Call → State → Outcome
sluggish = changed 4 (λ s. s)

unfoldable pub mistaken : Call → State → Outcome
mistaken = changed 5 timed_out

unfoldable pub meddling : Call → State → Outcome
meddling = changed 8 (set_activity (Ends TransferInfo 0x42))

unfoldable pub deaf : Call → State → Outcome
deaf = changed 5 (λ s. s)

-- a call of one kind, in an ending
abbrev while_ending : ℕ → Call → State → Bool
while_ending n c s = both (eqb (kind c) n) (in_ending s)

-- connected, with Select-And-Transfer without ATN
abbrev serves_nine : State → Bool
serves_nine s =
    both (is_connected s.wire.connection) (both (is_select_and_transfer s.activity) (not (sets_atn s.activity)))

-- the ending forgotten, and the command kept
abbrev onward : Activity → Activity
onward Idle = Idle
onward Interrupt = Interrupt
onward (Runs r) = Runs r
onward (Ends r k) = Runs r
onward (ReadOut r) = Runs r

unfoldable pub drops : Call → State → Outcome
unfolding instead
drops = instead (λ c s. both (while_ending 4 c s) (serves_nine s)) (λ s. set_activity (onward s.activity) s)

-- 42h to come
abbrev renamed : Activity → Activity
renamed Idle = Idle
renamed Interrupt = Interrupt
renamed (Runs r) = Runs r
renamed (Ends r k) = Ends r 0x42
renamed (ReadOut r) = Ends r 0x42

unfoldable pub renames : Call → State → Outcome
unfolding instead
renames = instead (while_ending 4) (λ s. set_activity (renamed s.activity) s)

unfoldable pub spills : Call → State → Outcome
unfolding instead
spills = instead (while_ending 4) (set_fifo empty)

unfoldable pub shrugs : Call → State → Outcome
unfolding instead
shrugs = instead (while_ending 7) (λ s. s)

unfoldable pub invents : Call → State → Outcome
unfolding instead
invents =
    instead
    (λ c s. both (eqb (kind c) 4) (both (both (not (interrupted s)) (not (in_ending s))) (both (is_select_and_transfer s.activity) (bytes_unread s))))
    (λ s. set_activity (reads_out s.activity) (set_connection Disconnected s))

unfoldable pub blanks : Call → State → Outcome
blanks c s = pick (both (reads_at 0x19 c s) (in_ending s)) (plain (says (Done 0) (step c s).state)) (step c s)

unfoldable pub eats : Call → State → Outcome
eats c s =
    record {
      answer = (step c s).answer;
      state = pick (both (not (in_ending s)) (in_ending (step c s).state)) (set_fifo empty (step c s).state) (step c s).state;
      lent = (step c s).lent;
    }

unfoldable pub hollows : Call → State → Outcome
unfolding instead
hollows = instead (λ c s. both (is_disconnect c s) (in_ending s)) (λ s. set_activity (onward s.activity) (set_connection Disconnected s))

unfoldable pub shuts : Call → State → Outcome
unfolding instead
shuts = instead (while_ending 1) (set_direction Unfixed)
