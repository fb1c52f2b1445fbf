-- While the host has something to take, the bus stands still: a status that nobody has read, or the bytes of an ending.
--   is_pending s   something is pending for the host: INT is set, or an ending is under way
--   StillBus f    a step's law, from every state: while something is pending, no bus event changes anything at all, and none but Time is
--                 answered as if it had been taken (`Untouched` of room unread)
use Rattle.std.specs.Prelude.{◌≡◌, Bool, true}
use Rattle.chip.specs.Choice.{either}
use Rattle.chip.specs.Interrupts.{interrupted, in_ending}
use Rattle.chip.specs.Calls.{Call, Outcome}
use Rattle.chip.specs.declared.State.{State}
use Rattle.unread.specs.Ending.{is_event, Untouched}

abbrev pub is_pending : State → Bool
is_pending s = either (interrupted s) (in_ending s)

abbrev pub StillBus : (Call → State → Outcome) → Type 0
StillBus f = (c : Call) (s : State) → is_pending s ≡ true → is_event c ≡ true → Untouched f c s
