-- Interrupts and endings. Paper: the section of that name, sentence by sentence.
use Rattle.std.specs.Prelude.{Bool, true, false, not, ℕ}
use Rattle.chip.specs.Choice.{pick, both}
use Rattle.chip.specs.declared.State.{State}
use Rattle.chip.specs.declared.Reply.{Reply}
use Rattle.chip.specs.declared.Fifo.{Fifo}
use Rattle.chip.specs.declared.Activity.{Activity}
use Rattle.chip.specs.declared.Activity.TheVariants.{Idle, Interrupt, Runs, Ends, ReadOut}
use Rattle.chip.specs.declared.Direction.{Direction}
use Rattle.chip.specs.declared.Direction.TheVariants.{Unfixed, In, Out}
use Rattle.chip.specs.declared.Connection.TheVariants.{Waiting}
use Rattle.chip.specs.State.{set_fifo, set_code, set_activity, set_direction, set_connection}
use Rattle.chip.specs.Answers.{held}
use Rattle.chip.specs.Fifo.{is_empty, emptied}
use Rattle.chip.specs.Activity.{is_interrupt, is_ending, is_running, ends}

-- INT
abbrev pub interrupted : State → Bool
interrupted s = is_interrupt s.activity

-- an ending is under way
abbrev pub in_ending : State → Bool
in_ending s = is_ending s.activity

-- "BSY (a Level II command runs)"; in an ending "BSY stays"
unfoldable pub busy : State → Bool
busy s = is_running s.activity

-- INT with a code, and nothing else
abbrev pub interrupt : ℕ → State → State
interrupt k s = set_activity Interrupt (set_code k s)

abbrev pub without_outgoing : Direction → Fifo → Fifo
without_outgoing Unfixed q = q
without_outgoing In q = q
without_outgoing Out q = emptied q

abbrev pub closed : Direction → Direction
closed Unfixed = Unfixed
closed In = In
closed Out = Unfixed

-- an outgoing FIFO is dropped, and DBR closes with it; an incoming one stays
unfoldable pub outgoing_dropped : State → State
outgoing_dropped s =
    set_direction (closed s.transfer.direction) (set_fifo (without_outgoing s.transfer.direction s.fifo) s)

-- "A raised code sets INT, ends the command and drops an outgoing FIFO."
unfoldable pub raise : ℕ → State → State
raise k s = interrupt k (outgoing_dropped s)

abbrev pub is_incoming : Direction → Bool
is_incoming Unfixed = false
is_incoming In = true
is_incoming Out = false

abbrev pub is_outgoing : Direction → Bool
is_outgoing Unfixed = false
is_outgoing In = false
is_outgoing Out = true

-- incoming bytes wait for the host
unfoldable pub bytes_unread : State → Bool
bytes_unread s = both (is_incoming s.transfer.direction) (not (is_empty s.fifo))

-- ""Ending with c": an incoming FIFO must be read out first, then c is raised." Here c is k.
unfoldable pub ending_with : ℕ → State → State
ending_with k s = pick (bytes_unread s) (set_activity (ends k s.activity) s) (raise k s)

-- what the ending comes to once the FIFO is read out: its code; after a Free at 42h, that the controller waits for reselection
unfoldable pub settled_by : Activity → State → State
settled_by Idle s = s
settled_by Interrupt s = s
settled_by (Runs r) s = s
settled_by (Ends r k) s = raise k s
settled_by (ReadOut r) s = set_connection Waiting (set_activity (Runs r) s)

-- after each byte that the host reads
unfoldable pub settled : State → State
settled s = pick (is_empty s.fifo) (settled_by s.activity s) s

-- "With INT set, an event that would raise an interrupt or begin an ending is Held". It is asked where no command runs: with BSY set there
-- is no INT
unfoldable pub unless_interrupt : State → Reply → Reply
unless_interrupt s r = pick (interrupted s) (held s) r
