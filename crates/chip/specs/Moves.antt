-- When a byte moves and nothing else happens: the calls that a transfer of data lives on. They are no rules: each test says of a state
-- where the rules come down to one byte moved, or a Request Held, and proofs/Moves.antt shows that they do. The C entries store only the bytes that change
-- where a test holds (room controller).
use Rattle.std.specs.Prelude.{Bool, true, false, not, ◌%◌, eqb, ltb, leb}
use Rattle.chip.specs.Choice.{pick, both}
use Rattle.chip.specs.declared.State.{State}
use Rattle.chip.specs.declared.Stage.{Stage}
use Rattle.chip.specs.declared.Stage.TheVariants.{SendIdentify, SendCommand, Body, AfterData, Disconnecting, Reselected, AfterStatus, Elsewhere}
use Rattle.chip.specs.declared.Direction.{Direction}
use Rattle.chip.specs.declared.Direction.TheVariants.{Unfixed, In, Out}
use Rattle.chip.specs.declared.Phase.TheVariants.{DataOut, DataIn}
use Rattle.chip.specs.Phases.{is_noted}
use Rattle.chip.specs.Interrupts.{busy, bytes_unread, is_incoming, is_outgoing}
use Rattle.chip.specs.Activity.{is_select_and_transfer, is_transfer_info}
use Rattle.chip.specs.Count.{dbr}
use Rattle.chip.specs.SelectAndTransfer.{stage}
use Rattle.chip.specs.Events.{is_served}

-- the next register access is one of 00 to 16h, in reach
unfoldable pub is_plain : State → Bool
is_plain s = both (ltb s.status.pointer 0x17) (not (busy s))

-- it is one of the Data register, and a read there takes a byte
unfoldable pub reads_data : State → Bool
reads_data s = both (eqb s.status.pointer 0x19) (bytes_unread s)

abbrev pub writes_by : Direction → State → Bool
writes_by Unfixed s = false
writes_by In s = false
writes_by Out s = dbr s

-- it is one of the Data register, and a write there is taken
unfoldable pub writes_data : State → Bool
writes_data s = both (eqb s.status.pointer 0x19) (writes_by s.transfer.direction s)

-- a Request would be served, and a byte that crosses is not the last: the low byte of the count can be lowered alone
unfoldable pub is_under_way : State → Bool
is_under_way s = both (is_served s) (pick s.transfer.single false (leb 2 (s.registers.count % 256)))

abbrev pub is_body : Stage → Bool
is_body SendIdentify = false
is_body (SendCommand x) = false
is_body Body = true
is_body AfterData = false
is_body Disconnecting = false
is_body Reselected = false
is_body AfterStatus = false
is_body Elsewhere = false

-- the running command takes in a byte of Data In
unfoldable pub carries_in : State → Bool
carries_in s =
    pick (is_select_and_transfer s.activity) (both (is_incoming s.transfer.direction) (is_body (stage s)))
    (both (is_transfer_info s.activity) (is_noted DataIn s.wire.seen.reported))

-- the running command sends one of Data Out
unfoldable pub carries_out : State → Bool
carries_out s =
    pick (is_select_and_transfer s.activity) (both (is_outgoing s.transfer.direction) (is_body (stage s)))
    (both (is_transfer_info s.activity) (is_noted DataOut s.wire.seen.reported))

-- a Request of Data In with good parity is taken into the FIFO, or Held where that is full, and nothing ends
unfoldable pub takes_data : State → Bool
takes_data s = both (is_under_way s) (carries_in s)

-- a Request of Data Out takes a byte from the FIFO, or is Held where that is empty, and nothing ends
unfoldable pub sends_data : State → Bool
sends_data s = both (is_under_way s) (carries_out s)
