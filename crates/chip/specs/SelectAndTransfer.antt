-- Select-And-Transfer by its phase register, and what a Free does to it. Paper: the section "Select-And-Transfer (001)".
use Rattle.std.specs.Prelude.{Bool, true, false, ℕ, ◌+◌, ◌-◌, ◌/◌, eqb, ltb, get_or, None, Some}
use Rattle.chip.specs.Choice.{pick, both, either}
use Rattle.chip.specs.declared.State.{State}
use Rattle.chip.specs.declared.Reply.{Reply}
use Rattle.chip.specs.declared.Stage.{Stage}
use Rattle.chip.specs.declared.Stage.TheVariants.{SendIdentify, SendCommand, Body, AfterData, Disconnecting, Reselected, AfterStatus, Elsewhere}
use Rattle.chip.specs.declared.Command.{Command}
use Rattle.chip.specs.declared.Direction.{Direction}
use Rattle.chip.specs.declared.Direction.TheVariants.{Unfixed, In, Out}
use Rattle.chip.specs.declared.Phase.{Phase}
use Rattle.chip.specs.declared.Phase.TheVariants.{DataOut, DataIn, CommandOut, StatusIn, UnspecifiedOut, UnspecifiedIn, MessageOut, MessageIn}
use Rattle.chip.specs.declared.Activity.TheVariants.{Runs}
use Rattle.chip.specs.declared.Connection.TheVariants.{Waiting}
use Rattle.chip.specs.State.{set_fifo, set_ack, set_atn, set_reported, set_phase, set_lun, set_direction, set_activity, set_connection}
use Rattle.chip.specs.Answers.{done, held, reports}
use Rattle.chip.specs.Phases.{phase_number, is_command_out, is_message_out, is_message_in}
use Rattle.chip.specs.Activity.{sets_atn, reads_out}
use Rattle.chip.specs.Lines.{er, idi, lun_of, identify}
use Rattle.chip.specs.Fifo.{is_empty, has_room, front, pop}
use Rattle.chip.specs.Count.{none_left, is_last, lowered, loaded}
use Rattle.chip.specs.Interrupts.{ending_with, outgoing_dropped, bytes_unread}
use Rattle.chip.specs.TransferInfo.{parity_noted, unless_halted, taken_in}

-- "CDB byte 1 is register 03; its top three bits give 6, 10 or 12 bytes for groups 0, 1, 5"; 0 for a group that has no size
unfoldable pub size_of : ℕ → ℕ
size_of b = pick (eqb (b / 32) 0) 6 (pick (eqb (b / 32) 1) 10 (pick (eqb (b / 32) 5) 12 0))

-- the size that a controller in the state s gives to a command whose first byte is b
abbrev pub size_for : State → ℕ → ℕ
size_for s b = size_of b

-- the size of the command that the registers hold
unfoldable pub size : State → ℕ
size s = size_for s (get_or s.registers.descriptor.cdb 0 0)

-- "20h, 30h, 3xh short of the size (x taken, 0 at 20h)"
unfoldable pub first_stage : ℕ → Stage
first_stage n = pick (ltb 0 n) (SendCommand 0) Elsewhere

-- "3xh short of the size", "3xh at the size"
unfoldable pub next_stage : ℕ → ℕ → Stage
next_stage x n = pick (ltb x n) (SendCommand x) (pick (eqb x n) Body Elsewhere)

-- 31h to 3Fh
unfoldable pub is_command_phase : ℕ → Bool
is_command_phase phase = both (ltb 0x30 phase) (ltb phase 0x40)

-- "Next by phase register": what the register stands for, in a run that identifies itself (08) or not (09),
-- for a command of n bytes
unfoldable pub stage_of : Bool → ℕ → ℕ → Stage
stage_of identifies phase n =
    pick (eqb phase 0x10) (pick identifies SendIdentify (first_stage n))
    (pick (eqb phase 0x20) (first_stage n)
    (pick (eqb phase 0x30) (first_stage n)
    (pick (is_command_phase phase) (next_stage (phase - 0x30) n)
    (pick (eqb phase 0x41) Body
    (pick (eqb phase 0x42) Disconnecting
    (pick (eqb phase 0x44) Reselected
    (pick (eqb phase 0x45) Body (pick (eqb phase 0x46) AfterData (pick (eqb phase 0x50) AfterStatus Elsewhere)))))))))

-- "Anything else is Reported, ending with 48h+p, and not taken, other messages included (4Fh)"
unfoldable pub unexpected : Phase → State → Reply
unexpected p s = reports (ending_with (0x48 + phase_number p) (set_reported (Some p) s))

-- 10h: "with 08, Message Out takes 80h + LUN (0Fh bits 2 to 0), plus 40h if ER; ATN clears; 20h"
unfoldable pub send_identify : Phase → State → Reply
send_identify p s =
    pick (is_message_out p) (done (identify (lun_of s) (er s)) (set_phase 0x20 (set_atn false s))) (unexpected p s)

-- "Command takes CDB byte x+1; 31h+x"
unfoldable pub send_command : ℕ → Phase → State → Reply
send_command x p s = pick (is_command_out p) (done (get_or s.registers.descriptor.cdb x 0) (set_phase (0x31 + x) s)) (unexpected p s)

-- "at zero left, 46h"
unfoldable pub phase_after : State → ℕ
phase_after s = pick (is_last s) 0x46 s.registers.descriptor.phase

-- "Data moves as above", out
unfoldable pub send_data : State → Reply
send_data s =
    pick (is_empty s.fifo) (held s)
    (done (front s.fifo) (set_phase (phase_after s) (lowered (set_fifo (pop s.fifo) s))))

-- "Data moves as above", in
unfoldable pub take_data : ℕ → Bool → State → Reply
take_data b bad s =
    pick (has_room s.fifo)
    (unless_halted bad s (done b (set_phase (phase_after s) (set_direction In (taken_in b bad s)))))
    (held s)

-- "The first Data Request fixes the direction, and the other direction is unexpected. Going out, that first Request is Reported
-- with no code and no byte moved: DBR opens, and it is offered again (house)."
unfoldable pub data_out : Direction → State → Reply
data_out Unfixed s = reports (set_direction Out s)
data_out In s = unexpected DataOut s
data_out Out s = send_data s

unfoldable pub data_in : Direction → ℕ → Bool → State → Reply
data_in Unfixed b bad s = take_data b bad s
data_in In b bad s = take_data b bad s
data_in Out b bad s = unexpected DataIn s

-- "A loaded count of zero expects no data", nor does one that is used up
unfoldable pub unless_none_left : Phase → State → Reply → Reply
unless_none_left p s r = pick (none_left s) (unexpected p s) r

-- "Status goes to 0Fh; 50h. Going out, the FIFO is dropped and DBR closes; a count not used up stays."
unfoldable pub take_status : ℕ → Bool → State → Reply
take_status b bad s = unless_halted bad s (done b (set_phase 0x50 (set_lun b (outgoing_dropped (parity_noted bad s)))))

-- "Message In before Status: 02 gives 41h, ACK held, ending with 21h" (Save Data Pointer). 21h leaves no phase reported.
unfoldable pub take_save : Bool → State → Reply
take_save bad s =
    unless_halted bad s
    (done 0x02 (ending_with 0x21 (set_reported None (set_ack true (set_phase 0x41 (parity_noted bad s))))))

-- "04 gives 42h" (Disconnect)
unfoldable pub take_disconnect : Bool → State → Reply
take_disconnect bad s = unless_halted bad s (done 0x04 (set_phase 0x42 (parity_noted bad s)))

-- "Message In before Status": 02 or 04
unfoldable pub take_message : ℕ → Bool → State → Reply
take_message b bad s =
    pick (eqb b 0x02) (take_save bad s) (pick (eqb b 0x04) (take_disconnect bad s) (unexpected MessageIn s))

-- "3xh at the size, 41h, 45h: Data (0 or 1), Status or Message In."
unfoldable pub body_request : Phase → ℕ → Bool → State → Reply
body_request DataOut b bad s = unless_none_left DataOut s (data_out s.transfer.direction s)
body_request DataIn b bad s = unless_none_left DataIn s (data_in s.transfer.direction b bad s)
body_request CommandOut b bad s = unexpected CommandOut s
body_request StatusIn b bad s = take_status b bad s
body_request UnspecifiedOut b bad s = unexpected UnspecifiedOut s
body_request UnspecifiedIn b bad s = unexpected UnspecifiedIn s
body_request MessageOut b bad s = unexpected MessageOut s
body_request MessageIn b bad s = take_message b bad s

-- "46h: Status or Message In."
unfoldable pub late_request : Phase → ℕ → Bool → State → Reply
late_request DataOut b bad s = unexpected DataOut s
late_request DataIn b bad s = unexpected DataIn s
late_request CommandOut b bad s = unexpected CommandOut s
late_request StatusIn b bad s = take_status b bad s
late_request UnspecifiedOut b bad s = unexpected UnspecifiedOut s
late_request UnspecifiedIn b bad s = unexpected UnspecifiedIn s
late_request MessageOut b bad s = unexpected MessageOut s
late_request MessageIn b bad s = take_message b bad s

-- "44h: Message In equal to 80h + LUN gives 45h."
unfoldable pub take_identify : Phase → ℕ → Bool → State → Reply
take_identify p b bad s =
    pick (both (is_message_in p) (eqb b (identify (lun_of s) false)))
    (unless_halted bad s (done b (set_phase 0x45 (parity_noted bad s))))
    (unexpected p s)

-- "50h: Message In 00 gives 60h, ending with 16h." 16h leaves no phase reported.
unfoldable pub completed : Bool → State → Reply
completed bad s =
    unless_halted bad s
    (done 0x00 (ending_with 0x16 (set_reported None (set_phase 0x60 (parity_noted bad s)))))

unfoldable pub take_complete : Phase → ℕ → Bool → State → Reply
take_complete p b bad s = pick (both (is_message_in p) (eqb b 0x00)) (completed bad s) (unexpected p s)

-- a Request by what the phase register stands for
unfoldable pub request_at : Stage → Phase → ℕ → Bool → State → Reply
request_at SendIdentify p b bad s = send_identify p s
request_at (SendCommand x) p b bad s = send_command x p s
request_at Body p b bad s = body_request p b bad s
request_at AfterData p b bad s = late_request p b bad s
request_at Disconnecting p b bad s = unexpected p s
request_at Reselected p b bad s = take_identify p b bad s
request_at AfterStatus p b bad s = take_complete p b bad s
request_at Elsewhere p b bad s = unexpected p s

-- what the phase register of the running Select-And-Transfer stands for
unfoldable pub stage : State → Stage
stage s = stage_of (sets_atn s.activity) s.registers.descriptor.phase (size s)

-- a Request while a Select-And-Transfer runs
unfoldable pub select_and_transfer_request : Phase → ℕ → Bool → State → Reply
select_and_transfer_request p b bad s = request_at (stage s) p b bad s

-- "42h: Free gives 43h, Disconnected; with IDI, ending with 85h; without it, an outgoing FIFO stays, an incoming one is read out
-- first, which counts as an ending under every rule, Abort's too, but raises no code; then it waits for reselection."
-- t is s with the bus free and phase 43h.
unfoldable pub free_to_wait : State → State → Reply
free_to_wait s t =
    pick (bytes_unread s) (done 0 (set_activity (reads_out s.activity) t)) (done 0 (set_connection Waiting t))

unfoldable pub free_after_disconnect : State → State → Reply
free_after_disconnect s t = pick (idi s) (done 0 (ending_with 0x85 t)) (free_to_wait s t)

-- "a Free elsewhere: Disconnected, ending with 41h"
unfoldable pub select_and_transfer_free : State → State → Reply
select_and_transfer_free s t =
    pick (eqb s.registers.descriptor.phase 0x42) (free_after_disconnect s (set_phase 0x43 t)) (done 0 (ending_with 0x41 t))

-- "From Disconnected, phase 00."
unfoldable pub from_disconnected : State → State
from_disconnected s = set_phase 0x00 (loaded s)

-- "Another group raises 40h (house; on resume only at 10h, 20h, 30h)."
unfoldable pub has_size : State → Bool
has_size s = ltb 0 (size s)

-- "Resume .. accepts 10h, 20h, 30h, 41h, 42h, 44h, 45h, 46h, 50h, 60h; else 40h."

-- the command is still to be sent, so that its size counts
unfoldable pub is_early : ℕ → Bool
is_early phase = either (eqb phase 0x10) (either (eqb phase 0x20) (eqb phase 0x30))

unfoldable pub is_middle : ℕ → Bool
is_middle phase = either (eqb phase 0x41) (either (eqb phase 0x42) (either (eqb phase 0x44) (eqb phase 0x45)))

unfoldable pub is_at_end : ℕ → Bool
is_at_end phase = either (eqb phase 0x46) (either (eqb phase 0x50) (eqb phase 0x60))

unfoldable pub is_resumable : State → Bool
is_resumable s =
    pick (is_early s.registers.descriptor.phase) (has_size s)
    (either (is_middle s.registers.descriptor.phase) (is_at_end s.registers.descriptor.phase))

-- "It releases ACK except at 46h"
unfoldable pub ack_after_resume : State → Bool
ack_after_resume s = both (eqb s.registers.descriptor.phase 0x46) s.wire.handshake.ack

-- "Resume loads the count anew, forgets the direction .. 60h ends with 16h."
unfoldable pub resumed : Command → State → State
resumed r s =
    pick (eqb s.registers.descriptor.phase 0x60)
    (ending_with 0x16 (set_reported None (set_ack (ack_after_resume s) (set_activity (Runs r) (loaded s)))))
    (set_ack (ack_after_resume s) (set_activity (Runs r) (loaded s)))
