-- A word that opens definitions together.
--   steps    those of a scene, and the chip's as far as they choose a course; what decides a value stays shut: the FIFO's tests, the phase register's
--            meaning, a register's place, auxiliary status as a byte
use Rattle.chip.specs.Choice as Choice
use Rattle.chip.specs.Lines as Lines
use Rattle.chip.specs.Count as Count
use Rattle.chip.specs.Interrupts as Interrupts
use Rattle.chip.specs.TransferInfo as Info
use Rattle.chip.specs.SelectAndTransfer as Sat
use Rattle.chip.specs.Commands as Commands
use Rattle.chip.specs.Registers as Registers
use Rattle.chip.specs.Events as Events
use Rattle.chip.specs.Calls as Calls
use Rattle.story.proofs.Opening.{scenes}

unfoldable pub steps : Unit {0}
unfolding scenes Choice.pick Choice.both Choice.either Lines.er Lines.lun_of Lines.is_single Lines.code_of Count.left Count.none_left Count.is_last
    Count.lowered Count.loaded Count.means_one Count.loaded_for_transfer_info Interrupts.busy Interrupts.outgoing_dropped Interrupts.raise
    Interrupts.bytes_unread Interrupts.ending_with Interrupts.settled_by Interrupts.settled Interrupts.unless_interrupt Count.dbr Info.unless_halted
    Info.parity_noted Info.atn_after Info.transfer_info_sent Info.taken_in Info.transfer_info_taken Info.transfer_info_offered Info.over_code Info.transfer_info_over Info.transfer_info_request Info.transfer_info_free_code Info.transfer_info_free
    Sat.size Sat.unexpected Sat.send_identify Sat.send_command Sat.phase_after Sat.send_data Sat.take_data Sat.data_out Sat.data_in
    Sat.unless_none_left Sat.take_status Sat.take_message Sat.body_request Sat.late_request Sat.completed Sat.take_complete Sat.request_at Sat.stage
    Sat.select_and_transfer_request Sat.select_and_transfer_free Sat.from_disconnected Sat.has_size Commands.table Commands.entry_of Commands.is_ready
    Commands.is_valid Commands.selecting Commands.select_and_transfer_begun Commands.transfer_info_begun Commands.carried_out Commands.accepted
    Commands.is_refused_busy Commands.commanded Registers.pointer_set Registers.auxiliary_read Registers.data_read Registers.data_written Registers.is_blind Registers.read_at
    Registers.written_at Registers.stepped Registers.accessed_at Registers.accessed Events.selection_time Events.selects Events.passed Events.connected
    Events.answered_state Events.answered_selecting Events.answered_elsewhere Events.answered Events.idle_request Events.requested_running Events.requested_connected Events.remembered
    Events.requested Events.bus_free Events.idle_free Events.freed_running Events.freed Calls.is_good Calls.carried Calls.step
steps = tt
