-- One word that opens every definition of a step, so that closed calls compute: `unfolding everything`.
use Rattle.chip.specs.Choice as Choice
use Rattle.chip.specs.Phases as Phases
use Rattle.chip.specs.Lines as Lines
use Rattle.chip.specs.Fifo as Fifo
use Rattle.chip.specs.Count as Count
use Rattle.chip.specs.Interrupts as Interrupts
use Rattle.chip.specs.TransferInfo as TransferInfo
use Rattle.chip.specs.SelectAndTransfer as SelectAndTransfer
use Rattle.chip.specs.Translate as Translate
use Rattle.chip.specs.Commands as Commands
use Rattle.chip.specs.Registers as Registers
use Rattle.chip.specs.Events as Events
use Rattle.chip.specs.Calls as Calls

unfoldable pub everything : Unit {0}
unfolding Choice.pick Choice.both Choice.either Phases.phase_of Lines.is_on Lines.packed Lines.hsp Lines.idi Lines.with_idi
    Lines.er Lines.is_single Lines.code_of Lines.own_identity Lines.destination Lines.same_identity Lines.lun_of
    Lines.identify Lines.line_of Lines.ones Lines.qualifies Lines.are_two Lines.lowest Lines.without
    Lines.other_identity Lines.source_after Fifo.waiting Fifo.round Fifo.place_behind Fifo.is_empty Fifo.has_room Fifo.front Fifo.pop Fifo.waits
    Fifo.push Count.left Count.none_left Count.is_last Count.lowered Count.loaded Count.means_one Count.loaded_for_transfer_info
    Interrupts.busy Interrupts.outgoing_dropped Interrupts.raise Interrupts.bytes_unread Interrupts.ending_with
    Interrupts.settled_by Interrupts.settled Interrupts.unless_interrupt Count.dbr TransferInfo.halted
    TransferInfo.unless_halted TransferInfo.parity_noted TransferInfo.atn_after TransferInfo.transfer_info_sent
    TransferInfo.taken_in TransferInfo.transfer_info_taken TransferInfo.transfer_info_offered TransferInfo.over_code TransferInfo.transfer_info_over
    TransferInfo.transfer_info_request TransferInfo.transfer_info_free_code TransferInfo.transfer_info_free SelectAndTransfer.size_of SelectAndTransfer.size
    SelectAndTransfer.first_stage SelectAndTransfer.next_stage SelectAndTransfer.is_command_phase
    SelectAndTransfer.stage_of SelectAndTransfer.unexpected SelectAndTransfer.send_identify
    SelectAndTransfer.send_command SelectAndTransfer.phase_after SelectAndTransfer.send_data
    SelectAndTransfer.take_data SelectAndTransfer.data_out SelectAndTransfer.data_in SelectAndTransfer.unless_none_left
    SelectAndTransfer.take_status SelectAndTransfer.take_save SelectAndTransfer.take_disconnect
    SelectAndTransfer.take_message SelectAndTransfer.body_request SelectAndTransfer.late_request
    SelectAndTransfer.take_identify SelectAndTransfer.completed SelectAndTransfer.take_complete
    SelectAndTransfer.request_at SelectAndTransfer.stage SelectAndTransfer.select_and_transfer_request SelectAndTransfer.free_to_wait
    SelectAndTransfer.free_after_disconnect SelectAndTransfer.select_and_transfer_free SelectAndTransfer.from_disconnected
    SelectAndTransfer.has_size SelectAndTransfer.is_early SelectAndTransfer.is_middle SelectAndTransfer.is_at_end
    SelectAndTransfer.is_resumable SelectAndTransfer.ack_after_resume SelectAndTransfer.resumed
    Translate.joined Translate.has_spares_in Translate.per_cylinder_in Translate.address_of Translate.cylinder_of Translate.head_of
    Translate.sector_of Translate.divides_by_zero Translate.is_beyond_heads Translate.is_beyond_cylinders Translate.has_too_many_cylinders
    Translate.has_too_many_heads Translate.exceeds Translate.placed Translate.translated_by Translate.translated Commands.table
    Commands.entry_of Commands.is_ready Commands.is_valid Commands.reset_code Commands.reset Commands.aborted Commands.disconnected
    Commands.selecting Commands.select_and_transfer_begun Commands.transfer_info_begun Commands.carried_out Commands.accepted
    Commands.is_refused_busy Commands.commanded Registers.pointer_read Registers.pointer_set Registers.auxiliary_read
    Registers.pointer_after Registers.is_blind Registers.register_at Registers.high_written Registers.middle_written
    Registers.low_written Registers.stored_in Registers.stored Registers.data_read Registers.data_written Registers.read_at
    Registers.written_at Registers.stepped Registers.accessed_at Registers.accessed Registers.block_read
    Registers.block_written Events.timed_out Events.selection_time Events.selects Events.passed Events.connected
    Events.answered_state Events.answered_selecting Events.answered_elsewhere Events.answered Events.reselected_state Events.reselected_with_code
    Events.names_target Events.reselected_apart Events.reselected Events.idle_request Events.requested_running Events.requested_connected Events.is_served
    Events.remembered Events.requested Events.bus_free Events.idle_free Events.freed_running Events.freed Calls.is_good Calls.carried
    Calls.step Calls.run
everything = tt
