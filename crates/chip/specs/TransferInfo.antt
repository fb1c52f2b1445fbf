-- Transfer Info, and parity. Paper: the section "Transfer Info (001)".
use Rattle.std.specs.Prelude.{Bool, true, false, not, ℕ, ◌+◌, None, Some}
use Rattle.chip.specs.Choice.{pick, both, either}
use Rattle.chip.specs.declared.State.{State}
use Rattle.chip.specs.declared.Reply.{Reply}
use Rattle.chip.specs.declared.Phase.{Phase}
use Rattle.chip.specs.State.{set_fifo, set_pe, set_ack, set_atn, set_reported}
use Rattle.chip.specs.Answers.{done, held, reports}
use Rattle.chip.specs.Phases.{phase_number, comes_in, is_message_out, is_message_in, is_noted}
use Rattle.chip.specs.Lines.{hsp}
use Rattle.chip.specs.Fifo.{is_empty, has_room, front, pop, push}
use Rattle.chip.specs.Count.{none_left, is_last, lowered}
use Rattle.chip.specs.Interrupts.{ending_with}

-- "Bad parity on any byte that would be taken in sets PE; with HSP the byte is not taken or counted, ACK is held, answer 8,
-- ending with 43h." 43h leaves no phase reported.
unfoldable pub halted : State → Reply
halted s = reports (ending_with 0x43 (set_reported None (set_ack true (set_pe true s))))

-- r, the reply where the byte is taken in, unless its parity halts the transfer
unfoldable pub unless_halted : Bool → State → Reply → Reply
unless_halted bad s r = pick (both bad (hsp s)) (halted s) r

-- PE after a byte that is taken in
unfoldable pub parity_noted : Bool → State → State
parity_noted bad s = set_pe (either s.status.pe bad) s

-- "The last Message Out byte clears ATN."
unfoldable pub atn_after : Phase → State → Bool
atn_after p s = pick (both (is_message_out p) (is_last s)) false s.wire.handshake.atn

-- ".. takes one from .. the FIFO and lowers the count; Held if it is empty"
unfoldable pub transfer_info_sent : Phase → State → Reply
transfer_info_sent p s =
    pick (is_empty s.fifo) (held s)
    (done (front s.fifo) (set_atn (atn_after p s) (lowered (set_fifo (pop s.fifo) s))))

-- ".. puts one into, the FIFO and lowers the count"
unfoldable pub taken_in : ℕ → Bool → State → State
taken_in b bad s = lowered (set_fifo (push b s.fifo) (parity_noted bad s))

-- "The last Message In byte holds ACK and is ending with 20h." 20h leaves no phase reported.
unfoldable pub transfer_info_taken : Phase → ℕ → Bool → State → Reply
transfer_info_taken p b bad s =
    pick (both (is_message_in p) (is_last s))
    (done b (ending_with 0x20 (set_reported None (set_ack true (taken_in b bad s)))))
    (done b (taken_in b bad s))

-- "Held if it is .. full"
unfoldable pub transfer_info_offered : Phase → ℕ → Bool → State → Reply
transfer_info_offered p b bad s = pick (has_room s.fifo) (unless_halted bad s (transfer_info_taken p b bad s)) (held s)

-- "ending with 18h+p if none left, else 48h+p"
unfoldable pub over_code : Phase → State → ℕ
over_code p s = pick (none_left s) 0x18 0x48 + phase_number p

-- "With none left, or with another phase, it is Reported"
unfoldable pub transfer_info_over : Phase → State → Reply
transfer_info_over p s = reports (ending_with (over_code p s) (set_reported (Some p) s))

-- "A Request of the phase under transfer with bytes left .." The phase under transfer is the reported one: the command began
-- with it, and the next report ends the command.
unfoldable pub transfer_info_request : Phase → ℕ → Bool → State → Reply
transfer_info_request p b bad s =
    pick (both (is_noted p s.wire.seen.reported) (not (none_left s)))
    (pick (comes_in p) (transfer_info_offered p b bad s) (transfer_info_sent p s))
    (transfer_info_over p s)

-- "Free: Disconnected, ending with 85h if none left, else 41h."
unfoldable pub transfer_info_free_code : State → ℕ
transfer_info_free_code s = pick (none_left s) 0x85 0x41

-- t is s with the bus free
unfoldable pub transfer_info_free : State → State → Reply
transfer_info_free s t = done 0 (ending_with (transfer_info_free_code s) t)
