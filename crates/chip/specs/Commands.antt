-- Commands: the table, accepting, ignoring, 40h, and what each does. Paper: the section "Commands".
use Rattle.std.specs.Prelude.{Bool, true, false, not, List, [], ◌∷◌, ℕ, ◌+◌, eqb, get_or, Option, None, Some}
use Rattle.chip.specs.Choice.{pick, both, either}
use Rattle.chip.specs.declared.State.{State}
use Rattle.chip.specs.declared.Reply.{Reply}
use Rattle.chip.specs.declared.Entry.{Entry}
use Rattle.chip.specs.declared.Level.{Level}
use Rattle.chip.specs.declared.Level.TheVariants.{One, Two}
use Rattle.chip.specs.declared.Place.{Place}
use Rattle.chip.specs.declared.Place.TheVariants.{Nowhere, Anywhere, WhenDisconnected, WhenConnected, WhenConnectedOrWaiting, WhenConnectedOrDisconnected}
use Rattle.chip.specs.declared.Connection.{Connection}
use Rattle.chip.specs.declared.Connection.TheVariants.{Disconnected, Selecting}
use Rattle.chip.specs.Connections.{is_connected, is_disconnected, is_waiting}
use Rattle.chip.specs.declared.Command.{Command}
use Rattle.chip.specs.declared.Command.TheVariants.{SelectWithAtn, SelectWithoutAtn, SelectAndTransferWithAtn, SelectAndTransferWithoutAtn, TransferInfo}
use Rattle.chip.specs.declared.Activity.TheVariants.{Idle, Interrupt, Runs}
use Rattle.chip.specs.Activity.{goes_on}
use Rattle.chip.specs.declared.Direction.{Direction}
use Rattle.chip.specs.declared.Direction.TheVariants.{Unfixed, In, Out}
use Rattle.chip.specs.declared.Phase.{Phase}
use Rattle.chip.specs.declared.Phase.TheVariants.{MessageOut}
use Rattle.chip.specs.State.{cleared, nothing_moves, apart, set_fifo, set_control, set_command, set_lci, set_pe, set_activity, set_direction, set_connection, set_atn, set_ack, set_reported, set_elapsed}
use Rattle.chip.specs.Fifo.{empty}
use Rattle.chip.specs.Answers.{done, ignored}
use Rattle.chip.specs.Lines.{is_single, code_of, own_identity, with_idi}
use Rattle.chip.specs.Phases.{phase_number, comes_in}
use Rattle.chip.specs.Count.{loaded_for_transfer_info}
use Rattle.chip.specs.Interrupts.{interrupted, busy, interrupt, raise, ending_with}
use Rattle.chip.specs.Translate.{translated}
use Rattle.chip.specs.SelectAndTransfer.{from_disconnected, has_size, is_resumable, resumed}

abbrev level_one : Place → Entry
level_one p = record { level = One; place = p }

abbrev level_two : Place → Entry
level_two p = record { level = Two; place = p }

-- a code that the table lacks, or one that is left out
abbrev pub left_out : Entry
left_out = record { level = Two; place = Nowhere }

-- "One table lists every code 00 to 21h with its level and the connection in which it is valid. Codes it lacks, left-out ones and
-- those above 21h count as Level II."
unfoldable pub table : List Entry
table =
    level_one Anywhere  -- 00 Reset
    ∷ level_one Anywhere  -- 01 Abort
    ∷ level_one WhenConnected  -- 02 Assert ATN
    ∷ level_one WhenConnected  -- 03 Negate ACK
    ∷ level_one WhenConnected  -- 04 Disconnect
    ∷ left_out  -- 05 Reselect
    ∷ level_two WhenDisconnected  -- 06 Select with ATN
    ∷ level_two WhenDisconnected  -- 07 Select without ATN
    ∷ level_two WhenConnectedOrDisconnected  -- 08 Select-And-Transfer with ATN
    ∷ level_two WhenConnectedOrDisconnected  -- 09 Select-And-Transfer without ATN
    ∷ left_out  -- 0Ah Reselect-and-Receive-Data
    ∷ left_out  -- 0Bh Reselect-and-Send-Data
    ∷ left_out  -- 0Ch Wait-for-Select-and-Receive
    ∷ left_out  -- 0Dh Send-Status-and-Command-Complete
    ∷ left_out  -- 0Eh Send-Disconnect-Message
    ∷ level_one WhenConnectedOrWaiting  -- 0Fh Set IDI
    ∷ left_out  -- 10h Receive Command
    ∷ left_out  -- 11h Receive Data
    ∷ left_out  -- 12h Receive Message Out
    ∷ left_out  -- 13h Receive Unspecified Info Out
    ∷ left_out  -- 14h Send Status
    ∷ left_out  -- 15h Send Data
    ∷ left_out  -- 16h Send Message In
    ∷ left_out  -- 17h Send Unspecified Info In
    ∷ level_two WhenDisconnected  -- 18h Translate Address (02)
    ∷ left_out  -- 19h
    ∷ left_out  -- 1Ah
    ∷ left_out  -- 1Bh
    ∷ left_out  -- 1Ch
    ∷ left_out  -- 1Dh
    ∷ left_out  -- 1Eh
    ∷ left_out  -- 1Fh
    ∷ level_two WhenConnected  -- 20h Transfer Info
    ∷ left_out  -- 21h Transfer Pad
    ∷ []

unfoldable pub entry_of : ℕ → Entry
entry_of n = get_or table n left_out

abbrev pub is_two : Level → Bool
is_two One = false
is_two Two = true

-- the connection is one in which the command is valid
abbrev pub is_place : Place → Connection → Bool
is_place Nowhere x = false
is_place Anywhere x = true
is_place WhenDisconnected x = is_disconnected x
is_place WhenConnected x = is_connected x
is_place WhenConnectedOrWaiting x = either (is_connected x) (is_waiting x)
is_place WhenConnectedOrDisconnected x = either (is_connected x) (is_disconnected x)

abbrev pub is_some : Option Phase → Bool
is_some None = false
is_some (Some p) = true

-- what a command asks for beside the connection.
-- "Abort is valid while BSY with no ending under way." "Transfer Info: connected, ACK not held, a phase reported."
-- Select-And-Transfer: a command that has a size; connected, a phase register that is accepted for the resume.
unfoldable pub is_ready : ℕ → State → Bool
is_ready n s =
    pick (eqb n 0x01) (goes_on s.activity)
    (pick (either (eqb n 0x08) (eqb n 0x09)) (pick (is_connected s.wire.connection) (is_resumable s) (has_size s))
    (pick (eqb n 0x20) (both (not s.wire.handshake.ack) (is_some s.wire.seen.reported)) true))

unfoldable pub is_valid : ℕ → State → Bool
is_valid n s = both (is_place (entry_of n).place s.wire.connection) (is_ready n s)

-- the code that a Reset raises
unfoldable pub reset_code : State → ℕ
reset_code s = 0x00

-- "Reset is always taken: registers 01 to 16h become zero, 00 is kept and its low three bits become our identity, FIFO, ATN, held ACK
-- and PE clear, state Disconnected, code 00 with INT." The pointer is no register and stays.
unfoldable pub reset : ℕ → State → State
reset b s =
    record {
      registers = cleared s.registers.setup.own;
      status = record { pointer = s.status.pointer; code = reset_code s; command = b; lci = false; pe = false };
      activity = Interrupt;
      fifo = empty;
      transfer = nothing_moves;
      wire = apart (own_identity s.registers.setup.own);
    }

-- "28h plus the phase of the last Request answered Done or Reported since connection, Message Out's 2Eh if none (house)"
abbrev pub abort_phase : Option Phase → Phase
abort_phase None = MessageOut
abort_phase (Some p) = p

-- "When selecting or waiting for reselection it raises 22h, Disconnected. When connected it is ending with 28h plus the phase .."
unfoldable pub aborted : State → State
aborted s =
    pick (is_connected s.wire.connection)
    (ending_with (0x28 + phase_number (abort_phase s.wire.seen.last)) (set_reported (Some (abort_phase s.wire.seen.last)) s))
    (raise 0x22 (set_connection Disconnected s))

-- "Disconnect, when connected, drops command, FIFO, ATN and held ACK; no interrupt (house)." An ending goes with its bytes.
unfoldable pub disconnected : State → State
disconnected s =
    set_connection Disconnected
    (set_atn false (set_ack false (set_activity Idle (set_direction Unfixed (set_fifo empty s)))))

-- a selection begins
unfoldable pub selecting : Command → State → State
selecting r s = set_activity (Runs r) (set_connection Selecting (set_elapsed 0 s))

-- "Select (06 to 09): Disconnected. 08/09 when connected are the resume."
unfoldable pub select_and_transfer_begun : Command → State → State
select_and_transfer_begun r s = pick (is_connected s.wire.connection) (resumed r s) (selecting r (from_disconnected s))

-- the way of a phase: "Odd p comes in"
abbrev pub way_of : Option Phase → Direction
way_of None = Unfixed
way_of (Some p) = pick (comes_in p) In Out

-- Transfer Info begins, in the reported phase
unfoldable pub transfer_info_begun : Bool → State → State
transfer_info_begun single s = set_activity (Runs TransferInfo) (set_direction (way_of s.wire.seen.reported) (loaded_for_transfer_info single s))

-- a valid command, by its code; single is its bit 7. No other code is valid
unfoldable pub carried_out : ℕ → Bool → State → State
carried_out n single s =
    pick (eqb n 0x01) (aborted s)
    (pick (eqb n 0x02) (set_atn true s)
    (pick (eqb n 0x03) (set_ack false s)
    (pick (eqb n 0x04) (disconnected s)
    (pick (eqb n 0x06) (selecting SelectWithAtn s)
    (pick (eqb n 0x07) (selecting SelectWithoutAtn s)
    (pick (eqb n 0x08) (select_and_transfer_begun SelectAndTransferWithAtn s)
    (pick (eqb n 0x09) (select_and_transfer_begun SelectAndTransferWithoutAtn s)
    (pick (eqb n 0x0F) (set_control (with_idi s.registers.setup.control) s)
    (pick (eqb n 0x18) (translated s) (pick (eqb n 0x20) (transfer_info_begun single s) s))))))))))

-- "A command not ignored clears LCI and PE", and 18h reads it back, all 8 bits
unfoldable pub accepted : ℕ → State → State
accepted b s = set_command b (set_lci false (set_pe false s))

-- "With BSY set, a Level II command, or a Level I command not valid now, is ignored (house)."
unfoldable pub is_refused_busy : ℕ → State → Bool
is_refused_busy n s = both (busy s) (either (is_two (entry_of n).level) (not (is_valid n s)))

-- "Reset is always taken .. Otherwise: with INT set, any command is ignored. With BSY set .. is ignored (house). Otherwise an invalid
-- or left-out command raises 40h."; "one raising 40h otherwise changes only INT, 17h and 18h"
unfoldable pub commanded : ℕ → State → Reply
commanded b s =
    pick (eqb (code_of b) 0x00) (done 0 (reset b s))
    (pick (interrupted s) (ignored s)
    (pick (is_refused_busy (code_of b) s) (ignored s)
    (pick (is_valid (code_of b) s) (done 0 (carried_out (code_of b) (is_single b) (accepted b s)))
    (done 0 (interrupt 0x40 (accepted b s))))))
