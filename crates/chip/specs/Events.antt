-- The bus events in every state. Paper: the section "Bus events"; the order of checks is that of "The answers": 6, 2, 1, then 8
-- (Requests only) or 0.
use Rattle.std.specs.Prelude.{Bool, false, not, ℕ, ◌+◌, eqb, leb, None, Some}
use Rattle.chip.specs.Choice.{pick, both, either}
use Rattle.chip.specs.declared.State.{State}
use Rattle.chip.specs.declared.Reply.{Reply}
use Rattle.chip.specs.declared.Answer.{Answer}
use Rattle.chip.specs.declared.Answer.TheVariants.{Done, Held, OutOfPlace, BadNumber, Blind, CommandIgnored, ReselectionIgnored, NoDataNow, Reported}
use Rattle.chip.specs.declared.Connection.TheVariants.{Disconnected, Connected}
use Rattle.chip.specs.declared.Phase.{Phase}
use Rattle.chip.specs.Phases.{phase_number, is_noted}
use Rattle.chip.specs.Connections.{is_selecting, is_waiting, is_connected}
use Rattle.chip.specs.Activity.{is_select_and_transfer, is_transfer_info, sets_atn, goes_on}
use Rattle.chip.specs.State.{set_connection, set_atn, set_ack, set_reported, set_last, set_phase, set_source, set_elapsed}
use Rattle.chip.specs.Answers.{says, done, held, out_of_place, reselection_ignored, reports}
use Rattle.chip.specs.Lines.{qualifies, are_two, other_identity, source_after, destination, same_identity}
use Rattle.chip.specs.Interrupts.{in_ending, raise, unless_interrupt}
use Rattle.chip.specs.TransferInfo.{transfer_info_request, transfer_info_free}
use Rattle.chip.specs.SelectAndTransfer.{select_and_transfer_request, select_and_transfer_free}

-- Time

-- "when they reach it, code 42h, Disconnected"
unfoldable pub timed_out : State → State
timed_out s = raise 0x42 (set_connection Disconnected s)

-- "While selecting with register 02 not 0, units add up"
unfoldable pub selection_time : ℕ → State → Reply
selection_time n s =
    pick (eqb s.registers.setup.timeout 0) (done 0 s)
    (pick (leb s.registers.setup.timeout (s.wire.elapsed + n)) (done 0 (timed_out s)) (done 0 (set_elapsed (s.wire.elapsed + n) s)))

-- a selection runs: selecting, by a command. Then no status is unread, and no ending is under way
unfoldable pub selects : State → Bool
selects s = both (is_selecting s.wire.connection) (goes_on s.activity)

-- n units pass. While selecting they add up; "Otherwise Done without effect."
unfoldable pub passed : ℕ → State → Reply
passed n s = pick (selects s) (selection_time n s) (done 0 s)

-- Answer

-- a connection begins: no phase is reported, and no Request was answered since
unfoldable pub connected : State → State
connected s = set_connection Connected (set_reported None (set_last None s))

-- "ATN set for 06 and 08"
unfoldable pub answered_state : State → State
answered_state s = set_atn (either (sets_atn s.activity) s.wire.handshake.atn) (connected s)

-- "for 06/07 code 11h; for 08/09 phase register 10h"
unfoldable pub answered_selecting : State → Reply
answered_selecting s =
    pick (is_select_and_transfer s.activity) (done 0 (set_phase 0x10 (answered_state s)))
    (done 0 (raise 0x11 (answered_state s)))

-- no selection runs: "only while selecting, else 2". An image may say selecting in an ending, where "bus events are Held"
unfoldable pub answered_elsewhere : State → Reply
answered_elsewhere s = pick (both (is_selecting s.wire.connection) (in_ending s)) (held s) (out_of_place s)

unfoldable pub answered : State → Reply
answered s = pick (selects s) (answered_selecting s) (answered_elsewhere s)

-- Reselection

-- "With two bits, SIV and the other identity go into 16h; with one, bits 3 to 0 become 0. Bits 7 to 4 stay. It connects"
unfoldable pub reselected_state : ℕ → State → State
reselected_state lines s = connected (set_source (source_after lines s) s)

-- "code 80h, command ended"
unfoldable pub reselected_with_code : ℕ → State → Reply
reselected_with_code lines s = unless_interrupt s (done 0 (raise 0x80 (reselected_state lines s)))

-- "a waiting Select-And-Transfer whose 15h bits 2 to 0 name that identity". One line names nobody.
unfoldable pub names_target : ℕ → State → Bool
names_target lines s =
    both (is_select_and_transfer s.activity)
    (both (are_two lines) (same_identity (other_identity s.wire.identity lines) (destination s)))

-- in an ending Held; "except a waiting Select-And-Transfer ..: phase 44h, no interrupt"
unfoldable pub reselected_apart : ℕ → State → Reply
reselected_apart lines s =
    pick (in_ending s) (held s)
    (pick (both (is_waiting s.wire.connection) (names_target lines s)) (done 0 (set_phase 0x44 (reselected_state lines s)))
    (reselected_with_code lines s))

-- "Reselection with the eight data lines. Ignored unless .."; "It is valid when Disconnected, selecting or waiting."
unfoldable pub reselected : ℕ → State → Reply
reselected lines s =
    pick (qualifies lines s) (pick (is_connected s.wire.connection) (out_of_place s) (reselected_apart lines s))
    (reselection_ignored s)

-- Request

-- "Connected and idle: a Request of a phase not yet reported raises 88h+p and reports p; the reported one again is Held."
unfoldable pub idle_request : Phase → State → Reply
idle_request p s =
    pick (is_noted p s.wire.seen.reported) (held s)
    (unless_interrupt s (reports (raise (0x88 + phase_number p) (set_reported (Some p) s))))

-- by the command that runs; a Select has done its work when connected
unfoldable pub requested_running : Phase → ℕ → Bool → State → Reply
requested_running p b bad s =
    pick (is_select_and_transfer s.activity) (select_and_transfer_request p b bad s)
    (pick (is_transfer_info s.activity) (transfer_info_request p b bad s) (idle_request p s))

-- in an ending "bus events are Held"; "Held while ACK is held"
unfoldable pub requested_connected : Phase → ℕ → Bool → State → Reply
requested_connected p b bad s =
    pick (in_ending s) (held s) (pick s.wire.handshake.ack (held s) (requested_running p b bad s))

-- a Request comes to the running command, and is not Held before: connected, no ending under way, ACK not held
unfoldable pub is_served : State → Bool
is_served s = both (is_connected s.wire.connection) (both (goes_on s.activity) (not s.wire.handshake.ack))

-- "the last Request answered Done or Reported since connection" is kept in mind for Abort
abbrev pub remembered_by : Answer → Phase → Reply → Reply
remembered_by (Done v) p r = says (Done v) (set_last (Some p) r.state)
remembered_by Held p r = r
remembered_by OutOfPlace p r = r
remembered_by BadNumber p r = r
remembered_by Blind p r = r
remembered_by CommandIgnored p r = r
remembered_by ReselectionIgnored p r = r
remembered_by NoDataNow p r = r
remembered_by Reported p r = says Reported (set_last (Some p) r.state)

unfoldable pub remembered : Phase → Reply → Reply
remembered p r = remembered_by r.answer p r

-- "Request phase p 0 to 7 (MSG, C/D, I/O as 4, 2, 1), a byte, parity good or bad."; "Connected only."
unfoldable pub requested : Phase → ℕ → Bool → State → Reply
requested p b bad s =
    remembered p (pick (is_connected s.wire.connection) (requested_connected p b bad s) (out_of_place s))

-- Free

-- "it disconnects and clears ATN and held ACK"
unfoldable pub bus_free : State → State
bus_free s = set_connection Disconnected (set_atn false (set_ack false s))

-- "Free raises 85h", connected and idle
unfoldable pub idle_free : State → Reply
idle_free s = unless_interrupt s (done 0 (raise 0x85 (bus_free s)))

-- by the command that runs
unfoldable pub freed_running : State → Reply
freed_running s =
    pick (is_select_and_transfer s.activity) (select_and_transfer_free s (bus_free s))
    (pick (is_transfer_info s.activity) (transfer_info_free s (bus_free s))
    (idle_free s))

-- "Free: connected only; unless Held .."
unfoldable pub freed : State → Reply
freed s =
    pick (is_connected s.wire.connection) (pick (in_ending s) (held s) (freed_running s)) (out_of_place s)
