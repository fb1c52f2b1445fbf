-- No Request and no ending that settles changes a command byte (registers 03 to 0Eh), from any state: so the code takes them from the state
-- before.
--   taken_before      with the command bytes of the state before, a state that keeps them is itself
--   settled_keeps     where an ending settles
--   requested_keeps   by a Request
use mathlib.Core.Path.{◌≡◌, refl, ap, sym}
use mathlib.Core.Bool.{Bool}
use mathlib.Core.List.{List}
use Prim.Native.Nat.{ℕ}
use Rattle.chip.specs.Choice.{pick}
use Rattle.chip.specs.declared.State.{State}
use Rattle.chip.specs.declared.Reply.{Reply}
use Rattle.chip.specs.declared.Answer.{Answer}
use Rattle.chip.specs.declared.Answer.TheVariants.{Done, Held, OutOfPlace, BadNumber, Blind, CommandIgnored, ReselectionIgnored, NoDataNow, Reported}
use Rattle.chip.specs.declared.Activity.{Activity}
use Rattle.chip.specs.declared.Activity.TheVariants.{Idle, Interrupt, Runs, Ends, ReadOut}
use Rattle.chip.specs.declared.Direction.{Direction}
use Rattle.chip.specs.declared.Direction.TheVariants.{Unfixed, In, Out}
use Rattle.chip.specs.declared.Phase.{Phase}
use Rattle.chip.specs.declared.Phase.TheVariants.{DataOut, DataIn, CommandOut, StatusIn, UnspecifiedOut, UnspecifiedIn, MessageOut, MessageIn}
use Rattle.chip.specs.declared.Stage.{Stage}
use Rattle.chip.specs.declared.Stage.TheVariants.{SendIdentify, SendCommand, Body, AfterData, Disconnecting, Reselected, AfterStatus, Elsewhere}
use Rattle.chip.specs.State.{set_cdb}
use Rattle.chip.specs.Answers.{out_of_place}
use Rattle.chip.specs.Connections.{is_connected}
use Rattle.chip.specs.Count.{lowered}
use Rattle.chip.specs.Interrupts.{outgoing_dropped, raise, ending_with, settled_by, settled, unless_interrupt}
use Rattle.chip.specs.TransferInfo.{halted, unless_halted, parity_noted, taken_in, transfer_info_sent, transfer_info_taken, transfer_info_offered, transfer_info_over, transfer_info_request}
use Rattle.chip.specs.SelectAndTransfer.{unexpected, send_identify, send_command, send_data, take_data, data_out, data_in, unless_none_left, take_status, take_save, take_disconnect, take_message, body_request, late_request, take_identify, completed, take_complete, request_at, stage, select_and_transfer_request}
use Rattle.chip.specs.Events.{idle_request, requested_running, requested_connected, remembered_by, remembered, requested}
use Rattle.chip.proofs.Cases.{by_pick}

-- the command bytes of s are those of a state, of a reply
abbrev Same : State → State → Type 0
Same s t = t.registers.descriptor.cdb ≡ s.registers.descriptor.cdb

abbrev Keeps : State → Reply → Type 0
Keeps s r = Same s r.state

pub taken_before : (s t : State) → t.registers.descriptor.cdb ≡ s.registers.descriptor.cdb
    → set_cdb s.registers.descriptor.cdb t ≡ t
taken_before s t e = ap (λ (l : List ℕ). set_cdb l t) (sym e)

raised : (k : ℕ) (s : State) → Same s (raise k s)
unfolding raise outgoing_dropped
raised k s = refl

ended : (k : ℕ) (s : State) → Same s (ending_with k s)
unfolding ending_with
ended k s = by_pick (Same s) _ refl (raised k s)

settled_by_keeps : (a : Activity) (s : State) → Same s (settled_by a s)
unfolding settled_by
settled_by_keeps Idle s = refl
settled_by_keeps Interrupt s = refl
settled_by_keeps (Runs r) s = refl
settled_by_keeps (Ends r k) s = raised k s
settled_by_keeps (ReadOut r) s = refl

pub settled_keeps : (s : State) → (settled s).registers.descriptor.cdb ≡ s.registers.descriptor.cdb
unfolding settled
settled_keeps s = by_pick (Same s) _ (settled_by_keeps s.activity s) refl

module _ (s : State) where
  halts : Keeps s (halted s)
  unfolding halted
  halts = ended 0x43 _

  unless_halts : (bad : Bool) (r : Reply) → Keeps s r → Keeps s (unless_halted bad s r)
  unfolding unless_halted
  unless_halts bad r h = by_pick (Keeps s) _ halts h

  -- Transfer Info

  info_sent : (p : Phase) → Keeps s (transfer_info_sent p s)
  unfolding transfer_info_sent lowered
  info_sent p = by_pick (Keeps s) _ refl refl

  info_taken : (p : Phase) (b : ℕ) (bad : Bool) → Keeps s (transfer_info_taken p b bad s)
  unfolding transfer_info_taken taken_in lowered parity_noted
  info_taken p b bad = by_pick (Keeps s) _ (ended 0x20 _) refl

  info_offered : (p : Phase) (b : ℕ) (bad : Bool) → Keeps s (transfer_info_offered p b bad s)
  unfolding transfer_info_offered
  info_offered p b bad = by_pick (Keeps s) _ (unless_halts bad _ (info_taken p b bad)) refl

  info_over : (p : Phase) → Keeps s (transfer_info_over p s)
  unfolding transfer_info_over
  info_over p = ended _ _

  info_request : (p : Phase) (b : ℕ) (bad : Bool) → Keeps s (transfer_info_request p b bad s)
  unfolding transfer_info_request
  info_request p b bad =
      by_pick (Keeps s) _ (by_pick (Keeps s) _ (info_offered p b bad) (info_sent p)) (info_over p)

  -- Select-And-Transfer

  surprises : (p : Phase) → Keeps s (unexpected p s)
  unfolding unexpected
  surprises p = ended _ _

  identify_sent : (p : Phase) → Keeps s (send_identify p s)
  unfolding send_identify
  identify_sent p = by_pick (Keeps s) _ refl (surprises p)

  command_sent : (x : ℕ) (p : Phase) → Keeps s (send_command x p s)
  unfolding send_command
  command_sent x p = by_pick (Keeps s) _ refl (surprises p)

  data_sent : Keeps s (send_data s)
  unfolding send_data lowered
  data_sent = by_pick (Keeps s) _ refl refl

  data_taken : (b : ℕ) (bad : Bool) → Keeps s (take_data b bad s)
  unfolding take_data taken_in lowered parity_noted
  data_taken b bad = by_pick (Keeps s) _ (unless_halts bad _ refl) refl

  out_by : (d : Direction) → Keeps s (data_out d s)
  unfolding data_out
  out_by Unfixed = refl
  out_by In = surprises DataOut
  out_by Out = data_sent

  in_by : (d : Direction) (b : ℕ) (bad : Bool) → Keeps s (data_in d b bad s)
  unfolding data_in
  in_by Unfixed b bad = data_taken b bad
  in_by In b bad = data_taken b bad
  in_by Out b bad = surprises DataIn

  unless_none : (p : Phase) (r : Reply) → Keeps s r → Keeps s (unless_none_left p s r)
  unfolding unless_none_left
  unless_none p r h = by_pick (Keeps s) _ (surprises p) h

  status_taken : (b : ℕ) (bad : Bool) → Keeps s (take_status b bad s)
  unfolding take_status outgoing_dropped parity_noted
  status_taken b bad = unless_halts bad _ refl

  save_taken : (bad : Bool) → Keeps s (take_save bad s)
  unfolding take_save parity_noted
  save_taken bad = unless_halts bad _ (ended 0x21 _)

  disconnect_taken : (bad : Bool) → Keeps s (take_disconnect bad s)
  unfolding take_disconnect parity_noted
  disconnect_taken bad = unless_halts bad _ refl

  message_taken : (b : ℕ) (bad : Bool) → Keeps s (take_message b bad s)
  unfolding take_message
  message_taken b bad =
      by_pick (Keeps s) _ (save_taken bad) (by_pick (Keeps s) _ (disconnect_taken bad) (surprises MessageIn))

  body : (p : Phase) (b : ℕ) (bad : Bool) → Keeps s (body_request p b bad s)
  unfolding body_request
  body DataOut b bad = unless_none DataOut _ (out_by s.transfer.direction)
  body DataIn b bad = unless_none DataIn _ (in_by s.transfer.direction b bad)
  body CommandOut b bad = surprises CommandOut
  body StatusIn b bad = status_taken b bad
  body UnspecifiedOut b bad = surprises UnspecifiedOut
  body UnspecifiedIn b bad = surprises UnspecifiedIn
  body MessageOut b bad = surprises MessageOut
  body MessageIn b bad = message_taken b bad

  late : (p : Phase) (b : ℕ) (bad : Bool) → Keeps s (late_request p b bad s)
  unfolding late_request
  late DataOut b bad = surprises DataOut
  late DataIn b bad = surprises DataIn
  late CommandOut b bad = surprises CommandOut
  late StatusIn b bad = status_taken b bad
  late UnspecifiedOut b bad = surprises UnspecifiedOut
  late UnspecifiedIn b bad = surprises UnspecifiedIn
  late MessageOut b bad = surprises MessageOut
  late MessageIn b bad = message_taken b bad

  identify_taken : (p : Phase) (b : ℕ) (bad : Bool) → Keeps s (take_identify p b bad s)
  unfolding take_identify parity_noted
  identify_taken p b bad = by_pick (Keeps s) _ (unless_halts bad _ refl) (surprises p)

  complete_taken : (p : Phase) (b : ℕ) (bad : Bool) → Keeps s (take_complete p b bad s)
  unfolding take_complete completed parity_noted
  complete_taken p b bad = by_pick (Keeps s) _ (unless_halts bad _ (ended 0x16 _)) (surprises p)

  at_stage : (g : Stage) (p : Phase) (b : ℕ) (bad : Bool) → Keeps s (request_at g p b bad s)
  unfolding request_at
  at_stage SendIdentify p b bad = identify_sent p
  at_stage (SendCommand x) p b bad = command_sent x p
  at_stage Body p b bad = body p b bad
  at_stage AfterData p b bad = late p b bad
  at_stage Disconnecting p b bad = surprises p
  at_stage Reselected p b bad = identify_taken p b bad
  at_stage AfterStatus p b bad = complete_taken p b bad
  at_stage Elsewhere p b bad = surprises p

  -- a Request, by the command that runs

  idle : (p : Phase) → Keeps s (idle_request p s)
  unfolding idle_request unless_interrupt
  idle p = by_pick (Keeps s) _ refl (by_pick (Keeps s) _ refl (raised _ _))

  running : (p : Phase) (b : ℕ) (bad : Bool) → Keeps s (requested_running p b bad s)
  unfolding requested_running select_and_transfer_request
  running p b bad =
      by_pick (Keeps s) _ (at_stage (stage s) p b bad) (by_pick (Keeps s) _ (info_request p b bad) (idle p))

  connected_request : (p : Phase) (b : ℕ) (bad : Bool) → Keeps s (requested_connected p b bad s)
  unfolding requested_connected
  connected_request p b bad = by_pick (Keeps s) _ refl (by_pick (Keeps s) _ refl (running p b bad))

  remembered_keeps : (a : Answer) (p : Phase) (r : Reply) → Keeps s r → Keeps s (remembered_by a p r)
  remembered_keeps (Done v) p r h = h
  remembered_keeps Held p r h = h
  remembered_keeps OutOfPlace p r h = h
  remembered_keeps BadNumber p r h = h
  remembered_keeps Blind p r h = h
  remembered_keeps CommandIgnored p r h = h
  remembered_keeps ReselectionIgnored p r h = h
  remembered_keeps NoDataNow p r h = h
  remembered_keeps Reported p r h = h

pub requested_keeps : (p : Phase) (b : ℕ) (bad : Bool) (s : State)
    → (requested p b bad s).state.registers.descriptor.cdb ≡ s.registers.descriptor.cdb
unfolding requested remembered
requested_keeps p b bad s =
    let r : Reply = pick (is_connected s.wire.connection) (requested_connected p b bad s) (out_of_place s) in
    remembered_keeps s r.answer p r
    (by_pick (Keeps s) (is_connected s.wire.connection) {a = requested_connected p b bad s} {b = out_of_place s} (connected_request s p b bad) refl)
