-- What a Request does to the FIFO, by any rule and from any state: it touches at most the place behind the bytes that wait (`Goes`).
--   requested_goes   the law, of a Request
use Prim.Native.Nat.{ℕ}
use mathlib.Core.Bool.{Bool}
use Rattle.chip.specs.Choice.{pick}
use Rattle.chip.specs.declared.State.{State}
use Rattle.chip.specs.declared.Reply.{Reply}
use Rattle.chip.specs.declared.Fifo.{Fifo}
use Rattle.chip.specs.declared.Answer.{Answer}
use Rattle.chip.specs.declared.Answer.TheVariants.{Done, Held, OutOfPlace, BadNumber, Blind, CommandIgnored, ReselectionIgnored, NoDataNow, Reported}
use Rattle.chip.specs.declared.Direction.{Direction}
use Rattle.chip.specs.declared.Direction.TheVariants.{Unfixed, In, Out}
use Rattle.chip.specs.declared.Phase.{Phase}
use Rattle.chip.specs.declared.Phase.TheVariants.{DataOut, DataIn, CommandOut, StatusIn, UnspecifiedOut, UnspecifiedIn, MessageOut, MessageIn}
use Rattle.chip.specs.declared.Stage.{Stage}
use Rattle.chip.specs.declared.Stage.TheVariants.{SendIdentify, SendCommand, Body, AfterData, Disconnecting, Reselected, AfterStatus, Elsewhere}
use Rattle.chip.specs.Fifo.{push, Goes, stays, loses, gets, drops, gets_and_drops}
use Rattle.chip.specs.Answers.{out_of_place}
use Rattle.chip.specs.Connections.{is_connected}
use Rattle.chip.specs.Count.{lowered}
use Rattle.chip.specs.Interrupts.{without_outgoing, outgoing_dropped, raise, ending_with, unless_interrupt}
use Rattle.chip.specs.TransferInfo.{halted, unless_halted, parity_noted, taken_in, transfer_info_sent, transfer_info_taken, transfer_info_offered, transfer_info_over, transfer_info_request}
use Rattle.chip.specs.SelectAndTransfer.{unexpected, send_identify, send_command, send_data, take_data, data_out, data_in, unless_none_left, take_status, take_save, take_disconnect, take_message, body_request, late_request, take_identify, completed, take_complete, request_at, stage, select_and_transfer_request}
use Rattle.chip.specs.Events.{idle_request, requested_running, requested_connected, remembered_by, remembered, requested}
use Rattle.chip.proofs.Cases.{by_pick}

-- from the FIFO q to that of a state, of a reply
abbrev To : Fifo → State → Type 0
To q t = Goes q t.fifo

abbrev Tells : Fifo → Reply → Type 0
Tells q r = Goes q r.state.fifo

dropped_goes : (d : Direction) (q : Fifo) → Goes q (without_outgoing d q)
dropped_goes Unfixed q = stays
dropped_goes In q = stays
dropped_goes Out q = drops

put_and_dropped : (d : Direction) (b : ℕ) (q : Fifo) → Goes q (without_outgoing d (push b q))
put_and_dropped Unfixed b q = gets b
put_and_dropped In b q = gets b
put_and_dropped Out b q = gets_and_drops b

raised : (k : ℕ) (s : State) → To s.fifo (raise k s)
unfolding raise outgoing_dropped
raised k s = dropped_goes s.transfer.direction s.fifo

ended : (k : ℕ) (s : State) → To s.fifo (ending_with k s)
unfolding ending_with
ended k s = by_pick (To s.fifo) _ stays (raised k s)

module _ (s : State) where
  halts : Tells s.fifo (halted s)
  unfolding halted
  halts = ended 0x43 _

  unless_halts : (bad : Bool) (r : Reply) → Tells s.fifo r → Tells s.fifo (unless_halted bad s r)
  unfolding unless_halted
  unless_halts bad r h = by_pick (Tells s.fifo) _ halts h

  -- Transfer Info

  info_sent : (p : Phase) → Tells s.fifo (transfer_info_sent p s)
  unfolding transfer_info_sent lowered
  info_sent p = by_pick (Tells s.fifo) _ stays loses

  took : (b : ℕ) (bad : Bool) → To s.fifo (taken_in b bad s)
  unfolding taken_in lowered parity_noted
  took b bad = gets b

  info_taken : (p : Phase) (b : ℕ) (bad : Bool) → Tells s.fifo (transfer_info_taken p b bad s)
  unfolding transfer_info_taken taken_in lowered parity_noted ending_with raise outgoing_dropped
  info_taken p b bad =
      by_pick (Tells s.fifo) _
      (by_pick (To s.fifo) _ (gets b) (put_and_dropped s.transfer.direction b s.fifo))
      (gets b)

  info_offered : (p : Phase) (b : ℕ) (bad : Bool) → Tells s.fifo (transfer_info_offered p b bad s)
  unfolding transfer_info_offered
  info_offered p b bad = by_pick (Tells s.fifo) _ (unless_halts bad _ (info_taken p b bad)) stays

  info_over : (p : Phase) → Tells s.fifo (transfer_info_over p s)
  unfolding transfer_info_over
  info_over p = ended _ _

  info_request : (p : Phase) (b : ℕ) (bad : Bool) → Tells s.fifo (transfer_info_request p b bad s)
  unfolding transfer_info_request
  info_request p b bad =
      by_pick (Tells s.fifo) _ (by_pick (Tells s.fifo) _ (info_offered p b bad) (info_sent p)) (info_over p)

  -- Select-And-Transfer

  surprises : (p : Phase) → Tells s.fifo (unexpected p s)
  unfolding unexpected
  surprises p = ended _ _

  identify_sent : (p : Phase) → Tells s.fifo (send_identify p s)
  unfolding send_identify
  identify_sent p = by_pick (Tells s.fifo) _ stays (surprises p)

  command_sent : (x : ℕ) (p : Phase) → Tells s.fifo (send_command x p s)
  unfolding send_command
  command_sent x p = by_pick (Tells s.fifo) _ stays (surprises p)

  data_sent : Tells s.fifo (send_data s)
  unfolding send_data lowered
  data_sent = by_pick (Tells s.fifo) _ stays loses

  data_taken : (b : ℕ) (bad : Bool) → Tells s.fifo (take_data b bad s)
  unfolding take_data
  data_taken b bad = by_pick (Tells s.fifo) _ (unless_halts bad _ (took b bad)) stays

  out_by : (d : Direction) → Tells s.fifo (data_out d s)
  unfolding data_out
  out_by Unfixed = stays
  out_by In = surprises DataOut
  out_by Out = data_sent

  in_by : (d : Direction) (b : ℕ) (bad : Bool) → Tells s.fifo (data_in d b bad s)
  unfolding data_in
  in_by Unfixed b bad = data_taken b bad
  in_by In b bad = data_taken b bad
  in_by Out b bad = surprises DataIn

  unless_none : (p : Phase) (r : Reply) → Tells s.fifo r → Tells s.fifo (unless_none_left p s r)
  unfolding unless_none_left
  unless_none p r h = by_pick (Tells s.fifo) _ (surprises p) h

  status_taken : (b : ℕ) (bad : Bool) → Tells s.fifo (take_status b bad s)
  unfolding take_status outgoing_dropped parity_noted
  status_taken b bad = unless_halts bad _ (dropped_goes s.transfer.direction s.fifo)

  save_taken : (bad : Bool) → Tells s.fifo (take_save bad s)
  unfolding take_save parity_noted
  save_taken bad = unless_halts bad _ (ended 0x21 _)

  disconnect_taken : (bad : Bool) → Tells s.fifo (take_disconnect bad s)
  unfolding take_disconnect parity_noted
  disconnect_taken bad = unless_halts bad _ stays

  message_taken : (b : ℕ) (bad : Bool) → Tells s.fifo (take_message b bad s)
  unfolding take_message
  message_taken b bad =
      by_pick (Tells s.fifo) _ (save_taken bad) (by_pick (Tells s.fifo) _ (disconnect_taken bad) (surprises MessageIn))

  body : (p : Phase) (b : ℕ) (bad : Bool) → Tells s.fifo (body_request p b bad s)
  unfolding body_request
  body DataOut b bad = unless_none DataOut _ (out_by s.transfer.direction)
  body DataIn b bad = unless_none DataIn _ (in_by s.transfer.direction b bad)
  body CommandOut b bad = surprises CommandOut
  body StatusIn b bad = status_taken b bad
  body UnspecifiedOut b bad = surprises UnspecifiedOut
  body UnspecifiedIn b bad = surprises UnspecifiedIn
  body MessageOut b bad = surprises MessageOut
  body MessageIn b bad = message_taken b bad

  late : (p : Phase) (b : ℕ) (bad : Bool) → Tells s.fifo (late_request p b bad s)
  unfolding late_request
  late DataOut b bad = surprises DataOut
  late DataIn b bad = surprises DataIn
  late CommandOut b bad = surprises CommandOut
  late StatusIn b bad = status_taken b bad
  late UnspecifiedOut b bad = surprises UnspecifiedOut
  late UnspecifiedIn b bad = surprises UnspecifiedIn
  late MessageOut b bad = surprises MessageOut
  late MessageIn b bad = message_taken b bad

  identify_taken : (p : Phase) (b : ℕ) (bad : Bool) → Tells s.fifo (take_identify p b bad s)
  unfolding take_identify parity_noted
  identify_taken p b bad = by_pick (Tells s.fifo) _ (unless_halts bad _ stays) (surprises p)

  complete_taken : (p : Phase) (b : ℕ) (bad : Bool) → Tells s.fifo (take_complete p b bad s)
  unfolding take_complete completed parity_noted
  complete_taken p b bad = by_pick (Tells s.fifo) _ (unless_halts bad _ (ended 0x16 _)) (surprises p)

  at_stage : (g : Stage) (p : Phase) (b : ℕ) (bad : Bool) → Tells s.fifo (request_at g p b bad s)
  unfolding request_at
  at_stage SendIdentify p b bad = identify_sent p
  at_stage (SendCommand x) p b bad = command_sent x p
  at_stage Body p b bad = body p b bad
  at_stage AfterData p b bad = late p b bad
  at_stage Disconnecting p b bad = surprises p
  at_stage Reselected p b bad = identify_taken p b bad
  at_stage AfterStatus p b bad = complete_taken p b bad
  at_stage Elsewhere p b bad = surprises p

  -- by the command that runs

  idle : (p : Phase) → Tells s.fifo (idle_request p s)
  unfolding idle_request unless_interrupt
  idle p = by_pick (Tells s.fifo) _ stays (by_pick (Tells s.fifo) _ stays (raised _ _))

  running : (p : Phase) (b : ℕ) (bad : Bool) → Tells s.fifo (requested_running p b bad s)
  unfolding requested_running select_and_transfer_request
  running p b bad =
      by_pick (Tells s.fifo) _ (at_stage (stage s) p b bad) (by_pick (Tells s.fifo) _ (info_request p b bad) (idle p))

  connected : (p : Phase) (b : ℕ) (bad : Bool) → Tells s.fifo (requested_connected p b bad s)
  unfolding requested_connected
  connected p b bad = by_pick (Tells s.fifo) _ stays (by_pick (Tells s.fifo) _ stays (running p b bad))

remembered_goes : (a : Answer) (q : Fifo) (p : Phase) (r : Reply) → Tells q r → Tells q (remembered_by a p r)
remembered_goes (Done v) q p r h = h
remembered_goes Held q p r h = h
remembered_goes OutOfPlace q p r h = h
remembered_goes BadNumber q p r h = h
remembered_goes Blind q p r h = h
remembered_goes CommandIgnored q p r h = h
remembered_goes ReselectionIgnored q p r h = h
remembered_goes NoDataNow q p r h = h
remembered_goes Reported q p r h = h

pub requested_goes : (p : Phase) (b : ℕ) (bad : Bool) (s : State) → Goes s.fifo (requested p b bad s).state.fifo
unfolding requested remembered
requested_goes p b bad s =
    let r : Reply = pick (is_connected s.wire.connection) (requested_connected p b bad s) (out_of_place s) in
    remembered_goes r.answer s.fifo p r
    (by_pick (Tells s.fifo) (is_connected s.wire.connection) {a = requested_connected p b bad s} {b = out_of_place s} (connected s p b bad) stays)
