-- Select-And-Transfer tells no places.
--   select_and_transfer_request_lem   a Request while it runs
--   select_and_transfer_free_lem      a Free while it runs
--   resumes                       it begins anew, connected
use mathlib.Core.Path.{ap}
use mathlib.Core.Bool.{Bool}
use Prim.Native.Nat.{ℕ}
use Rattle.chip.specs.State.{set_fifo}
use Rattle.chip.specs.Lines.{er, idi, lun_of}
use Rattle.chip.specs.Interrupts.{outgoing_dropped}
use Rattle.chip.specs.Count.{left, none_left, is_last, lowered, loaded}
use Rattle.chip.specs.TransferInfo.{parity_noted, taken_in}
use Rattle.chip.specs.SelectAndTransfer.{size, unexpected, send_identify, send_command, phase_after, send_data, take_data, data_out, data_in, unless_none_left, take_status, take_save, take_disconnect, take_message, body_request, late_request, take_identify, completed, take_complete, request_at, stage, select_and_transfer_request, free_to_wait, free_after_disconnect, select_and_transfer_free, ack_after_resume, resumed}
use Rattle.chip.specs.declared.Answer.TheVariants.{Done}
use Rattle.chip.specs.declared.Command.{Command}
use Rattle.chip.specs.declared.Direction.{Direction}
use Rattle.chip.specs.declared.Direction.TheVariants.{Unfixed, In, Out}
use Rattle.chip.specs.declared.Fifo.{Fifo}
use Rattle.chip.specs.declared.Phase.{Phase}
use Rattle.chip.specs.declared.Phase.TheVariants.{DataOut, DataIn, CommandOut, StatusIn, UnspecifiedOut, UnspecifiedIn, MessageOut, MessageIn}
use Rattle.chip.specs.declared.Reply.{Reply}
use Rattle.chip.specs.declared.Stage.{Stage}
use Rattle.chip.specs.declared.Stage.TheVariants.{SendIdentify, SendCommand, Body, AfterData, Disconnecting, Reselected, AfterStatus, Elsewhere}
use Rattle.chip.specs.declared.State.{State}
use Rattle.keeping.specs.Keeping.{SameBytes, Alike}
use Rattle.keeping.proofs.SameBytes.{same_empty, same_room, same_front, same_pop, same_push, same_begin}
use Rattle.keeping.proofs.Alike.{AlikeReply, said, alike, chosen, replied, replied_by}
use Rattle.keeping.proofs.Moving.{kept_incoming, same_unread, ended, unless_halted_lem}

module _ (s : State) {r : Fifo} (g : SameBytes s.fifo r) where
  unexpects : (p : Phase) → AlikeReply (unexpected p s) (unexpected p (set_fifo r s))
  unfolding unexpected
  unexpects p = said (ended _ g _)

  identifies : (p : Phase) → AlikeReply (send_identify p s) (send_identify p (set_fifo r s))
  unfolding send_identify lun_of er
  identifies p = replied _ (said (alike g)) (unexpects p)

  commands : (x : ℕ) (p : Phase) → AlikeReply (send_command x p s) (send_command x p (set_fifo r s))
  unfolding send_command
  commands x p = replied _ (said (alike g)) (unexpects p)

  -- data

  sends_data_lem : AlikeReply (send_data s) (send_data (set_fifo r s))
  unfolding send_data phase_after lowered is_last left
  sends_data_lem = replied_by (same_empty g) (said (alike g)) (record { answer = ap Done (same_front g); states = alike (same_pop g) })

  takes_data_lem : (b : ℕ) (bad : Bool) → AlikeReply (take_data b bad s) (take_data b bad (set_fifo r s))
  unfolding take_data taken_in phase_after lowered parity_noted is_last left
  takes_data_lem b bad = replied_by (same_room g) (unless_halted_lem s g bad (said (alike (same_push b g)))) (said (alike g))

  data_out_lem : (d : Direction) → AlikeReply (data_out d s) (data_out d (set_fifo r s))
  unfolding data_out
  data_out_lem Unfixed = said (alike g)
  data_out_lem In = unexpects DataOut
  data_out_lem Out = sends_data_lem

  data_in_lem : (d : Direction) (b : ℕ) (bad : Bool) → AlikeReply (data_in d b bad s) (data_in d b bad (set_fifo r s))
  unfolding data_in
  data_in_lem Unfixed b bad = takes_data_lem b bad
  data_in_lem In b bad = takes_data_lem b bad
  data_in_lem Out b bad = unexpects DataIn

  unless_none_left_lem : (p : Phase) {a b : Reply} → AlikeReply a b → AlikeReply (unless_none_left p s a) (unless_none_left p (set_fifo r s) b)
  unfolding unless_none_left none_left left
  unless_none_left_lem p h = replied _ (unexpects p) h

  -- status and messages

  takes_status : (b : ℕ) (bad : Bool) → AlikeReply (take_status b bad s) (take_status b bad (set_fifo r s))
  unfolding take_status outgoing_dropped parity_noted
  takes_status b bad = unless_halted_lem s g bad (said (alike (kept_incoming s.transfer.direction g)))

  takes_message : (b : ℕ) (bad : Bool) → AlikeReply (take_message b bad s) (take_message b bad (set_fifo r s))
  unfolding take_message take_save take_disconnect parity_noted
  takes_message b bad =
      replied _ (unless_halted_lem s g bad (said (ended _ g 0x21)))
      (replied _ (unless_halted_lem s g bad (said (alike g))) (unexpects MessageIn))

  takes_identify : (p : Phase) (b : ℕ) (bad : Bool) → AlikeReply (take_identify p b bad s) (take_identify p b bad (set_fifo r s))
  unfolding take_identify parity_noted lun_of
  takes_identify p b bad = replied _ (unless_halted_lem s g bad (said (alike g))) (unexpects p)

  takes_complete : (p : Phase) (b : ℕ) (bad : Bool) → AlikeReply (take_complete p b bad s) (take_complete p b bad (set_fifo r s))
  unfolding take_complete completed parity_noted
  takes_complete p b bad = replied _ (unless_halted_lem s g bad (said (ended _ g 0x16))) (unexpects p)

  -- by what the phase register stands for

  in_body : (p : Phase) (b : ℕ) (bad : Bool) → AlikeReply (body_request p b bad s) (body_request p b bad (set_fifo r s))
  unfolding body_request
  in_body DataOut b bad = unless_none_left_lem DataOut (data_out_lem s.transfer.direction)
  in_body DataIn b bad = unless_none_left_lem DataIn (data_in_lem s.transfer.direction b bad)
  in_body CommandOut b bad = unexpects CommandOut
  in_body StatusIn b bad = takes_status b bad
  in_body UnspecifiedOut b bad = unexpects UnspecifiedOut
  in_body UnspecifiedIn b bad = unexpects UnspecifiedIn
  in_body MessageOut b bad = unexpects MessageOut
  in_body MessageIn b bad = takes_message b bad

  late : (p : Phase) (b : ℕ) (bad : Bool) → AlikeReply (late_request p b bad s) (late_request p b bad (set_fifo r s))
  unfolding late_request
  late DataOut b bad = unexpects DataOut
  late DataIn b bad = unexpects DataIn
  late CommandOut b bad = unexpects CommandOut
  late StatusIn b bad = takes_status b bad
  late UnspecifiedOut b bad = unexpects UnspecifiedOut
  late UnspecifiedIn b bad = unexpects UnspecifiedIn
  late MessageOut b bad = unexpects MessageOut
  late MessageIn b bad = takes_message b bad

  at_stage : (x : Stage) (p : Phase) (b : ℕ) (bad : Bool) → AlikeReply (request_at x p b bad s) (request_at x p b bad (set_fifo r s))
  unfolding request_at
  at_stage SendIdentify p b bad = identifies p
  at_stage (SendCommand x) p b bad = commands x p
  at_stage Body p b bad = in_body p b bad
  at_stage AfterData p b bad = late p b bad
  at_stage Disconnecting p b bad = unexpects p
  at_stage Reselected p b bad = takes_identify p b bad
  at_stage AfterStatus p b bad = takes_complete p b bad
  at_stage Elsewhere p b bad = unexpects p

  pub select_and_transfer_request_lem : (p : Phase) (b : ℕ) (bad : Bool)
      → AlikeReply (select_and_transfer_request p b bad s) (select_and_transfer_request p b bad (set_fifo r s))
  unfolding select_and_transfer_request stage size
  select_and_transfer_request_lem p b bad = at_stage (stage s) p b bad

  -- it begins anew

  pub resumes : (c : Command) → Alike (resumed c s) (resumed c (set_fifo r s))
  unfolding resumed loaded ack_after_resume
  resumes c = chosen _ (ended _ same_begin 0x16) (alike same_begin)

-- t is s with the bus free
module _ (s t : State) {r : Fifo} (g : SameBytes s.fifo r) (h : SameBytes t.fifo r) where
  to_wait : AlikeReply (free_to_wait s t) (free_to_wait (set_fifo r s) (set_fifo r t))
  unfolding free_to_wait
  to_wait = replied_by (same_unread s g) (said (alike h)) (said (alike h))

  after_disconnect : AlikeReply (free_after_disconnect s t) (free_after_disconnect (set_fifo r s) (set_fifo r t))
  unfolding free_after_disconnect idi
  after_disconnect = replied _ (said (ended t h 0x85)) to_wait

pub select_and_transfer_free_lem : (s t : State) {r : Fifo} → SameBytes s.fifo r → SameBytes t.fifo r
    → AlikeReply (select_and_transfer_free s t) (select_and_transfer_free (set_fifo r s) (set_fifo r t))
unfolding select_and_transfer_free
select_and_transfer_free_lem s t g h = replied _ (after_disconnect s _ g h) (said (ended t h 0x41))
