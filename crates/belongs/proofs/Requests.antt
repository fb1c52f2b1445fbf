-- No Request moves the connection.
--   request_rests   .. whatever its phase, byte and parity
--   Rests           of a reply: the connection is as before
use mathlib.Core.Path.{◌≡◌, refl, ◌∙◌}
use mathlib.Core.Bool.{Bool}
use Prim.Native.Nat.{ℕ}
use Rattle.chip.specs.Count.{lowered}
use Rattle.chip.specs.Interrupts.{raise, unless_interrupt, outgoing_dropped}
use Rattle.chip.specs.TransferInfo as I
use Rattle.chip.specs.SelectAndTransfer as X
use Rattle.chip.specs.Events as E
use Rattle.chip.specs.declared.State.{State}
use Rattle.chip.specs.declared.Reply.{Reply}
use Rattle.chip.specs.declared.Direction.{Direction}
use Rattle.chip.specs.declared.Direction.TheVariants.{Unfixed, In, Out}
use Rattle.chip.specs.declared.Phase.{Phase}
use Rattle.chip.specs.declared.Phase.TheVariants.{DataOut, DataIn, CommandOut, StatusIn, UnspecifiedOut, UnspecifiedIn, MessageOut, MessageIn}
use Rattle.chip.specs.declared.Stage.{Stage}
use Rattle.chip.specs.declared.Stage.TheVariants.{SendIdentify, SendCommand, Body, AfterData, Disconnecting, Reselected, AfterStatus, Elsewhere}
use Rattle.chip.proofs.Cases.{by_pick}
use Rattle.unread.proofs.Bus.{remembered_keeps}
use Rattle.unread.proofs.Placed.{place}
use Rattle.belongs.proofs.Goes.{to, ended_stays}

-- no Request moves the connection

module _ (s : State) where
  abbrev Rests : Reply → Type 0
  Rests r = to r ≡ place s

  unless_int : (r : Reply) → Rests r → Rests (unless_interrupt s r)
  unfolding unless_interrupt
  unless_int r h = by_pick Rests _ refl h

  unless_halted_lem : (bad : Bool) (r : Reply) → Rests r → Rests (I.unless_halted bad s r)
  unfolding I.unless_halted I.halted
  unless_halted_lem bad r h = by_pick Rests _ (ended_stays _ _) h

  info_rests : (p : Phase) (b : ℕ) (bad : Bool) → Rests (I.transfer_info_request p b bad s)
  unfolding I.transfer_info_request I.transfer_info_offered I.transfer_info_taken I.transfer_info_sent I.transfer_info_over I.taken_in I.parity_noted lowered
  info_rests p b bad =
      by_pick Rests _
      (by_pick Rests _
      (by_pick Rests _ (unless_halted_lem bad _ (by_pick Rests _ (ended_stays _ _) refl)) refl)
      (by_pick Rests _ refl refl))
      (ended_stays _ _)

  surprise_rests : (p : Phase) → Rests (X.unexpected p s)
  unfolding X.unexpected
  surprise_rests p = ended_stays _ _

  send_rests : Rests (X.send_data s)
  unfolding X.send_data lowered
  send_rests = by_pick Rests _ refl refl

  take_rests : (b : ℕ) (bad : Bool) → Rests (X.take_data b bad s)
  unfolding X.take_data I.taken_in I.parity_noted lowered
  take_rests b bad = by_pick Rests _ (unless_halted_lem bad _ refl) refl

  out_rests : (d : Direction) → Rests (X.data_out d s)
  unfolding X.data_out
  out_rests Unfixed = refl
  out_rests In = surprise_rests DataOut
  out_rests Out = send_rests

  in_rests : (d : Direction) (b : ℕ) (bad : Bool) → Rests (X.data_in d b bad s)
  unfolding X.data_in
  in_rests Unfixed b bad = take_rests b bad
  in_rests In b bad = take_rests b bad
  in_rests Out b bad = surprise_rests DataIn

  status_rests : (b : ℕ) (bad : Bool) → Rests (X.take_status b bad s)
  unfolding X.take_status outgoing_dropped I.parity_noted
  status_rests b bad = unless_halted_lem bad _ refl

  message_rests : (b : ℕ) (bad : Bool) → Rests (X.take_message b bad s)
  unfolding X.take_message X.take_save X.take_disconnect I.parity_noted
  message_rests b bad =
      by_pick Rests _ (unless_halted_lem bad _ (ended_stays _ _))
      (by_pick Rests _ (unless_halted_lem bad _ refl) (surprise_rests MessageIn))

  body_rests : (p : Phase) (b : ℕ) (bad : Bool) → Rests (X.body_request p b bad s)
  unfolding X.body_request X.unless_none_left
  body_rests DataOut b bad = by_pick Rests _ (surprise_rests DataOut) (out_rests s.transfer.direction)
  body_rests DataIn b bad = by_pick Rests _ (surprise_rests DataIn) (in_rests s.transfer.direction b bad)
  body_rests CommandOut b bad = surprise_rests CommandOut
  body_rests StatusIn b bad = status_rests b bad
  body_rests UnspecifiedOut b bad = surprise_rests UnspecifiedOut
  body_rests UnspecifiedIn b bad = surprise_rests UnspecifiedIn
  body_rests MessageOut b bad = surprise_rests MessageOut
  body_rests MessageIn b bad = message_rests b bad

  late_rests : (p : Phase) (b : ℕ) (bad : Bool) → Rests (X.late_request p b bad s)
  unfolding X.late_request
  late_rests DataOut b bad = surprise_rests DataOut
  late_rests DataIn b bad = surprise_rests DataIn
  late_rests CommandOut b bad = surprise_rests CommandOut
  late_rests StatusIn b bad = status_rests b bad
  late_rests UnspecifiedOut b bad = surprise_rests UnspecifiedOut
  late_rests UnspecifiedIn b bad = surprise_rests UnspecifiedIn
  late_rests MessageOut b bad = surprise_rests MessageOut
  late_rests MessageIn b bad = message_rests b bad

  stage_rests : (g : Stage) (p : Phase) (b : ℕ) (bad : Bool) → Rests (X.request_at g p b bad s)
  unfolding X.request_at X.send_identify X.send_command X.take_identify X.take_complete X.completed I.parity_noted
  stage_rests SendIdentify p b bad = by_pick Rests _ refl (surprise_rests p)
  stage_rests (SendCommand x) p b bad = by_pick Rests _ refl (surprise_rests p)
  stage_rests Body p b bad = body_rests p b bad
  stage_rests AfterData p b bad = late_rests p b bad
  stage_rests Disconnecting p b bad = surprise_rests p
  stage_rests Reselected p b bad = by_pick Rests _ (unless_halted_lem bad _ refl) (surprise_rests p)
  stage_rests AfterStatus p b bad =
      by_pick Rests _ (unless_halted_lem bad _ (ended_stays _ _)) (surprise_rests p)
  stage_rests Elsewhere p b bad = surprise_rests p

  idle_rests : (p : Phase) → Rests (E.idle_request p s)
  unfolding E.idle_request raise outgoing_dropped
  idle_rests p = by_pick Rests _ refl (unless_int _ refl)

  running_rests : (p : Phase) (b : ℕ) (bad : Bool) → Rests (E.requested_running p b bad s)
  unfolding E.requested_running X.select_and_transfer_request
  running_rests p b bad = by_pick Rests _ (stage_rests _ p b bad) (by_pick Rests _ (info_rests p b bad) (idle_rests p))

  connected_rests : (p : Phase) (b : ℕ) (bad : Bool) → Rests (E.requested_connected p b bad s)
  unfolding E.requested_connected
  connected_rests p b bad = by_pick Rests _ refl (by_pick Rests _ refl (running_rests p b bad))

  pub request_rests : (p : Phase) (b : ℕ) (bad : Bool) → Rests (E.requested p b bad s)
  unfolding E.requested
  request_rests p b bad = remembered_keeps place (λ x t. refl) p _ ∙ by_pick Rests _ (connected_rests p b bad) refl
