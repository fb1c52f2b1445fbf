-- The rows of the table that Requests and a Free make: the step computes what each says.
--   Seen seen shown    of a state, or a reply: code, activity, and what is unread
--   Raised k t         t shows INT with the code k
--   Load load          of a state: the bytes that wait, and their way
--   Ended k w v t      an ending with k led to t: raised with nothing unread, or pending where w says that bytes are unread, which with their
--                      way are then v
--   raised_by ended_by .. of a state that `raise` or `ending_with` made
--   open_event         an event that INT does not hold back
--   transfer_on info_on   with nothing pending, such a command goes on
--   completes_row saves_row overruns_row surprises_row spoils_row last_row asks_row   Requests
--   info_free_row cuts_transfer_row leaves_transfer_row read_out_row idle_free_row    Free
--   transfer_freed     .. while a Select-And-Transfer runs
use mathlib.Core.Path.{◌≡◌, refl, ap, ◌∙◌}
use mathlib.Core.Bool.{Bool, true, false, not}
use Prim.Native.Nat.{ℕ, ◌+◌}
use lib.Dec.{eqb}
use borrow.Author.Tests.{not-true, not-false}
use Rattle.chip.specs.Choice.{pick, both, either}
use Rattle.chip.specs.Phases.{phase_of, phase_number, comes_in, same_phase, is_noted, is_message_out, is_command_out}
use Rattle.chip.specs.Lines.{idi}
use Rattle.chip.specs.Fifo.{is_empty, has_room, push}
use Rattle.chip.specs.State.{set_fifo}
use Rattle.chip.specs.Count.{none_left, lowered}
use Rattle.chip.specs.Interrupts.{ending_with, raise, outgoing_dropped, without_outgoing, closed, bytes_unread, is_incoming, is_outgoing, unless_interrupt}
use Rattle.chip.specs.TransferInfo as I
use Rattle.chip.specs.SelectAndTransfer as X
use Rattle.chip.specs.Events as E
use Rattle.chip.specs.Activity.{goes_on, ends, reads_out, is_select_and_transfer, is_transfer_info}
use Rattle.chip.specs.Calls.{Outcome, request, free, is_good, is_set, step, carried}
use Rattle.chip.specs.declared.State.{State}
use Rattle.chip.specs.declared.Reply.{Reply}
use Rattle.chip.specs.declared.Connection.TheVariants.{Connected}
use Rattle.chip.specs.declared.Stage.{Stage}
use Rattle.chip.specs.declared.Stage.TheVariants.{SendIdentify, SendCommand, Body, AfterData, Disconnecting, Reselected, AfterStatus, Elsewhere}
use Rattle.chip.specs.declared.Direction.{Direction}
use Rattle.chip.specs.declared.Direction.TheVariants.{Unfixed, In, Out}
use Rattle.chip.specs.declared.Phase.{Phase}
use Rattle.chip.specs.declared.Phase.TheVariants.{DataOut, DataIn, CommandOut, StatusIn, UnspecifiedOut, UnspecifiedIn, MessageOut, MessageIn}
use Rattle.chip.specs.declared.Fifo.{Fifo}
use Rattle.chip.specs.declared.Activity.{Activity}
use Rattle.chip.specs.declared.Activity.TheVariants as A
use Rattle.unread.specs.Status.{Ending, ReadOut, pending_in, pending}
use Rattle.unread.proofs.Pendings.{int_by, end_by, info_no_transfer}
use Rattle.chip.proofs.Activities.{transfer_goes_on, info_goes_on}
use Rattle.unread.specs.Because.{Quiet, Offered, LastMessage, is_idle, is_spent, expects, expects_body, expects_late, wants, fits, halts, is_before_status}
use Rattle.chip.specs.SelectAndTransfer.{stage}
use Rattle.chip.proofs.Cases.{by_pick, by_test, both_first, both_second, either_second, either_first, either_rest, taken, passed_over}
use Rattle.unread.proofs.Choosing.{clash, not_first, second_fails, second_holds}
use Rattle.unread.proofs.Bus.{remembered_keeps, info_wants, info_spent, by_stage}
use Rattle.chip.proofs.FifoLaws.{push_some}
use Rattle.unread.proofs.Told.{good_step}
use Rattle.chip.specs.Connections.{is_connected}

pub record Seen : Type 0 where
  pub code : ℕ
  pub activity : Activity
  pub direction : Direction
  pub fifo : Fifo

abbrev pub seen : State → Seen
seen t = record { code = t.status.code; activity = t.activity; direction = t.transfer.direction; fifo = t.fifo }

abbrev pub shown : Reply → Seen
shown r = seen r.state

pub record Raised (k : ℕ) (t : State) : Type 0 where
  pub code : t.status.code ≡ k
  pub int : t.activity ≡ A.Interrupt

pub record Load : Type 0 where
  pub fifo : Fifo
  pub direction : Direction

abbrev pub load : State → Load
load t = record { fifo = t.fifo; direction = t.transfer.direction }

pub record Ended (k : ℕ) (w : Bool) (v : Load) (t : State) : Type 0 where
  pub raised_now : w ≡ false → Raised k t
  pub all_read : w ≡ false → bytes_unread t ≡ false
  pub read_first : w ≡ true → pending t ≡ Ending k
  pub kept : w ≡ true → load t ≡ v

pub raised_by : {k : ℕ} {t : State} (u : State) → seen t ≡ seen (raise k u) → Raised k t
unfolding raise
raised_by u e = record { code = ap (λ (x : Seen). x.code) e; int = ap (λ (x : Seen). x.activity) e }

unread_seen : (s t : State) → seen s ≡ seen t → bytes_unread s ≡ bytes_unread t
unfolding bytes_unread
unread_seen s t e = ap (λ (x : Seen). both (is_incoming x.direction) (not (is_empty x.fifo))) e

-- an outgoing FIFO that is dropped was never unread
raise_unread : (k : ℕ) (u : State) → bytes_unread (raise k u) ≡ bytes_unread u
unfolding bytes_unread raise outgoing_dropped both
raise_unread k u = by_way u.transfer.direction
  where
    by_way : (d : Direction)
        → both (is_incoming (closed d)) (not (is_empty (without_outgoing d u.fifo))) ≡ both (is_incoming d) (not (is_empty u.fifo))
    by_way Unfixed = refl
    by_way In = refl
    by_way Out = refl

abbrev load_seen : Seen → Load
load_seen x = record { fifo = x.fifo; direction = x.direction }

ends_pending : (k : ℕ) (a : Activity) → goes_on a ≡ true → pending_in (ends k a) ≡ Ending k
ends_pending k A.Idle e = clash e refl
ends_pending k A.Interrupt e = clash e refl
ends_pending k (A.Runs r) e = refl
ends_pending k (A.Ends r j) e = clash e refl
ends_pending k (A.ReadOut r) e = clash e refl

reads_out_pending : (a : Activity) → goes_on a ≡ true → pending_in (reads_out a) ≡ ReadOut
reads_out_pending A.Idle e = clash e refl
reads_out_pending A.Interrupt e = clash e refl
reads_out_pending (A.Runs r) e = refl
reads_out_pending (A.Ends r j) e = clash e refl
reads_out_pending (A.ReadOut r) e = clash e refl

pub ended_by : {k : ℕ} {w : Bool} {t : State} (u : State) → seen t ≡ seen (ending_with k u) → bytes_unread u ≡ w
    → (w ≡ true → goes_on u.activity ≡ true) → Ended k w (load u) t
unfolding ending_with pick
ended_by {k} {t = t} u e f on =
    record {
      raised_now = λ h. raised_by u (rw (f, h) at e);
      all_read = λ h. unread_seen t (raise k u) (rw (f, h) at e) ∙ raise_unread k u ∙ f ∙ h;
      read_first = λ h. ap (λ (x : Seen). pending_in x.activity) (rw (f, h) at e) ∙ ends_pending k u.activity (on h);
      kept = λ h. ap load_seen (rw (f, h) at e);
    }

-- an event that nothing holds back
pub open_event : (s : State) (r : Reply) → Quiet s → unless_interrupt s r ≡ r
unfolding unless_interrupt
open_event s r q = passed_over _ _ (int_by s q)

pub transfer_on : (s : State) → Quiet s → is_select_and_transfer s.activity ≡ true → goes_on s.activity ≡ true
transfer_on s q t = transfer_goes_on s.activity (end_by s q) t

pub info_on : (s : State) → Quiet s → is_transfer_info s.activity ≡ true → goes_on s.activity ≡ true
info_on s q t = info_goes_on s.activity (end_by s q) t

message_goes_out : (p : Phase) → is_message_out p ≡ true → comes_in p ≡ false
message_goes_out DataOut e = refl
message_goes_out DataIn e = clash e refl
message_goes_out CommandOut e = refl
message_goes_out StatusIn e = clash e refl
message_goes_out UnspecifiedOut e = refl
message_goes_out UnspecifiedIn e = clash e refl
message_goes_out MessageOut e = refl
message_goes_out MessageIn e = clash e refl

command_goes_out : (p : Phase) → is_command_out p ≡ true → comes_in p ≡ false
command_goes_out DataOut e = refl
command_goes_out DataIn e = clash e refl
command_goes_out CommandOut e = refl
command_goes_out StatusIn e = clash e refl
command_goes_out UnspecifiedOut e = refl
command_goes_out UnspecifiedIn e = clash e refl
command_goes_out MessageOut e = refl
command_goes_out MessageIn e = clash e refl

informs : (a : Activity) → is_idle a ≡ false → is_select_and_transfer a ≡ false → is_transfer_info a ≡ true
informs a i t = not-false _ (rw t at i)

-- an idle controller, connected, runs none of the commands that Requests are for
idle_transfers : (a : Activity) → is_idle a ≡ true → is_select_and_transfer a ≡ false
idle_transfers a e = by_test (is_select_and_transfer a) (λ t. clash e (rw t)) (λ t. t)

idle_informs : (a : Activity) → is_idle a ≡ true → is_transfer_info a ≡ false
idle_informs a e = by_test (is_transfer_info a) (λ i. clash e (rw (idle_transfers a e, i))) (λ i. i)

module _ (n b m : ℕ) (s : State) where
  reaches : {p : Phase} → Offered n b m p s
      → seen (step (request n b m) s).state ≡ shown (E.requested_running p b (is_set m) s)
  unfolding carried E.requested E.requested_connected
  reaches o =
      ap (λ (x : Outcome). seen x.state) (good_step (request n b m) s o.good) ∙ remembered_keeps seen (λ x t. refl) (phase_of n) _
      ∙ ap shown
      (taken _ _ (ap is_connected o.connected) ∙ ap (λ (q : Phase). E.requested_connected q b (is_set m) s) o.phase
      ∙ passed_over _ _ (end_by s o.quiet) ∙ passed_over _ _ o.released)

  -- a Select-And-Transfer serves by its stage
  serves : (p : Phase) → is_select_and_transfer s.activity ≡ true
      → E.requested_running p b (is_set m) s ≡ X.request_at (stage s) p b (is_set m) s
  unfolding E.requested_running X.select_and_transfer_request
  serves p e = taken _ _ e

  -- a Transfer Info
  serves_info : (p : Phase) → is_transfer_info s.activity ≡ true → E.requested_running p b (is_set m) s ≡ I.transfer_info_request p b (is_set m) s
  unfolding E.requested_running
  serves_info p e = passed_over _ _ (info_no_transfer s.activity e) ∙ taken _ _ e

  -- no command that Requests are for
  serves_idle : (p : Phase) → is_idle s.activity ≡ true → E.requested_running p b (is_set m) s ≡ E.idle_request p s
  unfolding E.requested_running
  serves_idle p e = passed_over _ _ (idle_transfers s.activity e) ∙ passed_over _ _ (idle_informs s.activity e)

  message_surprises : either (eqb b 0x02) (eqb b 0x04) ≡ false → X.take_message b (is_set m) s ≡ X.unexpected MessageIn s
  unfolding X.take_message
  message_surprises e = passed_over _ _ (either_first _ _ e) ∙ passed_over _ _ (either_rest (eqb b 0x02) _ e)

  -- a direction that is open or the same: only where none is left
  spent_surprises : (p : Phase) (r : Reply) → both (not (none_left s)) true ≡ false → X.unless_none_left p s r ≡ X.unexpected p s
  unfolding X.unless_none_left
  spent_surprises p r e = taken _ _ (not-false (none_left s) (not_first _ true e refl))

  turned_surprises : (p : Phase) → X.unless_none_left p s (X.unexpected p s) ≡ X.unexpected p s
  unfolding X.unless_none_left
  turned_surprises p = by_pick (λ (r : Reply). r ≡ X.unexpected p s) (none_left s) refl refl

  out_surprises : (d : Direction) → both (not (none_left s)) (not (is_incoming d)) ≡ false
      → X.unless_none_left DataOut s (X.data_out d s) ≡ X.unexpected DataOut s
  unfolding X.data_out
  out_surprises Unfixed e = spent_surprises DataOut _ e
  out_surprises In e = turned_surprises DataOut
  out_surprises Out e = spent_surprises DataOut _ e

  in_surprises : (d : Direction) → both (not (none_left s)) (not (is_outgoing d)) ≡ false
      → X.unless_none_left DataIn s (X.data_in d b (is_set m) s) ≡ X.unexpected DataIn s
  unfolding X.data_in
  in_surprises Unfixed e = spent_surprises DataIn _ e
  in_surprises In e = spent_surprises DataIn _ e
  in_surprises Out e = turned_surprises DataIn

  body_surprises : (p : Phase) → expects_body p b s ≡ false → X.body_request p b (is_set m) s ≡ X.unexpected p s
  unfolding X.body_request expects_body
  body_surprises DataOut e = out_surprises s.transfer.direction e
  body_surprises DataIn e = in_surprises s.transfer.direction e
  body_surprises CommandOut e = refl
  body_surprises StatusIn e = clash refl e
  body_surprises UnspecifiedOut e = refl
  body_surprises UnspecifiedIn e = refl
  body_surprises MessageOut e = refl
  body_surprises MessageIn e = message_surprises e

  late_surprises : (p : Phase) → expects_late p b ≡ false → X.late_request p b (is_set m) s ≡ X.unexpected p s
  unfolding X.late_request expects_late
  late_surprises DataOut e = refl
  late_surprises DataIn e = refl
  late_surprises CommandOut e = refl
  late_surprises StatusIn e = clash refl e
  late_surprises UnspecifiedOut e = refl
  late_surprises UnspecifiedIn e = refl
  late_surprises MessageOut e = refl
  late_surprises MessageIn e = message_surprises e

  -- what the stage does not expect is unexpected
  stage_surprises : (g : Stage) (p : Phase) → expects g p b s ≡ false → X.request_at g p b (is_set m) s ≡ X.unexpected p s
  unfolding X.request_at X.send_identify X.send_command X.take_identify X.take_complete expects
  stage_surprises SendIdentify p e = passed_over _ _ e
  stage_surprises (SendCommand x) p e = passed_over _ _ e
  stage_surprises Body p e = body_surprises p e
  stage_surprises AfterData p e = late_surprises p e
  stage_surprises Disconnecting p e = refl
  stage_surprises Reselected p e = passed_over _ _ e
  stage_surprises AfterStatus p e = passed_over _ _ e
  stage_surprises Elsewhere p e = refl

  -- a byte of bad parity that a stage would take in halts
  module _ (h : halts m s ≡ true) where
    halted : (r : Reply) → I.unless_halted (is_set m) s r ≡ I.halted s
    unfolding I.unless_halted halts
    halted r = taken _ _ h

    message_halts : either (eqb b 0x02) (eqb b 0x04) ≡ true → X.take_message b (is_set m) s ≡ I.halted s
    unfolding X.take_message X.take_save X.take_disconnect either
    message_halts e =
        by_test (eqb b 0x02) (λ x. taken _ _ x ∙ halted _) (λ x. passed_over _ _ x ∙ taken _ _ (rw x at e) ∙ halted _)

    take_halts : has_room s.fifo ≡ true → X.take_data b (is_set m) s ≡ I.halted s
    unfolding X.take_data
    take_halts r = taken _ _ r ∙ halted _

    in_halts : (d : Direction) → both (not (none_left s)) (not (is_outgoing d)) ≡ true → has_room s.fifo ≡ true
        → X.unless_none_left DataIn s (X.data_in d b (is_set m) s) ≡ I.halted s
    unfolding X.unless_none_left X.data_in
    in_halts Unfixed e r = passed_over _ _ (not-true _ (both_first _ _ e)) ∙ take_halts r
    in_halts In e r = passed_over _ _ (not-true _ (both_first _ _ e)) ∙ take_halts r
    in_halts Out e r = clash (both_second (not (none_left s)) _ e) refl

    body_halts : (p : Phase) → expects_body p b s ≡ true → comes_in p ≡ true → (same_phase p DataIn ≡ true → has_room s.fifo ≡ true)
        → X.body_request p b (is_set m) s ≡ I.halted s
    unfolding X.body_request X.take_status expects_body
    body_halts DataOut e c f = clash c refl
    body_halts DataIn e c f = in_halts s.transfer.direction e (f refl)
    body_halts CommandOut e c f = clash c refl
    body_halts StatusIn e c f = halted _
    body_halts UnspecifiedOut e c f = clash c refl
    body_halts UnspecifiedIn e c f = clash e refl
    body_halts MessageOut e c f = clash c refl
    body_halts MessageIn e c f = message_halts e

    late_halts : (p : Phase) → expects_late p b ≡ true → X.late_request p b (is_set m) s ≡ I.halted s
    unfolding X.late_request X.take_status expects_late
    late_halts DataOut e = clash e refl
    late_halts DataIn e = clash e refl
    late_halts CommandOut e = clash e refl
    late_halts StatusIn e = halted _
    late_halts UnspecifiedOut e = clash e refl
    late_halts UnspecifiedIn e = clash e refl
    late_halts MessageOut e = clash e refl
    late_halts MessageIn e = message_halts e

    stage_halts : (g : Stage) (p : Phase) → expects g p b s ≡ true → comes_in p ≡ true
        → (same_phase p DataIn ≡ true → has_room s.fifo ≡ true)
        → X.request_at g p b (is_set m) s ≡ I.halted s
    unfolding X.request_at X.take_identify X.take_complete X.completed expects
    stage_halts SendIdentify p e c f = clash c (message_goes_out p e)
    stage_halts (SendCommand x) p e c f = clash c (command_goes_out p e)
    stage_halts Body p e c f = body_halts p e c f
    stage_halts AfterData p e c f = late_halts p e
    stage_halts Disconnecting p e c f = clash e refl
    stage_halts Reselected p e c f = taken _ _ e ∙ halted _
    stage_halts AfterStatus p e c f = taken _ _ e ∙ halted _
    stage_halts Elsewhere p e c f = clash e refl

  -- the rows of Requests

  unless_sound : (r : Reply) → halts m s ≡ false → I.unless_halted (is_set m) s r ≡ r
  unfolding I.unless_halted halts
  unless_sound r h = passed_over _ _ h

  transfer_reaches : {p : Phase} {r : Reply} → Offered n b m p s → is_select_and_transfer s.activity ≡ true
      → X.request_at (stage s) p b (is_set m) s ≡ r → seen (step (request n b m) s).state ≡ shown r
  transfer_reaches {p} o t e = reaches o ∙ ap shown (serves p t ∙ e)

  info_reaches : {p : Phase} {r : Reply} → Offered n b m p s → is_transfer_info s.activity ≡ true
      → I.transfer_info_request p b (is_set m) s ≡ r → seen (step (request n b m) s).state ≡ shown r
  info_reaches {p} o t e = reaches o ∙ ap shown (serves_info p t ∙ e)

  pub completes_row : Offered n b m MessageIn s → is_select_and_transfer s.activity ≡ true → stage s ≡ AfterStatus → eqb b 0x00 ≡ true
      → halts m s ≡ false → Ended 0x16 (bytes_unread s) (load s) (step (request n b m) s).state
  unfolding X.request_at X.take_complete X.completed I.parity_noted bytes_unread both
  completes_row o t at e h =
      ended_by _
      (transfer_reaches o t
      (ap (λ (g : Stage). X.request_at g MessageIn b (is_set m) s) at ∙ taken _ _ e ∙ unless_sound _ h))
      refl (λ w. transfer_on s o.quiet t)

  before_status : (g : Stage) → is_before_status g ≡ true → X.request_at g MessageIn b (is_set m) s ≡ X.take_message b (is_set m) s
  unfolding X.request_at X.body_request X.late_request
  before_status SendIdentify e = clash e refl
  before_status (SendCommand x) e = clash e refl
  before_status Body e = refl
  before_status AfterData e = refl
  before_status Disconnecting e = clash e refl
  before_status Reselected e = clash e refl
  before_status AfterStatus e = clash e refl
  before_status Elsewhere e = clash e refl

  pub saves_row : Offered n b m MessageIn s → is_select_and_transfer s.activity ≡ true → is_before_status (stage s) ≡ true → eqb b 0x02 ≡ true
      → halts m s ≡ false → Ended 0x21 (bytes_unread s) (load s) (step (request n b m) s).state
  unfolding X.take_message X.take_save I.parity_noted bytes_unread
  saves_row o t g e h =
      ended_by _
      (transfer_reaches o t (before_status (stage s) g ∙ taken _ _ e ∙ unless_sound _ h))
      refl (λ w. transfer_on s o.quiet t)

  over_row : {p : Phase} → Offered n b m p s → is_transfer_info s.activity ≡ true → wants p b s ≡ false
      → Ended (I.over_code p s) (bytes_unread s) (load s) (step (request n b m) s).state
  unfolding I.transfer_info_request I.transfer_info_over bytes_unread
  over_row {p} o t w =
      ended_by _ (info_reaches o t (passed_over _ _ (rw (← (info_wants p b s t)) w))) refl (λ w. info_on s o.quiet t)

  pub overruns_row : {p : Phase} → Offered n b m p s → is_idle s.activity ≡ false → is_spent s ≡ true
      → Ended (0x18 + phase_number p) (bytes_unread s) (load s) (step (request n b m) s).state
  unfolding is_spent I.over_code pick
  overruns_row {p} o r e =
      let t : is_transfer_info s.activity ≡ true = informs s.activity r (not-true _ (both_first _ _ e)) in
      let l : none_left s ≡ true = both_second (not (is_select_and_transfer s.activity)) _ e in
      rw l at (over_row o t (info_wants p b s t ∙ second_fails _ _ (rw l)))

  pub surprises_row : {p : Phase} → Offered n b m p s → is_idle s.activity ≡ false → wants p b s ≡ false → is_spent s ≡ false
      → Ended (0x48 + phase_number p) (bytes_unread s) (load s) (step (request n b m) s).state
  unfolding X.unexpected I.over_code bytes_unread pick
  surprises_row {p} o r w e =
      by_test (is_select_and_transfer s.activity)
      (λ t. ended_by _
      (transfer_reaches o t
      (stage_surprises (stage s) p (rw (← (by_stage p b s (stage s) t refl)) w)))
      refl (λ z. transfer_on s o.quiet t))
      (λ t. let i : is_transfer_info s.activity ≡ true = informs s.activity r t in rw (← (info_spent s i), e) at (over_row o i w))

  pub spoils_row : {p : Phase} → Offered n b m p s → is_idle s.activity ≡ false → wants p b s ≡ true → comes_in p ≡ true
      → fits p s ≡ true → halts m s ≡ true → Ended 0x43 (bytes_unread s) (load s) (step (request n b m) s).state
  unfolding I.transfer_info_request I.transfer_info_offered I.halted bytes_unread fits both
  spoils_row {p} o r w c f h =
      by_test (is_select_and_transfer s.activity)
      (λ t. ended_by _
      (transfer_reaches o t
      (stage_halts h (stage s) p (rw (← (by_stage p b s (stage s) t refl)) w) c (λ d. room (rw (t, d)))))
      refl (λ z. transfer_on s o.quiet t))
      (λ t. let i : is_transfer_info s.activity ≡ true = informs s.activity r t in
      ended_by _
      (info_reaches o i
      (taken _ _ (rw (← (info_wants p b s i)) w) ∙ taken _ _ c ∙ taken _ _ (room (rw t)) ∙ halted h _))
      refl (λ z. info_on s o.quiet i))
    where
      room : both (is_select_and_transfer s.activity) (not (same_phase p DataIn)) ≡ false → has_room s.fifo ≡ true
      room e = either_second _ _ f e

  -- the last Message In byte: it is unread itself, where it comes in
  pub last_row : LastMessage n b m s → Ended 0x20 (is_incoming s.transfer.direction) (load (set_fifo (push b s.fifo) s)) (step (request n b m) s).state
  unfolding I.transfer_info_request I.transfer_info_offered I.transfer_info_taken I.taken_in I.parity_noted lowered bytes_unread both
  last_row l =
      ended_by _
      (info_reaches l.offered l.runs
      (taken _ _ (rw (← (info_wants MessageIn b s l.runs)) l.wanted) ∙ taken _ _ refl ∙ taken _ _ l.room
      ∙ unless_sound _ l.sound ∙ taken _ _ l.last))
      (second_holds _ _ (rw (push_some b s.fifo l.room))) (λ w. info_on s l.offered.quiet l.runs)

  pub asks_row : {p : Phase} → Offered n b m p s → is_idle s.activity ≡ true → is_noted p s.wire.seen.reported ≡ false
      → Raised (0x88 + phase_number p) (step (request n b m) s).state
  unfolding E.idle_request
  asks_row {p} o e f =
      raised_by _ (reaches o ∙ ap shown (serves_idle p e ∙ passed_over _ _ f ∙ open_event s _ o.quiet))

-- the rows of a Free

module _ (s : State) (q : Quiet s) (x : s.wire.connection ≡ Connected) where
  free_reaches : {r : Reply} → E.freed_running s ≡ r → seen (step free s).state ≡ shown r
  unfolding carried E.freed
  free_reaches e =
      ap (λ (o : Outcome). seen o.state) (good_step free s is_good_lem)
      ∙ ap shown (taken _ _ (ap is_connected x) ∙ passed_over _ _ (end_by s q) ∙ e)
    where
      is_good_lem : is_good free ≡ true
      is_good_lem = unfold is_good in refl

  pub info_free_row : is_transfer_info s.activity ≡ true → Ended (I.transfer_info_free_code s) (bytes_unread s) (load s) (step free s).state
  unfolding E.freed_running I.transfer_info_free E.bus_free bytes_unread
  info_free_row t =
      ended_by _
      (free_reaches (passed_over _ _ (info_no_transfer s.activity t) ∙ taken _ _ t)) refl (λ w. info_on s q t)

  pub transfer_freed : is_select_and_transfer s.activity ≡ true → E.freed_running s ≡ X.select_and_transfer_free s (E.bus_free s)
  unfolding E.freed_running
  transfer_freed e = taken _ _ e

  pub cuts_transfer_row : is_select_and_transfer s.activity ≡ true → eqb s.registers.descriptor.phase 0x42 ≡ false
      → Ended 0x41 (bytes_unread s) (load s) (step free s).state
  unfolding X.select_and_transfer_free E.bus_free bytes_unread
  cuts_transfer_row t e = ended_by _ (free_reaches (transfer_freed t ∙ passed_over _ _ e)) refl (λ w. transfer_on s q t)

  pub leaves_transfer_row : is_select_and_transfer s.activity ≡ true → eqb s.registers.descriptor.phase 0x42 ≡ true → idi s ≡ true
      → Ended 0x85 (bytes_unread s) (load s) (step free s).state
  unfolding X.select_and_transfer_free X.free_after_disconnect E.bus_free bytes_unread
  leaves_transfer_row t e d =
      ended_by _ (free_reaches (transfer_freed t ∙ taken _ _ e ∙ taken _ _ d)) refl (λ w. transfer_on s q t)

  pub read_out_row : is_select_and_transfer s.activity ≡ true → eqb s.registers.descriptor.phase 0x42 ≡ true → idi s ≡ false → bytes_unread s ≡ true
      → (pending (step free s).state ≡ ReadOut) × (load (step free s).state ≡ load s)
  unfolding X.select_and_transfer_free X.free_after_disconnect X.free_to_wait E.bus_free
  read_out_row t e d u =
      let h = free_reaches (transfer_freed t ∙ taken _ _ e ∙ passed_over _ _ d ∙ taken _ _ u) in
      (ap (λ (x : Seen). pending_in x.activity) h ∙ reads_out_pending s.activity (transfer_on s q t), ap load_seen h)

  pub idle_free_row : is_idle s.activity ≡ true → Raised 0x85 (step free s).state
  unfolding E.freed_running E.idle_free
  idle_free_row e =
      raised_by _
      (free_reaches (passed_over _ _ (idle_transfers s.activity e) ∙ passed_over _ _ (idle_informs s.activity e) ∙ open_event s _ q))
