-- The walk over the bus events.
--   passed_tells answered_tells reselected_tells requested_tells freed_tells   one event each
--   info_wants info_spent   what a running Transfer Info wants, and when it is spent
--   by_stage                what a running Select-And-Transfer wants
--   remembered_keeps        to keep the last phase in mind changes nothing else
use Rattle.std.specs.Prelude.{Option}
use mathlib.Core.Path.{◌≡◌, refl, ap}
use mathlib.Core.Bool.{true, false, not}
use Prim.Native.Nat.{ℕ}
use lib.Dec.{eqb}
use Rattle.chip.specs.Choice.{pick, both, either}
use Rattle.chip.specs.Phases.{phase_of, comes_in, same_phase, is_noted, is_message_in}
use Rattle.chip.specs.Lines.{qualifies}
use Rattle.chip.specs.Fifo.{has_room}
use Rattle.chip.specs.Count.{none_left, is_last, lowered}
use Rattle.chip.specs.State.{set_last, set_phase}
use Rattle.chip.specs.Answers.{out_of_place}
use Rattle.chip.proofs.Numbers.{is_selecting_lem, is_connected_lem}
use Rattle.chip.specs.Interrupts.{interrupted, in_ending, raise, outgoing_dropped, bytes_unread}
use Rattle.chip.specs.TransferInfo as I
use Rattle.chip.specs.SelectAndTransfer as X
use Rattle.chip.specs.Connections.{is_connected, is_waiting, is_selecting}
use Rattle.chip.specs.Events as E
use Rattle.chip.specs.Activity.{is_select_and_transfer, is_transfer_info, goes_on}
use Rattle.chip.specs.Calls.{time, answer, reselection, request, free, is_good, is_set}
use Rattle.chip.specs.declared.State.{State}
use Rattle.chip.specs.declared.Reply.{Reply}
use Rattle.chip.specs.declared.Answer.{Answer}
use Rattle.chip.specs.declared.Answer.TheVariants.{Done, Held, OutOfPlace, BadNumber, Blind, CommandIgnored, ReselectionIgnored, NoDataNow, Reported}
use Rattle.chip.specs.declared.Connection.TheVariants.{Connected}
use Rattle.chip.specs.declared.Stage.{Stage}
use Rattle.chip.specs.declared.Stage.TheVariants.{SendIdentify, SendCommand, Body, AfterData, Disconnecting, Reselected, AfterStatus, Elsewhere}
use Rattle.chip.specs.declared.Direction.{Direction}
use Rattle.chip.specs.declared.Direction.TheVariants.{Unfixed, In, Out}
use Rattle.chip.specs.declared.Phase.{Phase}
use Rattle.chip.specs.declared.Phase.TheVariants.{DataOut, DataIn, CommandOut, StatusIn, UnspecifiedOut, UnspecifiedIn, MessageOut, MessageIn}
use Rattle.unread.specs.Because as B
use Rattle.unread.specs.Because.{Quiet, Brings, Offered, LastMessage, is_idle, is_spent, expects, expects_body, expects_late, wants, fits, halts, is_before_status}
use Rattle.chip.specs.SelectAndTransfer.{stage}
use Rattle.chip.proofs.Cases.{by_pick, by_case, by_test, both_first, both_second}
use Rattle.unread.proofs.Choosing.{clash, not_first}
use Rattle.unread.proofs.Telling.{summary, Tells, so, ToldReply, silent, moves, raises, gone, unless_int, ended, brought, read_out}
use Rattle.unread.proofs.Pendings.{quiet_of, going_open, going_quiet, info_no_transfer}
use Rattle.chip.proofs.Activities.{transfer_goes_on, info_goes_on}
use Rattle.chip.proofs.FifoLaws.{push_some}

-- Time, Answer, Reselection

pub passed_tells : (n : ℕ) (s : State) → is_good (time n) ≡ true → ToldReply (time n) s (E.passed n s)
unfolding E.passed E.selects E.selection_time E.timed_out raise outgoing_dropped
passed_tells n s good =
    by_case Says _
    (λ x. let on : goes_on s.activity ≡ true = both_second (is_selecting s.wire.connection) _ x in
    by_case Says _ (λ t. so (silent (λ q. refl)))
    (λ t. by_case Says _
    (λ u. so (raises (going_open s on) (B.times_out good on (is_selecting_lem _ (both_first _ _ x)) t u) (gone refl)))
    (λ u. so (silent (λ q. refl)))))
    (λ x. so (silent (λ q. refl)))
  where
    Says : Reply → Type 0
    Says r = ToldReply (time n) s r

pub answered_tells : (s : State) → ToldReply answer s (E.answered s)
unfolding E.answered E.answered_elsewhere E.selects E.answered_selecting E.answered_state E.connected raise outgoing_dropped
answered_tells s =
    by_case Says _
    (λ x. let on : goes_on s.activity ≡ true = both_second (is_selecting s.wire.connection) _ x in
    by_case Says _ (λ t. so (moves refl refl))
    (λ t. so (raises (going_open s on) (B.answers on (is_selecting_lem _ (both_first _ _ x)) t) (gone refl))))
    (λ x. by_pick Says _ (so (silent (λ q. clash q x))) (so (silent (λ q. clash q x))))
  where
    Says : Reply → Type 0
    Says r = ToldReply answer s r

pub reselected_tells : (lines : ℕ) (s : State) → is_good (reselection lines) ≡ true → ToldReply (reselection lines) s (E.reselected lines s)
unfolding E.reselected E.reselected_with_code E.reselected_apart E.reselected_state E.connected raise outgoing_dropped
reselected_tells lines s good =
    by_case Says _
    (λ q. by_case Says _ (λ x. so (silent (λ q. refl)))
    (λ x. by_case Says _ (λ e. so (silent (λ q. refl))) (λ e. by_case Says _ (λ w. so (moves refl refl)) (λ w. with_code e q x w))))
    (λ q. so (silent (λ q. refl)))
  where
    Says : Reply → Type 0
    Says r = ToldReply (reselection lines) s r

    with_code : in_ending s ≡ false → qualifies lines s ≡ true → is_connected s.wire.connection ≡ false
        → both (is_waiting s.wire.connection) (E.names_target lines s) ≡ false → Says (E.reselected_with_code lines s)
    with_code e q x w = unless_int _ (λ i. so (raises i (B.reselects good (quiet_of s i e) q x w) (gone refl)))

-- Requests

is_message_in_lem : (p : Phase) → is_message_in p ≡ true → p ≡ MessageIn
is_message_in_lem DataOut e = clash e refl
is_message_in_lem DataIn e = clash e refl
is_message_in_lem CommandOut e = clash e refl
is_message_in_lem StatusIn e = clash e refl
is_message_in_lem UnspecifiedOut e = clash e refl
is_message_in_lem UnspecifiedIn e = clash e refl
is_message_in_lem MessageOut e = clash e refl
is_message_in_lem MessageIn e = refl

-- to keep the phase of the last Request in mind changes nothing else
pub remembered_keeps : {A : Type 0} (g : State → A) → ((x : Option Phase) (t : State) → g (set_last x t) ≡ g t) → (p : Phase) (r : Reply)
    → g (E.remembered p r).state ≡ g r.state
unfolding E.remembered
remembered_keeps g k p r = by_answer r.answer
  where
    by_answer : (a : Answer) → g (E.remembered_by a p r).state ≡ g r.state
    by_answer (Done v) = k _ _
    by_answer Held = refl
    by_answer OutOfPlace = refl
    by_answer BadNumber = refl
    by_answer Blind = refl
    by_answer CommandIgnored = refl
    by_answer ReselectionIgnored = refl
    by_answer NoDataNow = refl
    by_answer Reported = k _ _

-- what a running command wants

pub info_wants : (p : Phase) (b : ℕ) (s : State) → is_transfer_info s.activity ≡ true
    → wants p b s ≡ both (is_noted p s.wire.seen.reported) (not (none_left s))
unfolding wants pick
info_wants p b s runs = rw (info_no_transfer s.activity runs)

pub info_spent : (s : State) → is_transfer_info s.activity ≡ true → is_spent s ≡ none_left s
unfolding is_spent both
info_spent s runs = rw (info_no_transfer s.activity runs)

pub by_stage : (p : Phase) (b : ℕ) (s : State) (g : Stage) → is_select_and_transfer s.activity ≡ true → stage s ≡ g
    → wants p b s ≡ expects g p b s
unfolding wants pick
by_stage p b s g runs at = rw (runs, at)

module _ (n b m : ℕ) (s : State) (z : is_selecting s.wire.connection ≡ false) where
  abbrev Says : Reply → Type 0
  Says r = ToldReply (request n b m) s r

  still : Tells (request n b m) s (summary s)
  still = silent (λ q. refl)

  abbrev Comes : Phase → Type 0
  Comes p = interrupted s ≡ false → Offered n b m p s

  module _ (on : goes_on s.activity ≡ true) where
    i : interrupted s ≡ false
    i = going_open s on

    -- to a running command
    module _ (runs : is_idle s.activity ≡ false) where
      unexpected_tells : (p : Phase) → Comes p → wants p b s ≡ false → is_spent s ≡ false → Says (X.unexpected p s)
      unfolding X.unexpected bytes_unread
      unexpected_tells p o w f = brought _ refl z refl on (B.surprises (o i) runs w f)

      unless_halted_lem : (p : Phase) (r : Reply) → Comes p → wants p b s ≡ true → comes_in p ≡ true → fits p s ≡ true
          → (halts m s ≡ false → Says r) → Says (I.unless_halted (is_set m) s r)
      unfolding I.unless_halted I.halted halts bytes_unread
      unless_halted_lem p r o w c f k =
          by_case Says _ (λ h. brought _ refl z refl on (B.spoils (o i) runs w c f h)) k

    -- to a Transfer Info
    module _ (runs : is_transfer_info s.activity ≡ true) where
      informs : is_idle s.activity ≡ false
      informs = rw (info_no_transfer s.activity runs, runs)

      info_fits : (p : Phase) → has_room s.fifo ≡ true → fits p s ≡ true
      unfolding fits both either
      info_fits p h = rw (info_no_transfer s.activity runs, h)

      over_brings : (p : Phase) → Offered n b m p s → both (is_noted p s.wire.seen.reported) (not (none_left s)) ≡ false
          → Brings (request n b m) s (I.over_code p s)
      unfolding I.over_code pick
      over_brings p o w =
          by_test (none_left s) (λ e. rw e (B.overruns o informs (rw (info_spent s runs, e))))
          (λ e. rw e (B.surprises o informs (rw (info_wants p b s runs, w)) (rw (info_spent s runs, e))))

      over_tells : (p : Phase) → Comes p → both (is_noted p s.wire.seen.reported) (not (none_left s)) ≡ false → Says (I.transfer_info_over p s)
      unfolding I.transfer_info_over bytes_unread
      over_tells p o w = brought _ refl z refl on (over_brings p (o i) w)

      info_out_tells : (p : Phase) → Says (I.transfer_info_sent p s)
      unfolding I.transfer_info_sent lowered
      info_out_tells p = by_pick Says _ (so still) (so still)

      taken_tells : (p : Phase) → Comes p → wants p b s ≡ true → has_room s.fifo ≡ true → halts m s ≡ false
          → Says (I.transfer_info_taken p b (is_set m) s)
      unfolding I.transfer_info_taken I.taken_in lowered I.parity_noted bytes_unread
      taken_tells p o w r h =
          by_case Says _
          (λ l. ended _ refl z on (λ u. B.keeps_last (last_message l) (both_first _ _ u))
          (λ u. B.takes_last (last_message l) (not_first _ _ u (rw (push_some b s.fifo r)))))
          (λ l. so still)
        where
          last_message : both (is_message_in p) (is_last s) ≡ true → LastMessage n b m s
          last_message l =
              let e : p ≡ MessageIn = is_message_in_lem p (both_first _ _ l) in
              record { offered = rw e at (o i); runs = runs; wanted = rw e at w; last = both_second (is_message_in p) _ l; room = r; sound = h }

      info_tells : (p : Phase) → Comes p → Says (I.transfer_info_request p b (is_set m) s)
      unfolding I.transfer_info_request I.transfer_info_offered
      info_tells p o =
          by_case Says _
          (λ w. by_case Says _
          (λ c. by_case Says _
          (λ r. unless_halted_lem informs p _ o (rw (info_wants p b s runs, w)) c (info_fits p r) (taken_tells p o (rw (info_wants p b s runs, w)) r))
          (λ r. so still))
          (λ c. info_out_tells p))
          (over_tells p o)

    -- to a Select-And-Transfer, at the stage g
    module _ (runs : is_select_and_transfer s.activity ≡ true) (g : Stage) (at : stage s ≡ g) where
      combines : is_idle s.activity ≡ false
      combines = rw runs

      surprised : (p : Phase) → Comes p → expects g p b s ≡ false → Says (X.unexpected p s)
      unfolding is_spent both
      surprised p o e = unexpected_tells combines p o (rw (by_stage p b s g runs at, e)) (rw runs)

      taken_unless : (p : Phase) (r : Reply) → Comes p → expects g p b s ≡ true → comes_in p ≡ true → fits p s ≡ true
          → (halts m s ≡ false → Says r) → Says (I.unless_halted (is_set m) s r)
      taken_unless p r o e c f k = unless_halted_lem combines p r o (rw (by_stage p b s g runs at, e)) c f k

      -- what is not data needs no room
      no_room : (p : Phase) → same_phase p DataIn ≡ false → fits p s ≡ true
      unfolding fits both either
      no_room p e = rw (runs, e)

      status_tells : Comes StatusIn → expects g StatusIn b s ≡ true → Says (X.take_status b (is_set m) s)
      unfolding X.take_status outgoing_dropped I.parity_noted
      status_tells o e = taken_unless StatusIn _ o e refl (no_room StatusIn refl) (λ h. so still)

      message_tells : Comes MessageIn → is_before_status g ≡ true → expects g MessageIn b s ≡ either (eqb b 0x02) (eqb b 0x04)
          → Says (X.take_message b (is_set m) s)
      unfolding X.take_message X.take_save X.take_disconnect I.parity_noted bytes_unread either
      message_tells o early e =
          by_case Says _
          (λ x. taken_unless MessageIn _ o (rw (e, x)) refl (no_room MessageIn refl)
          (λ h. brought _ refl z refl on (B.saves (o i) runs (rw (at, early)) x h)))
          (λ x. by_case Says _ (λ y. taken_unless MessageIn _ o (rw (e, x, y)) refl (no_room MessageIn refl) (λ h. so still))
          (λ y. surprised MessageIn o (rw (e, x, y))))

    module _ (runs : is_select_and_transfer s.activity ≡ true) where
      send_tells : Says (X.send_data s)
      unfolding X.send_data lowered
      send_tells = by_pick Says _ (so still) (so still)

      take_tells : stage s ≡ Body → Comes DataIn → expects_body DataIn b s ≡ true → Says (X.take_data b (is_set m) s)
      unfolding X.take_data I.taken_in lowered I.parity_noted fits both either expects
      take_tells at o e =
          by_case Says _ (λ r. taken_unless runs Body at DataIn _ o e refl (rw (runs, r)) (λ h. so still)) (λ r. so still)

      out_tells : stage s ≡ Body → Comes DataOut → none_left s ≡ false → (d : Direction) → s.transfer.direction ≡ d → Says (X.data_out d s)
      unfolding X.data_out expects expects_body both
      out_tells at o l Unfixed d = so still
      out_tells at o l In d = surprised runs Body at DataOut o (rw (l, d))
      out_tells at o l Out d = send_tells

      in_tells : stage s ≡ Body → Comes DataIn → none_left s ≡ false → (d : Direction) → s.transfer.direction ≡ d
          → Says (X.data_in d b (is_set m) s)
      unfolding X.data_in expects expects_body both
      in_tells at o l Unfixed d = take_tells at o (rw (l, d))
      in_tells at o l In d = take_tells at o (rw (l, d))
      in_tells at o l Out d = surprised runs Body at DataIn o (rw (l, d))

      body_tells : stage s ≡ Body → (p : Phase) → Comes p → Says (X.body_request p b (is_set m) s)
      unfolding X.body_request X.unless_none_left expects expects_body both
      body_tells at DataOut o = by_case Says _ (λ l. surprised runs Body at DataOut o (rw l)) (λ l. out_tells at o l _ refl)
      body_tells at DataIn o = by_case Says _ (λ l. surprised runs Body at DataIn o (rw l)) (λ l. in_tells at o l _ refl)
      body_tells at CommandOut o = surprised runs Body at CommandOut o refl
      body_tells at StatusIn o = status_tells runs Body at o refl
      body_tells at UnspecifiedOut o = surprised runs Body at UnspecifiedOut o refl
      body_tells at UnspecifiedIn o = surprised runs Body at UnspecifiedIn o refl
      body_tells at MessageOut o = surprised runs Body at MessageOut o refl
      body_tells at MessageIn o = message_tells runs Body at o refl refl

      late_tells : stage s ≡ AfterData → (p : Phase) → Comes p → Says (X.late_request p b (is_set m) s)
      unfolding X.late_request expects expects_late
      late_tells at DataOut o = surprised runs AfterData at DataOut o refl
      late_tells at DataIn o = surprised runs AfterData at DataIn o refl
      late_tells at CommandOut o = surprised runs AfterData at CommandOut o refl
      late_tells at StatusIn o = status_tells runs AfterData at o refl
      late_tells at UnspecifiedOut o = surprised runs AfterData at UnspecifiedOut o refl
      late_tells at UnspecifiedIn o = surprised runs AfterData at UnspecifiedIn o refl
      late_tells at MessageOut o = surprised runs AfterData at MessageOut o refl
      late_tells at MessageIn o = message_tells runs AfterData at o refl refl

      message_taken : (g : Stage) → stage s ≡ g → (p : Phase) (r : Reply) → Comes p → expects g p b s ≡ true → is_message_in p ≡ true
          → (halts m s ≡ false → Says r) → Says (I.unless_halted (is_set m) s r)
      message_taken g at p r o e x k =
          taken_unless runs g at p r o e (rw (is_message_in_lem p x)) (no_room runs g at p (rw (is_message_in_lem p x))) k

      completes : stage s ≡ AfterStatus → (p : Phase) → Offered n b m p s → both (is_message_in p) (eqb b 0x00) ≡ true → halts m s ≡ false
          → Brings (request n b m) s 0x16
      completes at p o e h =
          B.completes (rw (is_message_in_lem p (both_first _ _ e)) at o) runs at (both_second (is_message_in p) _ e) h

      at_stage : (g : Stage) → stage s ≡ g → (p : Phase) → Comes p → Says (X.request_at g p b (is_set m) s)
      unfolding X.request_at X.send_identify X.send_command X.take_identify X.take_complete X.completed I.parity_noted bytes_unread expects
      at_stage SendIdentify at p o = by_case Says _ (λ e. so still) (surprised runs SendIdentify at p o)
      at_stage (SendCommand x) at p o = by_case Says _ (λ e. so still) (surprised runs (SendCommand x) at p o)
      at_stage Body at p o = body_tells at p o
      at_stage AfterData at p o = late_tells at p o
      at_stage Disconnecting at p o = surprised runs Disconnecting at p o refl
      at_stage Reselected at p o =
          by_case Says _ (λ e. message_taken Reselected at p _ o e (both_first _ _ e) (λ h. so still)) (surprised runs Reselected at p o)
      at_stage AfterStatus at p o =
          by_case Says _
          (λ e. message_taken AfterStatus at p _ o e (both_first _ _ e)
          (λ h. brought _ refl z refl on (completes at p (o i) e h)))
          (surprised runs AfterStatus at p o)
      at_stage Elsewhere at p o = surprised runs Elsewhere at p o refl

  idle_tells : is_idle s.activity ≡ true → (p : Phase) → Comes p → Says (E.idle_request p s)
  unfolding E.idle_request raise outgoing_dropped
  idle_tells r p o =
      by_case Says _ (λ e. so still) (λ e. unless_int _ (λ i. so (raises i (B.asks (o i) r e) (gone z))))

  running_tells : in_ending s ≡ false → (p : Phase) → Comes p → Says (E.requested_running p b (is_set m) s)
  unfolding E.requested_running X.select_and_transfer_request
  running_tells f p o =
      by_case Says _ (λ t. at_stage (transfer_goes_on s.activity f t) t _ refl p o)
      (λ t. by_case Says _ (λ i. info_tells (info_goes_on s.activity f i) i p o) (λ i. idle_tells (rw (t, i)) p o))

  connected_tells : is_good (request n b m) ≡ true → s.wire.connection ≡ Connected → Says (E.requested_connected (phase_of n) b (is_set m) s)
  unfolding E.requested_connected
  connected_tells good x =
      by_case Says _ (λ e. so still)
      (λ e. by_case Says _ (λ a. so still)
      (λ a. running_tells e (phase_of n)
      (λ i. record { good = good; phase = refl; quiet = quiet_of s i e; connected = x; released = a })))

pub requested_tells : (n b m : ℕ) (s : State) → is_good (request n b m) ≡ true
    → ToldReply (request n b m) s (E.requested (phase_of n) b (is_set m) s)
unfolding E.requested
requested_tells n b m s good =
    so (rw (remembered_keeps summary (λ x t. refl) (phase_of n) _) by_connection.tells)
  where
    by_connection : ToldReply (request n b m) s
        (pick (is_connected s.wire.connection) (E.requested_connected (phase_of n) b (is_set m) s) (out_of_place s))
    by_connection =
        by_case (ToldReply (request n b m) s) _
        (λ x. let c = is_connected_lem s.wire.connection x in connected_tells n b m s (ap is_selecting c) good c) (λ x. so (silent (λ q. refl)))

-- Free

module _ (s : State) where
  abbrev Leaves : Reply → Type 0
  Leaves r = ToldReply free s r

  module _ (f : in_ending s ≡ false) (x : s.wire.connection ≡ Connected) where
    idle_free_tells : is_idle s.activity ≡ true → Leaves (E.idle_free s)
    unfolding E.idle_free E.bus_free raise outgoing_dropped
    idle_free_tells r = unless_int _ (λ i. so (raises i (B.frees (quiet_of s i f) x r) (gone refl)))

    info_free_brings : is_transfer_info s.activity ≡ true → Quiet s → Brings free s (I.transfer_info_free_code s)
    unfolding I.transfer_info_free_code pick
    info_free_brings r u = by_test (none_left s) (λ e. rw e (B.leaves_info u x r e)) (λ e. rw e (B.cuts_info u x r e))

    info_free_tells : is_transfer_info s.activity ≡ true → Leaves (I.transfer_info_free s (E.bus_free s))
    unfolding I.transfer_info_free E.bus_free bytes_unread
    info_free_tells r =
        let on : goes_on s.activity ≡ true = info_goes_on s.activity f r in
        brought _ refl refl refl on (info_free_brings r (going_quiet s on))

    transfer_free_tells : is_select_and_transfer s.activity ≡ true → Leaves (X.select_and_transfer_free s (E.bus_free s))
    unfolding X.select_and_transfer_free X.free_after_disconnect X.free_to_wait E.bus_free bytes_unread
    transfer_free_tells r =
        let on : goes_on s.activity ≡ true = transfer_goes_on s.activity f r in
        let q : Quiet s = going_quiet s on in
        by_case Leaves _
        (λ e. by_case Leaves _ (λ d. brought _ refl refl refl on (B.leaves_transfer q x r e d))
        (λ d. by_case Leaves _ (λ u. read_out (set_phase 0x43 (E.bus_free s)) refl refl on (B.leaves_unread q x r e d u)) (λ u. so (moves refl refl))))
        (λ e. brought _ refl refl refl on (B.cuts_transfer q x r e))

    running_free_tells : Leaves (E.freed_running s)
    unfolding E.freed_running
    running_free_tells =
        by_case Leaves _ transfer_free_tells (λ t. by_case Leaves _ info_free_tells (λ i. idle_free_tells (rw (t, i))))

  pub freed_tells : Leaves (E.freed s)
  unfolding E.freed
  freed_tells =
      by_case Leaves _
      (λ x. by_case Leaves _ (λ e. so (silent (λ q. refl))) (λ e. running_free_tells e (is_connected_lem _ x)))
      (λ x. so (silent (λ q. refl)))
