-- Every reply to a Request fits it, and counts a byte exactly where one of the count's crosses.
--   request_served   of every Request, from every state
use Rattle.std.specs.Prelude.{Option, Some}
use mathlib.Core.Path.{◌≡◌, refl, sym, ◌∙◌, subst}
use mathlib.Core.Bool.{Bool, true, false, false≢true}
use Prim.Native.Nat.{ℕ}
use borrow.Author.Tests.{not-true}
use Rattle.chip.specs.State.{set_reported, set_ack, set_pe, set_last}
use Rattle.chip.specs.Answers.{says, done, held, reports}
use Rattle.chip.specs.Phases.{is_command_out, is_message_out, is_message_in}
use Rattle.chip.specs.Count.{left, none_left, lowered}
use Rattle.chip.specs.Interrupts.{without_outgoing, outgoing_dropped, raise, ending_with, unless_interrupt}
use Rattle.chip.specs.TransferInfo.{halted, unless_halted, parity_noted, taken_in, transfer_info_sent, transfer_info_taken, transfer_info_offered, transfer_info_over, transfer_info_request}
use Rattle.chip.specs.SelectAndTransfer.{unexpected, send_identify, send_command, send_data, take_data, data_out, data_in, unless_none_left, take_status, take_save, take_disconnect, take_message, body_request, late_request, take_identify, completed, take_complete, request_at, select_and_transfer_request}
use Rattle.chip.specs.Events.{idle_request, requested_running, requested_connected, remembered_by, remembered, requested}
use Rattle.chip.specs.Calls.{request}
use Rattle.chip.specs.declared.State.{State}
use Rattle.chip.specs.declared.Reply.{Reply}
use Rattle.chip.specs.declared.Fifo.{Fifo}
use Rattle.chip.specs.declared.Answer.{Answer}
use Rattle.chip.specs.declared.Answer.TheVariants.{Done, Held, OutOfPlace, BadNumber, Blind, CommandIgnored, ReselectionIgnored, NoDataNow, Reported}
use Rattle.chip.specs.declared.Direction.{Direction}
use Rattle.chip.specs.declared.Direction.TheVariants.{Unfixed, In, Out}
use Rattle.chip.specs.declared.Phase.{Phase}
use Rattle.chip.specs.declared.Phase.TheVariants.{DataOut, DataIn, CommandOut, StatusIn, UnspecifiedOut, UnspecifiedIn, MessageOut, MessageIn}
use Rattle.chip.specs.Activity.{is_ending, goes_on, ends}
use Rattle.chip.specs.declared.Activity.{Activity}
use Rattle.chip.specs.declared.Activity.TheVariants.{Idle, Interrupt, Runs, Ends, ReadOut}
use Rattle.chip.proofs.Activities.{transfer_goes_on, info_goes_on}
use Rattle.chip.specs.declared.Stage.{Stage}
use Rattle.chip.specs.declared.Stage.TheVariants.{SendIdentify, SendCommand, Body, AfterData, Disconnecting, Reselected, AfterStatus, Elsewhere}
use Rattle.refusals.specs.Refusals.{SameCount, Untaken, kept, dropped, Cause, raised, ending, opened, Noticed}
use Rattle.refusals.specs.Counting.{is_data, is_counted, Falls}
use Rattle.chip.proofs.Cases.{by_pick, by_case, taken, passed_over, both_first, both_second}
use Rattle.refusals.proofs.Fitting.{Served, did, passes, holds, elsewhere, unless_held}
use Rattle.refusals.proofs.Counts.{stands, then, one_less, raise_count, end_count, no_data}

-- ---- what a report leaves

untaken : (d : Direction) {q : Fifo} → Untaken q (without_outgoing d q)
untaken Unfixed = kept
untaken In = kept
untaken Out = dropped

raise_noticed : (code : ℕ) (s : State) → Noticed s (raise code s)
unfolding raise outgoing_dropped
raise_noticed code s = record { count = raise_count code s; fifo = untaken s.transfer.direction; cause = raised }

-- a command that goes on comes to its end
end_cause : (code : ℕ) (a : Activity) {d e : Direction} → goes_on a ≡ true → Cause (ends code a) d e
end_cause code Idle h = absurd (false≢true h)
end_cause code Interrupt h = absurd (false≢true h)
end_cause code (Runs r) h = ending
end_cause code (Ends r k) h = absurd (false≢true h)
end_cause code (ReadOut r) h = absurd (false≢true h)

end_noticed : (code : ℕ) (s : State) → goes_on s.activity ≡ true → Noticed s (ending_with code s)
unfolding ending_with
end_noticed code s on =
    by_pick (Noticed s) _ (record { count = stands refl refl; fifo = kept; cause = end_cause code s.activity on })
    (raise_noticed code s)

-- what a report looks at is that of s, whatever else was set before
before : {x : Option Phase} {y z : Bool} {s t : State} → Noticed (set_reported x (set_ack y (set_pe z s))) t → Noticed s t
before h = record { count = stands h.count.shown h.count.beside; fifo = h.fifo; cause = h.cause }

-- a byte taken in, whatever its parity, lowers the count by one
lowered_in : (x : ℕ) (bad : Bool) (s : State) → SameCount (lowered s) (taken_in x bad s)
unfolding taken_in parity_noted lowered
lowered_in x bad s = stands refl refl

module _ (n b q : ℕ) (s : State) where
  abbrev Fine : Bool → Reply → Type 0
  Fine k r = Served (request n b q) k s r

  hold : (k : Bool) → Fine k (held s)
  hold k = holds refl refl

  noticed : (k : Bool) {t : State} → Noticed s t → Fine k (reports t)
  noticed k h = record { fits = record { among = refl; row = (refl, refl, h) }; count = h.count }

  -- a byte that the count counts
  counted : {v : ℕ} {t : State} → none_left s ≡ false → SameCount (lowered s) t → Fine true (done v t)
  counted e h = record { fits = did refl; count = one_less s e h }

  -- another byte
  pass : {v : ℕ} {t : State} → SameCount s t → Fine false (done v t)
  pass h = passes refl h

  unless_int : (k : Bool) {r : Reply} → Fine k r → Fine k (unless_interrupt s r)
  unless_int k x = unless_held (hold k) x

  module _ (on : goes_on s.activity ≡ true) where
    halts : (k : Bool) → Fine k (halted s)
    unfolding halted
    halts k = noticed k (before (end_noticed _ _ on))

    unless_halted_lem : (k bad : Bool) {r : Reply} → Fine k r → Fine k (unless_halted bad s r)
    unfolding unless_halted
    unless_halted_lem k bad x = by_pick (Fine k) _ (halts k) x

    -- ---- Transfer Info

    info_out : (p : Phase) → none_left s ≡ false → Fine true (transfer_info_sent p s)
    unfolding transfer_info_sent lowered
    info_out p e = by_pick (Fine true) _ (hold true) (counted e (stands refl refl))

    info_taken : (p : Phase) (x : ℕ) (bad : Bool) → none_left s ≡ false → Fine true (transfer_info_taken p x bad s)
    unfolding transfer_info_taken
    info_taken p x bad e =
        let l = lowered_in x bad s in
        by_pick (Fine true) _
        (counted e (then (stands l.shown l.beside) (end_count _ _)))
        (counted e l)

    info_in : (p : Phase) (x : ℕ) (bad : Bool) → none_left s ≡ false → Fine true (transfer_info_offered p x bad s)
    unfolding transfer_info_offered
    info_in p x bad e = by_pick (Fine true) _ (unless_halted_lem true bad (info_taken p x bad e)) (hold true)

    info_over : (p : Phase) → Fine true (transfer_info_over p s)
    unfolding transfer_info_over
    info_over p = noticed true (before (end_noticed _ _ on))

    info_request : (p : Phase) (x : ℕ) (bad : Bool) → Fine true (transfer_info_request p x bad s)
    unfolding transfer_info_request
    info_request p x bad =
        by_case (Fine true) _
        (λ e.
        let none = not-true (none_left s) (both_second _ _ e) in
        by_pick (Fine true) _ (info_in p x bad none) (info_out p none))
        (λ e. info_over p)

    -- ---- Select-And-Transfer

    unexpected_served : (k : Bool) (p : Phase) → Fine k (unexpected p s)
    unfolding unexpected
    unexpected_served k p = noticed k (before (end_noticed _ _ on))

    -- a reply that is right where the phase is not Data
    not_data : {k : Bool} {r : Reply} → k ≡ false → Fine false r → Fine k r
    not_data e x = rw e x

    identify : (p : Phase) → Fine (is_data p) (send_identify p s)
    unfolding send_identify
    identify p =
        by_case (Fine (is_data p)) _ (λ e. not_data (no_data is_message_out refl refl p e) (pass (stands refl refl)))
        (λ e. unexpected_served _ p)

    command : (x : ℕ) (p : Phase) → Fine (is_data p) (send_command x p s)
    unfolding send_command
    command x p =
        by_case (Fine (is_data p)) _ (λ e. not_data (no_data is_command_out refl refl p e) (pass (stands refl refl)))
        (λ e. unexpected_served _ p)

    send_data_lem : none_left s ≡ false → Fine true (send_data s)
    unfolding send_data lowered
    send_data_lem e = by_pick (Fine true) _ (hold true) (counted e (stands refl refl))

    take_data_lem : (x : ℕ) (bad : Bool) → none_left s ≡ false → Fine true (take_data x bad s)
    unfolding take_data
    take_data_lem x bad e =
        let l = lowered_in x bad s in
        by_pick (Fine true) _ (unless_halted_lem true bad (counted e (stands l.shown l.beside))) (hold true)

    data_out_lem : (d : Direction) → s.transfer.direction ≡ d → none_left s ≡ false → Fine true (data_out d s)
    unfolding data_out
    data_out_lem Unfixed h e = noticed true (record { count = stands refl refl; fifo = kept; cause = rw h opened })
    data_out_lem In h e = unexpected_served true DataOut
    data_out_lem Out h e = send_data_lem e

    data_in_lem : (d : Direction) (x : ℕ) (bad : Bool) → none_left s ≡ false → Fine true (data_in d x bad s)
    unfolding data_in
    data_in_lem Unfixed x bad e = take_data_lem x bad e
    data_in_lem In x bad e = take_data_lem x bad e
    data_in_lem Out x bad e = unexpected_served true DataIn

    unless_none_left_lem : (p : Phase) {r : Reply} → (none_left s ≡ false → Fine true r) → Fine true (unless_none_left p s r)
    unfolding unless_none_left
    unless_none_left_lem p f = by_case (Fine true) _ (λ e. unexpected_served true p) f

    take_status_lem : (x : ℕ) (bad : Bool) → Fine false (take_status x bad s)
    unfolding take_status outgoing_dropped parity_noted
    take_status_lem x bad = unless_halted_lem false bad (pass (stands refl refl))

    take_save_lem : (bad : Bool) → Fine false (take_save bad s)
    unfolding take_save parity_noted
    take_save_lem bad = unless_halted_lem false bad (pass (then (stands refl refl) (end_count _ _)))

    take_disconnect_lem : (bad : Bool) → Fine false (take_disconnect bad s)
    unfolding take_disconnect parity_noted
    take_disconnect_lem bad = unless_halted_lem false bad (pass (stands refl refl))

    take_message_lem : (x : ℕ) (bad : Bool) → Fine false (take_message x bad s)
    unfolding take_message
    take_message_lem x bad =
        by_pick (Fine false) _ (take_save_lem bad) (by_pick (Fine false) _ (take_disconnect_lem bad) (unexpected_served false MessageIn))

    body : (p : Phase) (x : ℕ) (bad : Bool) → Fine (is_data p) (body_request p x bad s)
    unfolding body_request
    body DataOut x bad = unless_none_left_lem DataOut (data_out_lem _ refl)
    body DataIn x bad = unless_none_left_lem DataIn (data_in_lem _ x bad)
    body CommandOut x bad = unexpected_served false CommandOut
    body StatusIn x bad = take_status_lem x bad
    body UnspecifiedOut x bad = unexpected_served false UnspecifiedOut
    body UnspecifiedIn x bad = unexpected_served false UnspecifiedIn
    body MessageOut x bad = unexpected_served false MessageOut
    body MessageIn x bad = take_message_lem x bad

    late : (p : Phase) (x : ℕ) (bad : Bool) → Fine (is_data p) (late_request p x bad s)
    unfolding late_request
    late DataOut x bad = unexpected_served true DataOut
    late DataIn x bad = unexpected_served true DataIn
    late CommandOut x bad = unexpected_served false CommandOut
    late StatusIn x bad = take_status_lem x bad
    late UnspecifiedOut x bad = unexpected_served false UnspecifiedOut
    late UnspecifiedIn x bad = unexpected_served false UnspecifiedIn
    late MessageOut x bad = unexpected_served false MessageOut
    late MessageIn x bad = take_message_lem x bad

    take_identify_lem : (p : Phase) (x : ℕ) (bad : Bool) → Fine (is_data p) (take_identify p x bad s)
    unfolding take_identify parity_noted
    take_identify_lem p x bad =
        by_case (Fine (is_data p)) _
        (λ e.
        not_data (no_data is_message_in refl refl p (both_first _ _ e)) (unless_halted_lem false bad (pass (stands refl refl))))
        (λ e. unexpected_served _ p)

    completes : (bad : Bool) → Fine false (completed bad s)
    unfolding completed parity_noted
    completes bad = unless_halted_lem false bad (pass (then (stands refl refl) (end_count _ _)))

    take_complete_lem : (p : Phase) (x : ℕ) (bad : Bool) → Fine (is_data p) (take_complete p x bad s)
    unfolding take_complete
    take_complete_lem p x bad =
        by_case (Fine (is_data p)) _ (λ e. not_data (no_data is_message_in refl refl p (both_first _ _ e)) (completes bad))
        (λ e. unexpected_served _ p)

    by_stage : (g : Stage) (p : Phase) (x : ℕ) (bad : Bool) → Fine (is_data p) (request_at g p x bad s)
    unfolding request_at
    by_stage SendIdentify p x bad = identify p
    by_stage (SendCommand y) p x bad = command y p
    by_stage Body p x bad = body p x bad
    by_stage AfterData p x bad = late p x bad
    by_stage Disconnecting p x bad = unexpected_served _ p
    by_stage Reselected p x bad = take_identify_lem p x bad
    by_stage AfterStatus p x bad = take_complete_lem p x bad
    by_stage Elsewhere p x bad = unexpected_served _ p

    transfer_request : (p : Phase) (x : ℕ) (bad : Bool) → Fine (is_data p) (select_and_transfer_request p x bad s)
    unfolding select_and_transfer_request
    transfer_request p x bad = by_stage _ p x bad

  -- ---- by what runs, and the connection

  idle_request_lem : (p : Phase) → Fine false (idle_request p s)
  unfolding idle_request
  idle_request_lem p = by_pick (Fine false) _ (hold false) (unless_int false (noticed false (before (raise_noticed _ _))))

  abbrev Right : Phase → Reply → Type 0
  Right p r = Fine (is_counted s.activity p) r

  -- what counts by what is counted, k
  right : {k : Bool} (p : Phase) {r : Reply} → is_counted s.activity p ≡ k → Fine k r → Right p r
  right p {r = r} e h = subst (λ (k : Bool). Fine k r) (sym e) h

  running : (p : Phase) (x : ℕ) (bad : Bool) → is_ending s.activity ≡ false → Right p (requested_running p x bad s)
  unfolding requested_running is_counted
  running p x bad f =
      by_case (Right p) _ (λ e. right p (taken _ _ e) (transfer_request (transfer_goes_on s.activity f e) p x bad))
      (λ e. by_case (Right p) _ (λ i. right p (passed_over _ _ e ∙ i) (info_request (info_goes_on s.activity f i) p x bad))
      (λ i. right p (passed_over _ _ e ∙ i) (idle_request_lem p)))

  connected : (p : Phase) (x : ℕ) (bad : Bool) → Right p (requested_connected p x bad s)
  unfolding requested_connected
  connected p x bad = by_case (Right p) _ (λ e. hold _) λ e. by_pick (Right p) _ (hold _) (running p x bad e)

  -- ---- the phase is kept in mind

  falls_last : (k : Bool) (x : Option Phase) (t : State) → Falls k s t → Falls k s (set_last x t)
  unfolding left
  falls_last true x t h = h
  falls_last false x t h = stands h.shown h.beside

  remembers : (k : Bool) (a : Answer) (p : Phase) {t : State} → Fine k (says a t) → Fine k (remembered_by a p (says a t))
  remembers k (Done v) p {t} h = record { fits = did refl; count = falls_last k (Some p) t h.count }
  remembers k Held p h = h
  remembers k OutOfPlace p h = h
  remembers k BadNumber p h = h
  remembers k Blind p h = h
  remembers k CommandIgnored p h = h
  remembers k ReselectionIgnored p h = h
  remembers k NoDataNow p h = h
  remembers k Reported p h =
      let x = h.fits.row.2 in
      noticed k (record { count = stands x.count.shown x.count.beside; fifo = x.fifo; cause = x.cause })

  pub request_served : (p : Phase) (x : ℕ) (bad : Bool) → Right p (requested p x bad s)
  unfolding requested remembered
  request_served p x bad = remembers _ _ p (by_pick (Right p) _ (connected p x bad) (elsewhere refl refl))
