-- A Request keeps the facts, while connected.
--   request_kept   of every Request, from every shape
use Rattle.std.specs.Prelude.{Option, None, Some}
use mathlib.Core.Path.{◌≡◌, refl, sym, ◌∙◌}
use mathlib.Core.Bool.{Bool, true, false, true≢false, false≢true}
use Prim.Native.Nat.{ℕ, ◌%◌, ◌<◌}
use native.Mathlib.Omega.{arith}
use lib.Dec.{eqb}
use borrow.Author.Tests.{eqb-true}
use Rattle.chip.specs.Choice.{pick}
use Rattle.chip.specs.Phases.{phase_number, comes_in, is_noted}
use Rattle.chip.specs.Fifo.{is_empty, pop, push}
use Rattle.chip.specs.Count.{lowered}
use Rattle.chip.specs.Interrupts.{outgoing_dropped, without_outgoing, closed, is_outgoing}
use Rattle.chip.specs.Activity.{is_ending}
use Rattle.chip.specs.TransferInfo.{halted, unless_halted, parity_noted, taken_in, transfer_info_sent, transfer_info_taken, transfer_info_offered, transfer_info_over, transfer_info_request}
use Rattle.chip.specs.SelectAndTransfer.{unexpected, send_identify, send_command, send_data, take_data, data_out, data_in, unless_none_left, take_status, take_save, take_disconnect, take_message, body_request, late_request, take_identify, completed, take_complete, request_at, select_and_transfer_request}
use Rattle.chip.specs.Commands.{way_of}
use Rattle.chip.specs.Events.{idle_request, requested_connected, remembered_by, remembered, requested, requested_running}
use Rattle.chip.specs.declared.State.{State}
use Rattle.chip.specs.declared.Reply.{Reply}
use Rattle.chip.specs.declared.Fifo.{Fifo}
use Rattle.chip.specs.declared.Answer.{Answer}
use Rattle.chip.specs.declared.Answer.TheVariants.{Done, Held, OutOfPlace, BadNumber, Blind, CommandIgnored, ReselectionIgnored, NoDataNow, Reported}
use Rattle.chip.specs.declared.Activity.{Activity}
use Rattle.chip.specs.declared.Activity.TheVariants.{Runs}
use Rattle.chip.specs.declared.Command.{Command}
use Rattle.chip.specs.declared.Connection.{Connection}
use Rattle.chip.specs.declared.Connection.TheVariants.{Connected}
use Rattle.chip.specs.declared.Direction.{Direction}
use Rattle.chip.specs.declared.Direction.TheVariants.{Unfixed, In, Out}
use Rattle.chip.specs.declared.Phase.{Phase}
use Rattle.chip.specs.declared.Phase.TheVariants.{DataOut, DataIn, CommandOut, StatusIn, UnspecifiedOut, UnspecifiedIn, MessageOut, MessageIn}
use Rattle.chip.specs.declared.Stage.{Stage}
use Rattle.chip.specs.declared.Stage.TheVariants.{SendIdentify, SendCommand, Body, AfterData, Disconnecting, Reselected, AfterStatus, Elsewhere}
use Rattle.chip.proofs.Cases.{by_pick, by_case, both_first}
use Rattle.reached.specs.Sound.{Resting, unasked, told, apart, joined, Way, unfixed, incoming, outgoing, none, Shape, idle, selects, waits, selects_and_transfers, transfers_info, ending, read_out, SelectsAndTransfers, Moves, select_and_transfer, transfer_info}
use Rattle.reached.proofs.Fifos.{dropped_whole}
use Rattle.chip.specs.Fifo.{Whole}
use Rattle.chip.proofs.FifoLaws.{empty_waits, keeps_bytes}
use Rattle.reached.proofs.Shapes.{Numbered, Good, so, Fine, being, in_way, lowered_way, raised, ended, unless_int, second, clash, transfers_test, first}
use Rattle.chip.specs.Connections.{is_connected}
use Rattle.chip.specs.Answers.{out_of_place}

-- ---- the count falls by one, or stands

fewer : (s : State) → Numbered s → Numbered (lowered s)
unfolding lowered
fewer s n =
    record {
      cdb_long = n.cdb_long;
      count_below = by_pick (λ (x : ℕ). x < 16777216) _ (omega arith) (omega (arith, n.count_below));
      identity_below = n.identity_below;
    }

-- ---- the phase under transfer comes in where the reported one does

odd : (p : Phase) → comes_in p ≡ eqb (phase_number p % 2) 1
odd DataOut = refl
odd DataIn = refl
odd CommandOut = refl
odd StatusIn = refl
odd UnspecifiedOut = refl
odd UnspecifiedIn = refl
odd MessageOut = refl
odd MessageIn = refl

way_in : (w : Option Phase) (p : Phase) → is_noted p w ≡ true → comes_in p ≡ true → way_of w ≡ In
unfolding pick
way_in None p e c = absurd (true≢false (sym e))
way_in (Some x) p e c =
    let h : comes_in x ≡ true = odd x ∙ rw (← eqb-true (phase_number p) (phase_number x) e) (sym (odd p) ∙ c) in
    rw h

-- ---- connected, a command runs, nothing is pending

module _ (s : State) (r : Command) (d : Direction) (q : Fifo) (atn ack : Bool) (w : Option Phase)
    (n : Numbered s) (u : Whole q) (run : Moves r) (way : Way s.transfer.single s.registers.count d q)
    (on : (o : Bool) (m : ℕ) (x : Fifo) (i j : Bool) → Way o m d x → Shape o m (Runs r) Connected d x i j w) where
  abbrev now : State
  now = being (Runs r) Connected d q atn ack w s

  same : Good now
  same = so _ n u (on _ _ q atn ack way)

  halts : Fine (halted now)
  unfolding halted
  halts = (ended 0x43 _ n u joined refl run way)

  unless_halted_lem : (bad : Bool) (x : Reply) → Fine x → Fine (unless_halted bad now x)
  unfolding unless_halted
  unless_halted_lem bad x g = by_pick Fine _ halts g

  taken : (b : ℕ) (bad : Bool) → Numbered (taken_in b bad now)
  unfolding taken_in parity_noted lowered
  taken b bad = fewer s n

  info_taken : (p : Phase) (b : ℕ) (bad : Bool) → d ≡ In → Fine (transfer_info_taken p b bad now)
  unfolding transfer_info_taken taken_in parity_noted lowered
  info_taken p b bad e =
      by_pick Fine _
      ((ended 0x20 _ (taken b bad) (keeps_bytes.push_whole q b u) joined refl run (in_way e)))
      (so _ (taken b bad) (keeps_bytes.push_whole q b u) (on _ _ (push b q) atn ack (in_way e)))

  info_in : (p : Phase) (b : ℕ) (bad : Bool) → d ≡ In → Fine (transfer_info_offered p b bad now)
  unfolding transfer_info_offered
  info_in p b bad e = by_pick Fine _ (unless_halted_lem bad _ (info_taken p b bad e)) same

  info_out : (p : Phase) → Fine (transfer_info_sent p now)
  unfolding transfer_info_sent lowered
  info_out p = by_pick Fine _ same (so _ (fewer s n) (keeps_bytes.pop_whole q u) (on _ _ (pop q) _ ack (lowered_way way)))

  info_over : (p : Phase) → Fine (transfer_info_over p now)
  unfolding transfer_info_over
  info_over p = (ended _ _ n u joined refl run way)

  transfer_info_request_lem : (p : Phase) (b : ℕ) (bad : Bool) → d ≡ way_of w → Fine (transfer_info_request p b bad now)
  unfolding transfer_info_request
  transfer_info_request_lem p b bad e =
      by_case Fine _
      (λ f.
      by_case Fine _ (λ c. info_in p b bad (e ∙ way_in w p (both_first _ _ f) c)) (λ c. info_out p))
      (λ f. info_over p)

  -- ---- Select-And-Transfer

  unexpected_kept : (p : Phase) → Fine (unexpected p now)
  unfolding unexpected
  unexpected_kept p = (ended _ _ n u joined refl run way)

  module _ (tr : SelectsAndTransfers r) where
    send_data_lem : Fine (send_data now)
    unfolding send_data lowered
    send_data_lem = by_pick Fine _ same (so _ (fewer s n) (keeps_bytes.pop_whole q u) (on _ _ (pop q) atn ack (lowered_way way)))

    take_data_lem : (b : ℕ) (bad : Bool) → Fine (take_data b bad now)
    unfolding take_data taken_in parity_noted lowered
    take_data_lem b bad = by_pick Fine _ (unless_halted_lem bad _ (so _ (taken b bad) (keeps_bytes.push_whole q b u) (selects_and_transfers tr incoming))) same

    data_out_lem : (x : Direction) → Way s.transfer.single s.registers.count x q → Fine (data_out x now)
    unfolding data_out
    data_out_lem Unfixed (unfixed e) = so _ n u (selects_and_transfers tr (outgoing (empty_waits q _ e)))
    data_out_lem In v = unexpected_kept DataOut
    data_out_lem Out v = send_data_lem

    data_in_lem : (x : Direction) (b : ℕ) (bad : Bool) → Fine (data_in x b bad now)
    unfolding data_in
    data_in_lem Unfixed b bad = take_data_lem b bad
    data_in_lem In b bad = take_data_lem b bad
    data_in_lem Out b bad = unexpected_kept DataIn

    dropped_way : (x : Direction) → Way s.transfer.single s.registers.count x q → Way s.transfer.single s.registers.count (closed x) (without_outgoing x q)
    unfolding is_empty
    dropped_way Unfixed h = h
    dropped_way In h = h
    dropped_way Out h = unfixed refl

    take_status_lem : (b : ℕ) (bad : Bool) → Fine (take_status b bad now)
    unfolding take_status outgoing_dropped parity_noted
    take_status_lem b bad = unless_halted_lem bad _ (so _ n (dropped_whole d u) (selects_and_transfers tr (dropped_way d way)))

    take_message_lem : (b : ℕ) (bad : Bool) → Fine (take_message b bad now)
    unfolding take_message take_save take_disconnect parity_noted
    take_message_lem b bad =
        by_pick Fine _ (unless_halted_lem bad _ ((ended 0x21 _ n u joined refl run way)))
        (by_pick Fine _ (unless_halted_lem bad _ (so _ n u (on _ _ q atn ack way))) (unexpected_kept MessageIn))

    body : (p : Phase) (b : ℕ) (bad : Bool) → Fine (body_request p b bad now)
    unfolding body_request unless_none_left
    body DataOut b bad = by_pick Fine _ (unexpected_kept DataOut) (data_out_lem d way)
    body DataIn b bad = by_pick Fine _ (unexpected_kept DataIn) (data_in_lem d b bad)
    body CommandOut b bad = unexpected_kept CommandOut
    body StatusIn b bad = take_status_lem b bad
    body UnspecifiedOut b bad = unexpected_kept UnspecifiedOut
    body UnspecifiedIn b bad = unexpected_kept UnspecifiedIn
    body MessageOut b bad = unexpected_kept MessageOut
    body MessageIn b bad = take_message_lem b bad

    late : (p : Phase) (b : ℕ) (bad : Bool) → Fine (late_request p b bad now)
    unfolding late_request
    late DataOut b bad = unexpected_kept DataOut
    late DataIn b bad = unexpected_kept DataIn
    late CommandOut b bad = unexpected_kept CommandOut
    late StatusIn b bad = take_status_lem b bad
    late UnspecifiedOut b bad = unexpected_kept UnspecifiedOut
    late UnspecifiedIn b bad = unexpected_kept UnspecifiedIn
    late MessageOut b bad = unexpected_kept MessageOut
    late MessageIn b bad = take_message_lem b bad

    by_stage : (g : Stage) (p : Phase) (b : ℕ) (bad : Bool) → Fine (request_at g p b bad now)
    unfolding request_at send_identify send_command take_identify take_complete completed parity_noted
    by_stage SendIdentify p b bad = by_pick Fine _ (so _ n u (on _ _ q false ack way)) (unexpected_kept p)
    by_stage (SendCommand x) p b bad = by_pick Fine _ (so _ n u (on _ _ q atn ack way)) (unexpected_kept p)
    by_stage Body p b bad = body p b bad
    by_stage AfterData p b bad = late p b bad
    by_stage Disconnecting p b bad = unexpected_kept p
    by_stage Reselected p b bad = by_pick Fine _ (unless_halted_lem bad _ (so _ n u (on _ _ q atn ack way))) (unexpected_kept p)
    by_stage AfterStatus p b bad =
        by_pick Fine _ (unless_halted_lem bad _ ((ended 0x16 _ n u joined refl run way))) (unexpected_kept p)
    by_stage Elsewhere p b bad = unexpected_kept p

    select_and_transfer_request_lem : (p : Phase) (b : ℕ) (bad : Bool) → Fine (select_and_transfer_request p b bad now)
    unfolding select_and_transfer_request
    select_and_transfer_request_lem p b bad = by_stage _ p b bad

-- ---- by the shape

remembers : (a : Answer) (p : Phase) (x : Reply) → Fine x → Fine (remembered_by a p x)
remembers (Done v) p x g = so _ g.numbers g.whole g.shape
remembers Held p x g = g
remembers OutOfPlace p x g = g
remembers BadNumber p x g = g
remembers Blind p x g = g
remembers CommandIgnored p x g = g
remembers ReselectionIgnored p x g = g
remembers NoDataNow p x g = g
remembers Reported p x g = so _ g.numbers g.whole g.shape

module _ (s : State) (n : Numbered s) (y : Phase) (b : ℕ) (bad : Bool) where
  at_rest : {x : Activity} (d : Direction) (q : Fifo) (atn ack : Bool) (w : Option Phase)
      → Whole q → Resting x → is_outgoing d ≡ false → is_empty q ≡ true → Fine (idle_request y (being x Connected d q atn ack w s))
  unfolding idle_request
  at_rest d q atn ack w u e o h =
      by_pick Fine _ (so _ n u (idle e o h joined)) (unless_int _ _ (so _ n u (idle e o h joined)) (raised _ _ n u joined (none h)))

  by_shape : {x : Activity} {c : Connection} {d : Direction} {q : Fifo} {atn ack : Bool} {w : Option Phase}
      → is_connected c ≡ true → is_ending x ≡ false → Whole q → Shape s.transfer.single s.registers.count x c d q atn ack w
      → Fine (requested_running y b bad (being x c d q atn ack w s))
  unfolding requested_running idle_request
  by_shape x f u (idle e o h apart) = absurd (false≢true x)
  by_shape {d = d} {q = q} {atn = atn} {ack = ack} {w = w} x f u (idle unasked o h joined) =
      second _ _ (second _ _ (at_rest d q atn ack w u unasked o h))
  by_shape {d = d} {q = q} {atn = atn} {ack = ack} {w = w} x f u (idle told o h joined) =
      second _ _ (second _ _ (at_rest d q atn ack w u told o h))
  by_shape x f u (selects t o h) = absurd (false≢true x)
  by_shape x f u (waits t h) = absurd (false≢true x)
  by_shape x f u (selects_and_transfers k h) =
      by_case Fine _ (λ e. select_and_transfer_request_lem s _ _ _ _ _ _ n u (select_and_transfer k) h (λ o m x i j. selects_and_transfers k) k y b bad)
      (λ e. clash (transfers_test k) e)
  by_shape x f u (transfers_info h e) =
      second _ _ (first _ _ (transfer_info_request_lem s _ _ _ _ _ _ n u transfer_info h (λ o m x i j v. transfers_info v e) y b bad e))
  by_shape x f u (ending t h apart) = absurd (false≢true x)
  by_shape x f u (ending t h joined) = absurd (true≢false f)
  by_shape x f u (read_out t h) = absurd (false≢true x)

  connected_kept : Good s → is_connected s.wire.connection ≡ true → Fine (requested_connected y b bad s)
  unfolding requested_connected
  connected_kept g x =
      by_case Fine _ (λ e. g) (λ e. by_pick Fine _ g (by_shape x e g.whole g.shape))

pub request_kept : (p : Phase) (b : ℕ) (bad : Bool) (s : State) → Good s → Fine (requested p b bad s)
unfolding requested remembered
request_kept p b bad s g =
    let x : Reply = pick (is_connected s.wire.connection) (requested_connected p b bad s) (out_of_place s) in
    remembers x.answer p x (by_case Fine _ (connected_kept s g.numbers p b bad g) (λ e. g))
