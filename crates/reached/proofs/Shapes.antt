-- The facts of a state by its parts, so that what a rule leaves alone carries over; and what raising and ending leave of them.
--   Numbers     the registers' and the identity's part of what the image's form asks for
--   Good        the facts of a state, by its parts
--   so          made of them
--   Fine        the same of the state in a reply
--   being       a state with the parts that a shape speaks of given one by one
--   first second   .. the reply that a closed test chooses
--   clash       no test both holds and fails
--   raised      a raised code leaves no command and no byte
--   ended       so does an ending without incoming bytes; with them, it is under way
use Rattle.std.specs.Prelude.{Option}
use mathlib.Core.Path.{◌≡◌, refl, sym, ◌∙◌}
use mathlib.Core.Bool.{Bool, true, false, true≢false, false≢true}
use mathlib.Core.List.{List}
use Prim.Native.Nat.{ℕ, ◌<◌, ◌≤◌, ◌-◌}
use native.Mathlib.Omega.{arith}
use lib.ListN.{length}
use borrow.Author.Tests.{not-false}
use Rattle.chip.specs.State.{set_activity, set_connection, set_direction, set_fifo, set_atn, set_ack, set_reported}
use Rattle.chip.specs.Choice.{pick, both}
use Rattle.chip.specs.Fifo as F
use Rattle.chip.specs.Fifo.{is_empty, pop}
use Rattle.chip.proofs.FifoLaws.{empty_waits, pop_waits, pop_one}
use Rattle.chip.specs.Interrupts.{without_outgoing, closed, outgoing_dropped, raise, bytes_unread, ending_with, unless_interrupt}
use Rattle.chip.specs.Activity.{is_running, is_select_and_transfer}
use Rattle.chip.specs.declared.State.{State}
use Rattle.chip.specs.declared.Reply.{Reply}
use Rattle.chip.specs.declared.Fifo.{Fifo}
use Rattle.chip.specs.declared.Identity.{Identity}
use Rattle.chip.specs.declared.Activity.{Activity}
use Rattle.chip.specs.declared.Activity.TheVariants.{Runs}
use Rattle.chip.specs.declared.Command.{Command}
use Rattle.chip.specs.declared.Connection.{Connection}
use Rattle.chip.specs.declared.Direction.{Direction}
use Rattle.chip.specs.declared.Direction.TheVariants.{Unfixed, In, Out}
use Rattle.chip.proofs.Cases.{by_pick, by_case}
use Rattle.chip.specs.Interrupts.{is_outgoing}
use Rattle.reached.specs.Sound.{Placed, Way, unfixed, incoming, outgoing, Drained, none, out, is_unread, told, idle, ending, Shaped, SelectsAndTransfers, with_atn, without_atn, Moves, select_and_transfer, transfer_info, Selects, six, seven, eight, nine}
use Rattle.reached.proofs.Fifos.{dropped_whole}
use Rattle.chip.specs.Fifo.{Whole}
use Rattle.chip.specs.declared.Phase.{Phase}

pub record Numbers (cdb : List ℕ) (n : ℕ) (own : Identity) : Type 0 where
  pub cdb_long : length cdb ≡ 12
  pub count_below : n < 16777216
  pub identity_below : own.number < 8

abbrev pub Numbered : State → Type 0
Numbered s = Numbers s.registers.descriptor.cdb s.registers.count s.wire.identity

pub record Good (s : State) : Type 0 where
  pub numbers : Numbered s
  pub whole : Whole s.fifo
  pub shape : Shaped s

pub so : (s : State) → Numbered s → Whole s.fifo → Shaped s → Good s
so s n u h = record { numbers = n; whole = u; shape = h }

abbrev pub Fine : Reply → Type 0
Fine r = Good r.state

abbrev pub being : Activity → Connection → Direction → Fifo → Bool → Bool → Option Phase → State → State
being x c d q atn ack w s =
    set_activity x (set_connection c (set_direction d (set_fifo q (set_atn atn (set_ack ack (set_reported w s))))))

-- the side that a closed test chooses
pub first : (a b : Reply) → Fine a → Fine (pick true a b)
unfolding pick
first a b x = x

pub second : (a b : Reply) → Fine b → Fine (pick false a b)
unfolding pick
second a b x = x

pub clash : {t : Bool} {A : Type 0} → t ≡ true → t ≡ false → A
clash e f = absurd (true≢false (sym e ∙ f))

-- ---- ways and what waits

lowered_left : (single : Bool) (n : ℕ) (q : Fifo) → F.waits q ≤ pick single 1 n → F.waits (pop q) ≤ pick false 1 (pick single 0 (n - 1))
unfolding pick
lowered_left true n q h = omega (arith, pop_one q)
lowered_left false n q h = omega (arith, pop_one q)

pub empty_way : {single : Bool} {n : ℕ} (d : Direction) {q : Fifo} → is_empty q ≡ true → Way single n d q
empty_way Unfixed e = unfixed e
empty_way In e = incoming
empty_way Out {q} e = outgoing (empty_waits q _ e)

pub drained_way : {single : Bool} {n : ℕ} {d : Direction} {q : Fifo} → Drained single n d q → Way single n d q
drained_way {d} (none e) = empty_way d e
drained_way (out h) = outgoing h

pub in_way : {single : Bool} {n : ℕ} {d : Direction} {q : Fifo} → d ≡ In → Way single n d q
in_way e = rw e incoming

pub way_drained : {single : Bool} {n : ℕ} {d : Direction} {q : Fifo} → Way single n d q → is_unread d q ≡ false → Drained single n d q
unfolding both
way_drained (unfixed h) e = none h
way_drained (incoming {q = q}) e = none (not-false (is_empty q) e)
way_drained (outgoing h) e = out h

by_pop : {single : Bool} {n : ℕ} (q : Fifo) → is_empty q ≡ true → Way single n Unfixed (pop q)
unfolding pop
by_pop {single = single} {n = n} q e = by_case (Way single n Unfixed) _ (λ f. unfixed e) (λ f. clash e f)

pub pop_way : {single : Bool} {n : ℕ} {d : Direction} {q : Fifo} → Way single n d q → Way single n d (pop q)
pop_way (unfixed {q = q} e) = by_pop q e
pop_way incoming = incoming
pop_way (outgoing {q = q} h) = outgoing (pop_waits q _ h)

-- a byte goes out, and the count falls
pub lowered_way : {single : Bool} {n : ℕ} {d : Direction} {q : Fifo} → Way single n d q → Way false (pick single 0 (n - 1)) d (pop q)
lowered_way {single = single} {n = n} (outgoing {q = q} h) = outgoing (lowered_left single n q h)
lowered_way incoming = incoming
lowered_way (unfixed {q = q} e) = by_pop q e

dropped_empty : {single : Bool} {n : ℕ} (d : Direction) {q : Fifo} → Drained single n d q → is_empty (without_outgoing d q) ≡ true
unfolding is_empty
dropped_empty Unfixed (none e) = e
dropped_empty In (none e) = e
dropped_empty Out (none e) = refl
dropped_empty Out (out h) = refl

closed_out : (d : Direction) → is_outgoing (closed d) ≡ false
closed_out Unfixed = refl
closed_out In = refl
closed_out Out = refl

pub selects_and_transfers_run : {r : Command} → SelectsAndTransfers r → is_running (Runs r) ≡ true
selects_and_transfers_run with_atn = refl
selects_and_transfers_run without_atn = refl

pub moves_run : {r : Command} → Moves r → is_running (Runs r) ≡ true
moves_run (select_and_transfer k) = selects_and_transfers_run k
moves_run transfer_info = refl

pub selects_run : {r : Command} → Selects r → is_running (Runs r) ≡ true
selects_run six = refl
selects_run seven = refl
selects_run eight = refl
selects_run nine = refl

pub transfers_test : {r : Command} → SelectsAndTransfers r → is_select_and_transfer (Runs r) ≡ true
transfers_test with_atn = refl
transfers_test without_atn = refl

pub selects_transfers : {r : Command} → Selects r → is_select_and_transfer (Runs r) ≡ true → SelectsAndTransfers r
selects_transfers six e = absurd (false≢true e)
selects_transfers seven e = absurd (false≢true e)
selects_transfers eight e = with_atn
selects_transfers nine e = without_atn

pub transfers_selects : {r : Command} → SelectsAndTransfers r → Selects r
transfers_selects with_atn = eight
transfers_selects without_atn = nine

-- ---- raising and ending

module _ (code : ℕ) (s : State) (n : Numbered s) (u : Whole s.fifo)
    (l : Placed s.wire.connection s.wire.handshake.atn s.wire.handshake.ack) where
  pub raised : Drained s.transfer.single s.registers.count s.transfer.direction s.fifo → Good (raise code s)
  unfolding raise outgoing_dropped
  raised h =
      let d = s.transfer.direction in
      so _ n (dropped_whole d u) (idle told (closed_out d) (dropped_empty d h) l)

  pub ended : {r : Command} → s.activity ≡ Runs r → Moves r → Way s.transfer.single s.registers.count s.transfer.direction s.fifo → Good (ending_with code s)
  unfolding ending_with bytes_unread
  ended a r w = by_case Good _ (λ e. so _ n u (rw a (ending r e l))) (λ e. raised (way_drained w e))

pub unless_int : (s : State) (r : Reply) → Good s → Fine r → Fine (unless_interrupt s r)
unfolding unless_interrupt
unless_int s r g x = by_pick Fine _ g x
