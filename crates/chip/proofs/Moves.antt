-- Where a byte moves and nothing else happens, this is what the rules come to.
-- `plain_read`, `plain_write`: an access to one of 00 to 16h. `data_read_lem`, `data_write`: one to the Data register; `nothing_read`,
-- `nothing_written`: one that moves no byte.
-- `byte_taken`, `byte_sent`: a Request of Data In, of Data Out; `in_held`, `out_held`: with the FIFO full, empty. `write_room`: it has room.
use Rattle.std.specs.Prelude.{Some}
use mathlib.Core.Path.{◌≡◌, refl, ap, sym, ◌∙◌}
use mathlib.Core.Bool.{Bool, true, false, not}
use Prim.Native.Nat.{ℕ, ◌+◌, ◌-◌, ◌%◌, ◌<◌, ◌≤◌}
use native.Mathlib.Omega.{arith}
use lib.Dec.{eqb, leb}
use borrow.Author.Tests.{ltb-true, leb-true, eqb-true, not-true, lt-leb, ne_eqb}
use Rattle.chip.specs.Choice.{pick, both, either}
use Rattle.chip.specs.declared.State.{State}
use Rattle.chip.specs.declared.Reply.{Reply}
use Rattle.chip.specs.declared.Fifo.{Fifo}
use Rattle.chip.specs.declared.Activity.{Activity}
use Rattle.chip.specs.declared.Activity.TheVariants.{Idle, Interrupt, Runs, Ends, ReadOut}
use Rattle.chip.specs.declared.Direction.{Direction}
use Rattle.chip.specs.declared.Direction.TheVariants.{Unfixed, In, Out}
use Rattle.chip.specs.declared.Stage.{Stage}
use Rattle.chip.specs.declared.Stage.TheVariants.{SendIdentify, SendCommand, Body, AfterData, Disconnecting, Reselected, AfterStatus, Elsewhere}
use Rattle.chip.specs.declared.Phase.{Phase}
use Rattle.chip.specs.declared.Phase.TheVariants.{DataOut, DataIn}
use Rattle.chip.specs.State.{set_pointer, set_fifo, set_pe, set_single, set_count, set_direction, set_phase, set_last}
use Rattle.chip.specs.Answers.{done, held, no_data_now}
use Rattle.chip.specs.Phases.{is_noted}
use Rattle.chip.specs.Fifo.{is_empty, has_room, front, pop, push}
use Rattle.chip.specs.Count.{left, none_left, is_last, lowered, dbr, dbr_by}
use Rattle.chip.specs.Connections.{is_connected}
use Rattle.chip.specs.Interrupts.{busy, in_ending, bytes_unread, is_incoming, outgoing_dropped, raise, settled, settled_by}
use Rattle.chip.specs.TransferInfo.{transfer_info_request, transfer_info_offered, transfer_info_taken, transfer_info_sent, taken_in, parity_noted, unless_halted, atn_after}
use Rattle.chip.specs.SelectAndTransfer.{stage, select_and_transfer_request, request_at, body_request, unless_none_left, data_in, data_out, take_data, send_data, phase_after}
use Rattle.chip.specs.Registers.{accessed, stepped, accessed_at, is_blind, read_at, written_at, pointer_after, register_at, stored, data_read, data_read_by, data_written, data_written_by}
use Rattle.chip.specs.Events.{requested, requested_connected, requested_running, is_served, remembered}
use Rattle.chip.proofs.Cases.{by_pick, by_test, taken as picked, passed_over, both_first, both_second}
use Rattle.chip.specs.Activity.{is_ending, is_select_and_transfer, is_transfer_info, goes_on}
use Rattle.chip.proofs.Activities.{going_is_still}
use Rattle.chip.specs.Interrupts.{is_outgoing}
use Rattle.chip.specs.Moves.{is_plain, reads_data, writes_by, writes_data, is_under_way, is_body, carries_in, carries_out, takes_data, sends_data}

pub unless : (a b : Bool) → pick a false b ≡ true → (a ≡ false) × (b ≡ true)
unfolding pick
unless true b e = (cc, cc)
unless false b e = (refl, e)

both_none : (a : Bool) → both a false ≡ false
unfolding both
both_none true = refl
both_none false = refl

either_none : (a : Bool) → either a false ≡ a
unfolding either
either_none true = refl
either_none false = refl

pick_same : {A : Type 0} (t : Bool) (a : A) → pick t a a ≡ a
unfolding pick
pick_same true a = refl
pick_same false a = refl

-- Registers 00 to 16h

module _ (s : State) (e : is_plain s ≡ true) where
  pub below : s.status.pointer < 0x17
  unfolding is_plain
  below = ltb-true _ _ (both_first _ _ e)

  idle : busy s ≡ false
  unfolding is_plain
  idle = not-true _ (both_second _ _ e)

  reached : leb 0x1A s.status.pointer ≡ false
  reached = lt-leb 0x1A s.status.pointer (omega (arith, below))

  no_status : eqb s.status.pointer 0x17 ≡ false
  no_status = ne_eqb s.status.pointer 0x17 (λ q. omega (arith, below))

  no_command : eqb s.status.pointer 0x18 ≡ false
  no_command = ne_eqb s.status.pointer 0x18 (λ q. omega (arith, below))

  no_data : eqb s.status.pointer 0x19 ≡ false
  no_data = ne_eqb s.status.pointer 0x19 (λ q. omega (arith, below))

  no_auxiliary : eqb s.status.pointer 0x1F ≡ false
  no_auxiliary = ne_eqb s.status.pointer 0x1F (λ q. omega (arith, below))

  pub plain_read : (b : ℕ) → accessed false b s
      ≡ done (register_at s.status.pointer s.registers) (set_pointer ((s.status.pointer + 1) % 256) s)
  unfolding accessed stepped accessed_at is_blind read_at pointer_after pick both either
  plain_read b = simp (idle, reached, no_status, no_command, no_data, no_auxiliary)

  pub plain_write : (b : ℕ) → accessed true b s
      ≡ done 0 (set_pointer ((s.status.pointer + 1) % 256) (stored s.status.pointer b s))
  unfolding accessed stepped accessed_at is_blind written_at pointer_after pick both either
  plain_write b = simp (idle, reached, no_status, no_command, no_data, no_auxiliary)

-- The Data register

pointer_kept : (x : ℕ) (t : State) → t.status.pointer ≡ x → set_pointer x t ≡ t
pointer_kept x t e = ap (λ (y : ℕ). set_pointer y t) (sym e)

quiet_by : (a : Activity) (t : State) → is_ending a ≡ false → settled_by a t ≡ t
unfolding settled_by
quiet_by Idle t e = refl
quiet_by Interrupt t e = refl
quiet_by (Runs r) t e = refl
quiet_by (Ends r k) t e = cc
quiet_by (ReadOut r) t e = cc

pub settled_quiet : (t : State) → in_ending t ≡ false → settled t ≡ t
unfolding settled
settled_quiet t e = rw (quiet_by t.activity t e) (pick_same _ t)

pointer_by : (a : Activity) (t : State) → (settled_by a t).status.pointer ≡ t.status.pointer
unfolding settled_by raise outgoing_dropped
pointer_by Idle t = refl
pointer_by Interrupt t = refl
pointer_by (Runs r) t = refl
pointer_by (Ends r k) t = refl
pointer_by (ReadOut r) t = refl

settled_pointer : (t : State) → (settled t).status.pointer ≡ t.status.pointer
unfolding settled
settled_pointer t = by_pick (λ (x : State). x.status.pointer ≡ t.status.pointer) _ (pointer_by t.activity t) refl

incoming_is : (d : Direction) → is_incoming d ≡ true → d ≡ In
incoming_is Unfixed e = cc
incoming_is In e = refl
incoming_is Out e = cc

outgoing_is : (d : Direction) → is_outgoing d ≡ true → d ≡ Out
outgoing_is Unfixed e = cc
outgoing_is In e = cc
outgoing_is Out e = refl

at_data_read : (b : ℕ) (s : State) → accessed_at 0x19 false b s ≡ data_read s
unfolding accessed_at is_blind read_at pick both either
at_data_read b s = rw (both_none (busy s))

at_data_write : (b : ℕ) (s : State) → accessed_at 0x19 true b s ≡ data_written b s
unfolding accessed_at is_blind written_at pick both either
at_data_write b s = rw (both_none (busy s))

in_dbr : (d : Direction) (s : State) → d ≡ In → not (is_empty s.fifo) ≡ true → dbr_by d s ≡ true
in_dbr Unfixed s d n = cc
in_dbr In s d n = n
in_dbr Out s d n = cc

in_given : (d : Direction) (s : State) → d ≡ In → dbr s ≡ true
    → data_read_by d s ≡ done (front s.fifo) (settled (set_fifo (pop s.fifo) s))
unfolding pick
in_given Unfixed s d e = cc
in_given In s d e = rw e
in_given Out s d e = cc

module _ (s : State) (e : reads_data s ≡ true) where
  at_data : s.status.pointer ≡ 0x19
  unfolding reads_data
  at_data = eqb-true _ _ (both_first _ _ e)

  waits : bytes_unread s ≡ true
  unfolding reads_data
  waits = both_second _ _ e

  pub coming_in : s.transfer.direction ≡ In
  unfolding bytes_unread
  coming_in = incoming_is _ (both_first _ _ waits)

  taken : data_read s ≡ done (front s.fifo) (settled (set_fifo (pop s.fifo) s))
  unfolding data_read dbr bytes_unread
  taken =
      let n : not (is_empty s.fifo) ≡ true = both_second _ _ waits in
      in_given s.transfer.direction s coming_in (in_dbr s.transfer.direction s coming_in n)

  pub data_read_lem : (b : ℕ) → accessed false b s ≡ done (front s.fifo) (settled (set_fifo (pop s.fifo) s))
  unfolding accessed stepped pointer_after pick either
  data_read_lem b =
      ap (λ (a : ℕ). stepped a (accessed_at a false b s)) at_data
      ∙ ap (stepped 0x19) (at_data_read b s ∙ taken)
      ∙ ap (done (front s.fifo))
      (pointer_kept 0x19 (settled (set_fifo (pop s.fifo) s)) (settled_pointer (set_fifo (pop s.fifo) s) ∙ at_data))

-- an access at 19h that moves nothing

not_incoming : (d : Direction) (s : State) → both (is_incoming d) (not (is_empty s.fifo)) ≡ false → (dbr s ≡ dbr_by d s)
    → data_read_by d s ≡ no_data_now s
unfolding both pick
not_incoming Unfixed s e h = refl
not_incoming In s e h = rw (h, e)
not_incoming Out s e h = refl

not_outgoing : (d : Direction) (b : ℕ) (s : State) → writes_by d s ≡ false → data_written_by d b s ≡ no_data_now s
unfolding pick
not_outgoing Unfixed b s e = refl
not_outgoing In b s e = refl
not_outgoing Out b s e = rw e

-- where the first of two tests holds and both do not, the second does not
second_not : (t u : Bool) → both t u ≡ false → t ≡ true → u ≡ false
unfolding both
second_not t u e h = rw h at e

module _ (s : State) (e : eqb s.status.pointer 0x19 ≡ true) where
  there : s.status.pointer ≡ 0x19
  there = eqb-true _ _ e

  pub nothing_read : (b : ℕ) → reads_data s ≡ false → accessed false b s ≡ no_data_now s
  unfolding accessed stepped pointer_after pick either reads_data bytes_unread data_read dbr
  nothing_read b h =
      ap (λ (a : ℕ). stepped a (accessed_at a false b s)) there
      ∙ ap (stepped 0x19) (at_data_read b s ∙ not_incoming s.transfer.direction s (second_not _ _ h e) refl)
      ∙ ap (λ (t : State). no_data_now t) (pointer_kept 0x19 s there)

  pub nothing_written : (b : ℕ) → writes_data s ≡ false → accessed true b s ≡ no_data_now s
  unfolding accessed stepped pointer_after pick either writes_data data_written
  nothing_written b h =
      ap (λ (a : ℕ). stepped a (accessed_at a true b s)) there
      ∙ ap (stepped 0x19) (at_data_write b s ∙ not_outgoing s.transfer.direction b s (second_not _ _ h e))
      ∙ ap (λ (t : State). no_data_now t) (pointer_kept 0x19 s there)

by_out : (d : Direction) (s : State) → writes_by d s ≡ true → (d ≡ Out) × (dbr s ≡ true)
by_out Unfixed s e = (cc, cc)
by_out In s e = (cc, cc)
by_out Out s e = (refl, e)

out_room : (d : Direction) (s : State) → d ≡ Out → dbr_by d s ≡ true → has_room s.fifo ≡ true
out_room Unfixed s d e = cc
out_room In s d e = let z : In ≡ Out = d in cc
out_room Out s d e = both_second _ _ e

out_given : (d : Direction) (b : ℕ) (s : State) → d ≡ Out → dbr s ≡ true
    → data_written_by d b s ≡ done 0 (set_fifo (push b s.fifo) s)
unfolding pick
out_given Unfixed b s d e = cc
out_given In b s d e = cc
out_given Out b s d e = rw e

module _ (s : State) (e : writes_data s ≡ true) where
  at_data_out : s.status.pointer ≡ 0x19
  unfolding writes_data
  at_data_out = eqb-true _ _ (both_first _ _ e)

  goes_out : (s.transfer.direction ≡ Out) × (dbr s ≡ true)
  unfolding writes_data
  goes_out = by_out _ _ (both_second _ _ e)

  pub write_room : has_room s.fifo ≡ true
  unfolding dbr
  write_room = out_room s.transfer.direction s goes_out.0 goes_out.1

  pub data_write : (b : ℕ) → accessed true b s ≡ done 0 (set_fifo (push b s.fifo) s)
  unfolding accessed stepped pointer_after pick either data_written
  data_write b =
      ap (λ (a : ℕ). stepped a (accessed_at a true b s)) at_data_out
      ∙ ap (stepped 0x19) (at_data_write b s ∙ out_given s.transfer.direction b s goes_out.0 goes_out.1)
      ∙ ap (done 0) (pointer_kept 0x19 (set_fifo (push b s.fifo) s) at_data_out)

-- Requests

body_is : (g : Stage) → is_body g ≡ true → g ≡ Body
body_is SendIdentify e = cc
body_is (SendCommand x) e = cc
body_is Body e = refl
body_is AfterData e = cc
body_is Disconnecting e = cc
body_is Reselected e = cc
body_is AfterStatus e = cc
body_is Elsewhere e = cc

-- fields set to what they are
same : (s : State) (q : Fifo) (pe one : Bool) (n m : ℕ) → pe ≡ s.status.pe → one ≡ s.transfer.single → n ≡ m
    → set_single one (set_count n (set_fifo q (set_pe pe s))) ≡ set_count m (set_fifo q s)
same s q pe one n m a b c =
    ap (λ (x : Bool). set_single one (set_count n (set_fifo q (set_pe x s)))) a
    ∙ ap (λ (x : Bool). set_single x (set_count n (set_fifo q s))) b
    ∙ ap (λ (x : ℕ). set_count x (set_fifo q s)) c

kept_phase : (t : State) (p : ℕ) → p ≡ t.registers.descriptor.phase → set_phase p t ≡ t
kept_phase t p e = ap (λ (x : ℕ). set_phase x t) e

kept_direction : (t : State) (d : Direction) → d ≡ t.transfer.direction → set_direction d t ≡ t
kept_direction t d e = ap (λ (x : Direction). set_direction x t) e

module _ (s : State) (e : is_under_way s ≡ true) where
  heard : is_served s ≡ true
  unfolding is_under_way
  heard = both_first _ _ e

  connected : is_connected s.wire.connection ≡ true
  unfolding is_served
  connected = both_first _ _ heard

  calm : in_ending s ≡ false
  unfolding is_served
  calm = (going_is_still s.activity (both_first _ _ (both_second (is_connected s.wire.connection) _ heard))).1

  no_ack : s.wire.handshake.ack ≡ false
  unfolding is_served
  no_ack = not-true _ (both_second (goes_on s.activity) _ (both_second (is_connected s.wire.connection) _ heard))

  no_one : s.transfer.single ≡ false
  unfolding is_under_way
  no_one = (unless _ _ (both_second (is_served s) _ e)).0

  pub low : 2 ≤ s.registers.count % 256
  unfolding is_under_way
  low = leb-true _ _ (unless _ _ (both_second (is_served s) _ e)).1

  left_is : left s ≡ s.registers.count
  unfolding left pick
  left_is = rw no_one

  some_left : none_left s ≡ false
  unfolding none_left
  some_left = ap (λ (n : ℕ). eqb n 0) left_is ∙ ne_eqb s.registers.count 0 (λ q. omega (arith, low))

  not_last : is_last s ≡ false
  unfolding is_last
  not_last = ap (λ (n : ℕ). eqb n 1) left_is ∙ ne_eqb s.registers.count 1 (λ q. omega (arith, low))

  phase_stays : phase_after s ≡ s.registers.descriptor.phase
  unfolding phase_after pick
  phase_stays = rw not_last

  lower : pick s.transfer.single 0 (s.registers.count - 1) ≡ s.registers.count - 1
  unfolding pick
  lower = rw no_one

  served : (p : Phase) (b : ℕ) (bad : Bool) → requested p b bad s ≡ remembered p (requested_running p b bad s)
  unfolding requested requested_connected
  served p b bad = ap (remembered p) (picked _ _ connected ∙ passed_over _ _ calm ∙ passed_over _ _ no_ack)

  taken_is : (b : ℕ) → taken_in b false s ≡ set_count (s.registers.count - 1) (set_fifo (push b s.fifo) s)
  unfolding taken_in lowered parity_noted
  taken_is b = same s (push b s.fifo) (either s.status.pe false) false _ _ (either_none s.status.pe) (sym no_one) lower

  lowered_is : (q : Fifo) → lowered (set_fifo q s) ≡ set_count (s.registers.count - 1) (set_fifo q s)
  unfolding lowered
  lowered_is q = same s q s.status.pe false _ _ refl (sym no_one) lower

  info_in : (b : ℕ) → is_noted DataIn s.wire.seen.reported ≡ true → transfer_info_request DataIn b false s ≡ transfer_info_offered DataIn b false s
  unfolding transfer_info_request pick both
  info_in b n = rw (n, some_left)

  info_out : (b : ℕ) (bad : Bool) → is_noted DataOut s.wire.seen.reported ≡ true → transfer_info_request DataOut b bad s ≡ transfer_info_sent DataOut s
  unfolding transfer_info_request pick both
  info_out b bad n = rw (n, some_left)

  in_is : (d : Direction) (b : ℕ) → d ≡ In → data_in d b false s ≡ take_data b false s
  unfolding data_in
  in_is Unfixed b h = refl
  in_is In b h = refl
  in_is Out b h = cc

  out_is : (d : Direction) → d ≡ Out → data_out d s ≡ send_data s
  unfolding data_out
  out_is Unfixed h = cc
  out_is In h = cc
  out_is Out h = refl

  in_place : (b : ℕ) → s.transfer.direction ≡ In → set_phase (phase_after s) (set_direction In (taken_in b false s)) ≡ taken_in b false s
  in_place b w =
      let u = set_count (s.registers.count - 1) (set_fifo (push b s.fifo) s) in
      let x : set_phase (phase_after s) (set_direction In (taken_in b false s)) ≡ set_phase (phase_after s) (set_direction In u) =
      ap (λ (t : State). set_phase (phase_after s) (set_direction In t)) (taken_is b) in
      let y : set_phase (phase_after s) (set_direction In u) ≡ set_phase (phase_after s) u =
      ap (set_phase (phase_after s)) (kept_direction u In (sym w)) in
      x ∙ y ∙ kept_phase u (phase_after s) phase_stays ∙ sym (taken_is b)

  sat_in : (b : ℕ) → is_incoming s.transfer.direction ≡ true → is_body (stage s) ≡ true
      → select_and_transfer_request DataIn b false s ≡ take_data b false s
  unfolding select_and_transfer_request request_at body_request unless_none_left pick
  sat_in b d x =
      let k : select_and_transfer_request DataIn b false s ≡ body_request DataIn b false s =
      ap (λ (g : Stage). request_at g DataIn b false s) (body_is (stage s) x) in
      let l : body_request DataIn b false s ≡ data_in s.transfer.direction b false s = rw some_left in
      k ∙ l ∙ in_is s.transfer.direction b (incoming_is _ d)

  out_place : (q : Fifo) → set_phase (phase_after s) (lowered (set_fifo q s)) ≡ lowered (set_fifo q s)
  out_place q =
      let u = set_count (s.registers.count - 1) (set_fifo q s) in
      let x : set_phase (phase_after s) (lowered (set_fifo q s)) ≡ set_phase (phase_after s) u =
      ap (set_phase (phase_after s)) (lowered_is q) in
      x ∙ kept_phase u (phase_after s) phase_stays ∙ sym (lowered_is q)

  sat_out : (b : ℕ) (bad : Bool) → is_outgoing s.transfer.direction ≡ true → is_body (stage s) ≡ true
      → select_and_transfer_request DataOut b bad s ≡ send_data s
  unfolding select_and_transfer_request request_at body_request unless_none_left pick
  sat_out b bad d x =
      let k : select_and_transfer_request DataOut b bad s ≡ body_request DataOut b bad s =
      ap (λ (g : Stage). request_at g DataOut b bad s) (body_is (stage s) x) in
      let l : body_request DataOut b bad s ≡ data_out s.transfer.direction s = rw some_left in
      k ∙ l ∙ out_is s.transfer.direction (outgoing_is _ d)

  -- both commands give r
  carried_in : (b : ℕ) (r : Reply) → carries_in s ≡ true → (is_incoming s.transfer.direction ≡ true → take_data b false s ≡ r)
      → transfer_info_offered DataIn b false s ≡ r → requested_running DataIn b false s ≡ r
  unfolding requested_running carries_in
  carried_in b r c x y =
      by_test (is_select_and_transfer s.activity)
      (λ t. let d = sym (picked _ _ t) ∙ c in
      picked _ _ t ∙ sat_in b (both_first _ _ d) (both_second (is_incoming s.transfer.direction) _ d) ∙ x (both_first _ _ d))
      (λ t. let d = sym (passed_over _ _ t) ∙ c in
      passed_over _ _ t ∙ picked _ _ (both_first _ _ d) ∙ info_in b (both_second (is_transfer_info s.activity) _ d) ∙ y)

  carried_out_lem : (b : ℕ) (bad : Bool) (r : Reply) → carries_out s ≡ true → send_data s ≡ r → transfer_info_sent DataOut s ≡ r
      → requested_running DataOut b bad s ≡ r
  unfolding requested_running carries_out
  carried_out_lem b bad r c x y =
      by_test (is_select_and_transfer s.activity)
      (λ t. let d = sym (picked _ _ t) ∙ c in
      picked _ _ t ∙ sat_out b bad (both_first _ _ d) (both_second (is_outgoing s.transfer.direction) _ d) ∙ x)
      (λ t. let d = sym (passed_over _ _ t) ∙ c in
      passed_over _ _ t ∙ picked _ _ (both_first _ _ d) ∙ info_out b bad (both_second (is_transfer_info s.activity) _ d) ∙ y)

  served_in : (b : ℕ) → carries_in s ≡ true → has_room s.fifo ≡ true → requested_running DataIn b false s ≡ done b (taken_in b false s)
  served_in b c r =
      carried_in b _ c
      (λ d. unfold take_data unless_halted pick both in
      let m : take_data b false s ≡ done b (set_phase (phase_after s) (set_direction In (taken_in b false s))) = rw r in
      m ∙ ap (done b) (in_place b (incoming_is _ d)))
      (unfold transfer_info_offered unless_halted transfer_info_taken pick both in rw r)

  full_held : (b : ℕ) → carries_in s ≡ true → has_room s.fifo ≡ false → requested_running DataIn b false s ≡ held s
  full_held b c r =
      carried_in b _ c (λ d. unfold take_data in passed_over _ _ r) (unfold transfer_info_offered in passed_over _ _ r)

  served_out : (b : ℕ) (bad : Bool) → carries_out s ≡ true → is_empty s.fifo ≡ false
      → requested_running DataOut b bad s ≡ done (front s.fifo) (lowered (set_fifo (pop s.fifo) s))
  served_out b bad c r =
      carried_out_lem b bad _ c
      (unfold send_data in passed_over _ _ r ∙ ap (done (front s.fifo)) (out_place (pop s.fifo)))
      (unfold transfer_info_sent atn_after lowered pick both in rw r)

  empty_held : (b : ℕ) (bad : Bool) → carries_out s ≡ true → is_empty s.fifo ≡ true → requested_running DataOut b bad s ≡ held s
  empty_held b bad c r = carried_out_lem b bad _ c (unfold send_data in picked _ _ r) (unfold transfer_info_sent in picked _ _ r)

module _ (s : State) (e : takes_data s ≡ true) where
  pub taking : is_under_way s ≡ true
  unfolding takes_data
  taking = both_first _ _ e

  carrying_in : carries_in s ≡ true
  unfolding takes_data
  carrying_in = both_second (is_under_way s) _ e

  pub byte_taken : (b : ℕ) → has_room s.fifo ≡ true → requested DataIn b false s
      ≡ done b (set_last (Some DataIn) (set_count (s.registers.count - 1) (set_fifo (push b s.fifo) s)))
  unfolding remembered
  byte_taken b r =
      served s taking DataIn b false ∙ ap (remembered DataIn) (served_in s taking b carrying_in r ∙ ap (done b) (taken_is s taking b))

  pub in_held : (b : ℕ) → has_room s.fifo ≡ false → requested DataIn b false s ≡ held s
  unfolding remembered
  in_held b r = served s taking DataIn b false ∙ ap (remembered DataIn) (full_held s taking b carrying_in r)

module _ (s : State) (e : sends_data s ≡ true) where
  pub sending : is_under_way s ≡ true
  unfolding sends_data
  sending = both_first _ _ e

  carrying_out : carries_out s ≡ true
  unfolding sends_data
  carrying_out = both_second (is_under_way s) _ e

  pub byte_sent : (b : ℕ) (bad : Bool) → is_empty s.fifo ≡ false → requested DataOut b bad s
      ≡ done (front s.fifo) (set_last (Some DataOut) (set_count (s.registers.count - 1) (set_fifo (pop s.fifo) s)))
  unfolding remembered
  byte_sent b bad r =
      served s sending DataOut b bad
      ∙ ap (remembered DataOut)
      (served_out s sending b bad carrying_out r ∙ ap (done (front s.fifo)) (lowered_is s sending (pop s.fifo)))

  pub out_held : (b : ℕ) (bad : Bool) → is_empty s.fifo ≡ true → requested DataOut b bad s ≡ held s
  unfolding remembered
  out_held b bad r = served s sending DataOut b bad ∙ ap (remembered DataOut) (empty_held s sending b bad carrying_out r)
