-- The bytes of an ending, from its beginning to its last, and the law of specs/Ending.antt that they belong to.
--   ending_stays      an ending stays until it is over
--   data_stays        an access to the Data register that does not read the last byte leaves the activity and the way
--   data_kept         .. and one that does not read leaves the bytes, where the way is not out
--   reads_front       a read at 19h gives the oldest byte
--   waits_then        the last byte of a read-out with no code leads to the wait for reselection
--   waiting read_out_waits            the bytes that wait when an ending has begun
--   disconnect_drops reset_drops      what drops an ending
--   Short             a slice has no place for all the bytes that wait
use mathlib.Core.Path.{◌≡◌, refl, sym, ap, ap₂, ◌∙◌}
use mathlib.Core.Bool.{true, false, not}
use mathlib.Core.List.{List, [], ◌∷◌}
use Prim.Native.Nat.{ℕ, ◌<◌, ◌≤◌}
use native.Mathlib.Omega.{arith}
use lib.Dec.{eqb}
use lib.ListN.{length}
use borrow.Author.Tests.{not-true}
use Rattle.chip.specs.Choice.{pick, both, either}
use Rattle.chip.specs.State.{set_fifo}
use Rattle.chip.specs.Fifo.{is_empty, front, pop, waits}
use Rattle.chip.specs.Answers.{no_data_now}
use Rattle.chip.specs.Interrupts.{interrupted, in_ending, busy, is_incoming, is_outgoing, bytes_unread, raise, outgoing_dropped, without_outgoing, settled, settled_by}
use Rattle.chip.specs.Commands.{reset, disconnected, accepted, commanded}
use Rattle.chip.specs.Registers as R
use Rattle.chip.specs.Calls.{Call, pointer, auxiliary, register, block, time, answer, reselection, request, free, is_good, is_set, carried, step}
use Rattle.chip.specs.declared.State.{State}
use Rattle.chip.specs.declared.Fifo.{Fifo}
use Rattle.chip.specs.declared.Answer.TheVariants.{Done}
use Rattle.chip.specs.declared.Direction.{Direction}
use Rattle.chip.specs.declared.Direction.TheVariants.{Unfixed, In, Out}
use Rattle.chip.specs.declared.Activity.{Activity}
use Rattle.chip.specs.declared.Activity.TheVariants as Is
use Rattle.chip.specs.declared.Command.{Command}
use Rattle.chip.specs.declared.Transfer.{Transfer}
use Rattle.chip.specs.Activity.{running_number}
use Rattle.chip.specs.declared.Connection.TheVariants.{Waiting}
use Rattle.unread.specs.Status.{Nothing, ReadOut, Ending, pending_in, pending, is_command, is_reset, is_disconnect, is_dropped, reads_at}
use Rattle.unread.specs.Because as B
use Rattle.unread.specs.Because.{ReadsLast, BeginsReadOut}
use Rattle.unread.specs.Ending.{is_event, is_data_access, is_data_read, Waits, Dropped, ResetDropped, EndingStays}
use Rattle.chip.proofs.Cases.{by_pick, by_case, by_test, both_first, both_second, either_first, either_rest}
use Rattle.unread.proofs.Choosing.{clash, not_first}
use Rattle.unread.proofs.Telling.{Summary, summary}
use Rattle.unread.proofs.Host.{Pops, nothing_read, one_read, ending_read, wait_read, pops, going, written_keeps, block_keeps}
use Rattle.chip.proofs.FifoLaws.{some_waits, pop_less}
use Rattle.unread.proofs.Told.{good_step, access_step, Issued, issued, Reading, reading, disconnect_gives}
use Rattle.unread.proofs.Asked as A
use Rattle.unread.proofs.Asked.{Load, load}
use Rattle.unread.proofs.Rows.{data_read_lem, data_reachable, last_stands, last_unread}
use Rattle.unread.proofs.Because.{brings_row}
use Rattle.unread.proofs.Pendings.{is_end}
use Rattle.unread.proofs.Ending.{refuses_bad, ending_is_still, host_stays}

-- where the way is not out nothing is written
not_written : (b : ℕ) (s : State) → is_outgoing s.transfer.direction ≡ false → R.data_written b s ≡ no_data_now s
unfolding R.data_written
not_written b s o = by_way s.transfer.direction o
  where
    by_way : (d : Direction) → is_outgoing d ≡ false → R.data_written_by d b s ≡ no_data_now s
    by_way Unfixed o = refl
    by_way In o = refl
    by_way Out o = clash refl o

block_not_written : (l : List ℕ) (s : State) → is_outgoing s.transfer.direction ≡ false → (R.block_written l s).state ≡ s
unfolding R.block_written
block_not_written [] s o = refl
block_not_written (b ∷ l) s o = rw (not_written b s o)

write_reachable : (b : ℕ) (s : State) → R.accessed_at 0x19 true b s ≡ R.data_written b s
unfolding R.accessed_at R.is_blind R.written_at both either pick
write_reachable b s = by_test (busy s) (λ e. rw e) (λ e. rw e)

-- reads that leave a byte

-- what stays of a command: what it is at, and the way of its data
record Course : Type 0 where
  activity : Activity
  transfer : Transfer

abbrev course : State → Course
course t = record { activity = t.activity; transfer = t.transfer }

pops_course : {s t : State} → Pops s t → (is_incoming s.transfer.direction ≡ true → waits s.fifo ≡ 1 → ⊥) → course t ≡ course s
pops_course nothing_read n = refl
pops_course (one_read d w) n = refl
pops_course (ending_read d w e) n = absurd (n d w)
pops_course (wait_read d w e) n = absurd (n d w)

-- the slice has no place for all the bytes that wait
abbrev Short : List ℕ → State → Type 0
Short l s = is_incoming s.transfer.direction ≡ true → 0 < waits s.fifo → waits s.fifo ≤ length l → ⊥

pops_short : (l : List ℕ) (x : ℕ) {s t : State} → Pops s t → Short (x ∷ l) s → Short l t
pops_short l x nothing_read n d v u = n d v (omega arith)
pops_short l x {s = s} (one_read d w) n d' v u = n d (some_waits s.fifo w) (omega (arith, pop_less s.fifo w))
pops_short l x (ending_read d w e) n d' v u = n d (omega arith) (omega arith)
pops_short l x (wait_read d w e) n d' v u = n d (omega arith) (omega arith)

read_course : (l : List ℕ) (s : State) → Short l s → course (R.block_read l s).state ≡ course s
unfolding R.block_read
read_course [] s n = refl
read_course (x ∷ l) s n =
    going (λ (m : R.Moved). course m.state ≡ course s) (R.data_read s).answer _ _
    (λ v. read_course l (R.data_read s).state (pops_short l x (pops s) n)
    ∙ pops_course (pops s) (λ d w. n d (omega arith) (omega arith)))
    refl

-- an access to the Data register

module _ (m b : ℕ) (s : State) (at : eqb s.status.pointer 0x19 ≡ true) (g : is_good (register m b) ≡ true) where
  reads_data_lem : is_set m ≡ false → reads_at 0x19 (register m b) s ≡ true
  unfolding reads_at both
  reads_data_lem w = rw (g, w, at)

  register_stays : (ReadsLast (register m b) s → ⊥) → course (step (register m b) s).state ≡ course s
  unfolding R.stepped
  register_stays n =
      by_test (is_set m)
      (λ w. rw (access_step m b s 0x19 true g w at, write_reachable b s) (written_keeps course (λ x t. refl) b s))
      (λ w. rw (access_step m b s 0x19 false g w at, data_reachable b s)
      (pops_course (pops s) (λ d v. n (B.byte (reads_data_lem w) d v))))

  register_kept : reads_at 0x19 (register m b) s ≡ false → is_outgoing s.transfer.direction ≡ false
      → (step (register m b) s).state.fifo ≡ s.fifo
  unfolding R.stepped
  register_kept r o =
      by_test (is_set m)
      (λ w. rw (access_step m b s 0x19 true g w at, write_reachable b s, not_written b s o))
      (λ w. clash (reads_data_lem w) r)

module _ (m : ℕ) (l : List ℕ) (s : State) (g : is_good (block m l) ≡ true) where
  block_stays : (ReadsLast (block m l) s → ⊥) → course (step (block m l) s).state ≡ course s
  unfolding carried
  block_stays n =
      rw (good_step (block m l) s g)
      (by_case (λ (r : R.Moved). course r.state ≡ course s) _ (λ w. block_keeps course (λ x t. refl) l s)
      (λ w. read_course l s (λ d v u. n (B.slice g w d v u))))

  block_kept : both (is_good (block m l)) (not (is_set m)) ≡ false → is_outgoing s.transfer.direction ≡ false
      → (step (block m l) s).state.fifo ≡ s.fifo
  unfolding carried both
  block_kept r o =
      rw (good_step (block m l) s g)
      (by_case (λ (x : R.Moved). x.state.fifo ≡ s.fifo) _ (λ w. ap (λ (t : State). t.fifo) (block_not_written l s o))
      (λ w. clash refl (rw (g, w) at r)))

data_stays : (c : Call) (s : State) → is_data_access c s ≡ true → (ReadsLast c s → ⊥) → course (step c s).state ≡ course s
unfolding both either
data_stays (pointer m b) s a n = clash a refl
data_stays auxiliary s a n = clash a refl
data_stays (register m b) s a n =
    by_test (is_good (register m b)) (λ g. register_stays m b s a g n)
    (λ g. ap course (refuses_bad (register m b) s g).same)
data_stays (block m l) s a n =
    by_test (is_good (block m l)) (λ g. block_stays m l s g n) (λ g. ap course (refuses_bad (block m l) s g).same)
data_stays (time k) s a n = clash a refl
data_stays answer s a n = clash a refl
data_stays (reselection lines) s a n = clash a refl
data_stays (request p b q) s a n = clash a refl
data_stays free s a n = clash a refl

data_kept : (c : Call) (s : State) → is_data_access c s ≡ true → is_data_read c s ≡ false → is_outgoing s.transfer.direction ≡ false
    → (step c s).state.fifo ≡ s.fifo
unfolding is_data_read both either
data_kept (pointer m b) s a r o = clash a refl
data_kept auxiliary s a r o = clash a refl
data_kept (register m b) s a r o =
    by_test (is_good (register m b)) (λ g. register_kept m b s a g r o)
    (λ g. ap (λ (t : State). t.fifo) (refuses_bad (register m b) s g).same)
data_kept (block m l) s a r o =
    by_test (is_good (block m l)) (λ g. block_kept m l s g r o) (λ g. ap (λ (t : State). t.fifo) (refuses_bad (block m l) s g).same)
data_kept (time k) s a r o = clash a refl
data_kept answer s a r o = clash a refl
data_kept (reselection lines) s a r o = clash a refl
data_kept (request p b q) s a r o = clash a refl
data_kept free s a r o = clash a refl

-- every call that neither drops the ending nor reads its last byte

module _ (c : Call) (s : State) (e : in_ending s ≡ true) (x : is_dropped c s ≡ false) where
  no_reset : is_reset c s ≡ false
  unfolding is_dropped
  no_reset = either_first _ _ x

  no_disconnect : is_disconnect c s ≡ false
  unfolding is_dropped
  no_disconnect = either_rest (is_reset c s) _ x

  course_stays : (ReadsLast c s → ⊥) → course (step c s).state ≡ course s
  course_stays n =
      by_test (is_event c) (λ v. ap course (ending_is_still c s e v).same)
      (λ v. by_test (is_data_access c s) (λ a. data_stays c s a n)
      (λ a. let h = host_stays s e c v no_reset no_disconnect a in
      ap₂ (λ (x : Activity) (y : Transfer). record { activity = x; transfer = y }) h.activity h.transfer))

  stays : (ReadsLast c s → ⊥) → (step c s).state.activity ≡ s.activity
  stays n = ap (λ (x : Course). x.activity) (course_stays n)

  transfer_stays : (ReadsLast c s → ⊥) → (step c s).state.transfer ≡ s.transfer
  transfer_stays n = ap (λ (x : Course). x.transfer) (course_stays n)

  bytes_stay : is_data_read c s ≡ false → both (is_outgoing s.transfer.direction) (is_data_access c s) ≡ false
      → (step c s).state.fifo ≡ s.fifo
  bytes_stay r o =
      by_test (is_event c) (λ v. ap (λ (t : State). t.fifo) (ending_is_still c s e v).same)
      (λ v. by_test (is_data_access c s) (λ a. data_kept c s a r (not_first _ _ o a))
      (λ a. (host_stays s e c v no_reset no_disconnect a).bytes))

-- a read at 19h

settled_bytes : (s : State) → is_incoming s.transfer.direction ≡ true → (settled s).fifo ≡ s.fifo
unfolding settled settled_by raise outgoing_dropped
settled_bytes s d = by_pick (λ (t : State). t.fifo ≡ s.fifo) _ (by_activity s.activity) refl
  where
    by_way : (x : Direction) → is_incoming x ≡ true → without_outgoing x s.fifo ≡ s.fifo
    by_way Unfixed d = refl
    by_way In d = refl
    by_way Out d = clash d refl

    by_activity : (a : Activity) → (settled_by a s).fifo ≡ s.fifo
    by_activity Is.Idle = refl
    by_activity Is.Interrupt = refl
    by_activity (Is.Runs r) = refl
    by_activity (Is.Ends r k) = by_way s.transfer.direction d
    by_activity (Is.ReadOut r) = refl

reads_front : (c : Call) (s : State) → bytes_unread s ≡ true → reads_at 0x19 c s ≡ true
    → ((step c s).answer ≡ Done (front s.fifo)) × ((step c s).state.fifo ≡ pop s.fifo)
unfolding bytes_unread R.stepped
reads_front c s u e =
    let h : Reading 0x19 c s = reading 0x19 c s e in
    let d : is_incoming s.transfer.direction ≡ true = both_first _ _ u in
    let w : is_empty s.fifo ≡ false = not-true _ (both_second (is_incoming s.transfer.direction) _ u) in
    rw (h.gives, data_reachable h.byte s, data_read_lem s d w) (refl, settled_bytes (set_fifo (pop s.fifo) s) d)

-- the read-out with no code to come, when its last byte is read
reads_out_of : (a : Activity) → pending_in a ≡ ReadOut → (r : Command) × (a ≡ Is.ReadOut r)
reads_out_of Is.Idle p = clash refl (ap is_end (sym p))
reads_out_of Is.Interrupt p = clash refl (ap is_end (sym p))
reads_out_of (Is.Runs r) p = clash refl (ap is_end (sym p))
reads_out_of (Is.Ends r k) p = absurd (no_code p)
  where
    no_code : Ending k ≡ ReadOut → ⊥
    no_code e = let z : ◌≡◌ {A = ℕ} 0 1 = cc in omega arith
reads_out_of (Is.ReadOut r) p = (r, refl)

waits_then : {c : Call} {s : State} → pending s ≡ ReadOut → ReadsLast c s
    → (pending (step c s).state ≡ Nothing) × (running_number (step c s).state.activity ≡ running_number s.activity)
    × ((step c s).state.wire.connection ≡ Waiting)
unfolding settled_by
waits_then {c} {s} p l =
    let h = last_stands l in
    let r : (r : Command) × (s.activity ≡ Is.ReadOut r) = reads_out_of s.activity p in
    let z : summary (step c s).state ≡ summary (settled_by (Is.ReadOut r.0) (set_fifo h.0 s)) =
    h.1 ∙ ap (λ (a : Activity). summary (settled_by a (set_fifo h.0 s))) r.1 in (
      ap (λ (x : Summary). pending_in x.activity) z,
      ap (λ (x : Summary). running_number x.activity) z ∙ sym (ap running_number r.1),
      ap (λ (x : Summary). x.connection) z,
    )

-- the call that begins it

waiting : {q : Fifo} {s t : State} → load t ≡ load (set_fifo q s) → Waits q s t
waiting e = record { bytes = ap (λ (v : Load). v.fifo) e; way = ap (λ (v : Load). v.direction) e }

read_out_waits : {c : Call} {s : State} → BeginsReadOut c s → Waits s.fifo s (step c s).state
read_out_waits (B.leaves_unread {s} q x r e d u) = waiting (A.read_out_row s q x r e d u).1

-- what drops it

disconnect_drops : (c : Call) (s : State) → is_disconnect c s ≡ true → interrupted s ≡ false → Dropped (step c s).state
unfolding is_disconnect disconnected accepted R.stepped
disconnect_drops c s e i =
    let h : Issued 0x04 c s = issued 0x04 c s (both_first _ _ e) in
    let g = disconnect_gives h.byte s h.code i (both_second (is_command 0x04 c s) _ e) in
    rw (h.leaves, g)
    (record { activity = refl; connection = refl; way = refl; bytes = refl; atn = refl; ack = refl })

reset_drops : (c : Call) (s : State) → is_reset c s ≡ true → ResetDropped s (step c s).state
unfolding is_reset commanded reset R.stepped pick
reset_drops c s e =
    let h : Issued 0x00 c s = issued 0x00 c s e in
    rw (h.leaves, h.code)
    (record { activity = refl; connection = refl; transfer = refl; bytes = refl; atn = refl; ack = refl; identity = refl })

pub ending_stays : EndingStays step
ending_stays =
    record {
      stays = stays;
      transfer_stays = transfer_stays;
      bytes_stay = bytes_stay;
      reads_oldest = reads_front;
      all_read = λ c s. last_unread;
      waits_then = λ c s p l. waits_then p l;
      begins_keeps = λ c s k h u. waiting ((brings_row h).kept u);
      begins_with_last = λ n b m s l d. waiting ((A.last_row n b m s l).kept d);
      read_out_keeps = λ c s. read_out_waits;
      dropped_whole = disconnect_drops;
      reset_whole = reset_drops;
    }
