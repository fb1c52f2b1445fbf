-- The other rows of the table: commands, Time, Answer, Reselection, and the reads that end a read-out.
--   aborts_connected_row aborts_row refuses_row resumes_row locates_row misses_row   commands
--   taken_reply taken_command abort_taken translate_taken     .. what is taken
--   kept_free                                                 .. and that no idle controller refuses one as busy
--   selecting_now times_out_row answers_row reselects_row     events
--   byte_row slice_row                                        reads
--   no_data no_block                                          reads where no byte waits
--   data_read_lem data_reachable                                  a read of the Data register where a byte waits; it is never Blind
--   Emptied block_empties last_stands last_unread   what the read of the last incoming byte leads to
use mathlib.Core.Path.{◌≡◌, refl, sym, ap, ◌∙◌}
use mathlib.Core.Bool.{Bool, true, false}
use mathlib.Core.List.{List, [], ◌∷◌}
use Prim.Native.Nat.{ℕ, ◌+◌, ◌<◌, ◌≤◌}
use native.Mathlib.Omega.{arith}
use lib.Dec.{eqb, leb}
use lib.ListN.{length}
use borrow.Author.Tests.{eq-eqb}
use Rattle.chip.specs.Choice.{pick, both, either}
use Rattle.chip.specs.Phases.{phase_number}
use Rattle.chip.specs.Lines.{code_of, is_single, qualifies}
use Rattle.chip.specs.Fifo.{is_empty, front, pop, waits}
use Rattle.chip.specs.State.{set_fifo}
use Rattle.chip.specs.Answers.{done, no_data_now}
use Rattle.chip.specs.Count.{dbr, loaded}
use Rattle.chip.specs.Interrupts.{busy, interrupt, ending_with, raise, outgoing_dropped, without_outgoing, settled, settled_by, bytes_unread, is_incoming}
use Rattle.chip.specs.Activity.{is_running, goes_on, is_select_and_transfer}
use Rattle.chip.specs.SelectAndTransfer.{resumed, is_resumable, is_early, is_middle, is_at_end}
use Rattle.chip.specs.Translate.{translated_by, translated}
use Rattle.chip.specs.Commands.{is_ready, is_valid, is_refused_busy, entry_of, table, aborted, select_and_transfer_begun, carried_out, accepted, commanded, abort_phase}
use Rattle.chip.specs.Connections.{is_connected, is_waiting}
use Rattle.chip.specs.Registers as R
use Rattle.chip.specs.Events as E
use Rattle.chip.specs.Calls.{Call, Outcome, block, time, answer, reselection, is_good, is_set, plain, step, carried}
use Rattle.chip.specs.declared.State.{State}
use Rattle.chip.specs.declared.Fifo.{Fifo}
use Rattle.chip.specs.declared.Reply.{Reply}
use Rattle.chip.specs.declared.Command.{Command}
use Rattle.chip.specs.declared.Connection.TheVariants.{Disconnected, Selecting, Connected}
use Rattle.chip.specs.declared.Direction.{Direction}
use Rattle.chip.specs.declared.Direction.TheVariants.{Unfixed, In, Out}
use Rattle.chip.specs.declared.Activity.{Activity}
use Rattle.chip.specs.declared.Activity.TheVariants as A
use Rattle.unread.specs.Status.{Ending, pending_in, pending, is_command, reads_at}
use Rattle.unread.specs.Because.{Quiet, is_off_disk, ReadsLast, byte, slice}
use Rattle.chip.proofs.Cases.{by_test, taken, passed_over}
use Rattle.unread.proofs.Choosing.{clash, second_fails, one_of}
use Rattle.unread.proofs.Telling.{summary}
use Rattle.unread.proofs.Pendings.{is_end, int_by, end_by}
use Rattle.chip.proofs.FifoLaws.{some_waits, waits_some, pop_less}
use Rattle.unread.proofs.Told.{good_step, Issued, issued, Reading, reading}
use Rattle.unread.proofs.Asked.{seen, shown, Raised, Load, load, Ended, raised_by, ended_by, open_event}

-- commands

-- the pointer's step tells nothing
stepped_raised : (c : Call) (s : State) {k : ℕ} (a : ℕ) (r : Reply) → step c s ≡ plain (R.stepped a r) → Raised k r.state
    → Raised k (step c s).state
unfolding R.stepped
stepped_raised c s a r e h = rw e (record { code = h.code; int = h.int })

stepped_ended : (c : Call) (s : State) {k : ℕ} {w : Bool} {v : Load} (a : ℕ) (r : Reply) → step c s ≡ plain (R.stepped a r)
    → Ended k w v r.state → Ended k w v (step c s).state
unfolding R.stepped bytes_unread
stepped_ended c s a r e h =
    record {
      raised_now = λ f. stepped_raised c s a r e (h.raised_now f);
      all_read = λ f. rw e (h.all_read f);
      read_first = λ f. rw e (h.read_first f);
      kept = λ f. rw e (h.kept f);
    }

module _ (c : Call) (s : State) (q : Quiet s) where
  -- a command that is taken
  taken_reply : (b : ℕ) → eqb (code_of b) 0x00 ≡ false → is_refused_busy (code_of b) s ≡ false → is_valid (code_of b) s ≡ true
      → commanded b s ≡ done 0 (carried_out (code_of b) (is_single b) (accepted b s))
  unfolding commanded
  taken_reply b n r v = passed_over _ _ n ∙ passed_over _ _ (int_by s q) ∙ passed_over _ _ r ∙ taken _ _ v

  pub taken_command : (b : ℕ) → eqb (code_of b) 0x00 ≡ false → is_refused_busy (code_of b) s ≡ false → is_valid (code_of b) s ≡ true
      → (commanded b s).state ≡ carried_out (code_of b) (is_single b) (accepted b s)
  taken_command b n r v = ap (λ (x : Reply). x.state) (taken_reply b n r v)

  module _ (on : goes_on s.activity ≡ true) where
    abort_valid : is_valid 0x01 s ≡ true
    unfolding is_valid is_ready entry_of table both pick
    abort_valid = on

    abort_kept : is_refused_busy 0x01 s ≡ false
    unfolding is_refused_busy entry_of table either
    abort_kept = second_fails (busy s) _ (rw abort_valid)

    pub abort_taken : (b : ℕ) → code_of b ≡ 0x01 → (commanded b s).state ≡ aborted (accepted b s)
    unfolding carried_out pick
    abort_taken b e = taken_command b (rw e) (rw (e, abort_kept)) (rw (e, abort_valid)) ∙ rw e

    pub aborts_connected_row : is_command 0x01 c s ≡ true → s.wire.connection ≡ Connected
        → Ended (0x28 + phase_number (abort_phase s.wire.seen.last)) (bytes_unread s) (load s) (step c s).state
    unfolding aborted accepted bytes_unread
    aborts_connected_row e x =
        let h : Issued 0x01 c s = issued 0x01 c s e in
        stepped_ended c s 0x18 _ h.leaves
        (ended_by _ (ap seen (abort_taken h.byte h.code ∙ taken _ _ (ap is_connected x))) refl (λ w. on))

    pub aborts_row : is_command 0x01 c s ≡ true → is_connected s.wire.connection ≡ false → Raised 0x22 (step c s).state
    unfolding aborted accepted
    aborts_row e x =
        let h : Issued 0x01 c s = issued 0x01 c s e in
        stepped_raised c s 0x18 _ h.leaves
        (raised_by _ (ap seen (abort_taken h.byte h.code ∙ passed_over _ _ x)))

  module _ (idle : is_running s.activity ≡ false) where
    is_free : busy s ≡ false
    unfolding busy
    is_free = idle

    pub kept_free : (k : ℕ) → is_refused_busy k s ≡ false
    unfolding is_refused_busy both
    kept_free k = rw is_free

    refused_command : (b : ℕ) → eqb (code_of b) 0x00 ≡ false → is_valid (code_of b) s ≡ false
        → (commanded b s).state ≡ interrupt 0x40 (accepted b s)
    unfolding commanded
    refused_command b n v =
        ap (λ (x : Reply). x.state)
        (passed_over _ _ n ∙ passed_over _ _ (int_by s q) ∙ passed_over _ _ (kept_free _) ∙ passed_over _ _ v)

    pub refuses_row : (k : ℕ) → is_command k c s ≡ true → eqb k 0x00 ≡ false → is_valid k s ≡ false → Raised 0x40 (step c s).state
    refuses_row k e n v =
        let h : Issued k c s = issued k c s e in
        stepped_raised c s 0x18 _ h.leaves
        (rw (refused_command h.byte (rw (h.code, n)) (rw (h.code, v))) (record { code = refl; int = refl }))

    module _ (x : s.wire.connection ≡ Disconnected) where
      translate_valid : is_valid 0x18 s ≡ true
      unfolding is_valid is_ready entry_of table both either pick
      translate_valid = rw x

      pub translate_taken : (b : ℕ) → code_of b ≡ 0x18 → commanded b s ≡ done 0 (translated (accepted b s))
      unfolding carried_out pick
      translate_taken b e = taken_reply b (rw e) (kept_free _) (rw (e, translate_valid)) ∙ rw e

      pub locates_row : is_command 0x18 c s ≡ true → is_off_disk s ≡ false → Raised 0x15 (step c s).state
      unfolding translated translated_by accepted
      locates_row e w =
          let h : Issued 0x18 c s = issued 0x18 c s e in
          stepped_raised c s 0x18 _ h.leaves
          (raised_by _ (ap seen (ap (λ (x : Reply). x.state) (translate_taken h.byte h.code) ∙ passed_over _ _ w)))

      pub misses_row : is_command 0x18 c s ≡ true → is_off_disk s ≡ true → Raised 0x45 (step c s).state
      unfolding translated translated_by accepted
      misses_row e w =
          let h : Issued 0x18 c s = issued 0x18 c s e in
          stepped_raised c s 0x18 _ h.leaves
          (raised_by _ (ap seen (ap (λ (x : Reply). x.state) (translate_taken h.byte h.code) ∙ taken _ _ w)))

    module _ (x : s.wire.connection ≡ Connected) (p : s.registers.descriptor.phase ≡ 0x60) where
      resumable : is_resumable s ≡ true
      unfolding is_resumable is_early is_middle is_at_end either pick
      resumable = rw p

      resume_valid : (k : ℕ) → either (eqb k 0x08) (eqb k 0x09) ≡ true → is_valid k s ≡ true
      unfolding is_valid is_ready entry_of table both either pick
      resume_valid k w = one_of (λ (j : ℕ). is_valid j s ≡ true) 0x08 0x09 k w (rw (resumable, x)) (rw (resumable, x))

      resume_raises : (r : Command) (b : ℕ) → Ended 0x16 false (load (loaded s)) (select_and_transfer_begun r (accepted b s))
      unfolding select_and_transfer_begun resumed loaded accepted bytes_unread both
      resume_raises r b = ended_by _ (ap seen (taken _ _ (ap is_connected x) ∙ taken _ _ (eq-eqb _ _ p))) refl (λ w. refl)

      -- what 08 and 09 do
      resume_carried : (k b : ℕ) → either (eqb k 0x08) (eqb k 0x09) ≡ true → Ended 0x16 false (load (loaded s)) (carried_out k (is_single b) (accepted b s))
      unfolding carried_out pick
      resume_carried k b w =
          one_of (λ (j : ℕ). Ended 0x16 false (load (loaded s)) (carried_out j (is_single b) (accepted b s))) 0x08 0x09 k w (resume_raises _ b) (resume_raises _ b)

      pub resumes_row : (k : ℕ) → is_command k c s ≡ true → either (eqb k 0x08) (eqb k 0x09) ≡ true → Ended 0x16 false (load (loaded s)) (step c s).state
      resumes_row k e w =
          let h : Issued k c s = issued k c s e in
          let n : eqb k 0x00 ≡ false = one_of (λ (j : ℕ). eqb j 0x00 ≡ false) 0x08 0x09 k w refl refl in
          stepped_ended c s 0x18 _ h.leaves
          (rw (taken_command h.byte (rw h.code n) (kept_free _) (rw h.code (resume_valid k w)), h.code)
          (resume_carried k h.byte w))

-- events

-- a selection runs
pub selecting_now : (s : State) → goes_on s.activity ≡ true → s.wire.connection ≡ Selecting → E.selects s ≡ true
unfolding E.selects both
selecting_now s on x = rw (on, x)

pub times_out_row : (n : ℕ) (s : State) → is_good (time n) ≡ true → goes_on s.activity ≡ true → s.wire.connection ≡ Selecting
    → eqb s.registers.setup.timeout 0 ≡ false → leb s.registers.setup.timeout (s.wire.elapsed + n) ≡ true
    → Raised 0x42 (step (time n) s).state
unfolding carried E.passed E.selection_time E.timed_out
times_out_row n s g on x t l =
    raised_by _
    (ap (λ (o : Outcome). seen o.state) (good_step (time n) s g)
    ∙ ap shown
    (taken _ _ (selecting_now s on x) ∙ passed_over _ _ t ∙ taken _ _ l))

pub answers_row : (s : State) → goes_on s.activity ≡ true → s.wire.connection ≡ Selecting → is_select_and_transfer s.activity ≡ false
    → Raised 0x11 (step answer s).state
unfolding carried E.answered E.answered_selecting
answers_row s on x t =
    raised_by _
    (ap (λ (o : Outcome). seen o.state) (good_step answer s (unfold is_good in refl))
    ∙ ap shown
    (taken _ _ (selecting_now s on x) ∙ passed_over _ _ t))

pub reselects_row : (lines : ℕ) (s : State) → is_good (reselection lines) ≡ true → Quiet s → qualifies lines s ≡ true
    → is_connected s.wire.connection ≡ false → both (is_waiting s.wire.connection) (E.names_target lines s) ≡ false
    → Raised 0x80 (step (reselection lines) s).state
unfolding carried E.reselected E.reselected_with_code E.reselected_apart
reselects_row lines s g q f x w =
    raised_by _
    (ap (λ (o : Outcome). seen o.state) (good_step (reselection lines) s g)
    ∙ ap shown (taken _ _ f ∙ passed_over _ _ x ∙ passed_over _ _ (end_by s q) ∙ passed_over _ _ w ∙ open_event s _ q))

-- reads

is_in : (d : Direction) → is_incoming d ≡ true → d ≡ In
is_in Unfixed e = clash e refl
is_in In e = refl
is_in Out e = clash e refl

pub data_read_lem : (s : State) → is_incoming s.transfer.direction ≡ true → is_empty s.fifo ≡ false
    → R.data_read s ≡ done (front s.fifo) (settled (set_fifo (pop s.fifo) s))
unfolding R.data_read
data_read_lem s d e =
    let f : s.transfer.direction ≡ In = is_in s.transfer.direction d in
    ap (λ (x : Direction). R.data_read_by x s) f ∙ taken _ _ (has_byte f)
  where
    has_byte : s.transfer.direction ≡ In → dbr s ≡ true
    has_byte f = unfold dbr in rw (f, e)

pub no_data : (s : State) → is_empty s.fifo ≡ true → R.data_read s ≡ no_data_now s
unfolding R.data_read
no_data s e = by_way s.transfer.direction refl
  where
    no_byte : s.transfer.direction ≡ In → dbr s ≡ false
    no_byte d = unfold dbr in rw (d, e)

    by_way : (d : Direction) → s.transfer.direction ≡ d → R.data_read_by d s ≡ no_data_now s
    by_way Unfixed d = refl
    by_way In d = passed_over _ _ (no_byte d)
    by_way Out d = refl

pub no_block : (l : List ℕ) (s : State) → is_empty s.fifo ≡ true → (R.block_read l s).state ≡ s
unfolding R.block_read
no_block [] s e = refl
no_block (x ∷ l) s e = rw (no_data s e)

-- what an ending comes to keeps an empty FIFO empty
settled_empty : (a : Activity) (s : State) → is_empty s.fifo ≡ true → is_empty (settled_by a s).fifo ≡ true
unfolding settled_by raise outgoing_dropped is_empty
settled_empty A.Idle s e = e
settled_empty A.Interrupt s e = e
settled_empty (A.Runs r) s e = e
settled_empty (A.Ends r k) s e = by_way s.transfer.direction
  where
    by_way : (d : Direction) → is_empty (without_outgoing d s.fifo) ≡ true
    by_way Unfixed = e
    by_way In = e
    by_way Out = refl
settled_empty (A.ReadOut r) s e = e

-- the incoming bytes are read to the last, which leads from s to t: what is pending settles
data Emptied (s t : State) : Type 0 where
  emptied : (q : Fifo) → is_empty q ≡ true → t ≡ settled_by s.activity (set_fifo q s) → Emptied s t

more_settles : (s : State) → is_empty (pop s.fifo) ≡ false → settled (set_fifo (pop s.fifo) s) ≡ set_fifo (pop s.fifo) s
unfolding settled
more_settles s z = passed_over _ _ z

-- the last byte is read, and a byte before it
last_empties : (l : List ℕ) (s : State) → is_empty (pop s.fifo) ≡ true
    → Emptied s (R.block_read l (settled (set_fifo (pop s.fifo) s))).state
unfolding settled
last_empties l s z =
    emptied (pop s.fifo) z
    (ap (λ (r : State). (R.block_read l r).state) (taken _ _ z)
    ∙ no_block l (settled_by s.activity (set_fifo (pop s.fifo) s)) (settled_empty s.activity _ z))

earlier_empties : {s t : State} {q : Fifo} → Emptied (set_fifo q s) t → Emptied s t
earlier_empties (emptied q e f) = emptied q e f

block_empties : (l : List ℕ) (s : State) → is_incoming s.transfer.direction ≡ true → 0 < waits s.fifo
    → waits s.fifo ≤ length l → Emptied s (R.block_read l s).state
unfolding R.block_read
block_empties [] s d v u = absurd (omega arith)
block_empties (x ∷ l) s d v u =
    rw (data_read_lem s d (waits_some s.fifo v))
    (by_test (is_empty (pop s.fifo)) (last_empties l s)
    (λ z. rw (more_settles s z)
    (earlier_empties
    (block_empties l (set_fifo (pop s.fifo) s) d (some_waits _ z) (omega (arith, pop_less s.fifo (waits_some s.fifo v)))))))

-- .. of an ending with k
ends_raises : {k : ℕ} (a : Activity) (u : State) → pending_in a ≡ Ending k → settled_by a u ≡ raise k u
unfolding settled_by
ends_raises A.Idle u p = clash refl (ap is_end (sym p))
ends_raises A.Interrupt u p = clash refl (ap is_end (sym p))
ends_raises (A.Runs r) u p = clash refl (ap is_end (sym p))
ends_raises {k} (A.Ends r j) u p = ap (λ (n : ℕ). raise n u) (same p)
  where
    same : Ending j ≡ Ending k → j ≡ k
    same e = cc
ends_raises (A.ReadOut r) u p = cc

emptied_ends : {k : ℕ} {s t : State} → Emptied s t → pending s ≡ Ending k → Ended k false (load s) t
unfolding ending_with bytes_unread
emptied_ends {k} {s} (emptied q e l) p =
    let u : State = set_fifo q s in
    let f : bytes_unread u ≡ false = second_fails _ _ (rw e) in
    let h = ended_by u (ap seen (l ∙ ends_raises s.activity u p ∙ sym (passed_over _ _ f))) f (λ z. clash z refl) in
    record { raised_now = h.raised_now; all_read = h.all_read; read_first = h.read_first; kept = λ z. clash z refl }

pub slice_row : (m : ℕ) (l : List ℕ) (s : State) (k : ℕ) → is_good (block m l) ≡ true → is_set m ≡ false
    → is_incoming s.transfer.direction ≡ true → 0 < waits s.fifo → waits s.fifo ≤ length l → pending s ≡ Ending k
    → Ended k false (load s) (step (block m l) s).state
unfolding carried
slice_row m l s k g f d v u p =
    rw (good_step (block m l) s g, passed_over (R.block_written l s) (R.block_read l s) f) (emptied_ends (block_empties l s d v u) p)

-- one read is a block of one
data_empties : (s : State) → is_incoming s.transfer.direction ≡ true → waits s.fifo ≡ 1 → Emptied s (R.data_read s).state
unfolding R.block_read
data_empties s d w =
    let e = data_read_lem s d (waits_some s.fifo (omega arith)) in
    rw e (rw e at (block_empties (0 ∷ []) s d (omega arith) (omega arith)))

pub data_reachable : (b : ℕ) (s : State) → R.accessed_at 0x19 false b s ≡ R.data_read s
unfolding R.accessed_at R.is_blind R.read_at both either pick
data_reachable b s = by_test (busy s) (λ e. rw e) (λ e. rw e)

pub byte_row : (c : Call) (s : State) (k : ℕ) → reads_at 0x19 c s ≡ true → is_incoming s.transfer.direction ≡ true
    → waits s.fifo ≡ 1 → pending s ≡ Ending k → Ended k false (load s) (step c s).state
byte_row c s k e d w p =
    let h : Reading 0x19 c s = reading 0x19 c s e in
    stepped_ended c s 0x19 _ h.gives (rw (data_reachable h.byte s) (emptied_ends (data_empties s d w) p))

-- the read of the last byte, in the words of what stands then
emptied_stands : {s t : State} → Emptied s t → (q : Fifo) × (summary t ≡ summary (settled_by s.activity (set_fifo q s)))
emptied_stands (emptied q e l) = (q, ap summary l)

pub last_stands : {c : Call} {s : State} → ReadsLast c s
    → (q : Fifo) × (summary (step c s).state ≡ summary (settled_by s.activity (set_fifo q s)))
unfolding R.stepped carried
last_stands (byte {c} {s} e d w) =
    let h : Reading 0x19 c s = reading 0x19 c s e in
    rw (h.gives, data_reachable h.byte s) (emptied_stands (data_empties s d w))
last_stands (slice {m} {l} {s} g f d v u) =
    rw (good_step (block m l) s g, passed_over (R.block_written l s) (R.block_read l s) f) (emptied_stands (block_empties l s d v u))

-- .. and no byte is unread
emptied_unread : {s t : State} → Emptied s t → bytes_unread t ≡ false
unfolding bytes_unread
emptied_unread {s} (emptied q e l) = second_fails _ _ (rw (l, settled_empty s.activity (set_fifo q s) e))

pub last_unread : {c : Call} {s : State} → ReadsLast c s → bytes_unread (step c s).state ≡ false
unfolding R.stepped carried bytes_unread
last_unread (byte {c} {s} e d w) =
    let h : Reading 0x19 c s = reading 0x19 c s e in
    rw (h.gives, data_reachable h.byte s) (emptied_unread (data_empties s d w))
last_unread (slice {m} {l} {s} g f d v u) =
    rw (good_step (block m l) s g, passed_over (R.block_written l s) (R.block_read l s) f) (emptied_unread (block_empties l s d v u))
