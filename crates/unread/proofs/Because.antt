-- The table of specs/Because.antt is sound and complete for the step.
--   raised_because   a call raises a code exactly where the table says so, and that code
--   ending_because   an ending begins exactly where the table says so, and a read-out
--   brings_row reads_row because_row   what each row says, the step does
--   Found because_found   what a row finds pending, and brings_quiet of those that end a running command
use mathlib.Core.Path.{◌≡◌, refl, sym, ap, ◌∙◌}
use mathlib.Core.Bool.{true, false}
use mathlib.Core.Logic.{◌⊎◌, inl, inr, ⊎_elim}
use Prim.Native.Nat.{ℕ}
use Rattle.chip.specs.Choice.{pick}
use Rattle.chip.specs.Interrupts.{interrupted, bytes_unread}
use Rattle.chip.specs.Activity.{is_interrupt, without_interrupt}
use Rattle.chip.specs.TransferInfo.{transfer_info_free_code}
use Rattle.chip.specs.Calls.{Call, step}
use Rattle.chip.specs.declared.State.{State}
use Rattle.chip.specs.declared.Activity.{Activity}
use Rattle.chip.specs.declared.Activity.TheVariants as Is
use Rattle.unread.specs.Status.{Ending, ReadOut, pending_in, pending, is_reset}
use Rattle.unread.specs.Because as B
use Rattle.unread.specs.Because.{Quiet, Brings, Begins, BeginsReadOut, ReadsLast, ReadsOut, Because, RaisedBecause, EndingBecause}
use Rattle.chip.proofs.Cases.{by_test}
use Rattle.unread.proofs.Choosing.{clash}
use Rattle.unread.proofs.Telling.{disconnects, reads_out_rest, has_read_out, settles_plain, plain_int, Summary, Tells, is_plain, silent, moves, selects, settles, begins, raises, reads, resets}
use Rattle.unread.proofs.Pendings.{is_int, is_end, int_is, int_by, going_quiet, cleared_int}
use Rattle.unread.proofs.Told.{told, reset_told}
use Rattle.unread.proofs.Unread.{raised_from_quiet, raised_sets_int, raised_anew, raised_reset}
use Rattle.unread.proofs.Asked as A
use Rattle.unread.proofs.Asked.{Raised, load, Ended}
use Rattle.unread.proofs.Rows as W

-- complete

pub brings_row : {c : Call} {s : State} {k : ℕ} → Brings c s k → Ended k (bytes_unread s) (load s) (step c s).state
unfolding transfer_info_free_code pick
brings_row (B.completes {n} {b} {m} {s} o t g e h) = A.completes_row n b m s o t g e h
brings_row (B.overruns {n} {b} {m} {p} {s} o r e) = A.overruns_row n b m s o r e
brings_row (B.saves {n} {b} {m} {s} o t g e h) = A.saves_row n b m s o t g e h
brings_row (B.aborts_connected {c} {s} e on x) = W.aborts_connected_row c s (going_quiet s on) on e x
brings_row (B.cuts_info {s} q x r e) = rw e at (A.info_free_row s q x r)
brings_row (B.cuts_transfer {s} q x r e) = A.cuts_transfer_row s q x r e
brings_row (B.spoils {n} {b} {m} {p} {s} o r w c f h) = A.spoils_row n b m s o r w c f h
brings_row (B.surprises {n} {b} {m} {p} {s} o r w e) = A.surprises_row n b m s o r w e
brings_row (B.leaves_info {s} q x r e) = rw e at (A.info_free_row s q x r)
brings_row (B.leaves_transfer {s} q x r e d) = A.leaves_transfer_row s q x r e d

pub reads_row : {c : Call} {s : State} {k : ℕ} → ReadsOut c s k → Ended k false (load s) (step c s).state
reads_row {k = k} h = by_last h.last h.ending
  where
    by_last : {c : Call} {s : State} → ReadsLast c s → pending s ≡ Ending k → Ended k false (load s) (step c s).state
    by_last (B.byte {c} {s} e d w) p = W.byte_row c s k e d w p
    by_last (B.slice {m} {l} {s} g f d v u) p = W.slice_row m l s k g f d v u p

pub because_row : {c : Call} {s : State} {k : ℕ} → Because c s k → Raised k (step c s).state
because_row (B.brings h u) = (brings_row h).raised_now u
because_row (B.reads h) = (reads_row h).raised_now refl
because_row (B.resets {c} {s} e) = record { code = (reset_told c s e).0; int = (reset_told c s e).1 }
because_row (B.answers {s} on x t) = W.answers_row s on x t
because_row (B.locates {c} {s} h e) = W.locates_row c s h.quiet h.idle h.apart h.command e
because_row (B.resumes {c} {s} k e w q r x p) = (W.resumes_row c s q r x p k e w).raised_now refl
because_row (B.takes_last {n} {b} {m} {s} l d) = (A.last_row n b m s l).raised_now d
because_row (B.aborts {c} {s} e on x) = W.aborts_row c s (going_quiet s on) on e x
because_row (B.refuses {c} {s} k e n q r v) = W.refuses_row c s q r k e n v
because_row (B.times_out {n} {s} g on x t l) = W.times_out_row n s g on x t l
because_row (B.misses {c} {s} h e) = W.misses_row c s h.quiet h.idle h.apart h.command e
because_row (B.reselects {lines} {s} g q f x w) = W.reselects_row lines s g q f x w
because_row (B.frees {s} q x r) = A.idle_free_row s q x r
because_row (B.asks {n} {b} {m} {p} {s} o r f) = A.asks_row n b m s o r f

begins_row : {c : Call} {s : State} {k : ℕ} → Begins c s k → pending (step c s).state ≡ Ending k
begins_row (B.brings_unread h u) = (brings_row h).read_first u
begins_row (B.keeps_last {n} {b} {m} {s} l d) = (A.last_row n b m s l).read_first d

read_out_row : {c : Call} {s : State} → BeginsReadOut c s → pending (step c s).state ≡ ReadOut
read_out_row (B.leaves_unread {s} q x r e d u) = (A.read_out_row s q x r e d u).0

-- what a row finds: nothing is pending, or an ending whose last byte is read, or it is Reset's

pub brings_quiet : {c : Call} {s : State} {k : ℕ} → Brings c s k → Quiet s
brings_quiet (B.completes o t g e h) = o.quiet
brings_quiet (B.overruns o r e) = o.quiet
brings_quiet (B.saves o t g e h) = o.quiet
brings_quiet (B.aborts_connected {s = s} e on x) = going_quiet s on
brings_quiet (B.cuts_info q x r e) = q
brings_quiet (B.cuts_transfer q x r e) = q
brings_quiet (B.spoils o r w c f h) = o.quiet
brings_quiet (B.surprises o r w e) = o.quiet
brings_quiet (B.leaves_info q x r e) = q
brings_quiet (B.leaves_transfer q x r e d) = q

pub data Found (c : Call) (s : State) (k : ℕ) : Type 0 where
  quiet : Quiet s → Found c s k
  reading_out : ReadsOut c s k → Found c s k
  resetting : is_reset c s ≡ true → Found c s k

pub because_found : {c : Call} {s : State} {k : ℕ} → Because c s k → Found c s k
because_found (B.brings h u) = quiet (brings_quiet h)
because_found (B.reads h) = reading_out h
because_found (B.resets e) = resetting e
because_found (B.answers {s} on x t) = quiet (going_quiet s on)
because_found (B.locates h e) = quiet h.quiet
because_found (B.resumes k e w q r x p) = quiet q
because_found (B.takes_last l d) = quiet l.offered.quiet
because_found (B.aborts {s = s} e on x) = quiet (going_quiet s on)
because_found (B.refuses k e n q r v) = quiet q
because_found (B.times_out {s = s} g on x t l) = quiet (going_quiet s on)
because_found (B.misses h e) = quiet h.quiet
because_found (B.reselects g q f x w) = quiet q
because_found (B.frees q x r) = quiet q
because_found (B.asks o r f) = quiet o.quiet

because_raised : {c : Call} {s : State} {k : ℕ} → Found c s k → (is_reset c s ≡ true) ⊎ (interrupted s ≡ false)
because_raised {s = s} (quiet q) = inr (int_by s q)
because_raised {s = s} (reading_out h) = inr (int_by s h.ending)
because_raised (resetting e) = inl e

-- sound

reasoned : {c : Call} {s : State} {z : Summary} → Tells c s z → is_reset c s ≡ false → interrupted s ≡ false
    → is_interrupt z.activity ≡ true → Because c s z.code
reasoned (silent a) r i j = clash j i
reasoned {s = s} (moves {a = a} x p) r i j = clash j (int_is a ∙ ap is_int p ∙ sym (int_is s.activity) ∙ i)
reasoned (selects e q x b) r i j = clash j refl
reasoned (settles {a = a} h) r i j = clash j (int_is a ∙ plain_int (pending_in a) (settles_plain h))
reasoned (begins u h x) r i j = clash j refl
reasoned (raises i h x) r i' j = h
reasoned {s = s} (reads e a) r i j = clash j (cleared_int s.activity)
reasoned (resets e x) r i j = clash e r

begun : {c : Call} {s : State} {z : Summary} (j : ℕ) → Tells c s z → pending_in z.activity ≡ Ending j → (pending s ≡ Ending j) ⊎ Begins c s j
begun j (silent a) e = inl e
begun j (moves x p) e = inl (sym p ∙ e)
begun j (selects f q x b) e = clash refl (ap is_plain e)
begun j (settles h) e = clash (settles_plain h) (ap is_plain e)
begun {c} {s} j (begins {k = k} u h x) e = inr (rw (code_of e) at h)
  where
    code_of : Ending k ≡ Ending j → k ≡ j
    code_of e = cc
begun j (raises i h x) e = clash refl (ap is_int e)
begun {s = s} j (reads d a) e = inl (ended_before s.activity e)
  where
    ended_before : (a : Activity) → pending_in (without_interrupt a) ≡ Ending j → pending_in a ≡ Ending j
    ended_before Is.Idle e = e
    ended_before Is.Interrupt e = clash refl (ap is_plain e)
    ended_before (Is.Runs r) e = e
    ended_before (Is.Ends r k) e = e
    ended_before (Is.ReadOut r) e = e
begun j (resets d x) e = clash refl (ap is_int e)

read_out_begun : {c : Call} {s : State} {z : Summary} → Tells c s z → pending_in z.activity ≡ ReadOut
    → (pending s ≡ ReadOut) ⊎ BeginsReadOut c s
read_out_begun (silent a) e = inl e
read_out_begun (moves x p) e = inl (sym p ∙ e)
read_out_begun (selects f q x b) e = clash (ap is_end e) refl
read_out_begun (settles (disconnects f i)) e = clash (ap is_end e) refl
read_out_begun (settles (reads_out_rest h)) e = inr h
read_out_begun (settles (has_read_out f l)) e = clash (ap is_end e) refl
read_out_begun (begins q h x) e = clash (ap is_plain e) refl
read_out_begun (raises i h x) e = clash (ap is_end e) refl
read_out_begun {s = s} (reads d a) e = inl (begun_before s.activity e)
  where
    begun_before : (a : Activity) → pending_in (without_interrupt a) ≡ ReadOut → pending_in a ≡ ReadOut
    begun_before Is.Idle e = e
    begun_before Is.Interrupt e = clash (ap is_end e) refl
    begun_before (Is.Runs r) e = e
    begun_before (Is.Ends r k) e = e
    begun_before (Is.ReadOut r) e = e
read_out_begun (resets d x) e = clash (ap is_end e) refl

pub raised_because : RaisedBecause step
raised_because =
    record {
      sound = λ c s e.
          by_test (is_reset c s) (λ r. rw (reset_told c s r).0 (B.resets r))
          (λ r. reasoned (told c s).tells r (raised_from_quiet c s r e) (raised_sets_int c s _ e));
      complete = λ c s k h.
          let i : interrupted (step c s).state ≡ true = ap is_interrupt (because_row h).int in
          ⊎_elim (raised_reset c s (step c s).state i) (raised_anew c s (step c s).state i) (because_raised (because_found h));
      code = λ c s k h. (because_row h).code;
    }

pub ending_because : EndingBecause step
ending_because =
    record {
      sound = λ c s k. begun k (told c s).tells;
      complete = λ c s k. begins_row;
      read_out_sound = λ c s. read_out_begun (told c s).tells;
      read_out_complete = λ c s. read_out_row;
    }
