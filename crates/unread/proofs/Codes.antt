-- The laws of specs/Codes.antt hold of the step.
--   endings_begun   a pending ending was begun as the table says, and has been pending since
--   selections_begun   a selection was begun by a Select command, and no Answer came since
--   codes_only_by   who raises which code
--   time_ends_nothing   no ending has the code 42h
--   since_began since_last since_end since_back   what follows from the call that began it, or from the last one, follows
--   since_map       .. and goes over into what else holds of these calls
--   last_of before before_one   the last call of a list, and those before it
--   by_calls        what holds with no call made, and with one more, holds over every list of calls
--   run_more        .. the state with one more
use mathlib.Core.Path.{◌≡◌, refl, sym, ap, ◌∙◌}
use mathlib.Core.Bool.{Bool, true, false}
use mathlib.Core.List.{List, [], ◌∷◌, ◌++◌, append_assoc, append-nil}
use mathlib.Core.Logic.{◌⊎◌, inl, inr, ⊎_elim}
use Prim.Native.Nat.{ℕ, ◌+◌, ◌-◌}
use lib.Dec.{eqb, leb}
use Rattle.chip.proofs.Numbers.{is_selecting_lem}
use Rattle.chip.specs.Choice.{pick, both, either}
use Rattle.chip.specs.State.{fresh}
use Rattle.chip.specs.Phases.{phase_of, phase_number}
use Rattle.chip.specs.Interrupts.{interrupted, busy, bytes_unread}
use Rattle.chip.specs.Activity.{goes_on}
use Rattle.chip.specs.Commands.{abort_phase, reset_code}
use Rattle.chip.specs.Connections.{is_selecting}
use Rattle.chip.specs.Calls.{Call, Outcome, time, answer, reselection, request, free, step, run}
use Rattle.chip.specs.declared.State.{State}
use Rattle.chip.specs.declared.Phase.{Phase}
use Rattle.chip.specs.declared.Phase.TheVariants.{DataOut, DataIn, CommandOut, StatusIn, UnspecifiedOut, UnspecifiedIn, MessageOut, MessageIn}
use Rattle.chip.specs.declared.Connection.TheVariants.{Disconnected, Selecting, Connected}
use Rattle.unread.specs.Status.{Ending, pending, is_command, is_reset, is_selection, is_answer}
use Rattle.unread.specs.Because as B
use Rattle.unread.specs.Because.{Brings, Begins, ReadsOut, Because, Translates, is_idle}
use Rattle.unread.specs.Codes as C
use Rattle.unread.specs.Codes.{Raises, Since, Selects, EndingsBegun, Unanswered, SelectionsBegun, CodesOnlyBy}
use Rattle.unread.proofs.Choosing.{clash}
use Rattle.unread.proofs.Pendings.{is_end, int_by, going_quiet}
use Rattle.chip.proofs.Activities.{going_runs, going_unread}
use Rattle.unread.proofs.Telling.{settles_apart, Summary, summary, Tells, silent, moves, selects, settles, begins, raises, reads, resets, gone, there}
use Rattle.unread.proofs.Told.{told}
use Rattle.unread.proofs.Because.{raised_because, ending_because, brings_row, reads_row}
use Rattle.unread.proofs.Rows as W
use Rattle.chip.proofs.Cases.{taken}

pub run_more : (f : Call → State → Outcome) (l : List Call) (c : Call) (s : State) → run f (l ++ (c ∷ [])) s ≡ (f c (run f l s)).state
unfolding run
run_more f [] c s = refl
run_more f (d ∷ l) c s = run_more f l c (f d s).state

pub by_calls : (P : List Call → Type 0) → P [] → ((l : List Call) (c : Call) → P l → P (l ++ (c ∷ []))) → (l : List Call) → P l
by_calls P z s l = from [] z l
  where
    from : (g : List Call) → P g → (l : List Call) → P (g ++ l)
    from g h [] = rw append-nil h
    from g h (c ∷ l) = rw append_assoc at (from (g ++ (c ∷ [])) (s g c h) l)

pub endings_begun : EndingsBegun step
unfolding run
endings_begun =
    record {
      begun = λ l k. by_calls (Begun k) (λ e. clash (ap is_end e) refl)
          (λ l c h e. ⊎_elim (λ p. C.still l c (h p) p) (C.now l c)
          (ending_because.sound c (run step l fresh) k (sym (pending_more l c) ∙ e))) l;
    }
  where
    Begun : ℕ → List Call → Type 0
    Begun k l = pending (run step l fresh) ≡ Ending k → Since step (λ c s. Begins c s k) (λ c s. pending s ≡ Ending k) l

    pending_more : (l : List Call) (c : Call)
        → pending (run step (l ++ (c ∷ [])) fresh) ≡ pending (step c (run step l fresh)).state
    pending_more l c = ap pending (run_more step l c fresh)

-- a selection

-- a state that selects does so by a command that goes on
abbrev Sound : Summary → Type 0
Sound z = goes_on z.activity ≡ true

-- a call that begins a selection, as it finds the controller
record Beginning (c : Call) (s : State) : Type 0 where
  command : is_selection c s ≡ true
  apart : s.wire.connection ≡ Disconnected
  idle : busy s ≡ false
  all_told : interrupted s ≡ false

-- a call that leaves a selection went on with a sound one, or began it
course : {c : Call} {s : State} {z : Summary} → Tells c s z → (s.wire.connection ≡ Selecting → Sound (summary s))
    → is_selecting z.connection ≡ true
    → Sound z × (((s.wire.connection ≡ Selecting) × (is_answer c ≡ false)) ⊎ Beginning c s)
course {s = s} (silent a) h e =
    let x = is_selecting_lem s.wire.connection e in (h x, inl (x, a (W.selecting_now s (h x) x)))
course (moves f p) h e = clash e f
course {s = s} (selects f q x b) h e = (refl, inr (record { command = f; apart = x; idle = b; all_told = int_by s q }))
course (settles f) h e = clash e (settles_apart f)
course (begins q b f) h e = clash e f
course (raises i b (gone f)) h e = clash e f
course {s = s} (raises i b (there f)) h e =
    let x = h (is_selecting_lem s.wire.connection e) in clash (going_runs s.activity x) (f (going_quiet s x))
course {s = s} (reads d a) h e =
    let x = is_selecting_lem s.wire.connection e in (going_unread s.activity (h x), inl (x, a))
course (resets d f) h e = clash e f

abbrev Selected : List Call → Type 0
Selected l = (run step l fresh).wire.connection ≡ Selecting → Sound (summary (run step l fresh)) × Unanswered step l

began : {c : Call} {s : State} → Beginning c s → (step c s).state.wire.connection ≡ Selecting → Selects step c s
began b x = record { command = b.command; apart = b.apart; idle = b.idle; all_told = b.all_told; selecting = x }

one_more_selected : (l : List Call) (c : Call) → Selected l → Selected (l ++ (c ∷ []))
one_more_selected l c h e =
    let s : State = run step l fresh in
    let r : run step (l ++ (c ∷ [])) fresh ≡ (step c s).state = run_more step l c fresh in
    let x : (step c s).state.wire.connection ≡ Selecting = sym (ap (λ (t : State). t.wire.connection) r) ∙ e in
    let k = course (told c s).tells (λ y. (h y).0) (ap is_selecting x) in
    (rw r k.0, ⊎_elim (λ y. C.still l c (h y.0).1 y) (λ y. C.now l c (began y x)) k.1)

pub selections_begun : SelectionsBegun step
unfolding run
selections_begun = record { begun = λ l e. (by_calls Selected (λ e. clash (ap is_selecting e) refl) one_more_selected l e).1 }

-- which call and state a code speaks for, apart from the read that ends a read-out

data Reason : Type 0 where
  resetting answering translating completing aborting refusing leaving timing reselecting : Reason
  asking : Phase → Reason
  other : Reason

-- a code that a Reset has
unfoldable is_reset_code : ℕ → Bool
is_reset_code k = eqb k 0x00

reason_of : ℕ → Reason
reason_of k =
    pick (is_reset_code k) resetting
    (pick (eqb k 0x11) answering
    (pick (either (eqb k 0x15) (eqb k 0x45)) translating
    (pick (eqb k 0x16) completing
    (pick (eqb k 0x22) aborting
    (pick (eqb k 0x40) refusing
    (pick (either (eqb k 0x41) (eqb k 0x85)) leaving
    (pick (eqb k 0x42) timing
    (pick (eqb k 0x80) reselecting (pick (both (leb 0x88 k) (leb k 0x8F)) (asking (phase_of (k - 0x88))) other)))))))))

Explains : Reason → Call → State → Type 0
Explains resetting c s = is_reset c s ≡ true
Explains answering c s = (c ≡ answer) × (s.wire.connection ≡ Selecting)
Explains translating c s = Translates c s
Explains completing c s = bytes_unread (step c s).state ≡ false
Explains aborting c s = is_command 0x01 c s ≡ true
Explains refusing c s = (k : ℕ) × (is_command k c s ≡ true)
Explains leaving c s = c ≡ free
Explains timing c s = (n : ℕ) × (c ≡ time n) × (s.wire.connection ≡ Selecting)
Explains reselecting c s = (lines : ℕ) × (c ≡ reselection lines)
Explains (asking p) c s =
    (n : ℕ) × (b : ℕ) × (m : ℕ) × (c ≡ request n b m) × (phase_of n ≡ p) × (s.wire.connection ≡ Connected)
    × (is_idle s.activity ≡ true)
Explains other c s = Unit {0}

each_phase : (P : Phase → Type 0) → P DataOut → P DataIn → P CommandOut → P StatusIn → P UnspecifiedOut → P UnspecifiedIn → P MessageOut
    → P MessageIn → (p : Phase) → P p
each_phase P a b c d e f g h DataOut = a
each_phase P a b c d e f g h DataIn = b
each_phase P a b c d e f g h CommandOut = c
each_phase P a b c d e f g h StatusIn = d
each_phase P a b c d e f g h UnspecifiedOut = e
each_phase P a b c d e f g h UnspecifiedIn = f
each_phase P a b c d e f g h MessageOut = g
each_phase P a b c d e f g h MessageIn = h

-- the three families of codes that a phase is added to, beside 88h+p
phased : (p : Phase)
    → (reason_of (0x18 + phase_number p) ≡ other) × (reason_of (0x28 + phase_number p) ≡ other) × (reason_of (0x48 + phase_number p) ≡ other)
unfolding reason_of pick both either is_reset_code
phased =
    each_phase
    (λ (p : Phase). (reason_of (0x18 + phase_number p) ≡ other) × (reason_of (0x28 + phase_number p) ≡ other)
    × (reason_of (0x48 + phase_number p) ≡ other))
    (refl, refl, refl) (refl, refl, refl) (refl, refl, refl) (refl, refl, refl) (refl, refl, refl) (refl, refl, refl) (refl, refl, refl)
    (refl, refl, refl)

asked : (p : Phase) → reason_of (0x88 + phase_number p) ≡ asking p
unfolding reason_of phase_of pick both either is_reset_code
asked = each_phase (λ (p : Phase). reason_of (0x88 + phase_number p) ≡ asking p) refl refl refl refl refl refl refl refl

brings_explained : {c : Call} {s : State} {k : ℕ} → Brings c s k → bytes_unread s ≡ false → Explains (reason_of k) c s
unfolding reason_of Explains pick both either is_reset_code
brings_explained (B.completes o t g e h) u = (brings_row (B.completes o t g e h)).all_read u
brings_explained (B.overruns {p = p} o r e) u = rw (phased p).0 tt
brings_explained (B.saves o t g e h) u = tt
brings_explained (B.aborts_connected {s = s} e on x) u = rw (phased (abort_phase s.wire.seen.last)).1 tt
brings_explained (B.cuts_info q x r e) u = refl
brings_explained (B.cuts_transfer q x r e) u = refl
brings_explained (B.spoils o r w c f h) u = tt
brings_explained (B.surprises {p = p} o r w e) u = rw (phased p).2 tt
brings_explained (B.leaves_info q x r e) u = refl
brings_explained (B.leaves_transfer q x r e d) u = refl

reset_reason : (k : ℕ) → is_reset_code k ≡ true → reason_of k ≡ resetting
unfolding reason_of
reset_reason k e = taken _ _ e

reset_code_is : (s : State) → is_reset_code (reset_code s) ≡ true
unfolding reset_code is_reset_code
reset_code_is s = refl

explained : {c : Call} {s : State} {k : ℕ} → Because c s k → ReadsOut c s k ⊎ Explains (reason_of k) c s
unfolding reason_of Explains pick both either is_reset_code
explained (B.brings h u) = inr (brings_explained h u)
explained (B.reads h) = inl h
explained (B.resets {s = s} e) = inr (rw (reset_reason (reset_code s) (reset_code_is s)) e)
explained (B.answers on x t) = inr (refl, x)
explained (B.locates h e) = inr h
explained (B.resumes {c} {s} k e w q r x p) = inr ((W.resumes_row c s q r x p k e w).all_read refl)
explained (B.takes_last l d) = inr tt
explained (B.aborts e on x) = inr e
explained (B.refuses k e n q r v) = inr (k, e)
explained (B.times_out {n} g on x t l) = inr (n, refl, x)
explained (B.misses h e) = inr h
explained (B.reselects {lines} g q f x w) = inr (lines, refl)
explained (B.frees q x r) = inr refl
explained (B.asks {n} {b} {m} {p} o r f) = inr (rw (asked p) (n, b, m, refl, o.phase, o.connected, r))

-- which call an ending with a code speaks for; a code with none never comes by an ending

EndsBy : Reason → Call → Type 0
EndsBy resetting c = ⊥
EndsBy answering c = ⊥
EndsBy translating c = ⊥
EndsBy completing c = Unit {0}
EndsBy aborting c = ⊥
EndsBy refusing c = ⊥
EndsBy leaving c = c ≡ free
EndsBy timing c = ⊥
EndsBy reselecting c = ⊥
EndsBy (asking p) c = ⊥
EndsBy other c = Unit {0}

brings_by : {c : Call} {s : State} {k : ℕ} → Brings c s k → EndsBy (reason_of k) c
unfolding reason_of EndsBy pick both either is_reset_code
brings_by (B.completes o t g e h) = tt
brings_by (B.overruns {p = p} o r e) = rw (phased p).0 tt
brings_by (B.saves o t g e h) = tt
brings_by (B.aborts_connected {s = s} e on x) = rw (phased (abort_phase s.wire.seen.last)).1 tt
brings_by (B.cuts_info q x r e) = refl
brings_by (B.cuts_transfer q x r e) = refl
brings_by (B.spoils o r w c f h) = tt
brings_by (B.surprises {p = p} o r w e) = rw (phased p).2 tt
brings_by (B.leaves_info q x r e) = refl
brings_by (B.leaves_transfer q x r e d) = refl

begins_by : {c : Call} {s : State} {k : ℕ} → Begins c s k → EndsBy (reason_of k) c
unfolding reason_of EndsBy pick both either is_reset_code
begins_by (B.brings_unread h u) = brings_by h
begins_by (B.keeps_last l d) = tt

pub time_ends_nothing : {c : Call} {s : State} → Begins c s 0x42 → ⊥
unfolding reason_of EndsBy pick both either is_reset_code
time_ends_nothing h = begins_by h

pub since_map : {f : Call → State → Outcome} {A B M N : Call → State → Type 0} {l : List Call} → ((c : Call) (s : State) → A c s → B c s)
    → ((c : Call) (s : State) → M c s → N c s) → Since f A M l → Since f B N l
since_map g h (C.now l c a) = C.now l c (g c _ a)
since_map g h (C.still l c x n) = C.still l c (since_map g h x) (h c _ n)

-- the last call of a list, d where there is none, and the calls before it
abbrev pub last_of : Call → List Call → Call
last_of d [] = d
last_of d (c ∷ l) = last_of c l

abbrev pub before : List Call → List Call
before [] = []
before (c ∷ []) = []
before (c ∷ d ∷ l) = c ∷ before (d ∷ l)

last_one : (d c : Call) (l : List Call) → last_of d (l ++ (c ∷ [])) ≡ c
last_one d c [] = refl
last_one d c (e ∷ l) = last_one e c l

pub before_one : (c : Call) (l : List Call) → before (l ++ (c ∷ [])) ≡ l
before_one c [] = refl
before_one c (d ∷ []) = refl
before_one c (d ∷ e ∷ l) = ap (λ (m : List Call). d ∷ m) (before_one c (e ∷ l))

-- the last call began it, or went on with what the calls before it had
pub since_back : {f : Call → State → Outcome} {B N : Call → State → Type 0} {l : List Call} (d : Call) → Since f B N l
    → B (last_of d l) (run f (before l) fresh) ⊎ (N (last_of d l) (run f (before l) fresh) × Since f B N (before l))
since_back d (C.now l c b) = inl (rw (last_one d c l, before_one c l) b)
since_back d (C.still l c h n) = inr (rw (last_one d c l, before_one c l) n, rw (before_one c l) h)

-- what follows from the last call, whether it began or went on, follows
pub since_last : {f : Call → State → Outcome} {B N : Call → State → Type 0} {l : List Call} {X : Type 0} (d : Call)
    → (B (last_of d l) (run f (before l) fresh) → X) → (N (last_of d l) (run f (before l) fresh) → X) → Since f B N l → X
since_last d x y h = ⊎_elim x (λ n. y n.0) (since_back d h)

pub since_end : {f : Call → State → Outcome} {B N : Call → State → Type 0} (l : List Call) (c : Call) → Since f B N (l ++ (c ∷ []))
    → B c (run f l fresh) ⊎ N c (run f l fresh)
since_end {f} {B} {N} l c =
    since_last c (λ b. inl (rw (last_one c c l, before_one c l) at b)) (λ n. inr (rw (last_one c c l, before_one c l) at n))

pub since_began : {f : Call → State → Outcome} {B N : Call → State → Type 0} {l : List Call} {X : Type 0}
    → ((c : Call) (s : State) → B c s → X) → Since f B N l → X
since_began g (C.now l c b) = g c _ b
since_began g (C.still l c h n) = since_began g h

read_out_since : {k : ℕ} (l : List Call) (c : Call) → ReadsOut c (run step l fresh) k
    → Since step (λ d s. EndsBy (reason_of k) d × Begins d s k) (λ d s. pending s ≡ Ending k) l
read_out_since {k} l c h = since_map (λ d s b. (begins_by b, b)) (λ d s n. n) (endings_begun.begun l k h.ending)

module _ (l : List Call) (c : Call) {k : ℕ} (h : Raises step l c k) where
  why : ReadsOut c (run step l fresh) k ⊎ Explains (reason_of k) c (run step l fresh)
  why = explained (rw h.code at (raised_because.sound c (run step l fresh) h.raises))

  -- a code that never comes by an ending
  own : ((d : Call) → EndsBy (reason_of k) d → ⊥) → Explains (reason_of k) c (run step l fresh)
  own n = ⊎_elim (λ r. absurd (since_began (λ d s b. n d b.0) (read_out_since l c r))) (λ e. e) why

request_only : (l : List Call) (c : Call) (p : Phase) → Raises step l c (0x88 + phase_number p) → Explains (asking p) c (run step l fresh)
unfolding EndsBy
request_only l c p h = rw (asked p) at (own l c h (λ d x. rw (asked p) at x))

reset_only : (l : List Call) (c : Call) (k : ℕ) → is_reset_code k ≡ true → Raises step l c k → is_reset c (run step l fresh) ≡ true
unfolding Explains EndsBy
reset_only l c k e h = rw (reset_reason k e) at (own l c h (λ d x. rw (reset_reason k e) at x))

pub codes_only_by : CodesOnlyBy step
unfolding reason_of Explains EndsBy pick both either is_reset_code
codes_only_by =
    record {
      by_reset = λ l c s h. reset_only l c (reset_code s) (reset_code_is s) h;
      by_answer = λ l c h. own l c h (λ d x. x);
      by_translation = λ l c h. own l c h (λ d x. x);
      by_failed_translation = λ l c h. own l c h (λ d x. x);
      all_read = λ l c h. ⊎_elim (λ r. (reads_row r).all_read refl) (λ e. e) (why l c h);
      by_abort = λ l c h. own l c h (λ d x. x);
      by_command = λ l c h. own l c h (λ d x. x);
      by_free_early = λ l c h. ⊎_elim (λ r. inr (r, read_out_since l c r)) inl (why l c h);
      by_free = λ l c h. ⊎_elim (λ r. inr (r, read_out_since l c r)) inl (why l c h);
      by_time = λ l c h. own l c h (λ d x. x);
      unanswered = λ l c h. selections_begun.begun l (own l c h (λ d x. x)).2;
      by_reselection = λ l c h. own l c h (λ d x. x);
      by_request = request_only;
    }
