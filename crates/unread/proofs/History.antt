-- The law of specs/History.antt holds of the step.
--   no_status_lost   over every list of calls, from every state
--   ran              `run` of the step is the chip's `after`
--   code-after       the code at 17h after any calls from a fresh state is the one raised last, 0 where none was
--   owed-after       what is pending is what is owed after them: the code at 17h, where INT is set, or a code to come
use mathlib.Core.Path.{◌≡◌, refl, sym, ap, ◌∙◌}
use mathlib.Core.Bool.{true, false}
use mathlib.Core.List.{List, [], ◌∷◌, ◌++◌}
use Prim.Native.Nat.{ℕ}
use Rattle.chip.specs.Choice.{pick, both, either}
use Rattle.chip.specs.Interrupts.{interrupted}
use Rattle.chip.specs.Activity.{is_interrupt, is_ending, without_interrupt}
use Rattle.chip.specs.Calls.{Call, Outcome, step, run}
use Rattle.chip.specs.declared.State.{State}
use Rattle.chip.specs.declared.Activity.{Activity}
use Rattle.chip.specs.declared.Activity.TheVariants as A
use Rattle.unread.specs.Status.{Pending, Nothing, Interrupt, Ending, ReadOut, pending_in, pending, is_reset, is_disconnect, reads_at}
use Rattle.unread.specs.History as H
use Rattle.unread.specs.History.{Happening, Owed, nothing, unread, coming, owed_by, is_coming, noted, read_by, begun_by, history, last_code, owed_after, Orderly, Follows, is_raising, has_read, NoStatusLost}
use Rattle.chip.proofs.Cases.{by_case, both_first, both_second}
use Rattle.unread.proofs.Choosing.{clash}
use Rattle.unread.proofs.Pendings.{is_int, is_end, int_is}
use Rattle.unread.proofs.Host.{not_busy_ends}
use Rattle.unread.proofs.Telling.{disconnects, reads_out_rest, has_read_out, read_out_quiet, Summary, Tells, silent, moves, selects, settles, begins, raises, reads, resets}
use Rattle.unread.proofs.Told.{told, reset_told, disconnect_told, ReadTold, blind, read, status_read}
use Rattle.unread.proofs.Unread.{int_pending, raised_from_quiet, raised_sets_int, raised_anew}
use Rattle.unread.proofs.Because.{Found, quiet, reading_out, resetting, because_found, raised_because}

-- what the happenings of one call say of the code and of what is pending, before it and after it
data Leads : ℕ → Pending → ℕ → Pending → List Happening → Type 0 where
  still : {k : ℕ} {q p : Pending} → owed_by p ≡ owed_by q → Leads k q k p []
  reset : {k j : ℕ} {q : Pending} → Leads k q j Interrupt (H.resets j ∷ [])
  raise : {k j : ℕ} {q : Pending} → owed_by q ≡ nothing → Leads k q j Interrupt (H.raises j ∷ [])
  raise_owed : {k j : ℕ} → Leads k (Ending j) j Interrupt (H.raises j ∷ [])
  tell : {k : ℕ} {q p : Pending} → is_coming q ≡ false → owed_by p ≡ nothing → Leads k q k p (H.reads k ∷ [])
  begin : {k j : ℕ} {q : Pending} → owed_by q ≡ nothing → Leads k q k (Ending j) (H.begins j ∷ [])
  disconnect : {k j : ℕ} → Leads k (Ending j) k Nothing (H.disconnects ∷ [])

-- a code is raised: nothing is owed, or that code is to come
raise_leads : {c : Call} {s : State} {j k : ℕ} → Found c s j → is_reset c s ≡ false → (q : Pending) → pending s ≡ q
    → is_int q ≡ false → Leads k q j Interrupt (H.raises j ∷ [])
raise_leads h r Nothing e i = raise refl
raise_leads h r Interrupt e i = clash refl i
raise_leads (quiet p) r (Ending k) e i = clash (ap is_end e) (ap is_end p)
raise_leads {j = j} (reading_out h) r (Ending k) e i = rw (same (sym e ∙ h.ending)) raise_owed
  where
    same : Ending k ≡ Ending j → k ≡ j
    same e = cc
raise_leads (resetting f) r (Ending k) e i = clash f r
raise_leads h r ReadOut e i = raise refl

disconnect_leads : {k : ℕ} (q : Pending) → is_coming q ≡ true → Leads k q k Nothing (H.disconnects ∷ [])
disconnect_leads Nothing e = clash e refl
disconnect_leads Interrupt e = clash e refl
disconnect_leads (Ending j) e = disconnect
disconnect_leads ReadOut e = clash e refl

coming_quiet : (q : Pending) → is_coming q ≡ true → is_int q ≡ false
coming_quiet Nothing e = refl
coming_quiet Interrupt e = clash e refl
coming_quiet (Ending j) e = refl
coming_quiet ReadOut e = refl

-- 17h is read with no ending under way
read_owes : (a : Activity) → is_ending a ≡ false → (is_coming (pending_in a) ≡ false) × (owed_by (pending_in (without_interrupt a)) ≡ nothing)
read_owes A.Idle e = (refl, refl)
read_owes A.Interrupt e = (refl, refl)
read_owes (A.Runs r) e = (refl, refl)
read_owes (A.Ends r k) e = clash refl e
read_owes (A.ReadOut r) e = clash refl e

read_leads : {s : State} {o : Outcome} → ReadTold s o
    → Leads s.status.code (pending s) o.state.status.code (pending o.state) (read_by o.answer)
read_leads (blind b a k q) = rw (a, k, q) (still refl)
read_leads {s} (read b a k q) =
    let e = read_owes s.activity (not_busy_ends s b) in rw (a, k, q) (tell e.0 e.1)

same_begun : (q : Pending) → begun_by q q ≡ []
unfolding pick
same_begun Nothing = refl
same_begun Interrupt = refl
same_begun (Ending k) = refl
same_begun ReadOut = refl

owes_nothing : (q : Pending) → is_int q ≡ false → is_coming q ≡ false → owed_by q ≡ nothing
owes_nothing Nothing i e = refl
owes_nothing Interrupt i e = clash refl i
owes_nothing (Ending k) i e = clash refl e
owes_nothing ReadOut i e = refl

-- a call that is no Reset, raises nothing, drops nothing and does not read 17h
calm_leads : {c : Call} {s : State} {z : Summary} → Tells c s z → is_reset c s ≡ false
    → (interrupted s ≡ false → is_interrupt z.activity ≡ true → ⊥) → both (is_disconnect c s) (is_coming (pending s)) ≡ false
    → reads_at 0x17 c s ≡ false
    → Leads s.status.code (pending s) z.code (pending_in z.activity) (begun_by (pending s) (pending_in z.activity))
unfolding both pick
calm_leads {s = s} (silent a) r n d e = rw (same_begun (pending s)) (still refl)
calm_leads {s = s} (moves x p) r n d e = rw (p, same_begun (pending s)) (still refl)
calm_leads (selects f q x b) r n d e = still (ap owed_by (sym q))
calm_leads {s = s} (settles (disconnects f i)) r n d e = still (sym (owes_nothing (pending s) (sym (int_is s.activity) ∙ i) (rw f at d)))
calm_leads (settles (reads_out_rest h)) r n d e = still (ap owed_by (sym (read_out_quiet h)))
calm_leads (settles (has_read_out q l)) r n d e = still (ap (λ (a : Activity). owed_by (pending_in a)) (sym q))
calm_leads (begins q h x) r n d e = rw q (begin refl)
calm_leads (raises i h x) r n d e = absurd (n i refl)
calm_leads (reads f a) r n d e = clash f e
calm_leads (resets f x) r n d e = clash f r

leads : (c : Call) (s : State)
    → Leads s.status.code (pending s) (step c s).state.status.code (pending (step c s).state) (noted c s (step c s))
unfolding noted
leads c s =
    by_case So _ (λ r. rw ((reset_told c s r).0, (reset_told c s r).1) reset)
    (λ r. by_case So _
    (λ e. rw ((int_pending (step c s).state).0 (raised_sets_int c s _ e))
    (raise_leads (because_found (raised_because.sound c s e)) r (pending s) refl (sym (int_is s.activity) ∙ raised_from_quiet c s r e)))
    (λ n. by_case So _
    (λ d. let k = both_second (is_disconnect c s) _ d in
    let t = disconnect_told c s (both_first _ _ d) (int_is s.activity ∙ coming_quiet (pending s) k) in
    rw (t.0, t.1) (disconnect_leads (pending s) k))
    (λ d. by_case So _ (λ e. read_leads (status_read c s e))
    (λ e. calm_leads (told c s).tells r (λ j i. clash (raised_anew c s _ i j) n) d e))))
  where
    So : List Happening → Type 0
    So h = Leads s.status.code (pending s) (step c s).state.status.code (pending (step c s).state) h

-- an orderly history, with what one call did before it
preceded : {k j : ℕ} {q p : Pending} {h l : List Happening} → Leads k q j p h → Orderly j (owed_by p) l → Orderly k (owed_by q) (h ++ l)
preceded (still e) o = rw e at o
preceded reset o = H.resetting o
preceded (raise e) o = rw e (H.raising o)
preceded raise_owed o = H.coming_up o
preceded {q = Nothing} (tell n e) o = H.again (rw e at o)
preceded {q = Interrupt} (tell n e) o = H.reading (rw e at o)
preceded {q = Ending k} (tell n e) o = clash refl n
preceded {q = ReadOut} (tell n e) o = H.again (rw e at o)
preceded (begin e) o = rw e (H.beginning o)
preceded disconnect o = H.disconnecting o

last_with : {k j : ℕ} {q p : Pending} {h : List Happening} (l : List Happening) → Leads k q j p h → last_code j l ≡ last_code k (h ++ l)
last_with l (still e) = refl
last_with l reset = refl
last_with l (raise e) = refl
last_with l raise_owed = refl
last_with l (tell n e) = refl
last_with l (begin e) = refl
last_with l disconnect = refl

owed_with : {k j : ℕ} {q p : Pending} {h : List Happening} (l : List Happening) → Leads k q j p h
    → owed_after (owed_by p) l ≡ owed_after (owed_by q) (h ++ l)
owed_with l (still e) = rw e
owed_with l reset = refl
owed_with l (raise e) = refl
owed_with l raise_owed = refl
owed_with l (tell n e) = rw e
owed_with l (begin e) = refl
owed_with l disconnect = refl

code_last : (l : List Call) (s : State) → (run step l s).status.code ≡ last_code s.status.code (history step l s)
unfolding run history
code_last [] s = refl
code_last (c ∷ l) s = code_last l (step c s).state ∙ last_with (history step l (step c s).state) (leads c s)

owed_last : (l : List Call) (s : State)
    → owed_by (pending (run step l s)) ≡ owed_after (owed_by (pending s)) (history step l s)
unfolding run history
owed_last [] s = refl
owed_last (c ∷ l) s = owed_last l (step c s).state ∙ owed_with (history step l (step c s).state) (leads c s)

in_order : (l : List Call) (s : State) → Orderly s.status.code (owed_by (pending s)) (history step l s)
unfolding history
in_order [] s = H.over
in_order (c ∷ l) s = preceded (leads c s) (in_order l (step c s).state)

-- from an unread code on, the next code that is no Reset's comes after a read
read_before : {w : ℕ} (k : ℕ) (j h : List Happening) → Orderly w unread (h ++ (H.raises k ∷ j)) → has_read h ≡ true
unfolding has_read either
read_before {w = w} k j [] x' = elim x' [ ]
read_before {w = w} k j (H.raises code ∷ h) x4 = elim x4 [ ]
read_before k j (H.resets i ∷ h) (H.resetting o) = read_before k j h o
read_before k j (H.reads v ∷ h) (H.reading o) = refl
read_before {w = w} k j (H.begins code ∷ h) x4 = elim x4 [ ]
read_before {w = w} k j (H.disconnects ∷ h) x4 = elim x4 [ ]

-- what is left of an orderly history is orderly, from some code on
later : {k : ℕ} {w : Owed} (g h : List Happening) → Orderly k w (g ++ h) → (j : ℕ) × (v : Owed) × Orderly j v h
later [] h o = (_, _, o)
later (H.raises j ∷ g) h (H.raising o) = later g h o
later (H.raises j ∷ g) h (H.coming_up o) = later g h o
later (H.resets j ∷ g) h (H.resetting o) = later g h o
later (H.reads v ∷ g) h (H.reading o) = later g h o
later (H.reads v ∷ g) h (H.again o) = later g h o
later (H.begins j ∷ g) h (H.beginning o) = later g h o
later (H.disconnects ∷ g) h (H.disconnecting o) = later g h o

after_raising : {k : ℕ} {w : Owed} {h : List Happening} (x : Happening) → is_raising x ≡ true → Orderly k w (x ∷ h)
    → (j : ℕ) × Orderly j unread h
after_raising (H.raises j) e (H.raising o) = (j, o)
after_raising (H.raises j) e (H.coming_up o) = (j, o)
after_raising (H.resets j) e (H.resetting o) = (j, o)
after_raising (H.reads v) e o = clash e refl
after_raising (H.begins j) e o = clash e refl
after_raising H.disconnects e o = clash e refl

-- from a code to come on
in_turn : {k j : ℕ} {h : List Happening} → Orderly k (coming j) h → Follows j h
in_turn H.over = H.not_yet
in_turn (H.coming_up o) = H.raised_next
in_turn (H.resetting o) = H.reset_next
in_turn (H.disconnecting o) = H.disconnected_next

after_beginning : {k j : ℕ} {w : Owed} {h : List Happening} → Orderly k w (H.begins j ∷ h) → Follows j h
after_beginning (H.beginning o) = in_turn o

pub no_status_lost : NoStatusLost step
no_status_lost =
    record {
      code_is_last = code_last;
      pending_is_owed = owed_last;
      orderly = in_order;
      read_between = λ l s g h j x k e r.
          let o : Orderly s.status.code (owed_by (pending s)) (g ++ (x ∷ (h ++ (H.raises k ∷ j)))) = rw e at (in_order l s) in
          read_before k j h (after_raising x r (later g _ o).2).1;
      raised_in_turn = λ l s g h k e.
          let o : Orderly s.status.code (owed_by (pending s)) (g ++ (H.begins k ∷ h)) = rw e at (in_order l s) in
          after_beginning (later g _ o).2;
    }
