-- In an ending no bus event changes the controller, and what the host does leaves it as it is. Bytes.antt has the rest of specs/Ending.antt.
--   ending_is_still   the law of the bus events
--   Stays host_stays  every call of the host but these and accesses to the Data register leaves FIFO, activity, way and connection
--   unreachable       while a command runs 18h and 19h alone are reachable
--   Refuses refuses refuses_bad   nothing changed, and the answer is a refusal
--   Stands stands_still   where every event comes to that, but for Time, the bus stands still
use mathlib.Core.Path.{◌≡◌, refl, ap, ◌∙◌}
use mathlib.Core.Bool.{Bool, true, false, not}
use mathlib.Core.List.{List, [], ◌∷◌}
use Prim.Native.Nat.{ℕ, zero, suc, ◌+◌}
use native.Mathlib.Omega.{arith}
use lib.Dec.{eqb, leb}
use lib.ListN.{get_or}
use Rattle.chip.specs.Choice.{pick, both, either}
use Rattle.chip.specs.Phases.{phase_of}
use Rattle.chip.specs.Lines.{code_of, qualifies}
use Rattle.chip.specs.Interrupts.{in_ending, busy}
use Rattle.chip.specs.Activity.{is_ending, goes_on, without_interrupt}
use Rattle.chip.specs.Commands.{is_two, is_valid, is_refused_busy, entry_of, table, left_out, carried_out, accepted, commanded}
use Rattle.chip.specs.Answers.{done, held, out_of_place}
use Rattle.chip.specs.Registers as R
use Rattle.chip.specs.Events as E
use Rattle.chip.specs.Calls.{Call, Outcome, pointer, auxiliary, register, block, time, answer, reselection, request, free, is_good, is_set, lent_by, plain, carried, step}
use Rattle.chip.specs.declared.State.{State}
use Rattle.chip.specs.declared.Reply.{Reply}
use Rattle.chip.specs.declared.Phase.{Phase}
use Rattle.chip.specs.declared.Entry.{Entry}
use Rattle.chip.specs.declared.Answer.TheVariants.{BadNumber}
use Rattle.chip.specs.declared.Activity.{Activity}
use Rattle.chip.specs.declared.Activity.TheVariants.{Idle, Interrupt, Runs, Ends, ReadOut}
use Rattle.unread.specs.Status.{is_command, is_reset, is_disconnect}
use Rattle.unread.specs.Ending.{is_event, is_time, is_refusal, Untouched, is_data_access, EndingIsStill}
use Rattle.chip.proofs.Cases.{by_pick, by_case, by_test, both_first, both_second, either_first, either_rest, either_second, either_last, passed_over}
use Rattle.unread.proofs.Choosing.{clash, second_fails, one_or, one_of}
use Rattle.unread.proofs.Host.{invalid_idle, abort_goes, is_disconnect_lem}
use Rattle.unread.proofs.Told.{good_step}
use Rattle.chip.proofs.Activities.{going_is_still, ending_runs}
use Rattle.chip.specs.Connections.{is_connected}

-- no bus event

pub record Refuses (s : State) (r : Reply) : Type 0 where
  pub same : r.state ≡ s
  pub refused : is_refusal r.answer ≡ true

pub refuses : (c : Call) (s : State) (r : Reply) → step c s ≡ plain r → Refuses s r → Untouched step c s
unfolding either
refuses c s r e h =
    record { same = ap (λ (o : Outcome). o.state) e ∙ h.same; not_taken = rw (e, h.refused) (either_last (is_time c)) }

-- operands out of range: Bad number
pub refuses_bad : (c : Call) (s : State) → is_good c ≡ false → Untouched step c s
unfolding step
refuses_bad c s g =
    let e : step c s ≡ record { answer = BadNumber; state = s; lent = lent_by c } = passed_over _ _ g in
    record { same = ap (λ (o : Outcome). o.state) e; not_taken = rw e (either_last (is_time c)) }

-- what every event comes to in a state where the bus stands still
pub record Stands (s : State) : Type 0 where
  pub time : (n : ℕ) → E.passed n s ≡ done 0 s
  pub answer : Refuses s (E.answered s)
  pub reselection : (lines : ℕ) → Refuses s (E.reselected lines s)
  pub request : (p : Phase) (b : ℕ) (bad : Bool) → Refuses s (E.requested p b bad s)
  pub free : Refuses s (E.freed s)

-- a Time is Done, and changes nothing
passes : (c : Call) (s : State) → is_time c ≡ true → step c s ≡ plain (done 0 s) → Untouched step c s
unfolding either
passes c s t e = record { same = ap (λ (o : Outcome). o.state) e; not_taken = rw t }

pub stands_still : {s : State} → Stands s → (c : Call) → is_event c ≡ true → Untouched step c s
unfolding carried
stands_still {s} h c v = by_test (is_good c) (λ g. good_still c v (good_step c s g)) (refuses_bad c s)
  where
    good_still : (c : Call) → is_event c ≡ true → step c s ≡ carried c s → Untouched step c s
    good_still (pointer m b) v e = clash v refl
    good_still auxiliary v e = clash v refl
    good_still (register m b) v e = clash v refl
    good_still (block m l) v e = clash v refl
    good_still (time n) v e = passes (time n) s refl (e ∙ ap plain (h.time n))
    good_still answer v e = refuses answer s (E.answered s) e h.answer
    good_still (reselection lines) v e = refuses (reselection lines) s (E.reselected lines s) e (h.reselection lines)
    good_still (request p b q) v e =
        refuses (request p b q) s (E.requested (phase_of p) b (is_set q) s) e (h.request (phase_of p) b (is_set q))
    good_still free v e = refuses free s (E.freed s) e h.free

module _ (s : State) (e : in_ending s ≡ true) where
  abbrev Back : Reply → Type 0
  Back r = Refuses s r

  held_back : (r : Reply) → Back (pick (in_ending s) (held s) r)
  unfolding pick
  held_back r = rw e (record { same = refl; refused = refl })

  -- no selection runs
  no_selection : E.selects s ≡ false
  unfolding E.selects
  no_selection =
      second_fails _ _ (by_test (goes_on s.activity) (λ on. clash e (going_is_still s.activity on).1) (λ on. on))

  answer_back : Back (E.answered s)
  unfolding E.answered E.answered_elsewhere
  answer_back =
      by_case Back _ (λ x. clash x no_selection)
      (λ x. by_pick Back _ (record { same = refl; refused = refl }) (record { same = refl; refused = refl }))

  reselection_back : (lines : ℕ) → Back (pick (is_connected s.wire.connection) (out_of_place s) (E.reselected_apart lines s))
  unfolding E.reselected_apart
  reselection_back lines = by_pick Back _ (record { same = refl; refused = refl }) (held_back _)

  request_back : (p : Phase) (b : ℕ) (bad : Bool) → Back (E.requested p b bad s)
  unfolding E.requested E.requested_connected
  request_back p b bad =
      by_pick Kept _ (by_case Kept _ (λ i. unmoved) (λ n. clash e n)) (unfold E.remembered in record { same = refl; refused = refl })
    where
      Kept : Reply → Type 0
      Kept r = Back (E.remembered p r)

      unmoved : Kept (held s)
      unmoved = unfold E.remembered in record { same = refl; refused = refl }

  free_back : Back (E.freed s)
  unfolding E.freed
  free_back = by_pick Back _ (held_back _) (record { same = refl; refused = refl })

  ending_stands : Stands s
  unfolding E.passed E.answered E.reselected E.requested E.freed
  ending_stands =
      record {
        time = λ n. passed_over _ _ no_selection;
        answer = answer_back;
        reselection = λ lines.
            by_pick Back (qualifies lines s) (reselection_back lines) (record { same = refl; refused = refl });
        request = request_back;
        free = free_back;
      }

pub ending_is_still : EndingIsStill step
ending_is_still c s e v = stands_still (ending_stands s e) c v

-- a read of 17h, were it not Blind, would leave an ending
same_ending : (a : Activity) → is_ending a ≡ true → without_interrupt a ≡ a
same_ending Idle e = clash e refl
same_ending Interrupt e = clash e refl
same_ending (Runs r) e = clash e refl
same_ending (Ends r k) e = refl
same_ending (ReadOut r) e = refl

-- commands in an ending: only those of Level I get through, and of these Abort is not valid

is_level_one : ℕ → Bool
is_level_one k = either (eqb k 0x00) (either (eqb k 0x01) (either (eqb k 0x02) (either (eqb k 0x03) (either (eqb k 0x04) (eqb k 0x0F)))))

are_right : ℕ → List Entry → Bool
are_right n [] = true
are_right n (x ∷ l) = both (either (is_two x.level) (is_level_one n)) (are_right (suc n) l)

-- the place k of a list that starts at n
at : ℕ → ℕ → ℕ
at n zero = n
at n (suc k) = at (suc n) k

at_sum : (n k : ℕ) → at n k ≡ k + n
unfolding at
at_sum n zero = omega arith
at_sum n (suc k) = omega (arith, at_sum (suc n) k)

each_right : (n : ℕ) (l : List Entry) → are_right n l ≡ true → (k : ℕ) → either (is_two (get_or l k left_out).level) (is_level_one (at n k)) ≡ true
unfolding are_right at either
each_right n [] e k = refl
each_right n (x ∷ l) e zero = both_first _ _ e
each_right n (x ∷ l) e (suc k) = each_right (suc n) l (both_second (either (is_two x.level) (is_level_one n)) _ e) k

level_one_lem : (k : ℕ) → is_two (entry_of k).level ≡ false → is_level_one k ≡ true
unfolding entry_of table are_right is_level_one both either
level_one_lem k e =
    let z : at 0 k ≡ k = omega (arith, at_sum 0 k) in
    rw z at (either_second (is_two (entry_of k).level) (is_level_one (at 0 k)) (each_right 0 table refl k) e)

each_level_one : (P : ℕ → Type 0) (k : ℕ) → is_level_one k ≡ true → P 0x00 → P 0x01 → P 0x02 → P 0x03 → P 0x04 → P 0x0F → P k
unfolding is_level_one
each_level_one P k e x0 x1 x2 x3 x4 xF =
    one_or P 0x00 k _ e x0
    (λ f. one_or P 0x01 k _ f x1 (λ g. one_or P 0x02 k _ g x2 (λ h. one_or P 0x03 k _ h x3 (λ i. one_of P 0x04 0x0F k i x4 xF))))

-- while a command runs 18h and 19h alone are reachable
pub unreachable : {P : Type 0} (s : State) (w : Bool) (a : ℕ) → busy s ≡ true → R.is_blind w a s ≡ false → eqb a 0x18 ≡ false → eqb a 0x19 ≡ false
    → P
unfolding R.is_blind both either
unreachable s w a r h m n =
    let f : both (busy s) (not (either (eqb a 0x18) (eqb a 0x19))) ≡ false = either_rest (both w (eqb a 0x17)) _ (either_rest (leb 0x1A a) _ h) in
    clash refl (rw (r, m, n) at f)

-- the FIFO, the activity with its way, and the connection stay
pub record Stays (s t : State) : Type 0 where
  pub bytes : t.fifo ≡ s.fifo
  pub activity : t.activity ≡ s.activity
  pub transfer : t.transfer ≡ s.transfer
  pub connection : t.wire.connection ≡ s.wire.connection

pub stay : (s : State) → Stays s s
stay s = record { bytes = refl; activity = refl; transfer = refl; connection = refl }

module _ (s : State) (e : in_ending s ≡ true) where
  is_busy : busy s ≡ true
  unfolding busy
  is_busy = ending_runs s.activity e

  -- what is not refused is of Level I
  unrefused : (k : ℕ) → is_refused_busy k s ≡ false → is_level_one k ≡ true
  unfolding is_refused_busy both
  unrefused k r = level_one_lem k (either_first _ _ (rw is_busy at r))

  carried_stays : (b k : ℕ) (single : Bool) → is_level_one k ≡ true → eqb k 0x00 ≡ false → eqb k 0x04 ≡ false → is_valid k s ≡ true
      → Stays s (carried_out k single (accepted b s))
  unfolding carried_out accepted pick
  carried_stays b k single l =
      each_level_one (λ (j : ℕ). eqb j 0x00 ≡ false → eqb j 0x04 ≡ false → is_valid j s ≡ true → Stays s (carried_out j single (accepted b s)))
      k l (λ z f v. clash refl z) (λ z f v. clash e (going_is_still s.activity (abort_goes 0x01 s refl v)).1)
      (λ z f v. record { bytes = refl; activity = refl; transfer = refl; connection = refl })
      (λ z f v. record { bytes = refl; activity = refl; transfer = refl; connection = refl })
      (λ z f v. clash refl f)
      (λ z f v. record { bytes = refl; activity = refl; transfer = refl; connection = refl })

  abbrev Leaves : Reply → Type 0
  Leaves r = Stays s r.state

  commanded_stays : (b : ℕ) → eqb (code_of b) 0x00 ≡ false → (eqb (code_of b) 0x04 ≡ true → is_valid (code_of b) s ≡ false)
      → Leaves (commanded b s)
  unfolding commanded accepted
  commanded_stays b n d =
      by_case Leaves _ (λ z. clash z n)
      (λ z. by_case Leaves _ (λ i. record { bytes = refl; activity = refl; transfer = refl; connection = refl })
      (λ i. by_case Leaves _ (λ r. record { bytes = refl; activity = refl; transfer = refl; connection = refl })
      (λ r. by_case Leaves _
      (λ v. by_test (eqb (code_of b) 0x04) (λ f. clash v (d f)) (λ f. carried_stays b (code_of b) _ (unrefused (code_of b) r) n f v))
      (λ v. clash is_busy (invalid_idle (code_of b) s r v)))))

  read_stays : (a : ℕ) → eqb a 0x19 ≡ false → Leaves (R.read_at a s)
  unfolding R.read_at
  read_stays a n =
      by_pick Leaves _ (record { bytes = refl; activity = same_ending s.activity e; transfer = refl; connection = refl })
      (by_pick Leaves _ (stay s) (by_case Leaves _ (λ f. clash f n) (λ f. stay s)))

  module _ (m b : ℕ) (g : is_good (register m b) ≡ true) (r : is_reset (register m b) s ≡ false) (d : is_disconnect (register m b) s ≡ false) where
    written_stays : is_set m ≡ true → eqb s.status.pointer 0x19 ≡ false → R.is_blind (is_set m) s.status.pointer s ≡ false
        → Leaves (R.written_at s.status.pointer b s)
    unfolding R.written_at is_reset is_command both
    written_stays w n h =
        by_case Leaves _
        (λ a. commanded_stays b (rw (g, w, a) at r)
        (λ f. by_test (is_valid (code_of b) s) (λ v. clash (is_disconnect_lem m b s g w a f v) d) (λ v. v)))
        (λ a. unreachable s (is_set m) s.status.pointer is_busy h a n)

    access_stays : eqb s.status.pointer 0x19 ≡ false → Leaves (R.accessed (is_set m) b s)
    unfolding R.accessed R.stepped R.accessed_at
    access_stays n =
        let h : Leaves (R.accessed_at s.status.pointer (is_set m) b s) =
        by_case Leaves _ (λ h. stay s) (λ h. by_case Leaves _ (λ w. written_stays w n h) (λ w. read_stays s.status.pointer n)) in
        record { bytes = h.bytes; activity = h.activity; transfer = h.transfer; connection = h.connection }

  -- every call of the host but an access to the Data register
  pub host_stays : (c : Call) → is_event c ≡ false → is_reset c s ≡ false → is_disconnect c s ≡ false → is_data_access c s ≡ false
      → Stays s (step c s).state
  unfolding step carried R.pointer_set R.pointer_read R.auxiliary_read both either
  host_stays (pointer m b) v r d n =
      by_pick (λ (o : Outcome). Stays s o.state) _ (by_pick Leaves _ (record { bytes = refl; activity = refl; transfer = refl; connection = refl }) (stay s)) (stay s)
  host_stays auxiliary v r d n = by_pick (λ (o : Outcome). Stays s o.state) _ (stay s) (stay s)
  host_stays (register m b) v r d n = by_case (λ (o : Outcome). Stays s o.state) _ (λ g. access_stays m b g r d n) (λ g. stay s)
  host_stays (block m l) v r d n = clash refl n
  host_stays (time k) v r d n = clash refl v
  host_stays answer v r d n = clash refl v
  host_stays (reselection lines) v r d n = clash refl v
  host_stays (request p b q) v r d n = clash refl v
  host_stays free v r d n = clash refl v
