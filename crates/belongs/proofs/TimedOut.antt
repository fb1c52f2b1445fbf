-- The law of specs/TimedOut.antt holds of the step: it is what the promise says of 42h.
--   timed_out_is_true   wherever 42h stands unread, nobody is connected and nobody's Answer was taken
use mathlib.Core.Path.{◌≡◌, refl, sym, ap, subst, ◌∙◌}
use mathlib.Core.Bool.{true, false}
use mathlib.Core.List.{List, [], ◌∷◌, ◌++◌}
use Prim.Native.Nat.{ℕ, ◌+◌, ◌≤◌}
use native.Mathlib.Omega.{arith}
use lib.Dec.{eqb}
use borrow.Author.Tests.{leb-true, le-leb}
use Rattle.chip.specs.Choice.{pick, either}
use Rattle.chip.specs.State.{fresh}
use Rattle.chip.specs.Interrupts.{interrupted, raise, outgoing_dropped}
use Rattle.chip.specs.Events as E
use Rattle.chip.specs.Calls.{Call, pointer, auxiliary, register, block, time, answer, reselection, request, free, is_good, carried, step, run}
use Rattle.chip.specs.declared.State.{State}
use Rattle.chip.specs.declared.Reply.{Reply}
use Rattle.chip.specs.declared.Connection.TheVariants.{Disconnected, Selecting}
use Rattle.chip.proofs.Cases.{by_pick, by_case, by_test}
use Rattle.unread.specs.Status.{is_reset, is_command, is_answer, raised}
use Rattle.unread.specs.Because.{Because, times_out}
use Rattle.unread.specs.Codes as C
use Rattle.unread.specs.Codes.{Raises, Since, Selects}
use Rattle.unread.proofs.Choosing.{clash}
use Rattle.unread.proofs.Unread.{raised_from_quiet, raised_sets_int}
use Rattle.unread.proofs.Because.{raised_because}
use Rattle.unread.proofs.Codes.{run_more, since_map, time_ends_nothing, codes_only_by}
use Rattle.belongs.specs.Belongs.{Causes, at_once, to_come, unread, Undisturbed}
use Rattle.belongs.specs.TimedOut.{units, Waited, TurnedAway, RanOut, TimedOutIsTrue}
use Rattle.belongs.proofs.Belongs.{owed_belongs}
use Rattle.belongs.proofs.Waited.{selecting_goes, HasWaited, waits_for, has_waited, all_added}

-- a Time that raises a code while selecting: the timeout is over, and it leaves the controller Disconnected
record Over (n : ℕ) (s t : State) : Type 0 where
  limited : eqb s.registers.setup.timeout 0 ≡ false
  over : s.registers.setup.timeout ≤ s.wire.elapsed + n
  apart : t.wire.connection ≡ Disconnected

abbrev Parts : ℕ → State → Reply → Type 0
Parts n s r = interrupted r.state ≡ true → Over n s r.state

passed_over_time : (n : ℕ) (s : State) → s.wire.connection ≡ Selecting → interrupted s ≡ false → Parts n s (E.passed n s)
unfolding E.passed E.selection_time E.timed_out raise outgoing_dropped
passed_over_time n s x i =
    by_pick (Parts n s) _ selecting none
  where
    none : interrupted s ≡ true → Over n s s
    none j = clash j i

    selecting : Parts n s (E.selection_time n s)
    selecting =
        by_case (Parts n s) _ (λ f. none)
        (λ f. by_case (Parts n s) _ (λ u j. record { limited = f; over = leb-true _ _ u; apart = refl }) (λ u. λ j. clash j i))

time_over : (n : ℕ) (s : State) → s.wire.connection ≡ Selecting → interrupted s ≡ false → interrupted (step (time n) s).state ≡ true
    → Over (units (time n)) s (step (time n) s).state
unfolding step carried pick
time_over n s x i =
    by_test (is_good (time n)) (λ g. rw g (passed_over_time n s x i)) (λ g. rw g (λ j. clash j i))

raising_over : (n : ℕ) (s : State) → s.wire.connection ≡ Selecting → raised (time n) s (step (time n) s).state ≡ true
    → Over (units (time n)) s (step (time n) s).state
unfolding is_reset is_command
raising_over n s x h = time_over n s x (raised_from_quiet (time n) s refl h) (raised_sets_int (time n) s _ h)

-- .. of a call that raises 42h
raised_over : (l : List Call) (c : Call) → Raises step l c 0x42
    → Over (units c) (run step l fresh) (step c (run step l fresh)).state
raised_over l c r =
    let s : State = run step l fresh in
    let w = codes_only_by.by_time l c r in
    subst (λ (d : Call). raised d s (step d s).state ≡ true → Over (units d) s (step d s).state) (sym w.1)
    (raising_over w.0 s w.2) r.raises

ran_out : (l : List Call) (c : Call) → Raises step l c 0x42 → RanOut step l c
ran_out l c r = from (has_waited l (codes_only_by.by_time l c r).2) (raised_over l c r)
  where
    from : HasWaited l → Over (units c) (run step l fresh) (step c (run step l fresh)).state → RanOut step l c
    from (waits_for n w m) o = record { limited = o.limited; waited = n; selected = w; over = omega (arith, o.over) }

comes : (l : List Call) (n w : ℕ) → is_good (time n) ≡ true → Waited step w l → (run step l fresh).wire.connection ≡ Selecting
    → eqb (run step l fresh).registers.setup.timeout 0 ≡ false → (run step l fresh).registers.setup.timeout ≤ w + n → Raises step l (time n) 0x42
comes l n w g v x z o =
    let b : Because (time n) (run step l fresh) 0x42 =
    times_out g (selecting_goes l x) x z (le-leb (run step l fresh).registers.setup.timeout ((run step l fresh).wire.elapsed + n) (omega (arith, all_added v x z))) in
    record {
      raises = raised_because.complete (time n) (run step l fresh) 0x42 b;
      code = raised_because.code (time n) (run step l fresh) 0x42 b;
    }

no_answer : (c : Call) (n : ℕ) → c ≡ time n → is_answer c ≡ false
no_answer c n e = ap is_answer e

-- an Answer that finds 42h owed is refused
turned_away : (c : Call) (s : State) → Undisturbed step 0x42 c s → TurnedAway step c s
unfolding either
turned_away (pointer m b) s u a = clash a refl
turned_away auxiliary s u a = clash a refl
turned_away (register m b) s u a = clash a refl
turned_away (block m l) s u a = clash a refl
turned_away (time n) s u a = clash a refl
turned_away answer s u a = (u.still refl).not_taken
turned_away (reselection lines) s u a = clash a refl
turned_away (request p b q) s u a = clash a refl
turned_away free s u a = clash a refl

record Missed (l : List Call) : Type 0 where
  apart : (run step l fresh).wire.connection ≡ Disconnected
  nobody : Since step (Selects step) (TurnedAway step) l

-- the call that brings 42h is a Time that runs out while selecting
timed_out_lem : (l : List Call) (c : Call) → Causes c (run step l fresh) 0x42 → Missed (l ++ (c ∷ []))
timed_out_lem l c (to_come b) = absurd (time_ends_nothing b)
timed_out_lem l c (at_once b o) =
    let s : State = run step l fresh in
    let r : Raises step l c 0x42 = record { raises = raised_because.complete c s 0x42 b; code = raised_because.code c s 0x42 b } in
    let w = codes_only_by.by_time l c r in
    record {
      apart = ap (λ (u : State). u.wire.connection) (run_more step l c fresh) ∙ (raised_over l c r).apart;
      nobody =
          C.still l c (since_map (λ d u x. x) (λ d u x a. clash a x.1) (codes_only_by.unanswered l c r))
          (λ a. clash a (no_answer c w.0 w.1));
    }

missed : {l : List Call} → Since step (λ c s. Causes c s 0x42) (Undisturbed step 0x42) l → Missed l
missed (C.now l c h) = timed_out_lem l c h
missed (C.still l c x u) =
    let m = missed x in
    record {
      apart = ap (λ (t : State). t.wire.connection) (run_more step l c fresh) ∙ u.placed ∙ m.apart;
      nobody = C.still l c m.nobody (turned_away c (run step l fresh) u);
    }

pub timed_out_is_true : TimedOutIsTrue step
timed_out_is_true =
    record {
      apart = λ l i e. (missed (owed_belongs l 0x42 (unread i e))).apart;
      nobody = λ l i e. (missed (owed_belongs l 0x42 (unread i e))).nobody;
      ran_out = ran_out;
      comes = comes;
    }
