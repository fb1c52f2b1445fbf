-- The laws of specs/Unread.antt hold of the step.
--   unread_status_kept           a status nobody has read is replaced only by Reset
--   code_moves_only_by_raising   the code at 17h changes only by raising
--   int_pending                  INT, in the words of the activity
--   raised_anew raised_reset   two grounds on which a call raised a code
--   raised_from_quiet raised_sets_int   what a call that raised a code found, and left
use mathlib.Core.Path.{◌≡◌, refl, sym, ap, ◌∙◌}
use mathlib.Core.Logic.{◌↔◌}
use mathlib.Core.Bool.{true, false}
use lib.Dec.{eqb}
use borrow.Author.Tests.{eq-eqb}
use Rattle.chip.specs.Choice.{both, either}
use Rattle.chip.specs.Interrupts.{interrupted}
use Rattle.chip.specs.Activity.{is_interrupt}
use Rattle.chip.specs.Calls.{Call, step}
use Rattle.chip.specs.declared.State.{State}
use Rattle.chip.specs.declared.Activity.{Activity}
use Rattle.chip.specs.declared.Activity.TheVariants.{Idle, Interrupt, Runs, Ends, ReadOut}
use Rattle.unread.specs.Status.{is_reset, reads_at, raised}
use Rattle.unread.specs.Unread.{UnreadStatusKept, CodeMovesOnlyByRaising}
use Rattle.chip.proofs.Cases.{by_test, both_first, both_second}
use Rattle.unread.proofs.Choosing.{clash}
use Rattle.unread.proofs.Pendings.{is_int, int_is, int_by}
use Rattle.unread.proofs.Telling.{settles_quiet, Summary, Tells, silent, moves, selects, settles, begins, raises, reads, resets}
use Rattle.unread.proofs.Told.{told, reset_told}

module _ {c : Call} {s : State} where
  code_stays : {z : Summary} → Tells c s z → interrupted s ≡ true → is_reset c s ≡ false → z.code ≡ s.status.code
  code_stays (silent a) i r = refl
  code_stays (moves x p) i r = refl
  code_stays (selects e q x b) i r = refl
  code_stays (settles h) i r = refl
  code_stays (begins u h x) i r = refl
  code_stays (raises j h x) i r = clash i j
  code_stays (reads e a) i r = refl
  code_stays (resets e x) i r = clash e r

  int_stays : {z : Summary} → Tells c s z → interrupted s ≡ true → reads_at 0x17 c s ≡ false → is_interrupt z.activity ≡ true
  int_stays (silent a) i r = i
  int_stays (moves {a = a} x p) i r = int_is a ∙ ap is_int p ∙ sym (int_is s.activity) ∙ i
  int_stays (selects e q x b) i r = clash i (int_by s q)
  int_stays (settles h) i r = clash i (settles_quiet h)
  int_stays (begins u h x) i r = clash i (int_by s u)
  int_stays (raises j h x) i r = refl
  int_stays (reads e a) i r = clash e r
  int_stays (resets e x) i r = refl

  int_with : {z : Summary} → Tells c s z → (z.code ≡ s.status.code → ⊥) → is_interrupt z.activity ≡ true
  int_with (silent a) n = absurd (n refl)
  int_with (moves x p) n = absurd (n refl)
  int_with (selects e q x b) n = absurd (n refl)
  int_with (settles h) n = absurd (n refl)
  int_with (begins u h x) n = absurd (n refl)
  int_with (raises j h x) n = refl
  int_with (reads e a) n = absurd (n refl)
  int_with (resets e x) n = refl

module _ (c : Call) (s t : State) (i : interrupted t ≡ true) where
  pub raised_anew : interrupted s ≡ false → raised c s t ≡ true
  unfolding raised both either
  raised_anew j = rw (i, j)

  pub raised_reset : is_reset c s ≡ true → raised c s t ≡ true
  unfolding raised both either
  raised_reset r =
      by_test (interrupted s)
      (λ j. by_test (eqb t.status.code s.status.code) (λ k. rw (i, j, k, r)) (λ k. rw (i, j, k)))
      (λ j. rw (i, j))

-- INT is one of the activities
pub int_pending : (s : State) → (interrupted s ≡ true) ↔ (s.activity ≡ Interrupt)
int_pending s = (by_case s.activity, ap is_interrupt)
  where
    by_case : (a : Activity) → is_interrupt a ≡ true → a ≡ Interrupt
    by_case Idle e = clash e refl
    by_case Interrupt e = refl
    by_case (Runs r) e = clash e refl
    by_case (Ends r k) e = clash e refl
    by_case (ReadOut r) e = clash e refl

pub unread_status_kept : UnreadStatusKept step
unread_status_kept =
    record {
      code_kept = λ c s. code_stays (told c s).tells;
      int_kept = λ c s. int_stays (told c s).tells;
      reset_tells = λ c s e. rw (reset_told c s e).1;
      code_of_reset = λ c s e. (reset_told c s e).0;
    }

-- a code raised other than by Reset was raised with no INT before
pub raised_from_quiet : (c : Call) (s : State) → is_reset c s ≡ false → raised c s (step c s).state ≡ true → interrupted s ≡ false
unfolding raised both either
raised_from_quiet c s r e =
    by_test (interrupted s)
    (λ i. let k : eqb (step c s).state.status.code s.status.code ≡ true = eq-eqb _ _ (unread_status_kept.code_kept c s i r) in
    clash (both_second (interrupted (step c s).state) _ (rw (i, k, r) at e)) refl)
    (λ i. i)

pub raised_sets_int : (c : Call) (s t : State) → raised c s t ≡ true → interrupted t ≡ true
unfolding raised
raised_sets_int c s t e = both_first _ _ e

pub code_moves_only_by_raising : CodeMovesOnlyByRaising step
code_moves_only_by_raising = record { int_with_code = λ c s. int_with (told c s).tells }
