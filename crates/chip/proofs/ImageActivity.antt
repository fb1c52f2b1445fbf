-- The three bytes of an activity, there and back: what is pending, the code to come, the command that runs.
--   activity_form   from an activity to its bytes and back
--   activity_valid  its bytes pass the test
--   pending_kept code_kept running_kept   from bytes that pass the test to their activity and back
--   no_int_running  bytes that say INT and a running command do not pass
use mathlib.Core.Path.{◌≡◌, refl, sym}
use mathlib.Core.Bool.{Bool, true, false, true≢false, false≢true}
use Prim.Native.Nat.{ℕ, zero, suc, ◌<◌}
use native.Mathlib.Omega.{arith}
use lib.Dec.{eqb, ltb}
use borrow.Author.Tests.{eqb-true, ltb-true, ne_eqb}
use Rattle.chip.specs.Choice.{pick, both, either}
use Rattle.chip.specs.Activity.{command_number, command_count, command_of, running_number, pending_number, code_to_come, activity_of, go_with, is_activity}
use Rattle.chip.specs.declared.Activity.{Activity}
use Rattle.chip.specs.declared.Activity.TheVariants.{Idle, Interrupt, Runs, Ends, ReadOut}
use Rattle.chip.proofs.Cases.{by_test, both_first, both_second}
use Rattle.chip.proofs.Numbers.{command_of_number, command_below, command_runs}

pub activity_form : (a : Activity) → activity_of (pending_number a) (code_to_come a) (running_number a) ≡ a
unfolding activity_of pick
activity_form Idle = refl
activity_form Interrupt = refl
activity_form (Runs r) = simp (command_runs r, command_of_number r)
activity_form (Ends r k) = simp (command_runs r, command_of_number r)
activity_form (ReadOut r) = simp (command_runs r, command_of_number r)

pub activity_valid : (a : Activity) → is_activity (pending_number a) (code_to_come a) (running_number a) ≡ true
unfolding is_activity go_with pick both either
activity_valid Idle = refl
activity_valid Interrupt = refl
activity_valid (Runs r) = simp (command_below r)
activity_valid (Ends r k) = simp (command_runs r, command_below r)
activity_valid (ReadOut r) = simp (command_runs r, command_below r)

command_kept : (n : ℕ) → n < command_count → eqb n 0 ≡ false → command_number (command_of n) ≡ n
unfolding command_of pick
command_kept zero h e = absurd (true≢false e)
command_kept (suc zero) h e = refl
command_kept (suc (suc zero)) h e = refl
command_kept (suc (suc (suc zero))) h e = refl
command_kept (suc (suc (suc (suc zero)))) h e = refl
command_kept (suc (suc (suc (suc (suc zero))))) h e = refl
command_kept (suc (suc (suc (suc (suc (suc n)))))) h e = absurd (omega arith)

-- of bytes that pass the test, each comes back
Kept : ℕ → ℕ → ℕ → Activity → Type 0
Kept p k n a = (pending_number a ≡ p) × (code_to_come a ≡ k) × (running_number a ≡ n)

-- a number from 4 up is none of the four
more : (p j : ℕ) → ((suc (suc (suc (suc p))) ≡ j) → ⊥) → eqb (suc (suc (suc (suc p)))) j ≡ false
more p j h = ne_eqb _ j h

-- t: no command runs
module _ (k n : ℕ) (b : n < command_count) where
  kept_by : (p : ℕ) (t : Bool) → eqb n 0 ≡ t → go_with p k n ≡ true → Kept p k n (activity_of p k n)
  unfolding go_with activity_of pick both either Kept
  kept_by zero true z e = rw z (refl, sym (eqb-true k 0 e), sym (eqb-true n 0 z))
  kept_by zero false z e = rw z (refl, sym (eqb-true k 0 e), command_kept n b z)
  kept_by (suc zero) true z e = rw z (refl, sym (eqb-true k 0 (rw z at e)), sym (eqb-true n 0 z))
  kept_by (suc zero) false z e = absurd (false≢true (rw z at e))
  kept_by (suc (suc zero)) true z e = absurd (false≢true (rw z at e))
  kept_by (suc (suc zero)) false z e = rw z (refl, refl, command_kept n b z)
  kept_by (suc (suc (suc zero))) true z e = absurd (false≢true (rw z at e))
  kept_by (suc (suc (suc zero))) false z e = rw z (refl, sym (eqb-true k 0 (rw z at e)), command_kept n b z)
  kept_by (suc (suc (suc (suc p)))) true z e = absurd (false≢true (rw (z, more p 0 (λ q. omega (arith, q)), more p 1 (λ q. omega (arith, q))) at e))
  kept_by (suc (suc (suc (suc p)))) false z e =
      absurd (false≢true (rw (z, more p 0 (λ q. omega (arith, q)), more p 2 (λ q. omega (arith, q)), more p 3 (λ q. omega (arith, q))) at e))

module _ (p k n : ℕ) (e : is_activity p k n ≡ true) where
  kept : Kept p k n (activity_of p k n)
  unfolding is_activity
  kept =
      kept_by k n (ltb-true n command_count (both_first (ltb n command_count) _ e)) p (eqb n 0) refl (both_second (ltb n command_count) _ e)

  pub pending_kept : pending_number (activity_of p k n) ≡ p
  unfolding Kept
  pending_kept = kept.0

  pub code_kept : code_to_come (activity_of p k n) ≡ k
  unfolding Kept
  code_kept = kept.1

  pub running_kept : running_number (activity_of p k n) ≡ n
  unfolding Kept
  running_kept = kept.2

-- INT is 1 in the first of the three
pub no_int_running : (k n : ℕ) → eqb n 0 ≡ false → is_activity 1 k n ≡ false
unfolding is_activity go_with pick both either
no_int_running k n z = rw z (by_test (ltb n command_count) (λ e. rw e) (λ e. rw e))
