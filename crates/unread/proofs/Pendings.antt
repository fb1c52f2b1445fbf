-- What is pending, and what the rules ask of the activity.
--   is_int is_end     of what is pending: it is INT; it is an ending, or a read-out
--   int_is end_is   .. are what the rules ask for
--   int_by end_by   .. of a state
--   quiet_of        neither INT nor an ending: nothing is pending
--   going_quiet     a command that goes on has nothing pending
--   going_open      .. no INT
--   quiet_going     with nothing pending a command that runs goes on
--   cleared_int     no INT after a read of 17h
--   info_no_transfer   a Transfer Info is no Select-And-Transfer
use mathlib.Core.Path.{◌≡◌, refl, ap, ◌∙◌}
use mathlib.Core.Bool.{Bool, true, false, ◌||◌, true≢false}
use Prim.Native.Nat.{ℕ}
use lib.Dec.{eqb}
use borrow.Author.Tests.{eqb-true}
use Rattle.chip.specs.Interrupts.{interrupted, in_ending}
use Rattle.chip.specs.Activity.{is_interrupt, is_ending, is_running, goes_on, running_number, is_select_and_transfer, is_transfer_info, without_interrupt}
use Rattle.chip.specs.declared.State.{State}
use Rattle.chip.specs.declared.Activity.{Activity}
use Rattle.chip.specs.declared.Activity.TheVariants as A
use Rattle.chip.proofs.Activities.{running_goes_on, going_is_still}
use Rattle.unread.specs.Status.{Pending, Nothing, Interrupt, Ending, ReadOut, pending_in, pending}

abbrev pub is_int : Pending → Bool
is_int Nothing = false
is_int Interrupt = true
is_int ReadOut = false
is_int (Ending k) = false

abbrev pub is_end : Pending → Bool
is_end Nothing = false
is_end Interrupt = false
is_end ReadOut = true
is_end (Ending k) = true

pub int_is : (a : Activity) → is_interrupt a ≡ is_int (pending_in a)
int_is A.Idle = refl
int_is A.Interrupt = refl
int_is (A.Runs r) = refl
int_is (A.Ends r k) = refl
int_is (A.ReadOut r) = refl

pub end_is : (a : Activity) → is_ending a ≡ is_end (pending_in a)
end_is A.Idle = refl
end_is A.Interrupt = refl
end_is (A.Runs r) = refl
end_is (A.Ends r k) = refl
end_is (A.ReadOut r) = refl

pub int_by : (s : State) {q : Pending} → pending s ≡ q → interrupted s ≡ is_int q
int_by s e = int_is s.activity ∙ ap is_int e

pub end_by : (s : State) {q : Pending} → pending s ≡ q → in_ending s ≡ is_end q
end_by s e = end_is s.activity ∙ ap is_end e

quiet_in : (a : Activity) → is_interrupt a ≡ false → is_ending a ≡ false → pending_in a ≡ Nothing
quiet_in A.Idle i e = refl
quiet_in A.Interrupt i e = absurd (true≢false i)
quiet_in (A.Runs r) i e = refl
quiet_in (A.Ends r k) i e = absurd (true≢false e)
quiet_in (A.ReadOut r) i e = absurd (true≢false e)

pub quiet_of : (s : State) → interrupted s ≡ false → in_ending s ≡ false → pending s ≡ Nothing
quiet_of s i e = quiet_in s.activity i e

pub going_open : (s : State) → goes_on s.activity ≡ true → interrupted s ≡ false
going_open s on = (going_is_still s.activity on).0

pub going_quiet : (s : State) → goes_on s.activity ≡ true → pending s ≡ Nothing
going_quiet s on = quiet_of s (going_open s on) (going_is_still s.activity on).1

pub quiet_going : (s : State) → pending s ≡ Nothing → is_running s.activity ≡ true → goes_on s.activity ≡ true
quiet_going s q r = running_goes_on s.activity (end_by s q) r

pub cleared_int : (a : Activity) → is_interrupt (without_interrupt a) ≡ false
cleared_int A.Idle = refl
cleared_int A.Interrupt = refl
cleared_int (A.Runs r) = refl
cleared_int (A.Ends r k) = refl
cleared_int (A.ReadOut r) = refl

module _ (a : Activity) (i : is_transfer_info a ≡ true) where
  five : running_number a ≡ 5
  five = eqb-true _ _ i

  pub info_no_transfer : is_select_and_transfer a ≡ false
  info_no_transfer = ap (λ (n : ℕ). eqb n 3 || eqb n 4) five
