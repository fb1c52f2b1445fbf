-- Generic facts on tests and choices, of no chip.
--   clash       a test does not both hold and fail
--   not_first   of two tests that do not both hold, the first fails where the second holds
--   second_fails second_holds   they do not, where the second fails; where it holds, the first decides
--   only_first   of two tests one of which holds, it is the first where the second fails
--   one_of      what holds of two numbers holds of the one that is tested to be one of them
--   one_or      .. of one number, or by another test
use mathlib.Core.Path.{◌≡◌, refl, sym, ◌∙◌}
use mathlib.Core.Bool.{Bool, true, false, true≢false}
use Prim.Native.Nat.{ℕ}
use lib.Dec.{eqb}
use borrow.Author.Tests.{eqb-true}
use Rattle.chip.proofs.Cases.{by_test, either_second}
use Rattle.chip.specs.Choice.{both, either}

pub clash : {P : Type 0} {t : Bool} → t ≡ true → t ≡ false → P
clash x y = absurd (true≢false (sym x ∙ y))

pub not_first : (x y : Bool) → both x y ≡ false → y ≡ true → x ≡ false
unfolding both
not_first true y e f = clash f e
not_first false y e f = refl

pub second_fails : (x y : Bool) → y ≡ false → both x y ≡ false
unfolding both
second_fails true y e = e
second_fails false y e = refl

pub second_holds : (x y : Bool) → y ≡ true → both x y ≡ x
unfolding both
second_holds true y e = e
second_holds false y e = refl

pub only_first : (x y : Bool) → either x y ≡ true → y ≡ false → x ≡ true
unfolding either
only_first true y e f = refl
only_first false y e f = clash e f

pub one_or : (P : ℕ → Type 0) (i k : ℕ) (t : Bool) → either (eqb k i) t ≡ true → P i → (t ≡ true → P k) → P k
one_or P i k t e x y = by_test (eqb k i) (λ f. rw (eqb-true k i f) x) (λ f. y (either_second (eqb k i) t e f))

pub one_of : (P : ℕ → Type 0) (i j k : ℕ) → either (eqb k i) (eqb k j) ≡ true → P i → P j → P k
one_of P i j k e x y = one_or P i k (eqb k j) e x (λ f. rw (eqb-true k j f) y)
