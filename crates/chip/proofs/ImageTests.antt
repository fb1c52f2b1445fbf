-- Facts on tests, and on tests joined by `both` and `either`.
-- `both_on`, `both_true`: beside a test that holds. `both_assoc`: three tests.
-- `both_and`, `either_or`: as code joins flags. `and_chain`: many of them, as code lines them up.
-- `keeps`, `kept_below`: that a function gives each number below n back, as one test that computes.
use mathlib.Core.Path.{◌≡◌, refl, ap, sym, ◌∙◌}
use mathlib.Core.Bool.{Bool, true, false, ◌&&◌, ◌||◌}
use Prim.Native.Nat.{ℕ, zero, suc, ◌<◌}
use native.Mathlib.Omega.{arith}
use lib.Dec.{eqb}
use borrow.Author.Tests.{eqb-true, eqb-false}
use Rattle.chip.specs.Choice.{both, either}
use Rattle.chip.proofs.Cases.{both_first, both_second}

pub both_on : (b : Bool) → both true b ≡ b
unfolding both
both_on b = refl

pub both_true : (a : Bool) → both a true ≡ a
unfolding both
both_true true = refl
both_true false = refl

pub both_assoc : (a b c : Bool) → both (both a b) c ≡ both a (both b c)
unfolding both
both_assoc true b c = refl
both_assoc false b c = refl

pub both_and : (a b : Bool) → both a b ≡ (a && b)
unfolding both
both_and true b = refl
both_and false b = refl

pub either_or : (a b : Bool) → either a b ≡ (a || b)
unfolding either
either_or true b = refl
either_or false b = refl

pub and_chain : (a b c : Bool) → (a && (b && c)) ≡ ((a && b) && c)
and_chain true b c = refl
and_chain false b c = refl

abbrev pub keeps : (ℕ → ℕ) → ℕ → Bool
keeps f zero = true
keeps f (suc n) = both (eqb (f n) n) (keeps f n)

kept_by : (f : ℕ → ℕ) (n k : ℕ) (b : Bool) → eqb k n ≡ b → f n ≡ n → (k < n → f k ≡ k) → k < suc n → f k ≡ k
kept_by f n k true e p r h = let q = eqb-true k n e in ap f q ∙ p ∙ sym q
kept_by f n k false e p r h = r (omega (arith, eqb-false k n e))

pub kept_below : (f : ℕ → ℕ) (n : ℕ) → keeps f n ≡ true → (k : ℕ) → k < n → f k ≡ k
kept_below f zero e k h = absurd (omega arith)
kept_below f (suc n) e k h =
    kept_by f n k (eqb k n) refl
    (eqb-true (f n) n (both_first (eqb (f n) n) (keeps f n) e))
    (kept_below f n (both_second (eqb (f n) n) (keeps f n) e) k)
    h
