-- How a proof goes through a test or a choice. Generic: every walk over the definitions cites it.
--   by_pick        what holds of both sides of a `pick` holds of it
--   by_case        the same, each side with the test's value in hand
--   by_test        what follows where a test holds, and where it does not, follows
--   taken passed_over   a `pick` whose test is known
--   true_or_false  a test holds or it does not
--   pick_ap        a function of a `pick` is a `pick` of its values
--   both_first     where both tests hold, the first does
--   both_second    and so does the second
--   either_first   where neither test holds, the first does not
--   either_rest    nor does the second
--   either_second  where one of two holds and the first does not, the second does
--   either_last    one of two holds where the second does
use mathlib.Core.Path.{◌≡◌, refl}
use mathlib.Core.Bool.{Bool, true, false, true≢false}
use mathlib.Core.Logic.{◌⊎◌, inl, inr}
use Rattle.chip.specs.Choice.{pick, both, either}

pub by_pick : {A : Type 0} (P : A → Type 0) (t : Bool) {a b : A} → P a → P b → P (pick t a b)
unfolding pick
by_pick P true x y = x
by_pick P false x y = y

pub by_case : {A : Type 0} (P : A → Type 0) (t : Bool) {a b : A} → (t ≡ true → P a) → (t ≡ false → P b) → P (pick t a b)
unfolding pick
by_case P true x y = x refl
by_case P false x y = y refl

pub by_test : {P : Type 0} (t : Bool) → (t ≡ true → P) → (t ≡ false → P) → P
by_test true a b = a refl
by_test false a b = b refl

pub taken : {A : Type 0} {t : Bool} (a b : A) → t ≡ true → pick t a b ≡ a
unfolding pick
taken a b e = rw e

pub passed_over : {A : Type 0} {t : Bool} (a b : A) → t ≡ false → pick t a b ≡ b
unfolding pick
passed_over a b e = rw e

pub true_or_false : (t : Bool) → (t ≡ true) ⊎ (t ≡ false)
true_or_false true = inl refl
true_or_false false = inr refl

pub pick_ap : {A B : Type 0} (f : A → B) (t : Bool) (a b : A) → f (pick t a b) ≡ pick t (f a) (f b)
unfolding pick
pick_ap f true a b = refl
pick_ap f false a b = refl

pub both_first : (t u : Bool) → both t u ≡ true → t ≡ true
unfolding both
both_first true u e = refl
both_first false u e = e

pub both_second : (t u : Bool) → both t u ≡ true → u ≡ true
unfolding both
both_second true u e = e
both_second false true e = refl
both_second false false e = e

pub either_first : (t u : Bool) → either t u ≡ false → t ≡ false
unfolding either
either_first true u e = e
either_first false u e = refl

pub either_rest : (t u : Bool) → either t u ≡ false → u ≡ false
unfolding either
either_rest true u e = absurd (true≢false e)
either_rest false u e = e

pub either_second : (t u : Bool) → either t u ≡ true → t ≡ false → u ≡ true
unfolding either
either_second t u h e = rw e at h

pub either_last : (t : Bool) → either t true ≡ true
unfolding either
either_last true = refl
either_last false = refl
