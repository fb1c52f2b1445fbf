-- A law over bytes, small numbers and flags is one test that antt computes. The proofs of this room cite it.
--     flag, below n   what an argument is: a Bool, or a number below n
--     Function ks     the functions of such arguments to a number
--     agree ks f g    the test: f and g give the same number at all of them
--     Alike ks f g    what the test shows, argument by argument
--     computed        the law
use mathlib.Core.Path.{◌≡◌, refl, sym, subst}
use mathlib.Core.Bool.{Bool, true, false, ◌&&◌}
use mathlib.Core.List.{List, [], ◌∷◌}
use Prim.Native.Nat.{ℕ, zero, suc, ◌<◌}
use native.Mathlib.Omega.{arith}
use native.Mathlib.Nat.{not-suc-le-zero}
use lib.Dec.{T, eqb, eqb→eq}
use lib.Ieee.Fits.{and_l, and_r}
use borrow.Author.Tests.{eqb-false}

pub data Kind : Type 0 where
  flag : Kind
  below : ℕ → Kind

abbrev pub Function : List Kind → Type 0
Function [] = ℕ
Function (flag ∷ ks) = Bool → Function ks
Function (below n ∷ ks) = ℕ → Function ks

-- the test f passes at each number below n
abbrev pub each : (ℕ → Bool) → ℕ → Bool
each f zero = true
each f (suc n) = f n && each f n

abbrev pub agree : (ks : List Kind) → Function ks → Function ks → Bool
agree [] x y = eqb x y
agree (flag ∷ ks) f g = agree ks (f true) (g true) && agree ks (f false) (g false)
agree (below n ∷ ks) f g = each (λ k. agree ks (f k) (g k)) n

abbrev pub Alike : (ks : List Kind) → Function ks → Function ks → Type 0
Alike [] x y = x ≡ y
Alike (flag ∷ ks) f g = (b : Bool) → Alike ks (f b) (g b)
Alike (below n ∷ ks) f g = (k : ℕ) → k < n → Alike ks (f k) (g k)

last_or_lower : (f : ℕ → Bool) (n k : ℕ) (b : Bool) → eqb k n ≡ b → T (f n) → (k < n → T (f k)) → k < suc n → T (f k)
last_or_lower f n k true e t r h = subst (λ (m : ℕ). T (f m)) (sym (eqb→eq k n (subst T (sym e) tt))) t
last_or_lower f n k false e t r h = r (omega (arith, eqb-false k n e))

each_at : (f : ℕ → Bool) (n : ℕ) → T (each f n) → (k : ℕ) → k < n → T (f k)
each_at f zero t k h = absurd (not-suc-le-zero h)
each_at f (suc n) t k h =
    last_or_lower f n k (eqb k n) refl (and_l (f n) (each f n) t) (each_at f n (and_r (f n) (each f n) t) k) h

flag_at : (P : Bool → Type 0) → P true → P false → (b : Bool) → P b
flag_at P t f true = t
flag_at P t f false = f

pub computed : (ks : List Kind) (f g : Function ks) → T (agree ks f g) → Alike ks f g
computed [] x y t = eqb→eq x y t
computed (flag ∷ ks) f g t =
    flag_at (λ b. Alike ks (f b) (g b))
    (computed ks (f true) (g true) (and_l (agree ks (f true) (g true)) (agree ks (f false) (g false)) t))
    (computed ks (f false) (g false) (and_r (agree ks (f true) (g true)) (agree ks (f false) (g false)) t))
computed (below n ∷ ks) f g t = λ k h. computed ks (f k) (g k) (each_at (λ k. agree ks (f k) (g k)) n t k h)
