-- Registers 00 to 16h in the image: each stands at its address.
-- `register_at_lem`: what a read of one gives is the byte there. `register_and_pointer`: a write of one is a store there,
-- and the pointer's step another.
use mathlib.Core.Path.{◌≡◌, refl}
use mathlib.Core.Bool.{Bool, true, false}
use Prim.Native.Nat.{ℕ, zero, suc, ◌+◌, ◌*◌, ◌/◌, ◌%◌, ◌<◌}
use native.Mathlib.Omega.{arith}
use lib.Dec.{eqb}
use lib.ListN.{get_or, set}
use borrow.Author.Tests.{eqb-true, eqb-false}
use Rattle.chip.specs.Choice.{pick}
use Rattle.chip.specs.declared.State.{State}
use Rattle.chip.specs.Registers.{register_at, stored, stored_in, high_written, middle_written, low_written}
use Rattle.chip.specs.Image.{head_bytes, middle_bytes, image_of}
use Rattle.chip.specs.State.{set_pointer}
use Rattle.chip.proofs.ImageFields.{Long, in_full, in_full_lem}

-- P of each number below n
abbrev All : (ℕ → Type 0) → ℕ → Type 0
All P zero = ℕ
All P (suc n) = P n × All P n

all_by : (P : ℕ → Type 0) (n k : ℕ) (t : Bool) → eqb k n ≡ t → P n → (k < n → P k) → k < suc n → P k
all_by P n k true e p r h = rw (eqb-true k n e) p
all_by P n k false e p r h = r (omega (arith, eqb-false k n e))

all_below : (P : ℕ → Type 0) (n : ℕ) → All P n → (k : ℕ) → k < n → P k
all_below P zero a k h = absurd (omega arith)
all_below P (suc n) a k h = all_by P n k (eqb k n) refl a.0 (all_below P n a.1 k) h

pub register_at_lem : (s : State) → Long s → (a : ℕ) → a < 23 → register_at a s.registers ≡ get_or (image_of s) a 0
unfolding image_of head_bytes middle_bytes register_at pick
register_at_lem s o =
    in_full_lem (λ (t : State). (a : ℕ) → a < 23 → register_at a t.registers ≡ get_or (image_of t) a 0) s o
    (all_below (λ (a : ℕ). register_at a (in_full s).registers ≡ get_or (image_of (in_full s)) a 0) 23
    (refl, (refl, (refl, (refl, (refl, (refl, (refl, (refl, (refl, (refl, (refl, (refl, (refl, (refl, (refl, (refl, (refl, (refl, (refl, (refl, (refl, (refl, (refl, 0))))))))))))))))))))))))

-- the three bytes of a count with one of them written
module _ (b n : ℕ) (h : b < 256) where
  high_high : (b * 65536 + n % 65536) / 65536 % 256 ≡ b
  high_high = omega arith

  high_middle : (b * 65536 + n % 65536) / 256 % 256 ≡ n / 256 % 256
  high_middle = omega arith

  high_low : (b * 65536 + n % 65536) % 256 ≡ n % 256
  high_low = omega arith

  middle_high : (n / 65536 * 65536 + b * 256 + n % 256) / 65536 % 256 ≡ n / 65536 % 256
  middle_high = omega arith

  middle_middle : (n / 65536 * 65536 + b * 256 + n % 256) / 256 % 256 ≡ b
  middle_middle = omega arith

  middle_low : (n / 65536 * 65536 + b * 256 + n % 256) % 256 ≡ n % 256
  middle_low = omega arith

  low_high : (n / 256 * 256 + b) / 65536 % 256 ≡ n / 65536 % 256
  low_high = omega arith

  low_middle : (n / 256 * 256 + b) / 256 % 256 ≡ n / 256 % 256
  low_middle = omega arith

  low_low : (n / 256 * 256 + b) % 256 ≡ b
  low_low = omega arith

pub register_and_pointer : (b x : ℕ) (s : State) → Long s → b < 256 → (a : ℕ) → a < 23
    → image_of (set_pointer x (stored a b s)) ≡ set (set (image_of s) a b) 25 x
unfolding image_of head_bytes middle_bytes stored stored_in pick high_written middle_written low_written
register_and_pointer b x s o h =
    let n = s.registers.count in
    in_full_lem (λ (t : State). (a : ℕ) → a < 23 → image_of (set_pointer x (stored a b t)) ≡ set (set (image_of t) a b) 25 x) s o
    (all_below (λ (a : ℕ). image_of (set_pointer x (stored a b (in_full s))) ≡ set (set (image_of (in_full s)) a b) 25 x) 23
    (refl, (refl, (rw (low_high b n h, low_middle b n h, low_low b n h), (rw (middle_high b n h, middle_middle b n h, middle_low b n h), (rw (high_high b n h, high_middle b n h, high_low b n h), (refl, (refl, (refl, (refl, (refl, (refl, (refl, (refl, (refl, (refl, (refl, (refl, (refl, (refl, (refl, (refl, (refl, (refl, 0))))))))))))))))))))))))
