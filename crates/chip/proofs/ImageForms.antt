-- The bytes that stand for cases, there and back.
-- `..-form`: from a case to its byte and back, and the byte's range. `..-kept`: from a byte in range to its case and back.
-- `phase_below`: a phase's number is below 8. Of an activity's three bytes: ImageActivity.antt.
-- `count_back`, `high_kept`, `middle_kept`, `low_kept`: the three bytes of a count.
use Rattle.std.specs.Prelude.{Option, None, Some}
use mathlib.Core.Path.{◌≡◌, refl}
use mathlib.Core.Bool.{Bool, true, false}
use Prim.Native.Nat.{ℕ, ◌+◌, ◌*◌, ◌/◌, ◌%◌, ◌<◌}
use native.Mathlib.Omega.{arith}
use lib.Dec.{eqb, ltb}
use borrow.Author.Tests.{ltb-true}
use Rattle.chip.specs.declared.Connection.{Connection}
use Rattle.chip.specs.declared.Direction.{Direction}
use Rattle.chip.specs.declared.Direction.TheVariants.{Unfixed, In, Out}
use Rattle.chip.specs.declared.Phase.{Phase}
use Rattle.chip.specs.declared.Phase.TheVariants.{DataOut, DataIn, CommandOut, StatusIn, UnspecifiedOut, UnspecifiedIn, MessageOut, MessageIn}
use Rattle.chip.specs.Choice.{pick, both}
use Rattle.chip.specs.Lines.{bit}
use Rattle.chip.specs.Phases.{phase_number, phase_of}
use Rattle.chip.specs.Image.{direction_byte, direction_of, noted_byte, noted_of}
use Rattle.chip.specs.Connections.{connection_number, connection_count, connection_of}
use Rattle.chip.proofs.ImageTests.{kept_below}
use Rattle.chip.proofs.Numbers.{connection_of_number, connection_below}

pub bit_form : (b : Bool) → (eqb (bit b) 1 ≡ b) × (ltb (bit b) 2 ≡ true)
bit_form true = (refl, refl)
bit_form false = (refl, refl)

pub connection_form : (x : Connection) → (connection_of (connection_number x) ≡ x) × (ltb (connection_number x) connection_count ≡ true)
connection_form x = (connection_of_number x, connection_below x)

pub direction_form : (d : Direction) → (direction_of (direction_byte d) ≡ d) × (ltb (direction_byte d) 3 ≡ true)
unfolding direction_of pick
direction_form Unfixed = (refl, refl)
direction_form In = (refl, refl)
direction_form Out = (refl, refl)

pub noted_form : (p : Option Phase) → (noted_of (noted_byte p) ≡ p) × (ltb (noted_byte p) 9 ≡ true)
unfolding noted_of phase_of pick
noted_form None = (refl, refl)
noted_form (Some DataOut) = (refl, refl)
noted_form (Some DataIn) = (refl, refl)
noted_form (Some CommandOut) = (refl, refl)
noted_form (Some StatusIn) = (refl, refl)
noted_form (Some UnspecifiedOut) = (refl, refl)
noted_form (Some UnspecifiedIn) = (refl, refl)
noted_form (Some MessageOut) = (refl, refl)
noted_form (Some MessageIn) = (refl, refl)

pub phase_below : (p : Phase) → phase_number p < 8
phase_below p = omega (arith, ltb-true (phase_number p + 1) 9 (noted_form (Some p)).1)

pub bit_kept : (x : ℕ) → x < 2 → bit (eqb x 1) ≡ x
unfolding both
bit_kept = kept_below (λ x. bit (eqb x 1)) 2 refl

pub connection_kept : (n : ℕ) → n < connection_count → connection_number (connection_of n) ≡ n
unfolding connection_of pick both
connection_kept = kept_below (λ n. connection_number (connection_of n)) connection_count refl

pub direction_kept : (x : ℕ) → x < 3 → direction_byte (direction_of x) ≡ x
unfolding direction_of pick both
direction_kept = kept_below (λ x. direction_byte (direction_of x)) 3 refl

pub noted_kept : (x : ℕ) → x < 9 → noted_byte (noted_of x) ≡ x
unfolding noted_of phase_of pick both
noted_kept = kept_below (λ x. noted_byte (noted_of x)) 9 refl

pub count_back : (n : ℕ) → n < 16777216 → n / 65536 % 256 * 65536 + n / 256 % 256 * 256 + n % 256 ≡ n
count_back n h = omega arith

module _ (a b c : ℕ) (ha : a < 256) (hb : b < 256) (hc : c < 256) where
  pub high_kept : (a * 65536 + b * 256 + c) / 65536 % 256 ≡ a
  high_kept = omega arith

  pub middle_kept : (a * 65536 + b * 256 + c) / 256 % 256 ≡ b
  middle_kept = omega arith

  pub low_kept : (a * 65536 + b * 256 + c) % 256 ≡ c
  low_kept = omega arith
