-- The count, step by step.
--   stands      the count stands where both of its parts do
--   then        the count stands over two steps
--   one_less    where bytes are left, a state with the lowered count has one byte less
--   raise_count, end_count   a raised code and an ending leave the count
--   no_data     a phase of a kind that Data is not of is not Data
use mathlib.Core.Path.{◌≡◌, refl, sym, ◌∙◌}
use mathlib.Core.Bool.{Bool, true, false}
use Prim.Native.Nat.{ℕ, suc, ◌-◌}
use native.Mathlib.Omega.{arith}
use lib.Dec.{eqb}
use borrow.Author.Tests.{eqb-false}
use Rattle.chip.specs.Choice.{pick}
use Rattle.chip.specs.Count.{left, none_left, lowered}
use Rattle.chip.specs.Interrupts.{outgoing_dropped, raise, ending_with}
use Rattle.chip.specs.declared.State.{State}
use Rattle.chip.specs.declared.Phase.{Phase}
use Rattle.chip.specs.declared.Phase.TheVariants.{DataOut, DataIn, CommandOut, StatusIn, UnspecifiedOut, UnspecifiedIn, MessageOut, MessageIn}
use Rattle.refusals.specs.Refusals.{SameCount}
use Rattle.refusals.specs.Counting.{is_data}
use Rattle.chip.proofs.Cases.{by_pick}

pub stands : {s t : State} → t.registers.count ≡ s.registers.count → t.transfer.single ≡ s.transfer.single → SameCount s t
stands h k = record { shown = h; beside = k }

pub then : {s t u : State} → SameCount s t → SameCount t u → SameCount s u
then h k = record { shown = k.shown ∙ h.shown; beside = k.beside ∙ h.beside }

less : (one : Bool) (n : ℕ) → eqb (pick one 1 n) 0 ≡ false → pick one 1 n ≡ suc (pick one 0 (n - 1))
unfolding pick
less true n e = refl
less false n e = let h = eqb-false n 0 e in omega arith

pub one_less : (s : State) {t : State} → none_left s ≡ false → SameCount (lowered s) t → left s ≡ suc (left t)
unfolding left none_left lowered pick
one_less s {t} e h = rw (h.shown, h.beside) (less s.transfer.single s.registers.count e)

pub raise_count : (code : ℕ) (s : State) → SameCount s (raise code s)
unfolding raise outgoing_dropped
raise_count code s = stands refl refl

pub end_count : (code : ℕ) (s : State) → SameCount s (ending_with code s)
unfolding ending_with
end_count code s = by_pick (SameCount s) _ (stands refl refl) (raise_count code s)

pub no_data : (kind : Phase → Bool) → kind DataOut ≡ false → kind DataIn ≡ false → (p : Phase) → kind p ≡ true → is_data p ≡ false
no_data kind x y DataOut e = sym e ∙ x
no_data kind x y DataIn e = sym e ∙ y
no_data kind x y CommandOut e = refl
no_data kind x y StatusIn e = refl
no_data kind x y UnspecifiedOut e = refl
no_data kind x y UnspecifiedIn e = refl
no_data kind x y MessageOut e = refl
no_data kind x y MessageIn e = refl
