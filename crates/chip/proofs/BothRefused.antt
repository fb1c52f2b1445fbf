-- Paper 02, Req 14: "A lent image with both set is Bad number from then on."
--   both_no_image   bytes that say INT and a running command are no state's image, whatever the others are
--   both_refused    every call on them is Bad number, and nothing changes: a Reset and a block move too ..
--   both_dark       .. and the look at the lines
use mathlib.Core.Path.{◌≡◌, sym, ap, ◌∙◌}
use mathlib.Core.Bool.{false, true≢false}
use mathlib.Core.List.{List}
use Prim.Native.Nat.{ℕ}
use lib.Dec.{eqb}
use lib.ListN.{get_or}
use Rattle.chip.specs.Choice.{both}
use Rattle.chip.specs.Activity.{is_activity}
use Rattle.chip.specs.Calls.{Call}
use Rattle.chip.specs.Image.{is_image}
use Rattle.chip.specs.Entries.{entered, refused, lines_entered}
use Rattle.chip.proofs.Cases.{by_test, passed_over}
use Rattle.chip.proofs.ImageValid.{valid}
use Rattle.chip.proofs.ImageActivity.{no_int_running}

-- byte 28 is what is pending, 31 the command that runs
module _ (l : List ℕ) (int : get_or l 28 0 ≡ 1) (runs : eqb (get_or l 31 0) 0 ≡ false) where
  pub both_no_image : is_image l ≡ false
  both_no_image =
      by_test (is_image l)
      (λ e. absurd (true≢false (sym (valid l e).b28 ∙ ap (λ (p : ℕ). is_activity p (get_or l 29 0) (get_or l 31 0)) int ∙ no_int_running _ _ runs)))
      (λ e. e)

  pub both_refused : (c : Call) → entered c l ≡ refused c l
  unfolding entered both
  both_refused c = passed_over _ _ (rw both_no_image)

  pub both_dark : lines_entered l ≡ 3
  unfolding lines_entered
  both_dark = passed_over _ _ both_no_image
