-- What the call of an entry comes to, before C is told of it.
use Rattle.std.specs.Prelude.{◌≡◌, ℕ, List, Result}
use Rattle.std.specs.Result.{result_unwrap_or}
use Rattle.chip.specs.Calls.{Call}
use Rattle.chip.specs.Entries.{entered, result_of}
use Rattle.chip.specs.declared.Answer.TheVariants.{BadNumber as bad_number}
use Rattle.controller.specs.declared.operands.BadNumber.{BadNumber}

-- what C is told: the number of an answer, or of Bad number
abbrev pub told : Result ℕ BadNumber → ℕ
told r = result_unwrap_or r (result_of bad_number)

-- the call c gives r on the bytes l, and leaves `after` there and `left` in the slice that was lent
pub record Enters (c : Call) (r : Result ℕ BadNumber) (l after left : List ℕ) : Type 0 where
  pub number : told r ≡ (entered c l).result
  pub image : after ≡ (entered c l).image
  pub lent : left ≡ (entered c l).lent
