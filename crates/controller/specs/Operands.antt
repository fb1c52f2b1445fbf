-- How an operand is read: its value, where the test of it holds.
use Rattle.std.specs.Prelude.{Bool, Result, Ok, Err}
use Rattle.chip.specs.Choice.{pick}
use Rattle.controller.specs.declared.operands.BadNumber.{BadNumber}

abbrev pub tested : {A : Type 0} → BadNumber → Bool → A → Result A BadNumber
tested e t a = pick t (Ok a) (Err e)
