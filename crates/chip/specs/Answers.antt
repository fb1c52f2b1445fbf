-- The answers. Paper: the table of the section "The answers", number and value of each, and what each leaves.
use Rattle.std.specs.Prelude.{ℕ, true}
use Rattle.chip.specs.declared.State.{State}
use Rattle.chip.specs.declared.Reply.{Reply}
use Rattle.chip.specs.declared.Answer.{Answer}
use Rattle.chip.specs.declared.Answer.TheVariants.{Done, Held, OutOfPlace, BadNumber, Blind, CommandIgnored, ReselectionIgnored, NoDataNow, Reported}
use Rattle.chip.specs.State.{set_lci}

-- "No."
abbrev pub number : Answer → ℕ
number (Done v) = 0
number Held = 1
number OutOfPlace = 2
number BadNumber = 3
number Blind = 4
number CommandIgnored = 5
number ReselectionIgnored = 6
number NoDataNow = 7
number Reported = 8

-- "Value": of Done the byte read or crossed, else 0; FFh for Blind and No data now, and 0 for the others
abbrev pub value : Answer → ℕ
value (Done v) = v
value Held = 0
value OutOfPlace = 0
value BadNumber = 0
value Blind = 0xFF
value CommandIgnored = 0
value ReselectionIgnored = 0
value NoDataNow = 0xFF
value Reported = 0

abbrev pub says : Answer → State → Reply
says a s = record { answer = a; state = s }

abbrev pub done : ℕ → State → Reply
done v s = says (Done v) s

abbrev pub reports : State → Reply
reports s = says Reported s

-- "Leaves": nothing changed

abbrev pub held : State → Reply
held s = says Held s

abbrev pub out_of_place : State → Reply
out_of_place s = says OutOfPlace s

abbrev pub reselection_ignored : State → Reply
reselection_ignored s = says ReselectionIgnored s

abbrev pub no_data_now : State → Reply
no_data_now s = says NoDataNow s

-- "only LCI set"
abbrev pub ignored : State → Reply
ignored s = says CommandIgnored (set_lci true s)
