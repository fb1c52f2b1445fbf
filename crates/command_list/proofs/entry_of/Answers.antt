-- The table is the definition's: a place of it that is there does not depend on the default, and beyond it none is.
use Rattle.std.proofs.Common.{sym, arith}
use Rattle.std.proofs.Math.ListN.{get_or-eq_default}
use Rattle.std.proofs.lemmas.List.{get_or_default}
use Rattle.chip.specs.Commands.{entry_of, table, left_out}
use Rattle.command_list.proofs.entry_of.Goals as goal

pub returns-then-n-lt34 : goal.returns-then-n-lt34
unfolding entry_of table
returns-then-n-lt34 c = get_or_default table c.args.n _ left_out (omega arith)

pub returns-else-n-lt34 : goal.returns-else-n-lt34
unfolding entry_of table
returns-else-n-lt34 c = sym (get_or-eq_default table left_out {n = c.args.n} (omega arith))
