-- `ones`, tried at all 256 bytes.
use Rattle.std.proofs.Common.{rules, [], ◌∷◌}
use lib.Count as Count
use Rattle.chip.specs.Lines.{ones}
use Rattle.lines.proofs.Computed.{computed, below}
use Rattle.lines.proofs.ones.Goals as goal

pub returns : goal.returns
unfolding ones Count.ones Count.ones_in
returns c = computed (below 256 ∷ []) Count.ones ones tt c.args.lines (search rules)
