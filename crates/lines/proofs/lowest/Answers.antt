-- `lowest`, tried at all 256 bytes.
use Rattle.std.proofs.Common.{rules, [], ◌∷◌, bit_and}
use lib.Count.{count_trailing_zeros}
use Rattle.chip.specs.Choice.{pick}
use Rattle.chip.specs.Lines.{lowest, is_on}
use Rattle.lines.proofs.Computed.{computed, below}
use Rattle.lines.proofs.lowest.Goals as goal

pub returns : goal.returns
unfolding lowest is_on pick count_trailing_zeros
returns c = computed (below 256 ∷ []) (λ b. bit_and (count_trailing_zeros 8 b) 7) lowest tt c.args.lines (search rules)
