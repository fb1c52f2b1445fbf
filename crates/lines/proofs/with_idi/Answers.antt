-- `with_idi`, tried at all 256 bytes.
use Rattle.std.proofs.Common.{rules, [], ◌∷◌, bit_or}
use Rattle.chip.specs.Choice.{pick}
use Rattle.chip.specs.Lines.{with_idi, is_on}
use Rattle.lines.proofs.Computed.{computed, below}
use Rattle.lines.proofs.with_idi.Goals as goal

pub returns : goal.returns
unfolding with_idi is_on pick
returns c = computed (below 256 ∷ []) (λ b. bit_or b 4) with_idi tt c.args.b (search rules)
