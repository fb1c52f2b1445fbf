-- `without`, tried at all 8 lines of all 256 bytes.
use Rattle.std.proofs.Common.{rules, [], ◌∷◌, ◌-◌, ◌*◌, ◌%◌, ◌^◌, bit_and}
use Rattle.chip.specs.Choice.{pick}
use Rattle.chip.specs.Lines.{without, is_on}
use Rattle.lines.proofs.Computed.{computed, below}
use Rattle.lines.proofs.without.Goals as goal

pub returns : goal.returns
unfolding without is_on pick
returns c =
    computed (below 8 ∷ below 256 ∷ [])
    (λ k b. bit_and b (255 - 1 * 2 ^ k % 256))
    without
    tt
    c.args.k
    c.requires
    c.args.lines
    (search rules)
