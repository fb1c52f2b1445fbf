-- `source_after`: the other identity is below 8, so that the or of its bits is a sum, tried at all bytes kept.
use Rattle.std.proofs.Common.{rules, sym, ◌∙◌, [], ◌∷◌, ◌+◌, ◌*◌, ◌/◌, bit_and, bit_or}
use Rattle.chip.specs.Choice.{pick}
use Rattle.chip.specs.Lines.{source_after, other_identity}
use Rattle.lines.proofs.Computed.{computed, below}
use Rattle.lines.proofs.Small.{other_small}
use Rattle.lines.proofs.source_after.Goals as goal

pub returns-then-are_two : goal.returns-then-are_two
unfolding source_after pick
returns-then-are_two c =
    simp (sym c.are_two.ensures ∙ c.if-are_two.true, c.other_identity.ensures)
    (computed (below 256 ∷ below 8 ∷ [])
    (λ b w. bit_or (bit_or (bit_and b 240) 8) w)
    (λ b w. b / 16 * 16 + (8 + w))
    tt
    c.args.s.registers.source
    (search rules)
    (other_identity c.args.s.wire.identity c.args.lines).number
    (other_small c.args.s.wire.identity c.args.lines (search rules)))
