-- `identify`, tried at both flags and all 256 bytes.
use Rattle.std.proofs.Common.{rules, [], ◌∷◌, ◌*◌, ◌%◌, bit_and, bit_or}
use mir.Val.{bool_byte}
use Rattle.chip.specs.Lines.{identify}
use Rattle.lines.proofs.Computed.{computed, flag, below}
use Rattle.lines.proofs.identify.Goals as goal

pub returns : goal.returns
unfolding identify
returns c =
    computed (flag ∷ below 256 ∷ [])
    (λ r n. bit_or (bit_or 128 (bool_byte r * 64 % 256)) (bit_and n 7))
    (λ r n. identify (record { number = n }) r)
    tt
    c.args.reselects c.args.l.number (search rules)
