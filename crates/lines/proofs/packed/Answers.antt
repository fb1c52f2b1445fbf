-- `packed`, tried at all 32 values of its flags.
use Rattle.std.proofs.Common.{[], ◌∷◌, ◌*◌, ◌%◌, bit_or}
use mir.Val.{bool_byte}
use Rattle.chip.specs.Lines.{packed}
use Rattle.lines.proofs.Computed.{computed, flag}
use Rattle.lines.proofs.packed.Goals as goal

pub returns : goal.returns
unfolding packed
returns c =
    computed (flag ∷ flag ∷ flag ∷ flag ∷ flag ∷ [])
    (λ i l b p d.
    bit_or
    (bit_or (bit_or (bit_or (bool_byte i * 128 % 256) (bool_byte l * 64 % 256)) (bool_byte b * 32 % 256)) (bool_byte p * 2 % 256))
    (bool_byte d))
    packed
    tt
    c.args.int c.args.lci c.args.bsy c.args.pe c.args.dbr
