-- Bytes are read where data comes in.
use Rattle.std.proofs.Common.{refl, sym, ◌∙◌}
use Rattle.chip.specs.Image.{state_of}
use Rattle.blocks.proofs.InImage.{way_is}
use Rattle.blocks.proofs.Blocks.{none_read}
use Rattle.blocks.proofs.block_read.Goals as goal

pub read_in-requires : goal.read_in-requires
read_in-requires c = (c.requires, way_is _ c.requires _ c.state-s.ensures ∙ c.in-In.is)

pub returns-in_default : goal.returns-in_default
returns-in_default c =
    rw (none_read _ (state_of c.args.image.now) (λ e. c.in_default.not-In (sym (way_is _ c.requires _ c.state-s.ensures) ∙ e)))
    (refl, sym c.requires.same, refl)
