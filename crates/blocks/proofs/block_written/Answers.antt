-- Bytes are written where data goes out.
use Rattle.std.proofs.Common.{refl, sym, ◌∙◌}
use Rattle.chip.specs.Image.{state_of}
use Rattle.blocks.proofs.InImage.{way_is, written_made}
use Rattle.blocks.proofs.Blocks.{none_written}
use Rattle.blocks.proofs.block_written.Goals as goal

pub returns-in-Out : goal.returns-in-Out
returns-in-Out c =
    written_made _ c.requires _ _ _ _ _ (way_is _ c.requires _ c.state-s.ensures ∙ c.in-Out.is)
    c.state-s.ensures c.left-left.ensures c.fill.ensures

pub returns-in_default : goal.returns-in_default
returns-in_default c =
    rw (none_written _ (state_of c.args.image.now) (λ e. c.in_default.not-Out (sym (way_is _ c.requires _ c.state-s.ensures) ∙ e)))
    (refl, sym c.requires.same)
