-- The run over the FIFO is the block of reads, and an ending settles once.
use Rattle.std.proofs.Common.{ap, sym, ◌∙◌}
use Rattle.chip.specs.Interrupts.{in_ending}
use Rattle.blocks.proofs.InImage.{state_is, still_image, still_in, read_none, read_settled, read_calm}
use Rattle.blocks.proofs.read_in.Goals as goal
use Rattle.blocks.proofs.read_in.Goals.{else-number-ne0-via-then-number-ne0+else-in_ending, else-number-ne0-via-else-number-ne0}

pub settle-requires : goal.settle-requires
settle-requires c =
    (still_image _ c.requires.0 _ c.requires.1 _ _ _ c.drain-number.ensures, still_in _ c.requires.0 _ c.requires.1 _ _ _ c.drain-number.ensures)

pub returns-then-in_ending : goal.returns-then-in_ending
returns-then-in_ending c =
    read_settled _ c.requires.0 _ c.requires.1 _ _ _ c.drain-number.ensures c.if-number-ne0.true _ c.settle.ensures

pub returns-else-number-ne0 : goal.returns-else-number-ne0
returns-else-number-ne0 c =
    elim c.else-number-ne0.branch [
      | else-number-ne0-via-then-number-ne0+else-in_ending w ↦
          read_calm _ c.requires.0 _ c.requires.1 _ _ _ c.drain-number.ensures w.if-number-ne0.true
          (sym (ap in_ending (state_is _ c.requires.0 _ c.state-s.ensures)) ∙ sym w.in_ending.ensures ∙ w.if-in_ending.false)
      | else-number-ne0-via-else-number-ne0 w ↦ read_none _ c.requires.0 _ c.requires.1 _ _ _ c.drain-number.ensures w.if-number-ne0.false
    ]
