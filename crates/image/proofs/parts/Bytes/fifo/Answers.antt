-- `parts::fifo_of`: the FIFO is the image's end.
use Rattle.std.proofs.Common.{◌∙◌}
use Rattle.image.proofs.Ends.{got_end}
use Rattle.image.proofs.parts.Bytes.fifo.Goals as goal

pub returns : goal.returns
returns c = rw (← c.self.view_is) (c.get.ensures ∙ got_end c.self.inside.all.now c.self.invariant)
