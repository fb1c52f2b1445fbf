-- `waiting::drain`: what moves in the FIFO's part moves in the image.
use Rattle.fifo.specs.Bulk.{drained}
use Rattle.image.proofs.Ends.{run_end}
use Rattle.image.proofs.waiting.drain.Goals as goal

pub returns-then-image-eq-LENGTH : goal.returns-then-image-eq-LENGTH
returns-then-image-eq-LENGTH c = run_end c.args.image.now c.if-image-eq-LENGTH.true drained c.args.out.now _ _ _ c.drain.ensures
