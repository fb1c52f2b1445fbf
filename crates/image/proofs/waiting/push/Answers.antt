-- `waiting::push`: what happens to the FIFO's part happens to the image's end.
use Rattle.std.proofs.Common.{List, ℕ}
use Rattle.chip.specs.Fifo.{fifo_bytes, fifo_of, push}
use Rattle.chip.specs.Image.{state_of}
use Rattle.image.proofs.Ends.{stored_end}
use Rattle.image.proofs.waiting.push.Goals as goal

pub returns-then-image-eq-LENGTH : goal.returns-then-image-eq-LENGTH
unfolding state_of
returns-then-image-eq-LENGTH c =
    stored_end c.args.image.now c.if-image-eq-LENGTH.true _ (λ (x : List ℕ). fifo_bytes (push c.args.b (fifo_of x))) c.push.ensures
