-- `store::fifo`: the image's end is stored anew.
use Rattle.std.proofs.Common.{List, ℕ}
use Rattle.chip.specs.Fifo.{fifo_bytes}
use Rattle.image.proofs.Ends.{stored_end}
use Rattle.image.proofs.store.fifo.Goals as goal

pub returns-then-image-eq-LENGTH : goal.returns-then-image-eq-LENGTH
returns-then-image-eq-LENGTH c =
    stored_end c.args.image.now c.if-image-eq-LENGTH.true _ (λ (x : List ℕ). fifo_bytes c.args.q) c.put.ensures
