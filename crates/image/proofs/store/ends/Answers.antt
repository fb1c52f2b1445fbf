-- `store::ends`: one place and the ends are stored anew.
use Rattle.chip.specs.Fifo.{ends_over}
use Rattle.image.proofs.Ends.{stored_end}
use Rattle.image.proofs.store.ends.Goals as goal

pub returns-then-image-eq-LENGTH : goal.returns-then-image-eq-LENGTH
returns-then-image-eq-LENGTH c =
    stored_end c.args.image.now c.if-image-eq-LENGTH.true _ (ends_over c.args.q) c.put_ends.ensures
