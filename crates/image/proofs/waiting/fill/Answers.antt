-- `waiting::fill`: what moves in the FIFO's part moves in the image.
use Rattle.std.proofs.Common.{refl}
use Rattle.fifo.specs.Bulk.{filled}
use Rattle.image.proofs.Ends.{run_end}
use Rattle.image.proofs.waiting.fill.Goals as goal

pub returns-then-image-eq-LENGTH : goal.returns-then-image-eq-LENGTH
returns-then-image-eq-LENGTH c =
    let e = c.fill.ensures in
    let u = run_end c.args.image.now c.if-image-eq-LENGTH.true (filled c.args.n) c.args.from.now _ _ _ (e.0, e.1, refl) in
    (u.0, u.1)
