-- `waiting::front`: the oldest byte of the image's end.
use Rattle.std.proofs.Common.{◌∙◌}
use Rattle.image.proofs.Ends.{front_end}
use Rattle.image.proofs.waiting.front.Goals as goal

pub returns-then-image-eq-LENGTH : goal.returns-then-image-eq-LENGTH
returns-then-image-eq-LENGTH c = c.front.ensures ∙ front_end c.args.image.now c.if-image-eq-LENGTH.true
