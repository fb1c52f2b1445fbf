-- `other_identity`: its calls give the parts of the definition; a line is below 8.
use Rattle.lines.proofs.Small.{line_small}
use Rattle.lines.proofs.other_identity.Goals as goal

pub without-requires : goal.without-requires
without-requires c = rw c.line_of.ensures (line_small _)
