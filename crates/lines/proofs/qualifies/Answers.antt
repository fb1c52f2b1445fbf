-- `qualifies`: its calls give the parts of the definition, joined as the definition joins them; a line is below 8.
use Rattle.lines.proofs.Small.{line_small}
use Rattle.lines.proofs.qualifies.Goals as goal

pub is_on-requires : goal.is_on-requires
is_on-requires c = rw c.line_of.ensures (line_small _)
