use Rattle.controller.proofs.Steps.{popped_in}
use Rattle.controller.proofs.in_place.data_read.Goals as goal

pub settle-requires : goal.settle-requires
settle-requires c = popped_in _ c.requires.0 _ c.pop.ensures c.requires.1
