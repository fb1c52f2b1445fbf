-- Wrong steps, each with one mistake. proofs/Wrong.antt refutes the demand of each.
--   nods      takes the first byte of a phase and only nods at the rest: once a byte waits, a Request is answered as it should be and moves none
--   invents   invents the count: with the bus free the registers 12h to 14h hold another number
-- "one that really takes the first byte and only nods at the rest, one whose count or moved number is invented"; "demand 3, stated over its
-- steps and the Target's story, [shuts out] again the fourth and a false n - k".
use Rattle.chip.specs.Choice.{pick}
use Rattle.chip.specs.State.{set_fifo, set_count}
use Rattle.chip.specs.Fifo.{is_empty}
use Rattle.chip.specs.Calls.{Call, Outcome}
use Rattle.chip.specs.declared.State.{State}
use Rattle.reached.specs.Wrong.{afterwards}

unfoldable pub nods : Call → State → Outcome
nods = afterwards 7 (λ s t. pick (is_empty s.fifo) t (set_fifo s.fifo t))

unfoldable pub invents : Call → State → Outcome
invents = afterwards 8 (λ s t. set_count 42 t)
