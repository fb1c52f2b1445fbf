-- A FIFO stays whole when an outgoing one is dropped.
--   dropped_whole   of either way
use Rattle.chip.specs.Fifo.{Whole}
use Rattle.chip.specs.Interrupts.{without_outgoing}
use Rattle.chip.specs.declared.Fifo.{Fifo}
use Rattle.chip.specs.declared.Direction.{Direction}
use Rattle.chip.specs.declared.Direction.TheVariants.{Unfixed, In, Out}
use Rattle.chip.proofs.FifoLaws.{keeps_bytes}

pub dropped_whole : (d : Direction) {q : Fifo} → Whole q → Whole (without_outgoing d q)
dropped_whole Unfixed u = u
dropped_whole In u = u
dropped_whole Out {q} u = keeps_bytes.dropped_whole q u
