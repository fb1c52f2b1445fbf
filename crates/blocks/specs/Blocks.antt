-- A run over the FIFO as a block of accesses. proofs/Blocks.antt shows that these are chip's block_read and block_written, which are made
-- of single accesses.
use Rattle.std.specs.Prelude.{List, ℕ, eqb}
use Rattle.chip.specs.Choice.{pick}
use Rattle.chip.specs.State.{set_fifo}
use Rattle.chip.specs.Interrupts.{settled}
use Rattle.chip.specs.Registers.{Moved}
use Rattle.chip.specs.declared.State.{State}
use Rattle.fifo.specs.Bulk.{Bulk}

-- the run r as a block of reads: an ending settles once, after the last byte
abbrev pub read_by : Bulk → State → Moved
read_by r s =
    record { number = r.moved; state = pick (eqb r.moved 0) s (settled (set_fifo r.fifo s)); bytes = r.bytes }

-- the run r as a block of writes of l
abbrev pub written_by : Bulk → List ℕ → State → Moved
written_by r l s = record { number = r.moved; state = set_fifo r.fifo s; bytes = l }
