-- The FIFO's part of the image: many bytes moved in it at once. Bytes that are no FIFO's move nothing.
use Rattle.std.specs.Prelude.{Bool, List, ℕ, eqb, length}
use Rattle.chip.specs.Choice.{pick, both}
use Rattle.chip.specs.Fifo.{fifo_bytes, fifo_length, fifo_of, is_fifo}
use Rattle.chip.specs.declared.Fifo.{Fifo}
use Rattle.fifo.specs.Bulk.{Bulk, drained, filled}

-- bytes that are a FIFO's
unfoldable pub is_part : List ℕ → Bool
is_part p = both (eqb (length p) fifo_length) (is_fifo p)

-- how many bytes moved, the part then, and the slice then
pub record PartMoved : Type 0 where
  pub moved : ℕ
  pub part : List ℕ
  pub bytes : List ℕ

abbrev pub in_part : Bulk → PartMoved
in_part r = record { moved = r.moved; part = fifo_bytes r.fifo; bytes = r.bytes }

abbrev pub unmoved : List ℕ → List ℕ → PartMoved
unmoved l p = record { moved = 0; part = p; bytes = l }

-- a run f over the FIFO (`drained`, `filled`) with the slice l; from bytes that are no FIFO's nothing moves
unfoldable pub part_moved : (List ℕ → Fifo → Bulk) → List ℕ → List ℕ → PartMoved
part_moved f l p = pick (is_part p) (in_part (f l (fifo_of p))) (unmoved l p)

-- read out into the slice l
abbrev pub part_drained : List ℕ → List ℕ → PartMoved
part_drained l p = part_moved drained l p

-- the slice l written in, as long as fewer than n wait
abbrev pub part_filled : ℕ → List ℕ → List ℕ → PartMoved
part_filled n l p = part_moved (filled n) l p
