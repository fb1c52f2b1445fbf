-- Many bytes at once: read out of the FIFO into a slice, or written into it from one, as far as both go. Room blocks shows that a block of
-- single accesses comes to this.
use Rattle.std.specs.Prelude.{Bool, List, [], ◌∷◌, ℕ, suc, ltb}
use Rattle.chip.specs.Choice.{pick, both}
use Rattle.chip.specs.Fifo.{is_empty, has_room, waits, front, pop, push}
use Rattle.chip.specs.declared.Fifo.{Fifo}

-- how many bytes moved, the FIFO then, and the slice then
pub record Bulk : Type 0 where
  pub moved : ℕ
  pub fifo : Fifo
  pub bytes : List ℕ

abbrev pub more : ℕ → Bulk → Bulk
more b r = record { moved = suc r.moved; fifo = r.fifo; bytes = b ∷ r.bytes }

abbrev pub rest : List ℕ → Fifo → Bulk
rest l q = record { moved = 0; fifo = q; bytes = l }

-- the FIFO read out into the slice, as far as both go
unfoldable pub drained : List ℕ → Fifo → Bulk
drained [] q = rest [] q
drained (b ∷ l) q = pick (is_empty q) (rest (b ∷ l) q) (more (front q) (drained l (pop q)))

-- with n bytes left to cross the FIFO takes another: fewer wait than that, and there is room
unfoldable pub takes : ℕ → Fifo → Bool
takes n q = both (ltb (waits q) n) (has_room q)

-- the slice written into the FIFO, as far as both go
unfoldable pub filled : ℕ → List ℕ → Fifo → Bulk
filled n [] q = rest [] q
filled n (b ∷ l) q = pick (takes n q) (more b (filled n l (push b q))) (rest (b ∷ l) q)
