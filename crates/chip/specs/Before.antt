-- How the FIFO kept its bytes before the ends travelled (paper 02, Req 03): the oldest byte in the first place, each younger one in the
-- next, zeros in the places behind them. Kept for the law that nothing which a caller is told has changed (room keeping).
use Rattle.std.specs.Prelude.{◌≡◌, [], ◌∷◌, ◌++◌, ℕ, ◌+◌, ◌-◌, drop, get_or, set, replicate}
use Rattle.chip.specs.Choice.{pick}
use Rattle.chip.specs.Fifo.{waiting, empty, emptied, is_empty, has_room, waits, front, pop, push, Whole}
use Rattle.chip.specs.declared.Fifo.{Fifo}

-- the same waiting bytes, kept as before
unfoldable pub moved_up : Fifo → Fifo
moved_up q = record { bytes = waiting q ++ replicate (12 - waits q) 0; first = 0; held = waits q }

-- what was the oldest byte, what taking it did, and what one byte more did
unfoldable pub front_before : Fifo → ℕ
front_before q = get_or q.bytes 0 0

unfoldable pub pop_before : Fifo → Fifo
pop_before q = pick (is_empty q) q (record { bytes = drop 1 q.bytes ++ (0 ∷ []); first = 0; held = q.held - 1 })

unfoldable pub push_before : ℕ → Fifo → Fifo
push_before b q = pick (has_room q) (record { bytes = set q.bytes q.held b; first = 0; held = q.held + 1 }) q

-- both ways of keeping go together: to take a byte or put one in, and then move the bytes up, is to take or put one as before
pub record KeptAsBefore : Type 0 where
  pub whole : (q : Fifo) → Whole q → Whole (moved_up q)
  pub bytes : (q : Fifo) → Whole q → waiting (moved_up q) ≡ waiting q
  pub none : moved_up empty ≡ empty
  pub dropped : (q : Fifo) → moved_up (emptied q) ≡ empty
  pub oldest : (q : Fifo) → Whole q → front_before (moved_up q) ≡ front q
  pub less : (q : Fifo) → Whole q → moved_up (pop q) ≡ pop_before (moved_up q)
  pub more : (q : Fifo) (b : ℕ) → Whole q → moved_up (push b q) ≡ push_before b (moved_up q)
