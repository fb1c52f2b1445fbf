-- How long a command can be.
--   size_most   no command has more than 12 bytes
use Prim.Native.Nat.{ℕ, ◌≤◌}
use native.Mathlib.Omega.{arith}
use Rattle.chip.specs.SelectAndTransfer.{size_of}
use Rattle.chip.proofs.Cases.{by_pick}

pub size_most : (b : ℕ) → size_of b ≤ 12
unfolding size_of
size_most b =
    by_pick (λ (n : ℕ). n ≤ 12) _ (omega arith)
    (by_pick (λ (n : ℕ). n ≤ 12) _ (omega arith) (by_pick (λ (n : ℕ). n ≤ 12) _ (omega arith) (omega arith)))
