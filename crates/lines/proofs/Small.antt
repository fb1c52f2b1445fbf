-- Numbers below 8, as a shift by them and an or of their bits need: the line of an identity, and the other identity of two lines.
use mathlib.Core.List.{[], ◌∷◌}
use Prim.Native.Nat.{ℕ, ◌%◌, ◌<◌}
use native.Mathlib.Nat.{mod-lt}
use native.Mathlib.Omega.{arith}
use Rattle.chip.specs.declared.Identity.{Identity}
use Rattle.chip.specs.Choice.{pick}
use Rattle.chip.specs.Lines.{is_on, line_of, lowest, without, other_identity}
use Rattle.lines.proofs.Computed.{computed, below}

pub line_small : (i : Identity) → line_of i < 8
unfolding line_of
line_small i = mod-lt i.number (omega arith)

pub other_small : (own : Identity) (lines : ℕ) → lines < 256 → (other_identity own lines).number < 8
unfolding other_identity lowest without is_on pick
other_small own lines h =
    rw (computed (below 8 ∷ below 256 ∷ [])
    (λ k b. lowest (without k b))
    (λ k b. lowest (without k b) % 8)
    tt
    (line_of own)
    (line_small own)
    lines
    h)
    (mod-lt (lowest (without (line_of own) lines)) (omega arith))
