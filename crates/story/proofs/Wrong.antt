-- The demand falls of each wrong step of specs/Wrong.antt: a computed run breaks it.
use mathlib.Core.Path.{◌≡◌, refl, ap}
use mathlib.Core.List.{List, [], ◌∷◌}
use Prim.Native.Nat.{ℕ}
use native.Mathlib.Omega.{arith}
use lib.ListN.{length, get_or}
use Rattle.story.specs.Story.{inward}
use Rattle.chip.specs.Calls.{run}
use Rattle.story.specs.Demand.{Demand}
use Rattle.story.specs.Runs.{small, turns}
use Rattle.story.specs.Wrong.{nods, invents}
use Rattle.story.proofs.Opening.{runs}
use Rattle.story.proofs.Runs.{proper_small, starts, in_time}

fewer : ◌≡◌ {A = List ℕ} (0x11 ∷ []) (0x11 ∷ 0x22 ∷ 0x33 ∷ []) → ⊥
fewer e = let z : ◌≡◌ {A = ℕ} 1 3 = ap length e in omega arith

-- of three bytes the host is left with the first
nods_refuted : Demand nods → ⊥
unfolding runs run nods
nods_refuted d = fewer ((d [] (small inward) 4 (turns 80) [] (proper_small _ inward) starts (in_time inward)).for_transfer.data_in refl)

other : ◌≡◌ {A = List ℕ} (0 ∷ 0 ∷ 42 ∷ []) (0 ∷ 0 ∷ 2 ∷ []) → ⊥
other e = let z : ◌≡◌ {A = ℕ} 42 2 = ap (λ (l : List ℕ). get_or l 2 0) e in omega arith

-- of five loaded and three moved, two are left, and not 42
invents_refuted : Demand invents → ⊥
unfolding runs run invents
invents_refuted d =
    other
    ((d [] (small inward) 4 (turns 80) [] (proper_small _ inward) starts (in_time inward)).for_transfer.count (record { free = refl; rest = refl }) (omega arith))
