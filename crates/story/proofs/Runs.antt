-- A run of each host for each small command, computed: the bus is free, the host is done, the story has crossed, and both hosts hold the
-- same. Each line is: free, done, then what crossed as phase and byte (6 C2h is Identify, 2 the command, 1 or 0 the data, 3 the status,
-- 7 0 Command Complete), then what the host holds.
--   the-reads, the-writes, the-silent   by one Select-And-Transfer, and phase by phase
--   proper_small, starts, in_time       the demand's premises, met
use mathlib.Core.Path.{◌≡◌, refl}
use mathlib.Core.Bool.{Bool, true}
use mathlib.Core.List.{List, [], ◌∷◌}
use mathlib.Core.Logic.{inr}
use Prim.Native.Nat.{ℕ, zero, suc, ◌<◌}
use native.Mathlib.Omega.{arith}
use lib.Dec.{ltb}
use lib.ListN.{get_or}
use borrow.Author.Tests.{ltb-true}
use Rattle.chip.specs.declared.State.{State}
use Rattle.chip.proofs.Cases.{both_first, both_second}
use Rattle.chip.specs.Choice.{pick, both}
use Rattle.chip.specs.State.{fresh}
use Rattle.chip.specs.Interrupts.{busy}
use Rattle.chip.specs.SelectAndTransfer.{size_of}
use Rattle.chip.specs.Calls.{step}
use Rattle.chip.specs.Ok.{Bytes}
use Rattle.story.specs.Story.{Way, inward, outward, Proper}
use Rattle.story.specs.Hosts.{by_transfer, by_phases}
use Rattle.story.specs.Demand.{Start, InTime, scene_a, scene_b}
use Rattle.story.specs.Runs.{small, silent, turns, report}
use Rattle.story.proofs.Opening.{runs}

the_reads_a : report step (by_transfer (small inward)) (scene_a step (small inward) fresh 4 (turns 80))
    ≡ 1 ∷ 1 ∷ 6 ∷ 0xC2 ∷ 2 ∷ 0x08 ∷ 2 ∷ 0x40 ∷ 2 ∷ 0x00 ∷ 2 ∷ 0x07 ∷ 2 ∷ 0x01 ∷ 2 ∷ 0x00 ∷ 1 ∷ 0x11 ∷ 1 ∷ 0x22 ∷ 1 ∷ 0x33 ∷ 3 ∷ 0x02 ∷ 7 ∷ 0x00
    ∷ 0x11 ∷ 0x22 ∷ 0x33 ∷ 0x02 ∷ 0 ∷ 0 ∷ 2 ∷ []
unfolding runs
the_reads_a = refl

the_reads_b : report step (by_phases (small inward)) (scene_b step (small inward) fresh 4 (turns 150))
    ≡ 1 ∷ 1 ∷ 6 ∷ 0xC2 ∷ 2 ∷ 0x08 ∷ 2 ∷ 0x40 ∷ 2 ∷ 0x00 ∷ 2 ∷ 0x07 ∷ 2 ∷ 0x01 ∷ 2 ∷ 0x00 ∷ 1 ∷ 0x11 ∷ 1 ∷ 0x22 ∷ 1 ∷ 0x33 ∷ 3 ∷ 0x02 ∷ 7 ∷ 0x00
    ∷ 0x11 ∷ 0x22 ∷ 0x33 ∷ 0x02 ∷ 0 ∷ 0 ∷ 2 ∷ []
unfolding runs
the_reads_b = refl

the_writes_a : report step (by_transfer (small outward)) (scene_a step (small outward) fresh 4 (turns 80))
    ≡ 1 ∷ 1 ∷ 6 ∷ 0xC2 ∷ 2 ∷ 0x08 ∷ 2 ∷ 0x40 ∷ 2 ∷ 0x00 ∷ 2 ∷ 0x07 ∷ 2 ∷ 0x01 ∷ 2 ∷ 0x00 ∷ 0 ∷ 0x11 ∷ 0 ∷ 0x22 ∷ 0 ∷ 0x33 ∷ 3 ∷ 0x02 ∷ 7 ∷ 0x00
    ∷ 0x02 ∷ 0 ∷ 0 ∷ 2 ∷ []
unfolding runs
the_writes_a = refl

the_writes_b : report step (by_phases (small outward)) (scene_b step (small outward) fresh 4 (turns 150))
    ≡ 1 ∷ 1 ∷ 6 ∷ 0xC2 ∷ 2 ∷ 0x08 ∷ 2 ∷ 0x40 ∷ 2 ∷ 0x00 ∷ 2 ∷ 0x07 ∷ 2 ∷ 0x01 ∷ 2 ∷ 0x00 ∷ 0 ∷ 0x11 ∷ 0 ∷ 0x22 ∷ 0 ∷ 0x33 ∷ 3 ∷ 0x02 ∷ 7 ∷ 0x00
    ∷ 0x02 ∷ 0 ∷ 0 ∷ 2 ∷ []
unfolding runs
the_writes_b = refl

the_silent_a : report step (by_transfer silent) (scene_a step silent fresh 4 (turns 80))
    ≡ 1 ∷ 1 ∷ 6 ∷ 0x80 ∷ 2 ∷ 0 ∷ 2 ∷ 0 ∷ 2 ∷ 0 ∷ 2 ∷ 0 ∷ 2 ∷ 0 ∷ 2 ∷ 0 ∷ 3 ∷ 0 ∷ 7 ∷ 0 ∷ 0 ∷ 0 ∷ 0 ∷ 0 ∷ []
unfolding runs
the_silent_a = refl

the_silent_b : report step (by_phases silent) (scene_b step silent fresh 4 (turns 120))
    ≡ 1 ∷ 1 ∷ 6 ∷ 0x80 ∷ 2 ∷ 0 ∷ 2 ∷ 0 ∷ 2 ∷ 0 ∷ 2 ∷ 0 ∷ 2 ∷ 0 ∷ 2 ∷ 0 ∷ 3 ∷ 0 ∷ 7 ∷ 0 ∷ 0 ∷ []
unfolding runs
the_silent_b = refl

-- ---- the premises

abbrev are_bytes : List ℕ → Bool
are_bytes [] = true
are_bytes (b ∷ l) = both (ltb b 256) (are_bytes l)

bytes : (l : List ℕ) → are_bytes l ≡ true → Bytes l
bytes [] e = λ k. omega arith
bytes (b ∷ l) e = joined (bytes l (both_second (ltb b 256) (are_bytes l) e))
  where
    joined : Bytes l → (k : ℕ) → get_or (b ∷ l) k 0 < 256
    joined r zero = ltb-true b 256 (both_first (ltb b 256) (are_bytes l) e)
    joined r (suc k) = r k

pub proper_small : (s : State) (w : Way) → Proper s (small w)
unfolding both size_of pick
proper_small s w =
    record {
      unit_small = omega arith;
      command_bytes = bytes (small w).command refl;
      command_some = omega arith;
      command_sized = refl;
      moved_bytes = bytes (small w).moved refl;
      beyond_bytes = bytes (small w).beyond refl;
      count_fits = omega arith;
      status_byte = omega arith;
      target_byte = omega arith;
      timeout_byte = omega arith;
    }

pub starts : Start fresh
unfolding busy
starts = record { read = refl; idle = refl; apart = refl }

pub in_time : (w : Way) → InTime (small w).timeout 4
in_time w = inr (omega arith)
