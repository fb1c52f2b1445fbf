-- A store into a state's image is the image of the state with one field changed.
-- `written_out`: a state with its two arrays element by element is that state, so that its image computes.
-- `pointer_stored`, `last_stored`, `low_stored`, `fifo_stored`: the field, and what is stored.
use Rattle.std.specs.Prelude.{Option}
use mathlib.Core.Path.{◌≡◌, refl, subst, ◌∙◌}
use mathlib.Core.List.{List, ◌++◌}
use Prim.Native.Nat.{ℕ, ◌/◌, ◌%◌}
use native.Mathlib.Omega.{arith}
use lib.ListN.{length, set, take}
use lib.Seq.{take_all}
use Rattle.chip.specs.declared.State.{State}
use Rattle.chip.specs.declared.Fifo.{Fifo}
use Rattle.chip.specs.State.{set_pointer, set_last, set_count, set_fifo, set_cdb}
use Rattle.chip.specs.Image.{noted_byte, head_bytes, middle_bytes, image_of, fifo_place}
use Rattle.chip.specs.Ok.{Ok}
use Rattle.chip.proofs.ImageLists.{spelled, spelled_is}
use Rattle.chip.specs.Fifo.{fifo_bytes}
use Rattle.chip.specs.declared.Phase.{Phase}

-- the command bytes are twelve
pub record Long (s : State) : Type 0 where
  pub cdb_long : length s.registers.descriptor.cdb ≡ 12

pub long : {s : State} → Ok s → Long s
long o = record { cdb_long = o.cdb_long }

pub whole : (l : List ℕ) → length l ≡ 12 → spelled 12 0 l ≡ l
whole l h = spelled_is 12 0 l (omega arith) ∙ take_all 12 l (omega arith)

abbrev pub in_full : State → State
in_full s = set_cdb (spelled 12 0 s.registers.descriptor.cdb) s

pub written_out : (s : State) → Long s → in_full s ≡ s
written_out s o = rw (whole s.registers.descriptor.cdb o.cdb_long)

-- what holds of the state in full holds of the state
pub in_full_lem : (P : State → Type 0) (s : State) → Long s → P (in_full s) → P s
in_full_lem P s o p = subst P (written_out s o) p

pub pointer_stored : (b : ℕ) (s : State) → Long s → image_of (set_pointer b s) ≡ set (image_of s) 25 b
unfolding image_of head_bytes middle_bytes
pointer_stored b s o = in_full_lem (λ (t : State). image_of (set_pointer b t) ≡ set (image_of t) 25 b) s o refl

pub last_stored : (p : Option Phase) (s : State) → Long s → image_of (set_last p s) ≡ set (image_of s) 37 (noted_byte p)
unfolding image_of head_bytes middle_bytes
last_stored p s o = in_full_lem (λ (t : State). image_of (set_last p t) ≡ set (image_of t) 37 (noted_byte p)) s o refl

-- a count that differs in its low byte alone
pub low_stored : (n : ℕ) (s : State) → Long s → n / 256 ≡ s.registers.count / 256
    → image_of (set_count n s) ≡ set (image_of s) 20 (n % 256)
unfolding image_of head_bytes middle_bytes
low_stored n s o e =
    let high : n / 65536 % 256 ≡ s.registers.count / 65536 % 256 = omega arith in
    let middle : n / 256 % 256 ≡ s.registers.count / 256 % 256 = omega arith in
    in_full_lem (λ (t : State). n / 65536 % 256 ≡ t.registers.count / 65536 % 256 → n / 256 % 256 ≡ t.registers.count / 256 % 256
    → image_of (set_count n t) ≡ set (image_of t) 20 (n % 256)) s o
    (λ h m. rw (h, m)) high middle

-- the FIFO is the image's end
pub fifo_stored : (q : Fifo) (s : State) → Long s → image_of (set_fifo q s) ≡ take fifo_place (image_of s) ++ fifo_bytes q
unfolding image_of head_bytes middle_bytes
fifo_stored q s o = in_full_lem (λ (t : State). image_of (set_fifo q t) ≡ take fifo_place (image_of t) ++ fifo_bytes q) s o refl
