-- Translate Address, as the code and the laws need it.
--   Within within exceeds_not   none of the five reasons for 45h holds, as numbers
--   by_translation              a translation raises a code, and no field but registers 03 to 0Eh differs: what holds of every such state
use mathlib.Core.Path.{◌≡◌, refl, sym, ◌∙◌}
use mathlib.Core.Bool.{Bool, true, false, true≢false}
use mathlib.Core.List.{List}
use Prim.Native.Nat.{ℕ, zero, suc, ◌<◌, ◌≤◌, ◌/◌, ◌%◌}
use native.Mathlib.Nat.{zero-lt-suc}
use native.Mathlib.Omega.{arith}
use lib.Dec.{eqb, ltb}
use lib.ListN.{length, set, length-set}
use borrow.Author.Tests.{ltb-false, leb-false, eqb-false, le-ltb, lt-leb, ne_eqb}
use Rattle.chip.specs.Choice.{both, either}
use Rattle.chip.specs.State.{set_cdb}
use Rattle.chip.specs.Interrupts.{raise}
use Rattle.chip.specs.Translate.{Geometry, cylinder_of, head_of, divides_by_zero, is_beyond_heads, is_beyond_cylinders, has_too_many_cylinders, has_too_many_heads, exceeds, Physical, placed, translated_by, translated}
use Rattle.chip.specs.declared.State.{State}
use Rattle.chip.proofs.Cases.{by_pick, either_first, either_rest}

pub record Within (g : Geometry) (n : ℕ) : Type 0 where
  pub on_cylinder : 0 < g.per_cylinder
  pub on_track : 0 < g.sectors
  pub head : head_of g n < g.heads
  pub cylinder : cylinder_of g n < g.cylinders
  pub few_cylinders : g.has_spares ≡ true → g.cylinders ≤ 4096
  pub few_heads : g.has_spares ≡ true → g.heads ≤ 15

some : (n : ℕ) → eqb n 0 ≡ false → 0 < n
some zero e = absurd (eqb-false 0 0 e refl)
some (suc n) e = zero-lt-suc n

some_not : {n : ℕ} → 0 < n → eqb n 0 ≡ false
some_not {n} h = ne_eqb n 0 (λ e. omega arith)

few : (t : Bool) (limit n : ℕ) → both t (ltb limit n) ≡ false → t ≡ true → n ≤ limit
unfolding both
few true limit n e h = ltb-false limit n e
few false limit n e h = absurd (true≢false (sym h))

few_not : (t : Bool) (limit n : ℕ) → (t ≡ true → n ≤ limit) → both t (ltb limit n) ≡ false
unfolding both
few_not true limit n h = le-ltb limit n (h refl)
few_not false limit n h = refl

module _ (g : Geometry) (n : ℕ) where
  pub within : exceeds g n ≡ false → Within g n
  unfolding exceeds divides_by_zero is_beyond_heads is_beyond_cylinders has_too_many_cylinders has_too_many_heads
  within e =
      let zeros = either_first _ _ e in
      let places = either_rest (divides_by_zero g) _ e in
      let cylinders = either_rest (is_beyond_heads g n) _ places in
      let limits = either_rest (is_beyond_cylinders g n) _ cylinders in
      record {
        on_cylinder = some _ (either_first _ _ zeros);
        on_track = some _ (either_rest (eqb g.per_cylinder 0) _ zeros);
        head = leb-false _ _ (either_first _ _ places);
        cylinder = leb-false _ _ (either_first _ _ cylinders);
        few_cylinders = few _ 4096 _ (either_first _ _ limits);
        few_heads = few _ 15 _ (either_rest (has_too_many_cylinders g) _ limits);
      }

  pub exceeds_not : Within g n → exceeds g n ≡ false
  unfolding exceeds divides_by_zero is_beyond_heads is_beyond_cylinders has_too_many_cylinders has_too_many_heads either
  exceeds_not w =
      rw (some_not w.on_cylinder, some_not w.on_track, lt-leb _ _ w.head, lt-leb _ _ w.cylinder, few_not _ 4096 _ w.few_cylinders, few_not _ 15 _ w.few_heads)

placed_long : (p : Physical) (l : List ℕ) → length (placed p l) ≡ length l
unfolding placed
placed_long p l =
    let a : List ℕ = set l 8 p.sector in
    let b : List ℕ = set a 9 p.head in
    length-set (set b 10 (p.cylinder / 256)) 11 (p.cylinder % 256)
    ∙ length-set b 10 (p.cylinder / 256)
    ∙ length-set a 9 p.head
    ∙ length-set l 8 p.sector

pub by_translation : (P : State → Type 0) (s : State)
    → ((k : ℕ) (l : List ℕ) → length l ≡ length s.registers.descriptor.cdb → P (raise k (set_cdb l s))) → P (translated s)
unfolding translated translated_by
by_translation P s h = by_pick P _ (h 0x45 s.registers.descriptor.cdb refl) (h 0x15 _ (placed_long _ _))
