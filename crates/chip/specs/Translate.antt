-- Translate Address, 18h: where a logical address lies on a disk. Paper 02: Req 01.
-- It looks at registers 03 to 0Eh alone: l is their list, so that the register at address a stands at place a - 3.
use Rattle.std.specs.Prelude.{Bool, not, List, ℕ, ◌+◌, ◌*◌, ◌/◌, ◌%◌, eqb, ltb, leb, get_or, set}
use Rattle.chip.specs.Choice.{pick, both, either}
use Rattle.chip.specs.declared.State.{State}
use Rattle.chip.specs.State.{set_cdb}
use Rattle.chip.specs.Interrupts.{raise}

-- a byte behind what stands before it: high byte first
unfoldable pub joined : ℕ → ℕ → ℕ
joined high low = high * 256 + low

-- the disk: sectors on a track, heads, cylinders; whether sectors are kept as spares, and how many a cylinder has beside them
pub record Geometry : Type 0 where
  pub sectors : ℕ
  pub heads : ℕ
  pub cylinders : ℕ
  pub per_cylinder : ℕ
  pub has_spares : Bool

-- "With 0Ch zero, sectors per cylinder are sectors times heads; otherwise they are 0D/0Eh"
unfoldable pub has_spares_in : List ℕ → Bool
has_spares_in l = not (eqb (get_or l 9 0) 0)

unfoldable pub per_cylinder_in : List ℕ → ℕ
per_cylinder_in l = pick (has_spares_in l) (joined (get_or l 10 0) (get_or l 11 0)) (get_or l 0 0 * get_or l 1 0)

-- "Sectors per track are 03, heads 04, cylinders 05/06"
abbrev pub geometry_of : List ℕ → Geometry
geometry_of l =
    record {
      sectors = get_or l 0 0;
      heads = get_or l 1 0;
      cylinders = joined (get_or l 2 0) (get_or l 3 0);
      per_cylinder = per_cylinder_in l;
      has_spares = has_spares_in l;
    }

-- "logical address 07 to 0Ah"
unfoldable pub address_of : List ℕ → ℕ
address_of l = joined (joined (joined (get_or l 4 0) (get_or l 5 0)) (get_or l 6 0)) (get_or l 7 0)

-- the two divisions, by the sectors on a cylinder and by those on a track
unfoldable pub cylinder_of : Geometry → ℕ → ℕ
cylinder_of g n = n / g.per_cylinder

unfoldable pub head_of : Geometry → ℕ → ℕ
head_of g n = n % g.per_cylinder / g.sectors

unfoldable pub sector_of : Geometry → ℕ → ℕ
sector_of g n = n % g.per_cylinder % g.sectors

-- the five reasons for 45h. "when a divisor is zero, or the head or cylinder reached is not below its total; with spares also when
-- cylinders exceed 4096 or heads exceed 15"
unfoldable pub divides_by_zero : Geometry → Bool
divides_by_zero g = either (eqb g.per_cylinder 0) (eqb g.sectors 0)

unfoldable pub is_beyond_heads : Geometry → ℕ → Bool
is_beyond_heads g n = leb g.heads (head_of g n)

unfoldable pub is_beyond_cylinders : Geometry → ℕ → Bool
is_beyond_cylinders g n = leb g.cylinders (cylinder_of g n)

unfoldable pub has_too_many_cylinders : Geometry → Bool
has_too_many_cylinders g = both g.has_spares (ltb 4096 g.cylinders)

unfoldable pub has_too_many_heads : Geometry → Bool
has_too_many_heads g = both g.has_spares (ltb 15 g.heads)

unfoldable pub exceeds : Geometry → ℕ → Bool
exceeds g n =
    either (divides_by_zero g)
    (either (is_beyond_heads g n) (either (is_beyond_cylinders g n) (either (has_too_many_cylinders g) (has_too_many_heads g))))

-- where a sector is on the disk, each number from 0
pub record Physical : Type 0 where
  pub cylinder : ℕ
  pub head : ℕ
  pub sector : ℕ

abbrev pub physical_of : Geometry → ℕ → Physical
physical_of g n = record { cylinder = cylinder_of g n; head = head_of g n; sector = sector_of g n }

-- "Sector (from 0) goes to 0Bh, head to 0Ch, cylinder to 0D/0Eh"
unfoldable pub placed : Physical → List ℕ → List ℕ
placed p l = set (set (set (set l 8 p.sector) 9 p.head) 10 (p.cylinder / 256)) 11 (p.cylinder % 256)

-- "code 15h. Code 45h, with those registers unchanged"
unfoldable pub translated_by : List ℕ → State → State
translated_by l s =
    pick (exceeds (geometry_of l) (address_of l)) (raise 0x45 s)
    (raise 0x15 (set_cdb (placed (physical_of (geometry_of l) (address_of l)) l) s))

unfoldable pub translated : State → State
translated s = translated_by s.registers.descriptor.cdb s
