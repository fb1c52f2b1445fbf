-- Where a logical address lies on a disk, and what Translate Address makes of it, of every state that carries it out. Paper 02, Req 01.
--   Lies g n p            the address n lies at p on the disk g
--   Limits g              the disk has at most 4096 cylinders and 15 heads, which is asked of one with spares
--   cdb_of                 registers 03 to 0Eh
--   LiesIn s p            .. of the address and the disk in the registers of s
--   Shows p t             0Bh to 0Eh of t show p
--   PlacesRight f         a step's law: 15h exactly where the address lies somewhere, and then there; else 45h
--   Kept b s t            t is s but for 0Bh to 0Eh, the code with INT, LCI and PE, and 18h, which reads b
--   LeavesTheRest f       a step's law: so it is, and with 45h 0Bh to 0Eh stay too
--   is_load m s            an access with the mark m, made in s, writes one of registers 03 to 0Eh
--   LoadStays f           a step's law: no register access changes 03 to 0Eh but a Reset, a write of one of them, and a translation with 15h
use Rattle.std.specs.Prelude.{◌≡◌, Bool, true, false, List, ◌⊎◌, ℕ, ◌+◌, ◌*◌, ◌/◌, ◌%◌, ◌<◌, ◌≤◌, ltb, leb, length}
use Rattle.chip.specs.Choice.{both}
use Rattle.chip.specs.Translate.{Geometry, Physical, geometry_of, address_of}
use Rattle.chip.specs.Registers.{register_at}
use Rattle.chip.specs.Interrupts.{without_outgoing, closed}
use Rattle.chip.specs.Calls.{Call, Outcome, register, is_set}
use Rattle.chip.specs.declared.State.{State}
use Rattle.chip.specs.declared.Answer.TheVariants.{Done}
use Rattle.chip.specs.declared.Activity.TheVariants.{Interrupt}
use Rattle.unread.specs.Status.{is_reset}
use Rattle.unread.specs.Because.{Translates}

pub record Limits (g : Geometry) : Type 0 where
  pub cylinders : g.cylinders ≤ 4096
  pub heads : g.heads ≤ 15

-- the sectors of a cylinder are numbered through its tracks, the cylinders one after the other; where there are spares, the last sectors of a
-- cylinder have no number
pub record Lies (g : Geometry) (n : ℕ) (p : Physical) : Type 0 where
  pub address : n ≡ p.cylinder * g.per_cylinder + p.head * g.sectors + p.sector
  pub on_track : p.sector < g.sectors
  pub on_cylinder : p.head * g.sectors + p.sector < g.per_cylinder
  pub head : p.head < g.heads
  pub cylinder : p.cylinder < g.cylinders
  pub limits : g.has_spares ≡ true → Limits g

abbrev pub cdb_of : State → List ℕ
cdb_of s = s.registers.descriptor.cdb

abbrev pub LiesIn : State → Physical → Type 0
LiesIn s p = Lies (geometry_of (cdb_of s)) (address_of (cdb_of s)) p

pub record Shows (p : Physical) (t : State) : Type 0 where
  pub sector : register_at 0x0B t.registers ≡ p.sector
  pub head : register_at 0x0C t.registers ≡ p.head
  pub cylinder_high : register_at 0x0D t.registers ≡ p.cylinder / 256
  pub cylinder_low : register_at 0x0E t.registers ≡ p.cylinder % 256

-- the registers are twelve: so they are in every state that calls lead to (room reached)
pub record PlacesRight (f : Call → State → Outcome) : Type 0 where
  -- an address that lies somewhere: 15h, and that place
  pub found : (m b : ℕ) (s : State) → Translates (register m b) s → length (cdb_of s) ≡ 12 → (p : Physical) → LiesIn s p
      → ((f (register m b) s).state.status.code ≡ 0x15) × Shows p (f (register m b) s).state
  -- 15h: the address lies somewhere, and there
  pub real : (m b : ℕ) (s : State) → Translates (register m b) s → length (cdb_of s) ≡ 12 → (f (register m b) s).state.status.code ≡ 0x15
      → (p : Physical) × LiesIn s p × Shows p (f (register m b) s).state
  -- an address that lies nowhere: 45h
  pub missing : (m b : ℕ) (s : State) → Translates (register m b) s → ((p : Physical) → LiesIn s p → ⊥)
      → (f (register m b) s).state.status.code ≡ 0x45

-- "A raised code .. drops an outgoing FIFO"; no state that is reached has one here
pub record Kept (b : ℕ) (s t : State) : Type 0 where
  pub registers : (a : ℕ) → (a < 0x0B) ⊎ (0x0E < a) → register_at a t.registers ≡ register_at a s.registers
  pub pointer : t.status.pointer ≡ s.status.pointer
  pub read_back : t.status.command ≡ b
  pub lci : t.status.lci ≡ false
  pub pe : t.status.pe ≡ false
  pub wire : t.wire ≡ s.wire
  pub single : t.transfer.single ≡ s.transfer.single
  pub direction : t.transfer.direction ≡ closed s.transfer.direction
  pub fifo : t.fifo ≡ without_outgoing s.transfer.direction s.fifo

pub record LeavesTheRest (f : Call → State → Outcome) : Type 0 where
  -- Done with INT at once: BSY is never seen
  pub done : (m b : ℕ) (s : State) → Translates (register m b) s → (f (register m b) s).answer ≡ Done 0
  pub told : (m b : ℕ) (s : State) → Translates (register m b) s → (f (register m b) s).state.activity ≡ Interrupt
  pub kept : (m b : ℕ) (s : State) → Translates (register m b) s → Kept b s (f (register m b) s).state
  pub refused_kept : (m b : ℕ) (s : State) → Translates (register m b) s → (f (register m b) s).state.status.code ≡ 0x45
      → (f (register m b) s).state.registers ≡ s.registers

unfoldable pub is_load : ℕ → State → Bool
is_load m s = both (is_set m) (both (leb 0x03 s.status.pointer) (ltb s.status.pointer 0x0F))

pub record LoadStays (f : Call → State → Outcome) : Type 0 where
  pub stays : (m b : ℕ) (s : State) → is_reset (register m b) s ≡ false → is_load m s ≡ false
      → (cdb_of (f (register m b) s).state ≡ cdb_of s) ⊎ (Translates (register m b) s × ((f (register m b) s).state.status.code ≡ 0x15))
