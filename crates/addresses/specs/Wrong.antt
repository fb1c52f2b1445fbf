-- Wrong steps, each the step with one mistake in Translate Address. proofs/Refuted.antt refutes a law of each.
--   cuts           the cylinder is compared and written as its low 16 bits: cylinder 10000h counts as 0
--   cuts_heads      the head is compared and written as its low 8 bits
--   skips          the head reached is not compared
--   shrinks        the spares are taken off 0D/0Eh once more
--   believes       0D/0Eh is taken also where 0Ch is zero
--   smears         45h writes the place that is not there
--   strict         4096 cylinders with spares are refused
--   loose          the limits with spares are not asked
--   gives_up        every address gives 45h
--   agrees         every address gives 15h
--   counts_from_one  the first sector of a track is 1
--   turns          head and sector change places
--   clobbers       the low byte of the address, 0Ah, is cleared
--   lingers        the place is written, and INT does not come
--   mutters        an address that is not on the disk gives 40h
--   stalls         the place is written and told, and the write is answered Held
--   forgets        the read of 17h that gives 15h clears the place
--   scribbles      with a status unread, or while a command runs, 0Bh to 0Eh are written, and nothing is told
--   dirties        while connected and idle it raises 40h, and writes 0Bh to 0Eh
--   reaches        it is taken while connected and idle too
--   tramples       it is taken over a status that nobody has read
--   is_translation c s   the call c is a Translate Address that the step carries out in s
--   byte_of c            the byte that c writes
--   by t                the step, with t in the place of its translation; t gets registers 03 to 0Eh, and the state with 18h, LCI and PE as after
--                       every command that is taken. With the translation itself it is the step (`frame`, proofs/Frame.antt)
--   translates_by g r p  .. with the disk by g, refusals by r and places by p
use Rattle.std.specs.Prelude.{Bool, true, false, not, List, [], ℕ, suc, ◌-◌, ◌*◌, ◌%◌, eqb, leb, get_or, set}
use Rattle.chip.specs.Choice.{pick, both, either}
use Rattle.chip.specs.State.{set_cdb, set_activity}
use Rattle.chip.specs.Interrupts.{interrupted, busy, raise}
use Rattle.chip.specs.Translate.{Geometry, Physical, joined, geometry_of, address_of, head_of, divides_by_zero, is_beyond_cylinders, has_too_many_cylinders, has_too_many_heads, exceeds, physical_of, placed, translated_by}
use Rattle.chip.specs.Commands.{accepted}
use Rattle.chip.specs.Connections.{is_connected, is_disconnected}
use Rattle.chip.specs.Answers.{done}
use Rattle.chip.specs.Calls.{Call, Outcome, pointer, auxiliary, register, block, time, answer, reselection, request, free, plain, step}
use Rattle.chip.specs.declared.State.{State}
use Rattle.chip.specs.declared.Answer.TheVariants.{Held}
use Rattle.chip.specs.declared.Activity.TheVariants.{Idle}
use Rattle.unread.specs.Status.{is_command, reads_at}
use Rattle.unread.specs.Wrong.{instead}
use Rattle.addresses.specs.Places.{cdb_of}

unfoldable pub is_translation : Call → State → Bool
is_translation c s =
    both (is_command 0x18 c s) (both (is_disconnected s.wire.connection) (both (not (busy s)) (not (interrupted s))))

abbrev pub byte_of : Call → ℕ
byte_of (pointer m b) = b
byte_of auxiliary = 0
byte_of (register m b) = b
byte_of (block m l) = 0
byte_of (time n) = 0
byte_of answer = 0
byte_of (reselection lines) = 0
byte_of (request p b q) = 0
byte_of free = 0

unfoldable pub by : (List ℕ → State → State) → Call → State → Outcome
by t c s = pick (is_translation c s) (plain (done 0 (t (cdb_of s) (accepted (byte_of c) s)))) (step c s)

unfoldable pub translates_by : (List ℕ → Geometry) → (Geometry → ℕ → Bool) → (Geometry → ℕ → Physical) → Call → State → Outcome
unfolding by
translates_by geometry refuses place =
    by λ l s.
    pick (refuses (geometry l) (address_of l)) (raise 0x45 s) (raise 0x15 (set_cdb (placed (place (geometry l) (address_of l)) l) s))

-- the address that has the same low 16 bits of the cylinder
abbrev wrapped : Geometry → ℕ → ℕ
wrapped g n = n % (65536 * g.per_cylinder)

unfoldable pub cuts : Call → State → Outcome
unfolding translates_by
cuts = translates_by geometry_of (λ g n. exceeds g (wrapped g n)) (λ g n. physical_of g (wrapped g n))

abbrev with_per_cylinder : ℕ → Geometry → Geometry
with_per_cylinder x g =
    record { sectors = g.sectors; heads = g.heads; cylinders = g.cylinders; per_cylinder = x; has_spares = g.has_spares }

abbrev without_spares : Geometry → Geometry
without_spares g =
    record { sectors = g.sectors; heads = g.heads; cylinders = g.cylinders; per_cylinder = g.per_cylinder; has_spares = false }

abbrev with_head : ℕ → Physical → Physical
with_head x p = record { cylinder = p.cylinder; head = x; sector = p.sector }

-- the reasons for 45h, with another test of the head
abbrev heads_by : (Geometry → ℕ → Bool) → Geometry → ℕ → Bool
heads_by test g n =
    either (divides_by_zero g)
    (either (test g n) (either (is_beyond_cylinders g n) (either (has_too_many_cylinders g) (has_too_many_heads g))))

unfoldable pub cuts_heads : Call → State → Outcome
unfolding translates_by
cuts_heads =
    translates_by geometry_of (heads_by (λ g n. leb g.heads (head_of g n % 256))) (λ g n. with_head (head_of g n % 256) (physical_of g n))

unfoldable pub skips : Call → State → Outcome
unfolding translates_by
skips = translates_by geometry_of (heads_by (λ g n. false)) physical_of

unfoldable pub shrinks : Call → State → Outcome
unfolding translates_by
shrinks = translates_by (λ l. with_per_cylinder ((geometry_of l).per_cylinder - get_or l 9 0) (geometry_of l)) exceeds physical_of

unfoldable pub believes : Call → State → Outcome
unfolding translates_by
believes = translates_by (λ l. with_per_cylinder (joined (get_or l 10 0) (get_or l 11 0)) (geometry_of l)) exceeds physical_of

unfoldable pub smears : Call → State → Outcome
unfolding by
smears =
    by λ l s.
    pick (exceeds (geometry_of l) (address_of l)) (raise 0x45 (set_cdb (placed (physical_of (geometry_of l) (address_of l)) l) s))
    (translated_by l s)

unfoldable pub strict : Call → State → Outcome
unfolding translates_by
strict = translates_by geometry_of (λ g n. either (exceeds g n) (both g.has_spares (leb 4096 g.cylinders))) physical_of

unfoldable pub loose : Call → State → Outcome
unfolding translates_by
loose = translates_by (λ l. without_spares (geometry_of l)) exceeds physical_of

unfoldable pub gives_up : Call → State → Outcome
unfolding translates_by
gives_up = translates_by geometry_of (λ g n. true) physical_of

unfoldable pub agrees : Call → State → Outcome
unfolding translates_by
agrees = translates_by geometry_of (λ g n. false) physical_of

unfoldable pub counts_from_one : Call → State → Outcome
unfolding translates_by
counts_from_one =
    translates_by geometry_of exceeds
    (λ g n. record { cylinder = (physical_of g n).cylinder; head = (physical_of g n).head; sector = suc (physical_of g n).sector })

unfoldable pub turns : Call → State → Outcome
unfolding translates_by
turns =
    translates_by geometry_of exceeds
    (λ g n. record { cylinder = (physical_of g n).cylinder; head = (physical_of g n).sector; sector = (physical_of g n).head })

unfoldable pub clobbers : Call → State → Outcome
unfolding by
clobbers = by λ l s. set_cdb (set (translated_by l s).registers.descriptor.cdb 7 0) (translated_by l s)

unfoldable pub lingers : Call → State → Outcome
unfolding by
lingers = by λ l s. set_activity Idle (translated_by l s)

unfoldable pub mutters : Call → State → Outcome
unfolding by
mutters = by λ l s. pick (exceeds (geometry_of l) (address_of l)) (raise 0x40 s) (translated_by l s)

unfoldable pub stalls : Call → State → Outcome
stalls c s =
    pick (is_translation c s)
    (record { answer = Held; state = translated_by (cdb_of s) (accepted (byte_of c) s); lent = [] })
    (step c s)

-- the place over 0Bh to 0Eh, whatever it is
abbrev scrawled : State → State
scrawled s = set_cdb (placed (physical_of (geometry_of (cdb_of s)) (address_of (cdb_of s))) (cdb_of s)) s

unfoldable pub reaches : Call → State → Outcome
reaches c s =
    pick
    (both (is_command 0x18 c s) (both (is_connected s.wire.connection) (both (not (busy s)) (not (interrupted s)))))
    (plain (done 0 (translated_by (cdb_of s) (accepted (byte_of c) s))))
    (step c s)

unfoldable pub tramples : Call → State → Outcome
tramples c s =
    pick (both (is_command 0x18 c s) (both (is_disconnected s.wire.connection) (interrupted s)))
    (plain (done 0 (translated_by (cdb_of s) (accepted (byte_of c) s))))
    (step c s)

-- the step, and then g where the call passes the test
abbrev also : (Call → State → Bool) → (State → State) → Call → State → Outcome
also test g c s =
    pick (test c s) (record { answer = (step c s).answer; state = g (step c s).state; lent = (step c s).lent }) (step c s)

unfoldable pub forgets : Call → State → Outcome
forgets =
    also (λ c s. both (reads_at 0x17 c s) (eqb s.status.code 0x15))
    (λ s. set_cdb (placed (record { cylinder = 0; head = 0; sector = 0 }) (cdb_of s)) s)

unfoldable pub scribbles : Call → State → Outcome
unfolding instead
scribbles = instead (λ c s. both (is_command 0x18 c s) (either (busy s) (interrupted s))) scrawled

unfoldable pub dirties : Call → State → Outcome
dirties =
    also
    (λ c s. both (is_command 0x18 c s) (both (is_connected s.wire.connection) (both (not (busy s)) (not (interrupted s))))) scrawled
