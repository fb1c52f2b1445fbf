-- The laws refuse the wrong steps of specs/Wrong.antt: `Law wrong → ⊥`, each at calls that a fresh controller comes to.
--   cuts_doubles forgets_doubles                          by SamePlaceSameAddress
--   cuts_heads_lies skips_lies loose_lies agrees_lies     by PlacesRight: 15h for a place that is not there
--   shrinks_strays believes_strays counts_strays turns_strays   .. another place than the address has
--   strict_refuses gives_up_refuses                       .. 45h for a place that is there
--   mutters_otherwise                                     .. another code
--   smears_writes clobbers_writes lingers_waits stalls_held   by LeavesTheRest
--   forgets_clears scribbles_writes dirties_writes        by LoadStays
--   reaches_connected tramples_unread                     by CodesOnlyBy
--   any_disk_doubles   and the controller itself refuses SamePlaceOnAnyDisk: the claim is for one disk
use mathlib.Core.Path.{◌≡◌, refl, sym, ap}
use mathlib.Core.Bool.{Bool, true}
use mathlib.Core.List.{List, [], ◌∷◌, ◌++◌}
use mathlib.Core.Logic.{inl, ⊎_elim}
use Prim.Native.Nat.{ℕ, zero, suc}
use native.Mathlib.Omega.{arith}
use lib.Dec.{eqb, ltb}
use lib.ListN.{get_or}
use borrow.Author.Tests.{ltb-true}
use Rattle.chip.specs.Choice.{both}
use Rattle.chip.specs.Ok.{Bytes}
use Rattle.chip.specs.Answers.{number}
use Rattle.chip.specs.State.{fresh}
use Rattle.chip.specs.Activity.{is_interrupt}
use Rattle.chip.specs.Connections.{is_disconnected}
use Rattle.chip.specs.Registers.{register_at}
use Rattle.chip.specs.Translate.{Physical, geometry_of, address_of}
use Rattle.chip.specs.Calls.{Call, pointer, register, answer, step, run}
use Rattle.chip.specs.declared.State.{State}
use Rattle.chip.specs.declared.Answer.{Answer}
use Rattle.chip.specs.declared.Registers.{Registers}
use Rattle.chip.proofs.Cases.{both_first, both_second}
use Rattle.chip.proofs.Computing.{everything}
use Rattle.chip.proofs.Translate.{within}
use Rattle.unread.specs.Status.{is_command, is_reset, reads_at, raised}
use Rattle.unread.specs.Codes.{CodesOnlyBy}
use Rattle.unread.specs.Wrong.{instead}
use Rattle.unread.proofs.Choosing.{clash}
use Rattle.unread.proofs.Pendings.{int_by}
use Rattle.addresses.specs.Places.{Lies, PlacesRight, LeavesTheRest, is_load, LoadStays}
use Rattle.addresses.specs.SamePlace.{written, told, PlaceRead, SamePlaceSameAddress, SamePlaceOnAnyDisk}
use Rattle.addresses.proofs.Places.{lies}
use Rattle.addresses.specs.Wrong.{is_translation, by, translates_by, cuts, cuts_heads, skips, shrinks, believes, smears, strict, loose, gives_up, agrees, counts_from_one, turns, clobbers, lingers, mutters, stalls, forgets, scribbles, dirties, reaches, tramples}

-- registers 03 to 0Eh loaded, the pointer at 18h
abbrev loads : List ℕ → List Call
loads l = pointer 1 0x03 ∷ written l ++ (pointer 1 0x18 ∷ [])

-- a list of numbers that are bytes

unfoldable are_bytes : List ℕ → Bool
are_bytes [] = true
are_bytes (b ∷ l) = both (ltb b 256) (are_bytes l)

bytes : (l : List ℕ) → are_bytes l ≡ true → Bytes l
unfolding are_bytes
bytes [] e k = omega arith
bytes (b ∷ l) e zero = ltb-true b 256 (both_first _ _ e)
bytes (b ∷ l) e (suc k) = bytes l (both_second (ltb b 256) _ e) k

-- two addresses for which a driver reads the same place

-- one sector on a track, one head, 65535 cylinders: the addresses 0 and 10000h
abbrev narrow : ℕ → List ℕ
narrow high = 1 ∷ 1 ∷ 255 ∷ 255 ∷ 0 ∷ high ∷ 0 ∷ 0 ∷ 0 ∷ 0 ∷ 0 ∷ 0 ∷ []

-- the address n on a disk of so many sectors on a track, 4 heads and 615 cylinders
abbrev disk : ℕ → ℕ → List ℕ
disk sectors n = sectors ∷ 4 ∷ 2 ∷ 0x67 ∷ 0 ∷ 0 ∷ 0 ∷ n ∷ 0 ∷ 0 ∷ 0 ∷ 0 ∷ []

abbrev first_of_all : PlaceRead
first_of_all = record { sector = 0; head = 0; cylinder_high = 0; cylinder_low = 0 }

abbrev first_of_head_one : PlaceRead
first_of_head_one = record { sector = 0; head = 1; cylinder_high = 0; cylinder_low = 0 }

pub cuts_doubles : SamePlaceSameAddress cuts → ⊥
unfolding everything told cuts translates_by by is_translation is_command are_bytes
cuts_doubles h =
    clash refl
    (ap (λ (n : ℕ). eqb n 0)
    (h.same [] [] (narrow 0) (narrow 1) 0x18 0x18 first_of_all (record { apart = refl; idle = refl }) (record { apart = refl; idle = refl })
    (record { long = refl; bytes = bytes (narrow 0) refl }) (record { long = refl; bytes = bytes (narrow 1) refl })
    (record { byte = omega arith; code = refl }) (record { byte = omega arith; code = refl })
    (record { sectors = refl; heads = refl; cylinders_high = refl; cylinders_low = refl; spares = refl; per_cylinder_high = λ e. refl; per_cylinder_low = λ e. refl })
    refl refl))

pub forgets_doubles : SamePlaceSameAddress forgets → ⊥
unfolding everything told forgets is_command reads_at are_bytes
forgets_doubles h =
    clash refl
    (ap (λ (n : ℕ). eqb n 17)
    (h.same [] [] (disk 17 17) (disk 17 18) 0x18 0x18 first_of_all (record { apart = refl; idle = refl }) (record { apart = refl; idle = refl })
    (record { long = refl; bytes = bytes (disk 17 17) refl }) (record { long = refl; bytes = bytes (disk 17 18) refl })
    (record { byte = omega arith; code = refl }) (record { byte = omega arith; code = refl })
    (record { sectors = refl; heads = refl; cylinders_high = refl; cylinders_low = refl; spares = refl; per_cylinder_high = λ e. refl; per_cylinder_low = λ e. refl })
    refl refl))

-- the first sector of head 1 is number 17 on a disk of 17 sectors, and number 18 on one of 18
pub any_disk_doubles : SamePlaceOnAnyDisk step → ⊥
unfolding everything told are_bytes
any_disk_doubles h =
    clash refl
    (ap (λ (n : ℕ). eqb n 17)
    (h.same [] [] (disk 17 17) (disk 18 18) 0x18 0x18 first_of_head_one (record { apart = refl; idle = refl }) (record { apart = refl; idle = refl })
    (record { long = refl; bytes = bytes (disk 17 17) refl }) (record { long = refl; bytes = bytes (disk 18 18) refl })
    (record { byte = omega arith; code = refl }) (record { byte = omega arith; code = refl }) refl refl))

-- 15h for a place that is not there

-- one head of one sector on 16 cylinders, spares, 512 sectors on a cylinder: address 256 would be on head 256
abbrev calls_high : List Call
calls_high = loads (1 ∷ 1 ∷ 0 ∷ 16 ∷ 0 ∷ 0 ∷ 1 ∷ 0 ∷ 0 ∷ 1 ∷ 2 ∷ 0 ∷ [])

pub cuts_heads_lies : PlacesRight cuts_heads → ⊥
unfolding everything cuts_heads translates_by by is_translation is_command
cuts_heads_lies h =
    let x = h.real 1 0x18 (run cuts_heads calls_high fresh) (record { command = refl; quiet = refl; idle = refl; apart = refl }) refl refl in
    omega (arith, x.1.address, x.2.head, x.2.sector, x.2.cylinder_high, x.2.cylinder_low)

-- two heads of two sectors, spares, ten sectors on a cylinder: address 4 would be on head 2
abbrev calls_head : List Call
calls_head = loads (2 ∷ 2 ∷ 0 ∷ 10 ∷ 0 ∷ 0 ∷ 0 ∷ 4 ∷ 0 ∷ 1 ∷ 0 ∷ 10 ∷ [])

pub skips_lies : PlacesRight skips → ⊥
unfolding everything skips translates_by by is_translation is_command
skips_lies h =
    let x = h.real 1 0x18 (run skips calls_head fresh) (record { command = refl; quiet = refl; idle = refl; apart = refl }) refl refl in
    omega (arith, x.1.head, x.2.head)

-- 4097 cylinders, spares
abbrev calls_many : List Call
calls_many = loads (17 ∷ 15 ∷ 0x10 ∷ 0x01 ∷ 0 ∷ 0 ∷ 0 ∷ 0 ∷ 0 ∷ 55 ∷ 0 ∷ 200 ∷ [])

pub loose_lies : PlacesRight loose → ⊥
unfolding everything loose translates_by by is_translation is_command
loose_lies h =
    let x = h.real 1 0x18 (run loose calls_many fresh) (record { command = refl; quiet = refl; idle = refl; apart = refl }) refl refl in
    omega (arith, (x.1.limits refl).cylinders)

-- 17 sectors, 4 heads, 615 cylinders: the address behind the last
abbrev calls_behind : List Call
calls_behind = loads (17 ∷ 4 ∷ 2 ∷ 0x67 ∷ 0 ∷ 0 ∷ 0xA3 ∷ 0x5C ∷ 0 ∷ 0 ∷ 0 ∷ 0 ∷ [])

pub agrees_lies : PlacesRight agrees → ⊥
unfolding everything agrees translates_by by is_translation is_command
agrees_lies h =
    let x = h.real 1 0x18 (run agrees calls_behind fresh) (record { command = refl; quiet = refl; idle = refl; apart = refl }) refl refl in
    omega (arith, x.1.cylinder, x.2.cylinder_high, x.2.cylinder_low)

-- another place than the address has

-- 17 sectors, 4 heads, two spares, so 66 sectors on a cylinder: address 65 is its last
abbrev with_spares : List ℕ
with_spares = 17 ∷ 4 ∷ 2 ∷ 0x67 ∷ 0 ∷ 0 ∷ 0 ∷ 65 ∷ 0 ∷ 2 ∷ 0 ∷ 66 ∷ []

abbrev calls_spares : List Call
calls_spares = loads with_spares

abbrev last_of_cylinder : Physical
last_of_cylinder = record { cylinder = 0; head = 3; sector = 14 }

cylinder_lies : Lies (geometry_of with_spares) (address_of with_spares) last_of_cylinder
unfolding everything
cylinder_lies = lies (geometry_of with_spares) (address_of with_spares) (within _ _ refl)

pub shrinks_strays : PlacesRight shrinks → ⊥
unfolding everything shrinks translates_by by is_translation is_command
shrinks_strays h =
    let x = h.found 1 0x18 (run shrinks calls_spares fresh) (record { command = refl; quiet = refl; idle = refl; apart = refl }) refl last_of_cylinder cylinder_lies in
    omega (arith, x.1.sector)

-- 17 sectors, 4 heads, no spares; 0D/0Eh holds 10: address 67 is the last of its cylinder
abbrev without_spares : List ℕ
without_spares = 17 ∷ 4 ∷ 2 ∷ 0x67 ∷ 0 ∷ 0 ∷ 0 ∷ 67 ∷ 0 ∷ 0 ∷ 0 ∷ 10 ∷ []

abbrev calls_none : List Call
calls_none = loads without_spares

abbrev last_of_full : Physical
last_of_full = record { cylinder = 0; head = 3; sector = 16 }

last_lies : Lies (geometry_of without_spares) (address_of without_spares) last_of_full
unfolding everything
last_lies = lies (geometry_of without_spares) (address_of without_spares) (within _ _ refl)

pub believes_strays : PlacesRight believes → ⊥
unfolding everything believes translates_by by is_translation is_command
believes_strays h =
    let x = h.found 1 0x18 (run believes calls_none fresh) (record { command = refl; quiet = refl; idle = refl; apart = refl }) refl last_of_full last_lies in
    omega (arith, x.1.head)

pub counts_strays : PlacesRight counts_from_one → ⊥
unfolding everything counts_from_one translates_by by is_translation is_command
counts_strays h =
    let x = h.found 1 0x18 (run counts_from_one calls_none fresh) (record { command = refl; quiet = refl; idle = refl; apart = refl }) refl last_of_full last_lies in
    omega (arith, x.1.sector)

pub turns_strays : PlacesRight turns → ⊥
unfolding everything turns translates_by by is_translation is_command
turns_strays h =
    let x = h.found 1 0x18 (run turns calls_none fresh) (record { command = refl; quiet = refl; idle = refl; apart = refl }) refl last_of_full last_lies in
    omega (arith, x.1.sector)

-- 45h for a place that is there

-- 4096 cylinders, spares: the first sector
abbrev largest : List ℕ
largest = 17 ∷ 15 ∷ 0x10 ∷ 0x00 ∷ 0 ∷ 0 ∷ 0 ∷ 0 ∷ 0 ∷ 55 ∷ 0 ∷ 200 ∷ []

abbrev calls_full : List Call
calls_full = loads largest

abbrev first_sector : Physical
first_sector = record { cylinder = 0; head = 0; sector = 0 }

first_lies : Lies (geometry_of largest) (address_of largest) first_sector
unfolding everything
first_lies = lies (geometry_of largest) (address_of largest) (within _ _ refl)

pub strict_refuses : PlacesRight strict → ⊥
unfolding everything strict translates_by by is_translation is_command
strict_refuses h =
    let x = h.found 1 0x18 (run strict calls_full fresh) (record { command = refl; quiet = refl; idle = refl; apart = refl }) refl first_sector first_lies in
    omega (arith, x.0)

pub gives_up_refuses : PlacesRight gives_up → ⊥
unfolding everything gives_up translates_by by is_translation is_command
gives_up_refuses h =
    let x = h.found 1 0x18 (run gives_up calls_full fresh) (record { command = refl; quiet = refl; idle = refl; apart = refl }) refl first_sector first_lies in
    omega (arith, x.0)

-- what it leaves

pub smears_writes : LeavesTheRest smears → ⊥
unfolding everything smears by is_translation is_command
smears_writes h =
    clash refl
    (ap (λ (r : Registers). eqb (register_at 0x0E r) 0)
    (sym (h.refused_kept 1 0x18 (run smears calls_behind fresh) (record { command = refl; quiet = refl; idle = refl; apart = refl }) refl)))

pub clobbers_writes : LeavesTheRest clobbers → ⊥
unfolding everything clobbers by is_translation is_command
clobbers_writes h =
    let x = h.kept 1 0x18 (run clobbers calls_none fresh) (record { command = refl; quiet = refl; idle = refl; apart = refl }) in
    omega (arith, x.registers 0x0A (inl (omega arith)))

pub lingers_waits : LeavesTheRest lingers → ⊥
unfolding everything lingers by is_translation is_command
lingers_waits h =
    clash refl
    (ap is_interrupt (sym (h.told 1 0x18 (run lingers calls_none fresh) (record { command = refl; quiet = refl; idle = refl; apart = refl }))))

-- where it is taken

-- selected, the Target has answered, 11h is read: connected and idle
abbrev calls_connected : List Call
calls_connected = pointer 1 0x18 ∷ register 1 0x06 ∷ answer ∷ pointer 1 0x17 ∷ register 0 0 ∷ []

-- .. with a disk in the registers
pub reaches_connected : CodesOnlyBy reaches → ⊥
unfolding everything reaches is_command is_reset raised
reaches_connected h =
    let l : List Call = calls_connected ++ loads (17 ∷ 4 ∷ 2 ∷ 0x67 ∷ []) in
    clash refl (ap is_disconnected (sym (h.by_translation l (register 1 0x18) (record { raises = refl; code = refl })).apart))

-- a Reset: its code is unread
abbrev calls_reset : List Call
calls_reset = pointer 1 0x18 ∷ register 1 0x00 ∷ []

pub tramples_unread : CodesOnlyBy tramples → ⊥
unfolding everything tramples is_command is_reset raised
tramples_unread h =
    let l : List Call = calls_reset in
    clash refl (int_by (run tramples l fresh) (h.by_failed_translation l (register 1 0x18) (record { raises = refl; code = refl })).quiet)

-- what is answered, and by which code

pub mutters_otherwise : PlacesRight mutters → ⊥
unfolding everything mutters by is_translation is_command
mutters_otherwise h =
    omega
    (arith, h.missing 1 0x18 (run mutters calls_behind fresh) (record { command = refl; quiet = refl; idle = refl; apart = refl }) (λ p l. omega (arith, l.address, l.on_cylinder, l.cylinder)))

pub stalls_held : LeavesTheRest stalls → ⊥
unfolding everything stalls is_translation is_command
stalls_held h =
    clash refl
    (ap (λ (a : Answer). eqb (number a) 0)
    (sym (h.done 1 0x18 (run stalls calls_none fresh) (record { command = refl; quiet = refl; idle = refl; apart = refl }))))

-- registers 03 to 0Eh, where no translation is carried out

pub forgets_clears : LoadStays forgets → ⊥
unfolding everything forgets is_command reads_at is_reset is_load
forgets_clears h =
    ⊎_elim (λ e. clash refl (ap (λ (l : List ℕ). eqb (get_or l 8 0) 0) e)) (λ x. clash x.0.command refl)
    (h.stays 0 0 (run forgets (calls_none ++ (register 1 0x18 ∷ pointer 1 0x17 ∷ [])) fresh) refl refl)

pub scribbles_writes : LoadStays scribbles → ⊥
unfolding everything scribbles instead is_command is_reset is_load
scribbles_writes h =
    let s : State = run scribbles (calls_reset ++ calls_none) fresh in
    ⊎_elim (λ e. clash refl (ap (λ (l : List ℕ). eqb (get_or l 8 0) 16) e)) (λ x. clash refl (int_by s x.0.quiet)) (h.stays 1 0x18 s refl refl)

pub dirties_writes : LoadStays dirties → ⊥
unfolding everything dirties is_command is_reset is_load
dirties_writes h =
    let s : State = run dirties (calls_connected ++ calls_none) fresh in
    ⊎_elim (λ e. clash refl (ap (λ (l : List ℕ). eqb (get_or l 8 0) 16) e)) (λ x. clash refl (ap is_disconnected (sym x.0.apart)))
    (h.stays 1 0x18 s refl refl)
