-- Each law refuses wrong steps: `Law wrong → ⊥`. What is wrong is said in specs/Wrong.antt.
--   straight_on_refused newest_first_refused overwrites_refused stops_short_refused   by AsBefore
--   newest_while_idle_refused                                                         by AsBefore, from a state that no calls lead to
--   leaks_refused dims_refused from_the_first_refused glows_refused                   by TellsNoPlaces: two alike states are told apart
--   loses_refused                                                                     by TellsNoPlaces: two alike states do not stay so
--   dims_moved                                                                        by AnyKeeping
--   calls_coming n   calls from a fresh controller that lead to a Transfer Info of Data In with the count n, the pointer at 19h
use Rattle.std.specs.Prelude.{Some}
use mathlib.Core.Path.{◌≡◌, refl, ap, sym}
use mathlib.Core.List.{List, [], ◌∷◌, ◌++◌}
use Prim.Native.Nat.{ℕ}
use native.Mathlib.Omega.{arith}
use lib.ListN.{get_or, replicate}
use Rattle.chip.specs.Answers.{value}
use Rattle.chip.specs.Before.{moved_up}
use Rattle.chip.specs.Calls.{Call, pointer, auxiliary, register, block, answer, request}
use Rattle.chip.specs.Entries as Entries
use Rattle.chip.specs.Fifo.{Whole}
use Rattle.chip.specs.Moves as Moves
use Rattle.chip.specs.State.{fresh, set_pointer, set_activity, set_connection, set_direction, set_reported, set_count, set_fifo}
use Rattle.chip.specs.declared.Activity.TheVariants.{Runs}
use Rattle.chip.specs.declared.Command.TheVariants.{TransferInfo}
use Rattle.chip.specs.declared.Connection.TheVariants.{Connected}
use Rattle.chip.specs.declared.Direction.TheVariants.{In}
use Rattle.chip.specs.declared.Fifo.{Fifo}
use Rattle.chip.specs.declared.Phase.TheVariants.{DataIn}
use Rattle.chip.specs.declared.State.{State}
use Rattle.chip.proofs.Before.{kept_as_before}
use Rattle.chip.proofs.Computing.{everything}
use Rattle.keeping.specs.Keeping as Keeping
use Rattle.keeping.specs.Keeping.{SameBytes, Alike, Told, TellsNoPlaces, AnyKeeping, AsBefore}
use Rattle.keeping.specs.Wrong.{straight_on, newest_first, newest_while_idle, overwrites, leaks, stops_short, dims, from_the_first, glows, loses}
use Rattle.keeping.proofs.Alike.{alike}

-- ---- by lists of calls

-- the value that the last call of a list tells
unfoldable last_value : ℕ → List Told → ℕ
last_value n [] = n
last_value n (t ∷ l) = last_value (value t.answer) l

-- one word that opens what a list of calls tells
unfoldable calls : Unit {0}
unfolding everything Keeping.told_by moved_up last_value Entries.line_bits Entries.connection_bits
calls = tt

abbrev pub calls_coming : ℕ → List Call
calls_coming n =
    pointer 1 0x18
    ∷ register 1 0x07
    ∷ answer
    ∷ pointer 1 0x17
    ∷ register 0 0
    ∷ request 1 0 0
    ∷ pointer 1 0x17
    ∷ register 0 0
    ∷ pointer 1 0x14
    ∷ register 1 n
    ∷ pointer 1 0x18
    ∷ register 1 0x20
    ∷ pointer 1 0x19
    ∷ []

-- two bytes come in
abbrev two_in : List Call
two_in = calls_coming 2 ++ (request 1 0x11 0 ∷ request 1 0x12 0 ∷ [])

-- twelve bytes come in
abbrev twelve_in : List Call
twelve_in = calls_coming 13 ++ replicate 12 (request 1 0x11 0)

-- the thirteenth byte stands in the first place, and the end does not come there
pub straight_on_refused : AsBefore straight_on → ⊥
unfolding calls straight_on
straight_on_refused h =
    let z : ◌≡◌ {A = ℕ} 0 0x12 =
    ap (last_value 0) (h.from_fresh (twelve_in ++ (block 0 (replicate 11 0) ∷ register 0 0 ∷ request 1 0x12 0 ∷ register 0 0 ∷ []))) in
    omega arith

pub newest_first_refused : AsBefore newest_first → ⊥
unfolding calls newest_first Moves.reads_data
newest_first_refused h = let z : ◌≡◌ {A = ℕ} 0x12 0x11 = ap (last_value 0) (h.from_fresh (two_in ++ (register 0 0 ∷ []))) in omega arith

-- two bytes wait over an idle controller
pub newest_while_idle_refused : AsBefore newest_while_idle → ⊥
unfolding calls newest_while_idle Moves.reads_data
newest_while_idle_refused h =
    let q : Fifo = record { bytes = 0x11 ∷ 0x12 ∷ replicate 10 0; first = 0; held = 2 } in
    let z : ◌≡◌ {A = ℕ} 0x12 0x11 =
    ap (last_value 0)
    (h.anywhere (register 0 0 ∷ []) (set_fifo q (set_pointer 0x19 (set_direction In fresh)))
    (record { long = refl; place = omega arith; few = omega arith })) in
    omega arith

pub overwrites_refused : AsBefore overwrites → ⊥
unfolding calls overwrites
overwrites_refused h = let z : ◌≡◌ {A = ℕ} 0x12 0x11 = ap (last_value 0) (h.from_fresh (two_in ++ (register 0 0 ∷ []))) in omega arith

-- Held, and not Done
pub stops_short_refused : AsBefore stops_short → ⊥
unfolding calls stops_short
stops_short_refused h =
    let z : ◌≡◌ {A = ℕ} 0 0x12 = ap (last_value 0) (h.from_fresh (twelve_in ++ (register 0 0 ∷ request 1 0x12 0 ∷ []))) in omega arith

-- ---- by two alike states

-- the way is in, and the pointer at 19h
abbrev over : Fifo → State
over q = set_fifo q (set_pointer 0x19 (set_direction In fresh))

-- no byte waits, and b stands in the first place
abbrev dead : ℕ → Fifo
dead b = record { bytes = b ∷ replicate 11 0; first = 0; held = 0 }

dead_whole : (b : ℕ) → Whole (dead b)
dead_whole b = record { long = refl; place = omega arith; few = omega arith }

pub leaks_refused : TellsNoPlaces leaks → ⊥
unfolding calls leaks
leaks_refused h =
    let g : SameBytes (dead 0x11) (dead 0x12) = record { left = dead_whole 0x11; right = dead_whole 0x12; bytes = refl } in
    let z : ◌≡◌ {A = ℕ} 0x11 0x12 =
    ap (λ (t : Told). value t.answer) (h.tells (register 0 0) (over (dead 0x11)) (over (dead 0x12)) (alike g)) in
    omega arith

-- 11h waits, in the first place or in the last
abbrev in_first : Fifo
in_first = record { bytes = 0x11 ∷ replicate 11 0; first = 0; held = 1 }

abbrev in_last : Fifo
in_last = record { bytes = replicate 11 0 ++ (0x11 ∷ []); first = 11; held = 1 }

first_or_last : SameBytes in_first in_last
unfolding everything
first_or_last =
    record {
      left = record { long = refl; place = omega arith; few = omega arith };
      right = record { long = refl; place = omega arith; few = omega arith };
      bytes = refl;
    }

pub dims_refused : TellsNoPlaces dims → ⊥
unfolding calls dims
dims_refused h =
    let z : ◌≡◌ {A = ℕ} 1 0 =
    ap (λ (t : Told). value t.answer) (h.tells auxiliary (over in_first) (over in_last) (alike first_or_last)) in
    omega arith

pub from_the_first_refused : TellsNoPlaces from_the_first → ⊥
unfolding calls from_the_first
from_the_first_refused h =
    let z : ◌≡◌ {A = ℕ} 0x11 0 =
    ap (λ (t : Told). get_or t.lent 0 0) (h.tells (block 0 (0 ∷ [])) (over in_first) (over in_last) (alike first_or_last)) in
    omega arith

pub glows_refused : TellsNoPlaces glows → ⊥
unfolding calls glows
glows_refused h =
    let z : ◌≡◌ {A = ℕ} 0 64 = ap (λ (t : Told). t.lines) (h.tells auxiliary (over in_first) (over in_last) (alike first_or_last)) in
    omega arith

-- .. under a Transfer Info of Data In
abbrev coming : Fifo → State
coming q = set_connection Connected (set_activity (Runs TransferInfo) (set_reported (Some DataIn) (set_count 2 (over q))))

pub loses_refused : TellsNoPlaces loses → ⊥
unfolding calls loses
loses_refused h =
    let a : Alike _ _ = h.leads (request 1 0x12 0) (coming in_first) (coming in_last) (alike first_or_last) in
    let z : ◌≡◌ {A = ℕ} 0x12 0 = ap (λ (l : List ℕ). get_or l 1 0) a.fifo.bytes in
    omega arith

-- ---- by bytes that are moved about

-- over the old keeping DBR stays on
pub dims_moved : AnyKeeping dims → ⊥
unfolding calls dims
dims_moved h =
    let z : ◌≡◌ {A = ℕ} 0x20 0x21 =
    ap (last_value 0) (h (λ c s. moved_up) (λ c s. moves) (two_in ++ (register 0 0 ∷ auxiliary ∷ [])) fresh fresh (alike begins)) in
    omega arith
  where
    moves : (q : Fifo) → Whole q → SameBytes q (moved_up q)
    moves q u = record { left = u; right = kept_as_before.whole q u; bytes = sym (kept_as_before.bytes q u) }

    begins : SameBytes fresh.fifo fresh.fifo
    begins = record { left = dead_whole 0; right = dead_whole 0; bytes = refl }
