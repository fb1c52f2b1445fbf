-- The promise, and the table of the connection, refuse the wrong steps of specs/Wrong.antt: `Law wrong → ⊥`, each at calls that a fresh controller comes to.
--   late_moves intrudes_moves swallows_taken ticks_moves drops_moves   by StillBus
--   late_lies intrudes_lies swallows_lies startles_runs hangs_up_lies  by StatusBelongs
--   hides_silent misleads_unheard unblinds_stale                       by StatusBelongs
--   late_answered poaches_answered impatient_early dawdles_hangs       by TimedOutIsTrue
--   hollow_parts sticky_stays eager_selects poaches_selects nods_taken barges_taken   by ConnectionGoes
--   late_wound   what a driver then reads of the disk that has answered: connected, and 42h
use mathlib.Core.Path.{◌≡◌, refl, ap}
use mathlib.Core.Bool.{false}
use mathlib.Core.List.{List, [], ◌∷◌, ◌++◌}
use mathlib.Core.Logic.{◌⊎◌, inl, inr, ⊎_elim}
use Prim.Native.Nat.{ℕ, ◌+◌, ◌≤◌}
use native.Mathlib.Omega.{arith}
use Rattle.chip.specs.State.{fresh}
use Rattle.chip.specs.Lines.{bit}
use Rattle.chip.specs.Answers.{number, value}
use Rattle.chip.specs.Activity.{is_ending}
use Rattle.chip.specs.Interrupts.{interrupted, in_ending}
use Rattle.chip.specs.Connections.{is_connected, is_disconnected, is_selecting}
use Rattle.chip.specs.Calls.{Call, Outcome, pointer, auxiliary, register, time, answer, reselection, free, step, run}
use Rattle.chip.specs.declared.State.{State}
use Rattle.chip.specs.declared.Wire.{Wire}
use Rattle.chip.specs.declared.Connection.TheVariants.{Disconnected, Selecting, Connected}
use Rattle.chip.proofs.Computing.{everything}
use Rattle.unread.specs.Status.{is_command, is_reset, is_selection, reads_at, raised}
use Rattle.unread.specs.Codes.{Selects}
use Rattle.unread.specs.Wrong.{instead, drops, eager}
use Rattle.unread.proofs.Choosing.{clash}
use Rattle.unread.proofs.Pendings.{int_by, end_by}
use Rattle.unread.proofs.Because.{raised_because, ending_because}
use Rattle.unread.proofs.Codes.{before, before_one, since_last, since_back}
use Rattle.unread.proofs.Refuted.{calls_ending}
use Rattle.belongs.specs.StillBus.{StillBus}
use Rattle.belongs.specs.Belongs.{Causes, at_once, to_come, StatusBelongs}
use Rattle.belongs.specs.TimedOut.{Waited, begun, passed, TimedOutIsTrue}
use Rattle.belongs.specs.Connection as C
use Rattle.belongs.specs.Connection.{Goes, ConnectionGoes, lets_go}
use Rattle.belongs.proofs.Taken.{row_taken}
use Rattle.belongs.specs.Wrong.{late, intrudes, swallows, ticks, startles, hangs_up, hides, misleads, unblinds, dawdles, impatient, poaches, nods, barges, hollow, sticky}

-- a timeout of 1, a Select, and one unit passes: 42h, unread
abbrev calls_timed_out : List Call
calls_timed_out = pointer 1 0x02 ∷ register 1 0x01 ∷ pointer 1 0x18 ∷ register 1 0x06 ∷ time 1 ∷ []

-- a Select, and the Target answers: 11h, unread
abbrev calls_selected : List Call
calls_selected = pointer 1 0x18 ∷ register 1 0x07 ∷ answer ∷ []

pub late_wound : ◌≡◌ {A = List ℕ}
    (bit (is_connected (run late (calls_timed_out ++ (answer ∷ [])) fresh).wire.connection)
    ∷ value (late (register 0 0) (run late (calls_timed_out ++ (answer ∷ pointer 1 0x17 ∷ [])) fresh)).answer
    ∷ [])
    (1 ∷ 0x42 ∷ [])
unfolding everything run late instead
late_wound = refl

pub late_moves : StillBus late → ⊥
unfolding everything run late instead
late_moves h = clash refl (ap (λ (t : State). is_connected t.wire.connection) (h answer (run late calls_timed_out fresh) refl refl).same)

pub intrudes_moves : StillBus intrudes → ⊥
unfolding everything run intrudes instead
intrudes_moves h = clash refl (ap (λ (t : State). is_connected t.wire.connection) (h (reselection 0) (run intrudes calls_timed_out fresh) refl refl).same)

pub swallows_taken : StillBus swallows → ⊥
unfolding everything run swallows instead
swallows_taken h = clash (h free (run swallows calls_selected fresh) refl refl).not_taken refl

pub ticks_moves : StillBus ticks → ⊥
unfolding everything run ticks instead
ticks_moves h =
    let z : ◌≡◌ {A = ℕ} 1 0 = ap (λ (t : State). t.wire.elapsed) (h (time 1) (run ticks calls_timed_out fresh) refl refl).same in omega arith

pub drops_moves : StillBus drops → ⊥
unfolding everything run drops instead
drops_moves h = clash (ap (λ (t : State). is_ending t.activity) (h (time 1) (run drops calls_ending fresh) refl refl).same) refl

-- a call that raises no code, and begins no ending, is the cause of none
no_cause : (c : Call) (s : State) {k : ℕ} → raised c s (step c s).state ≡ false → in_ending (step c s).state ≡ false
    → Causes c s k → ⊥
no_cause c s {k} n e (at_once b o) = clash (raised_because.complete c s k b) n
no_cause c s {k} n e (to_come b) = clash (end_by (step c s).state (ending_because.complete c s k b)) e

-- the last call neither is the cause of the code nor leaves it undisturbed

pub late_lies : StatusBelongs late → ⊥
unfolding everything run late instead raised is_reset is_command
late_lies h =
    since_last auxiliary (no_cause answer (run late calls_timed_out fresh) refl refl)
    (λ u. clash refl (ap (λ (t : State). is_connected t.wire.connection) (u.still refl).same))
    (h.belongs (calls_timed_out ++ (answer ∷ [])) refl)

pub intrudes_lies : StatusBelongs intrudes → ⊥
unfolding everything run intrudes instead raised is_reset is_command
intrudes_lies h =
    since_last auxiliary (no_cause (reselection 0) (run intrudes calls_timed_out fresh) refl refl)
    (λ u. clash refl (ap (λ (t : State). is_connected t.wire.connection) (u.still refl).same))
    (h.belongs (calls_timed_out ++ (reselection 0 ∷ [])) refl)

pub swallows_lies : StatusBelongs swallows → ⊥
unfolding everything run swallows instead raised is_reset is_command
swallows_lies h =
    since_last auxiliary (no_cause free (run swallows calls_selected fresh) refl refl) (λ u. clash (u.still refl).not_taken refl)
    (h.belongs (calls_selected ++ (free ∷ [])) refl)

pub startles_runs : StatusBelongs startles → ⊥
unfolding everything run startles reads_at
startles_runs h =
    let z : ◌≡◌ {A = ℕ} 5 0 = (h.given (calls_selected ++ (pointer 1 0x17 ∷ [])) (register 0 0) refl refl).command.running in omega arith

pub hangs_up_lies : StatusBelongs hangs_up → ⊥
unfolding everything run hangs_up reads_at
hangs_up_lies h =
    clash refl (ap (λ (w : Wire). is_disconnected w.connection) (h.given (calls_selected ++ (pointer 1 0x17 ∷ [])) (register 0 0) refl refl).bus)

pub hides_silent : StatusBelongs hides → ⊥
unfolding everything run hides instead
hides_silent h = let z : ◌≡◌ {A = ℕ} 0 0x80 = ap value (h.shown calls_selected) in omega arith

pub misleads_unheard : StatusBelongs misleads → ⊥
unfolding everything run misleads
misleads_unheard h = let z : ◌≡◌ {A = ℕ} 0 0x11 = ap value (h.heard calls_selected refl) in omega arith

-- 42h is read; a Select-And-Transfer, and its Target answers; the pointer goes to 17h
abbrev calls_serving : List Call
calls_serving =
    calls_timed_out
    ++ (pointer 1 0x17 ∷ register 0 0 ∷ pointer 1 0x18 ∷ register 1 0x08 ∷ answer ∷ pointer 1 0x17 ∷ [])

pub unblinds_stale : StatusBelongs unblinds → ⊥
unfolding everything run unblinds reads_at
unblinds_stale h = let z : ◌≡◌ {A = ℕ} 0x42 0xFF = ap value (h.hushed calls_serving (register 0 0) refl refl) in omega arith

pub late_answered : TimedOutIsTrue late → ⊥
unfolding everything run late instead
late_answered h = clash (ap is_disconnected (h.apart (calls_timed_out ++ (answer ∷ [])) refl refl)) refl

-- a timeout of 3; a selection that is aborted after two units; the next one is over after one
abbrev calls_aborted : List Call
calls_aborted =
    pointer 1 0x02 ∷ register 1 0x03 ∷ pointer 1 0x18 ∷ register 1 0x06 ∷ time 2 ∷ register 1 0x01 ∷ pointer 1 0x17 ∷ register 0 0
    ∷ pointer 1 0x18 ∷ register 1 0x06 ∷ []

waited_end : {f : Call → State → Outcome} {n : ℕ} {l : List Call} → Waited f n l
    → (n ≡ 0) ⊎ ((run f (before l) fresh).wire.connection ≡ Selecting)
waited_end (begun l c b) = inl refl
waited_end (passed l c w y a) = inr (rw (before_one c l) y)

pub impatient_early : TimedOutIsTrue impatient → ⊥
unfolding everything run impatient is_selection is_command is_reset raised
impatient_early h =
    let r = h.ran_out calls_aborted (time 1) (record { raises = refl; code = refl }) in
    let o : 3 ≤ r.waited + 1 = r.over in
    ⊎_elim (λ e. omega (arith, o)) (λ e. clash (ap is_selecting e) refl) (waited_end r.selected)

-- a Select-And-Transfer, the Target answers; a Select is written; one unit passes
abbrev calls_poached : List Call
calls_poached = pointer 1 0x02 ∷ register 1 0x01 ∷ pointer 1 0x18 ∷ register 1 0x08 ∷ answer ∷ register 1 0x06 ∷ time 1 ∷ []

-- back from 42h to the Answer that was taken: neither the Time nor that Select begins a selection
pub poaches_answered : TimedOutIsTrue poaches → ⊥
unfolding everything run poaches instead is_selection is_command
poaches_answered h =
    ⊎_elim (λ b. clash b.command refl)
    (λ x. ⊎_elim (λ b. clash (ap is_disconnected b.apart) refl)
    (λ y. ⊎_elim (λ b. clash b.command refl) (λ z. clash (z.0 refl) refl) (since_back auxiliary y.1))
    (since_back auxiliary x.1))
    (since_back auxiliary (h.nobody calls_poached refl refl))

-- who is connected

pub hollow_parts : ConnectionGoes hollow → ⊥
unfolding everything run hollow instead
hollow_parts h =
    clash (ap is_connected (h.complete (pointer 1 0x18 ∷ register 1 0x07 ∷ []) answer Connected (C.answers refl refl))) refl

-- a Select, the Target answers, and the host reads 11h
pub sticky_stays : ConnectionGoes sticky → ⊥
unfolding everything run sticky instead lets_go
sticky_stays h =
    clash
    (ap is_disconnected (h.complete (calls_selected ++ (pointer 1 0x17 ∷ register 0 0 ∷ [])) free Disconnected (C.frees refl refl refl)))
    refl

-- only a Disconnected controller selects
selects_apart : {c : Call} {s : State} → Goes c s Selecting → s.wire.connection ≡ Disconnected
selects_apart (C.selects k e w q i x v) = x

-- .. with nothing unread
selects_quiet : {c : Call} {s : State} → Goes c s Selecting → interrupted s ≡ false
selects_quiet {s = s} (C.selects k e w q i x v) = int_by s q

-- 42h is unread
pub eager_selects : ConnectionGoes eager → ⊥
unfolding everything run eager instead is_selection
eager_selects h =
    ⊎_elim (λ e. clash (ap is_disconnected e) refl) (λ g. clash refl (selects_quiet g)) (h.sound calls_timed_out (register 1 0x06))

-- a Select-And-Transfer, and the Target answers
pub poaches_selects : ConnectionGoes poaches → ⊥
unfolding everything run poaches instead is_selection
poaches_selects h =
    ⊎_elim (λ e. clash (ap is_connected e) refl) (λ g. clash (ap is_disconnected (selects_apart g)) refl)
    (h.sound (pointer 1 0x18 ∷ register 1 0x09 ∷ answer ∷ []) (register 1 0x06))

-- Out of place, where the step refuses, is not Done
no_row : ◌≡◌ {A = ℕ} 2 0 → ⊥
no_row z = omega arith

-- the table has no row for these two: the step itself refuses them
pub nods_taken : ConnectionGoes nods → ⊥
unfolding everything run nods instead
nods_taken h =
    clash (h.elsewhere (calls_timed_out ++ (pointer 1 0x17 ∷ register 0 0 ∷ [])) answer refl (λ x g. no_row (ap number (row_taken refl g)))).not_taken
    refl

-- the host's identity is 7, and reselection is enabled; a Select, the Target answers, and the host reads 11h
abbrev calls_enabled : List Call
calls_enabled =
    pointer 1 0x00 ∷ register 1 0x07 ∷ pointer 1 0x18 ∷ register 1 0x00 ∷ pointer 1 0x17 ∷ register 0 0 ∷ pointer 1 0x16
    ∷ register 1 0x80 ∷ (calls_selected ++ (pointer 1 0x17 ∷ register 0 0 ∷ []))

-- the disk with identity 3 reselects the host
pub barges_taken : ConnectionGoes barges → ⊥
unfolding everything run barges instead
barges_taken h = clash (h.elsewhere calls_enabled (reselection 0x88) refl (λ x g. no_row (ap number (row_taken refl g)))).not_taken refl

-- a timeout of 2, a Select
abbrev calls_calling : List Call
calls_calling = pointer 1 0x02 ∷ register 1 0x02 ∷ pointer 1 0x18 ∷ []

-- one unit has passed, and one more makes two
pub dawdles_hangs : TimedOutIsTrue dawdles → ⊥
unfolding everything run dawdles is_selection is_command is_reset raised
dawdles_hangs h =
    let b : Selects dawdles (register 1 0x06) (run dawdles calls_calling fresh) =
    record { command = refl; apart = refl; idle = refl; all_told = refl; selecting = refl } in
    let w : Waited dawdles 1 (calls_calling ++ (register 1 0x06 ∷ time 1 ∷ [])) =
    passed (calls_calling ++ (register 1 0x06 ∷ [])) (time 1) (begun calls_calling (register 1 0x06) b) refl refl in
    clash (h.comes (calls_calling ++ (register 1 0x06 ∷ time 1 ∷ [])) 1 1 refl w refl refl (omega arith)).raises refl
