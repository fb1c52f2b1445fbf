-- Each law refuses a wrong step: `Law wrong → ⊥`. What is wrong is said in specs/Wrong.antt.
--   calls_filled calls_ending   calls from a fresh controller that lead to a byte that waits, and to an ending with it
--   hasty_refused peeking_refused eager_refused soft_refused misnames_refused   by UnreadStatusKept
--   mumbling_refused                                     by CodeMovesOnlyByRaising
--   hasty_loses peeking_hides eager_loses mumbling_lies misnames_lies forgetful_stale   by NoStatusLost
--   sluggish_refused hurried_refused                     by RaisedBecause
--   hurried_ends invents_refused                         by EndingBecause
--   meddling_refused                                     by EndingsBegun
--   deaf_refused                                         by SelectionsBegun
--   mistaken_refused deaf_times_out                      by CodesOnlyBy
--   drops_refused renames_refused spills_refused blanks_refused eats_refused hollows_refused shuts_refused   by EndingStays
--   drops_loses renames_lies                             by NoStatusLost
--   shrugs_refused                                       by EndingIsStill
use mathlib.Core.Path.{◌≡◌, refl, ap}
use mathlib.Core.List.{List, [], ◌∷◌, ◌++◌}
use mathlib.Core.Logic.{⊎_elim}
use Prim.Native.Nat.{ℕ}
use native.Mathlib.Omega.{arith}
use Rattle.chip.specs.State.{fresh, set_code, set_activity, set_pointer, set_timeout, set_connection, set_direction, set_count, set_fifo}
use Rattle.chip.specs.Interrupts.{is_incoming}
use Rattle.chip.specs.Activity.{is_ending, code_to_come}
use Rattle.chip.specs.Calls.{Call, pointer, auxiliary, register, time, answer, request, free, kind, run, step}
use Rattle.chip.specs.declared.State.{State}
use Rattle.chip.specs.declared.Fifo.{Fifo}
use Rattle.chip.specs.declared.Transfer.{Transfer}
use Rattle.chip.specs.declared.Answer.{Answer}
use Rattle.chip.specs.declared.Answer.TheVariants.{Done}
use Rattle.chip.specs.declared.Phase.TheVariants.{UnspecifiedOut}
use Rattle.chip.specs.declared.Activity.{Activity}
use Rattle.chip.specs.declared.Activity.TheVariants.{Interrupt, Runs}
use Rattle.chip.specs.declared.Connection.TheVariants.{Selecting, Connected}
use Rattle.chip.specs.declared.Command.TheVariants.{SelectWithoutAtn, TransferInfo}
use Rattle.chip.specs.declared.Direction.TheVariants.{In}
use Rattle.chip.proofs.Computing.{everything}
use Rattle.unread.specs.Status.{is_command, is_reset, is_selection, is_disconnect, is_dropped, reads_at, raised}
use Rattle.unread.specs.Unread.{UnreadStatusKept, CodeMovesOnlyByRaising}
use Rattle.unread.specs.History as H
use Rattle.unread.specs.History.{NoStatusLost, Orderly}
use Rattle.unread.specs.Because as B
use Rattle.unread.specs.Because.{ReadsLast, RaisedBecause, EndingBecause}
use Rattle.unread.specs.Ending.{is_data_read, EndingIsStill, EndingStays}
use Rattle.unread.specs.Codes.{EndingsBegun, Unanswered, SelectionsBegun, CodesOnlyBy}
use Rattle.unread.specs.Wrong as W
use Rattle.unread.specs.Wrong.{hasty, peeking, eager, mumbling, soft, misnames, forgetful, hurried, sluggish, mistaken, meddling, deaf, drops, renames, spills, shrugs, invents, blanks, eats, hollows, shuts}
use Rattle.unread.proofs.Choosing.{clash}
use Rattle.unread.proofs.Because.{because_row}
use Rattle.unread.proofs.Pendings.{is_int, is_end}
use Rattle.unread.proofs.Codes.{since_began, since_last, time_ends_nothing}
use Rattle.chip.specs.Fifo.{empty, push, waits}

-- a status 16h that nobody has read, with the pointer at a
abbrev unread_at : ℕ → State
unread_at a = set_pointer a (set_activity Interrupt (set_code 0x16 fresh))

pub hasty_refused : UnreadStatusKept hasty → ⊥
unfolding everything hasty W.changed is_reset is_command
hasty_refused h = let z : ◌≡◌ {A = ℕ} 0x42 0x16 = h.code_kept (time 0) (unread_at 0) refl refl in omega arith

pub peeking_refused : UnreadStatusKept peeking → ⊥
unfolding everything peeking W.changed reads_at
peeking_refused h = clash (h.int_kept auxiliary (unread_at 0) refl refl) refl

pub eager_refused : UnreadStatusKept eager → ⊥
unfolding everything eager W.instead is_selection reads_at
eager_refused h = clash (h.int_kept (register 1 0x06) (unread_at 0x18) refl refl) refl

pub soft_refused : UnreadStatusKept soft → ⊥
unfolding everything soft is_reset is_command
soft_refused h = clash (h.reset_tells (register 1 0) (set_pointer 0x18 fresh) refl) refl

pub misnames_refused : UnreadStatusKept misnames → ⊥
unfolding everything misnames is_reset is_command
misnames_refused h = let z : ◌≡◌ {A = ℕ} 0x16 0x00 = h.code_of_reset (register 1 0) (set_pointer 0x18 fresh) refl in omega arith

pub mumbling_refused : CodeMovesOnlyByRaising mumbling → ⊥
unfolding everything mumbling W.changed
mumbling_refused h = clash (h.int_with_code free fresh other_code) refl
  where
    other_code : ◌≡◌ {A = ℕ} 0x85 0x00 → ⊥
    other_code z = omega arith

nothing_unread : H.nothing ≡ H.unread → ⊥
nothing_unread e = let z : ◌≡◌ {A = ℕ} 0 1 = cc in omega arith

pub hasty_loses : NoStatusLost hasty → ⊥
unfolding everything hasty W.changed is_reset is_command is_disconnect reads_at raised H.history H.noted run
hasty_loses h = lost (h.orderly (time 0 ∷ []) (unread_at 0))
  where
    lost : Orderly 0x16 H.unread (H.raises 0x42 ∷ []) → ⊥
    lost o = elim o [ ]

pub peeking_hides : NoStatusLost peeking → ⊥
unfolding everything peeking W.changed is_reset is_command is_disconnect reads_at raised H.history H.noted run
peeking_hides h = nothing_unread (h.pending_is_owed (auxiliary ∷ []) (unread_at 0))

pub eager_loses : NoStatusLost eager → ⊥
unfolding everything eager W.instead is_selection is_reset is_command is_disconnect reads_at raised H.history H.noted run
eager_loses h = nothing_unread (h.pending_is_owed (register 1 0x06 ∷ []) (unread_at 0x18))

pub mumbling_lies : NoStatusLost mumbling → ⊥
unfolding everything mumbling W.changed is_reset is_command is_disconnect reads_at raised H.history H.noted run
mumbling_lies h = let z : ◌≡◌ {A = ℕ} 0x85 0x00 = h.code_is_last (free ∷ []) fresh in omega arith

pub misnames_lies : NoStatusLost misnames → ⊥
unfolding everything misnames is_reset is_command is_disconnect reads_at raised H.history H.noted run
misnames_lies h = let z : ◌≡◌ {A = ℕ} 0x16 0x00 = h.code_is_last (register 1 0 ∷ []) (set_pointer 0x18 fresh) in omega arith

pub forgetful_stale : NoStatusLost forgetful → ⊥
unfolding everything forgetful is_reset is_command is_disconnect reads_at raised H.history H.noted run
forgetful_stale h = stale (h.orderly (register 0 0 ∷ []) (unread_at 0x17))
  where
    stale : Orderly 0x16 H.unread (H.reads 0x00 ∷ []) → ⊥
    stale o = elim o [ ]

-- selecting, with a timeout of 1
abbrev calling : State
calling = set_timeout 1 (set_connection Selecting (set_activity (Runs SelectWithoutAtn) fresh))

pub sluggish_refused : RaisedBecause sluggish → ⊥
unfolding everything sluggish W.changed is_reset is_command raised
sluggish_refused h = clash (h.complete (time 1) calling 0x42 (B.times_out refl refl refl refl refl)) refl

-- Transfer Info coming in, with a byte left and one unread
abbrev filled : State
filled =
    set_connection Connected
    (set_activity (Runs TransferInfo) (set_direction In (set_count 1 (set_fifo (push 0 empty) fresh))))

pub hurried_refused : RaisedBecause hurried → ⊥
unfolding everything hurried is_reset is_command raised
hurried_refused h = clash refl (ap is_ending (because_row (h.sound free filled refl)).int)

pub hurried_ends : EndingBecause hurried → ⊥
unfolding everything hurried
hurried_ends h =
    clash refl (ap is_int (h.complete free filled 0x41 (B.brings_unread (B.cuts_info refl refl refl refl) refl)))

pub meddling_refused : EndingsBegun meddling → ⊥
unfolding everything meddling W.changed run
meddling_refused h = since_began (λ c s b. time_ends_nothing b) (h.begun (free ∷ []) 0x42 refl)

pub mistaken_refused : CodesOnlyBy mistaken → ⊥
unfolding everything mistaken W.changed is_reset is_command raised run
mistaken_refused h =
    let z : ◌≡◌ {A = ℕ} 5 4 = ap kind (h.by_time (pointer 1 0x18 ∷ register 1 0x07 ∷ []) answer (record { raises = refl; code = refl })).1 in
    omega arith

-- a timeout of 1, a Select, and an Answer
abbrev calls_answered : List Call
calls_answered = pointer 1 0x02 ∷ register 1 0x01 ∷ pointer 1 0x18 ∷ register 1 0x07 ∷ answer ∷ []

answered_since : Unanswered deaf calls_answered → ⊥
unfolding is_selection
answered_since = since_last auxiliary (λ b. clash b.command refl) (λ n. clash refl n.1)

pub deaf_refused : SelectionsBegun deaf → ⊥
unfolding everything deaf W.changed run
deaf_refused h = answered_since (h.begun calls_answered refl)

pub deaf_times_out : CodesOnlyBy deaf → ⊥
unfolding everything deaf W.changed is_reset is_command raised run
deaf_times_out h = answered_since (h.unanswered calls_answered (time 1) (record { raises = refl; code = refl }))

-- an ending

-- from a fresh controller: a Select-And-Transfer without ATN, the Target takes the command and sends one byte
abbrev pub calls_filled : List Call
calls_filled =
    pointer 1 0x14
    ∷ register 1 13
    ∷ pointer 1 0x18
    ∷ register 1 0x09
    ∷ answer
    ∷ request 2 0 0
    ∷ request 2 0 0
    ∷ request 2 0 0
    ∷ request 2 0 0
    ∷ request 2 0 0
    ∷ request 2 0 0
    ∷ request 1 0x5A 0
    ∷ []

-- .. and then it asks for a phase that is not expected: an ending with 4Ch, and one byte to read
abbrev pub calls_ending : List Call
calls_ending = calls_filled ++ (request 4 0 0 ∷ [])

-- the states that they lead to
abbrev sent : State
sent = run step calls_filled fresh

abbrev held : State
held = run step calls_ending fresh

-- .. with the pointer at a
abbrev held_at : ℕ → State
held_at a = run step (calls_ending ++ (pointer 1 a ∷ [])) fresh

no_last : (n : ℕ) → ReadsLast (time n) held → ⊥
unfolding reads_at
no_last n (B.byte e d w) = clash e refl

nothing_coming : {k : ℕ} → H.nothing ≡ H.coming k → ⊥
nothing_coming e = let z : ◌≡◌ {A = ℕ} 0 1 = cc in omega arith

pub drops_refused : EndingStays drops → ⊥
unfolding everything drops W.instead is_dropped is_reset is_disconnect is_command
drops_refused h = clash (ap is_ending (h.stays (time 1) held refl refl (no_last 1))) refl

pub drops_loses : NoStatusLost drops → ⊥
unfolding everything drops W.instead is_reset is_disconnect is_command reads_at raised H.history H.noted run
drops_loses h = nothing_coming (h.pending_is_owed (calls_ending ++ (time 1 ∷ [])) fresh)

pub renames_refused : EndingStays renames → ⊥
unfolding everything renames W.instead is_dropped is_reset is_disconnect is_command
renames_refused h =
    let z : ◌≡◌ {A = ℕ} 0x42 0x4C = ap (λ (a : Activity). code_to_come a) (h.stays (time 1) held refl refl (no_last 1)) in omega arith

pub renames_lies : NoStatusLost renames → ⊥
unfolding everything renames W.instead is_reset is_disconnect is_command reads_at raised H.history H.noted run
renames_lies h = other_code (h.pending_is_owed (calls_ending ++ (time 1 ∷ [])) fresh)
  where
    other_code : H.coming 0x42 ≡ H.coming 0x4C → ⊥
    other_code e = let z : ◌≡◌ {A = ℕ} 0x42 0x4C = cc in omega arith

pub spills_refused : EndingStays spills → ⊥
unfolding everything spills W.instead is_dropped is_reset is_disconnect is_command is_data_read
spills_refused h =
    let z : ◌≡◌ {A = ℕ} 0 1 = ap (λ (q : Fifo). waits q) (h.bytes_stay (time 1) held refl refl refl refl) in omega arith

pub shrugs_refused : EndingIsStill shrugs → ⊥
unfolding everything shrugs W.instead
shrugs_refused h = clash (h (request 1 0x5B 0) held refl refl).not_taken refl

no_read_out : (n : ℕ) → B.BeginsReadOut (time n) sent → ⊥
no_read_out n h = elim h [ ]

pub invents_refused : EndingBecause invents → ⊥
unfolding everything invents W.instead
invents_refused h = ⊎_elim (λ e. clash (ap is_end e) refl) (no_read_out 1) (h.read_out_sound (time 1) sent refl)

pub blanks_refused : EndingStays blanks → ⊥
unfolding everything blanks reads_at
blanks_refused h = other_byte (h.reads_oldest (register 0 0) (held_at 0x19) refl refl).0
  where
    other_byte : ◌≡◌ {A = Answer} (Done 0) (Done 0x5A) → ⊥
    other_byte e = let z : ◌≡◌ {A = ℕ} 0 0x5A = cc in omega arith

pub eats_refused : EndingStays eats → ⊥
unfolding everything eats B.wants B.expects B.expects_body B.is_spent
eats_refused h =
    let o : B.Offered 4 0 0 UnspecifiedOut sent = record { good = refl; phase = refl; quiet = refl; connected = refl; released = refl } in
    let z : ◌≡◌ {A = ℕ} 0 1 =
    ap (λ (q : Fifo). waits q) (h.begins_keeps (request 4 0 0) sent 0x4C (B.surprises o refl refl refl) refl).bytes in
    omega arith

pub hollows_refused : EndingStays hollows → ⊥
unfolding everything hollows W.instead is_disconnect is_command
hollows_refused h =
    let z : ◌≡◌ {A = ℕ} 1 0 = ap (λ (q : Fifo). waits q) (h.dropped_whole (register 1 0x04) (held_at 0x18) refl refl).bytes in omega arith

no_last_look : ReadsLast auxiliary held → ⊥
unfolding reads_at
no_last_look (B.byte e d w) = clash e refl

pub shuts_refused : EndingStays shuts → ⊥
unfolding everything shuts W.instead is_dropped is_reset is_disconnect is_command
shuts_refused h = clash (ap (λ (t : Transfer). is_incoming t.direction) (h.transfer_stays auxiliary held refl refl no_last_look)) refl
