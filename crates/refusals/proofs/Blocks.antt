-- A block move is its single accesses.
--   read_anywhere, write_anywhere     the Data register does not look at the pointer, and leaves it
--   access_count                      an access with the pointer at 19h leaves the count
--   accesses_read, accesses_write     runs of accesses with the pointer at 19h, their operands unchecked, are block moves, of every slice
--   block_is_accesses                 law: a block gives what its single accesses give
use mathlib.Core.Path.{◌≡◌, refl, ap, sym, subst, ◌∙◌}
use mathlib.Core.Bool.{Bool, true, false}
use mathlib.Core.List.{List, [], ◌∷◌}
use Prim.Native.Nat.{ℕ}
use Rattle.chip.specs.Choice.{pick, both, either}
use Rattle.chip.specs.State.{set_pointer, set_fifo}
use Rattle.chip.specs.Answers.{says}
use Rattle.chip.specs.Fifo.{pop}
use Rattle.chip.specs.Count.{left, dbr_by, dbr}
use Rattle.chip.specs.Interrupts.{busy, raise, outgoing_dropped, settled_by, settled}
use Rattle.chip.specs.Registers.{Moved, and_then, stopped, go_on, pointer_after, is_blind, data_read_by, data_read, data_written_by, data_written, read_at, written_at, stepped, accessed_at, accessed, block_read, block_written}
use Rattle.chip.specs.Calls.{Call, Outcome, register, is_byte, is_good, plain, moved, carried, step}
use Rattle.chip.specs.declared.State.{State}
use Rattle.chip.specs.declared.Reply.{Reply}
use Rattle.chip.specs.declared.Activity.{Activity}
use Rattle.chip.specs.declared.Activity.TheVariants.{Idle, Interrupt, Runs, Ends, ReadOut}
use Rattle.chip.specs.declared.Direction.{Direction}
use Rattle.chip.specs.declared.Direction.TheVariants.{Unfixed, In, Out}
use Rattle.refusals.specs.Refusals.{SameCount}
use Rattle.refusals.specs.Blocks.{reads, writes, placed, are_bytes, BlockIsAccesses}
use Rattle.chip.proofs.Cases.{pick_ap, both_first, both_second}
use Rattle.refusals.proofs.Counts.{stands}
use Rattle.refusals.proofs.DataRegister.{Gives, moves, nothing, read_gives, write_gives, read_count, write_count, block_reads_by, block_writes_by}

-- ---- the pointer does not matter to the Data register

dbr_by_anywhere : (d : Direction) (p : ℕ) (s : State) → dbr_by d (set_pointer p s) ≡ dbr_by d s
unfolding left
dbr_by_anywhere Unfixed p s = refl
dbr_by_anywhere In p s = refl
dbr_by_anywhere Out p s = refl

dbr_anywhere : (p : ℕ) (s : State) → dbr (set_pointer p s) ≡ dbr s
unfolding dbr
dbr_anywhere p s = dbr_by_anywhere s.transfer.direction p s

settled_by_anywhere : (e : Activity) (p : ℕ) (s : State) → settled_by e (set_pointer p s) ≡ set_pointer p (settled_by e s)
unfolding settled_by raise outgoing_dropped
settled_by_anywhere Idle p s = refl
settled_by_anywhere Interrupt p s = refl
settled_by_anywhere (Runs r) p s = refl
settled_by_anywhere (Ends r k) p s = refl
settled_by_anywhere (ReadOut r) p s = refl

settled_anywhere : (p : ℕ) (s : State) → settled (set_pointer p s) ≡ set_pointer p (settled s)
unfolding settled
settled_anywhere p s = rw (settled_by_anywhere s.activity p s) (sym (pick_ap (set_pointer p) _ _ _))

-- r with the pointer at p
abbrev at : ℕ → Reply → Reply
at p r = says r.answer (set_pointer p r.state)

read_by_anywhere : (d : Direction) (p : ℕ) (s : State) → data_read_by d (set_pointer p s) ≡ at p (data_read_by d s)
read_by_anywhere Unfixed p s = refl
read_by_anywhere In p s = rw (dbr_anywhere p s, settled_anywhere p (set_fifo (pop s.fifo) s)) (sym (pick_ap (at p) _ _ _))
read_by_anywhere Out p s = refl

pub read_anywhere : (p : ℕ) (s : State) → data_read (set_pointer p s) ≡ at p (data_read s)
unfolding data_read
read_anywhere p s = read_by_anywhere s.transfer.direction p s

write_by_anywhere : (d : Direction) (b p : ℕ) (s : State) → data_written_by d b (set_pointer p s) ≡ at p (data_written_by d b s)
write_by_anywhere Unfixed b p s = refl
write_by_anywhere In b p s = refl
write_by_anywhere Out b p s = rw (dbr_anywhere p s) (sym (pick_ap (at p) _ _ _))

pub write_anywhere : (b p : ℕ) (s : State) → data_written b (set_pointer p s) ≡ at p (data_written b s)
unfolding data_written
write_anywhere b p s = write_by_anywhere s.transfer.direction b p s

-- ---- an access with the pointer at 19h

never_blind : (w t : Bool) → either false (either (both w false) (both t false)) ≡ false
unfolding either both
never_blind true true = refl
never_blind true false = refl
never_blind false true = refl
never_blind false false = refl

seen : (w : Bool) (s : State) → is_blind w 0x19 s ≡ false
unfolding is_blind either
seen w s = never_blind w (busy s)

accessed_read : (b : ℕ) (s : State) → accessed false b (set_pointer 0x19 s) ≡ at 0x19 (data_read s)
unfolding accessed accessed_at stepped read_at pointer_after pick either
accessed_read b s = rw (seen false (set_pointer 0x19 s), read_anywhere 0x19 s)

accessed_written : (b : ℕ) (s : State) → accessed true b (set_pointer 0x19 s) ≡ at 0x19 (data_written b s)
unfolding accessed accessed_at stepped written_at pointer_after pick either
accessed_written b s = rw (seen true (set_pointer 0x19 s), write_anywhere b 0x19 s)

-- the count stands, whichever it is
data_count : (w : Bool) (b : ℕ) (s : State) → SameCount s (accessed w b (set_pointer 0x19 s)).state
data_count true b s = let h = write_count b s in rw (accessed_written b s) (stands h.shown h.beside)
data_count false b s = let h = read_count s in rw (accessed_read b s) (stands h.shown h.beside)

-- a state whose pointer is at 19h, with the pointer set there
there : (s : State) → s.status.pointer ≡ 0x19 → set_pointer 0x19 s ≡ s
there s e = ap (λ p. set_pointer p s) (sym e)

pub access_count : (w : Bool) (b : ℕ) (s : State) → s.status.pointer ≡ 0x19 → SameCount s (accessed w b s).state
access_count w b s e = subst (λ t. SameCount s (accessed w b t).state) (there s e) (data_count w b s)

step_read : (s : State) → step (register 0 0) (set_pointer 0x19 s) ≡ plain (at 0x19 (data_read s))
unfolding step carried is_good pick both
step_read s = ap plain (accessed_read 0 s)

step_write : (b : ℕ) → is_byte b ≡ true → (s : State) → step (register 1 b) (set_pointer 0x19 s) ≡ plain (at 0x19 (data_written b s))
unfolding step carried is_good pick both
step_write b e s = rw e (ap plain (accessed_written b s))

-- ---- one access, and then the rest

-- after an access, runs that agree on the rest of the slice agree on all of it; the byte that the slice gets is w of the value
one_more : {s : State} {r : Reply} → Gives s r → (x y : State → Moved) → ((t : State) → x (set_pointer 0x19 t) ≡ placed 0x19 (y t))
    → (w : ℕ → ℕ) (l : List ℕ)
    → go_on r.answer (λ v. and_then (w v) (x (set_pointer 0x19 r.state))) (stopped l (set_pointer 0x19 r.state))
    ≡ placed 0x19 (go_on r.answer (λ v. and_then (w v) (y r.state)) (stopped l s))
one_more (moves {v = v} {t = t}) x y h w l = ap (and_then (w v)) (h t)
one_more nothing x y h w l = refl

-- ---- runs of accesses, by any f that makes each as the Data register does

-- P of each number of the slice
abbrev Each : (ℕ → Type 0) → List ℕ → Type 0
Each P [] = Unit {0}
Each P (b ∷ l) = P b × Each P l

each : (P : ℕ → Type 0) → ((b : ℕ) → P b) → (l : List ℕ) → Each P l
each P h [] = tt
each P h (b ∷ l) = (h b, each P h l)

each_byte : (P : ℕ → Type 0) → ((b : ℕ) → is_byte b ≡ true → P b) → (l : List ℕ) → are_bytes l ≡ true → Each P l
each_byte P h [] e = tt
each_byte P h (b ∷ l) e = (h b (both_first _ _ e), each_byte P h l (both_second _ _ e))

module _ (f : Call → State → Outcome) where
  abbrev Reads : Type 0
  Reads = (s : State) → f (register 0 0) (set_pointer 0x19 s) ≡ plain (at 0x19 (data_read s))

  abbrev Writes : ℕ → Type 0
  Writes b = (s : State) → f (register 1 b) (set_pointer 0x19 s) ≡ plain (at 0x19 (data_written b s))

  reads_are : Reads → (l : List ℕ) (s : State) → reads f l (set_pointer 0x19 s) ≡ placed 0x19 (block_read l s)
  unfolding reads block_read
  reads_are one [] s = refl
  reads_are one (b ∷ l) s = rw (one s) (one_more (read_gives s) (reads f l) (block_read l) (reads_are one l) (λ v. v) (b ∷ l))

  writes_are : (l : List ℕ) → Each Writes l → (s : State) → writes f l (set_pointer 0x19 s) ≡ placed 0x19 (block_written l s)
  unfolding writes block_written
  writes_are [] h s = refl
  writes_are (b ∷ l) h s =
      rw (h.0 s) (one_more (write_gives b s) (writes f l) (block_written l) (writes_are l h.1) (λ v. b) (b ∷ l))

pub accesses_read : (l : List ℕ) (s : State) → reads carried l (set_pointer 0x19 s) ≡ placed 0x19 (block_read l s)
unfolding carried
accesses_read = reads_are carried (λ s. ap plain (accessed_read 0 s))

pub accesses_write : (l : List ℕ) (s : State) → writes carried l (set_pointer 0x19 s) ≡ placed 0x19 (block_written l s)
unfolding carried
accesses_write l = writes_are carried l (each (Writes carried) (λ b s. ap plain (accessed_written b s)) l)

-- ---- the pointer is back at its place

abbrev Still : State → State → Type 0
Still s t = t.status.pointer ≡ s.status.pointer

still_next : (s t u : State) → Still s t → Still t u → Still s u
still_next s t u h k = k ∙ h

read_still : (s : State) → Still s (data_read s).state
read_still s = ap (λ r. r.state.status.pointer) (read_anywhere s.status.pointer s)

write_still : (b : ℕ) (s : State) → Still s (data_written b s).state
write_still b s = ap (λ r. r.state.status.pointer) (write_anywhere b s.status.pointer s)

-- a run that left the pointer is as it is with the pointer put back
put_back : (p : ℕ) (m : Moved) → m.state.status.pointer ≡ p → m ≡ placed p m
put_back p m e = rw (← e)

pub block_is_accesses : BlockIsAccesses step
unfolding step carried is_good pick
block_is_accesses =
    record {
      into_slice =
          λ l s.
          let h = block_reads_by Still (λ t. refl) still_next read_still l s in
          rw (reads_are step step_read l s) (ap moved (put_back s.status.pointer (block_read l s) h));
      out_of_slice =
          λ l s e.
          let h = block_writes_by Still (λ t. refl) still_next write_still l s in
          rw (writes_are step l (each_byte (Writes step) step_write l e) s) (ap moved (put_back s.status.pointer (block_written l s) h));
    }
