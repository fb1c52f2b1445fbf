-- The laws of specs/Keeping.antt, of the controller's step.
--   tells_no_places   two alike states are told alike, and stay alike
--   any_keeping       however the bytes are moved about between the calls, the caller is told the same
--   as_before         the caller is told what it was over the old keeping
use mathlib.Core.Path.{◌≡◌, refl, ap, ap₂, sym, ◌∙◌}
use mathlib.Core.List.{List, [], ◌∷◌}
use Prim.Native.Nat.{ℕ}
use Rattle.chip.specs.Before.{moved_up}
use Rattle.chip.specs.State.{fresh, set_fifo}
use Rattle.chip.specs.Fifo.{Whole}
use Rattle.chip.specs.Lines.{destination}
use Rattle.chip.specs.Phases.{phase_of}
use Rattle.chip.specs.Registers.{Moved}
use Rattle.chip.specs.Calls.{Call, pointer, auxiliary, register, block, time, answer, reselection, request, free, is_set, Outcome, plain, moved, carried, step}
use Rattle.chip.specs.Entries.{line_bits}
use Rattle.chip.specs.declared.Answer.TheVariants.{Done}
use Rattle.chip.specs.declared.Fifo.{Fifo}
use Rattle.chip.specs.declared.Reply.{Reply}
use Rattle.chip.specs.declared.State.{State}
use Rattle.chip.proofs.Before.{kept_as_before}
use Rattle.keeping.specs.Keeping.{SameBytes, Alike, Told, told, TellsNoPlaces, told_by, Mover, kept_by, AnyKeeping, AsBefore}
use Rattle.keeping.proofs.SameBytes.{same_begin}
use Rattle.keeping.proofs.Alike.{AlikeReply, alike, choose, replied, by_alike}
use Rattle.keeping.proofs.Events.{time_passes, answers, reselects, requests, frees}
use Rattle.keeping.proofs.Host.{reads_pointer, sets_pointer, reads_auxiliary, accesses, AlikeMoved, block_reads, block_writes}

-- ---- one call

-- the lines ask no FIFO
lines_alike : (s t : State) → Alike s t → line_bits s ≡ line_bits t
unfolding line_bits destination
lines_alike s t h = by_alike (λ (x y : ℕ). x ≡ y) line_bits (λ u r g. refl) h

record AlikeOutcome (a b : Outcome) : Type 0 where
  pub answers : a.answer ≡ b.answer
  pub lends : a.lent ≡ b.lent
  pub states : Alike a.state b.state

no_slice : {a b : Reply} → AlikeReply a b → AlikeOutcome (plain a) (plain b)
no_slice h = record { answers = h.answer; lends = refl; states = h.states }

slice : {m n : Moved} → AlikeMoved m n → AlikeOutcome (moved m) (moved n)
slice h = record { answers = ap Done h.number; lends = h.bytes; states = h.states }

told_alike : {a b : Outcome} → AlikeOutcome a b → told a ≡ told b
told_alike {a} {b} h = rw (h.answers, h.lends, lines_alike a.state b.state h.states)

module _ (s : State) {r : Fifo} (g : SameBytes s.fifo r) where
  carries : (c : Call) → AlikeOutcome (carried c s) (carried c (set_fifo r s))
  unfolding carried
  carries (pointer m b) = no_slice (replied _ (sets_pointer s g b) (reads_pointer s g))
  carries auxiliary = no_slice (reads_auxiliary s g)
  carries (register m b) = no_slice (accesses s g (is_set m) b)
  carries (block m l) = slice (choose AlikeMoved _ (block_writes l _ _ (alike g)) (block_reads l _ _ (alike g)))
  carries (time n) = no_slice (time_passes s g n)
  carries answer = no_slice (answers s g)
  carries (reselection lines) = no_slice (reselects s g lines)
  carries (request p b q) = no_slice (requests s g (phase_of p) b (is_set q))
  carries free = no_slice (frees s g)

  steps : (c : Call) → AlikeOutcome (step c s) (step c (set_fifo r s))
  unfolding step
  steps c = choose AlikeOutcome _ (carries c) (record { answers = refl; lends = refl; states = alike g })

step_alike : (c : Call) {s t : State} → Alike s t → AlikeOutcome (step c s) (step c t)
step_alike c = by_alike AlikeOutcome (step c) (λ s r g. steps s g c)

pub tells_no_places : TellsNoPlaces step
tells_no_places = record { tells = λ c s t h. told_alike (step_alike c h); leads = λ c s t h. (step_alike c h).states }

-- ---- every list of calls

module _ (k : Mover) (same : (c : Call) (u : State) (q : Fifo) → Whole q → SameBytes q (k c u q)) where
  -- alike, and the bytes then moved about on one side
  also_kept : (c : Call) (u : State) {s t : State} → Alike s t → Alike s (set_fifo (k c u t.fifo) t)
  also_kept c u {s = s} {t = t} h =
      let there : SameBytes t.fifo (k c u t.fifo) = same c u t.fifo h.fifo.right in
      record {
        rest = ap (set_fifo (k c u t.fifo)) h.rest;
        fifo = record { left = h.fifo.left; right = there.right; bytes = h.fifo.bytes ∙ there.bytes };
      }

  by_calls : (l : List Call) (s t : State) → Alike s t → told_by step l s ≡ told_by (kept_by k step) l t
  unfolding told_by line_bits destination
  by_calls [] s t h = refl
  by_calls (c ∷ l) s t h =
      ap₂ (λ (x : Told) (y : List Told). x ∷ y) (tells_no_places.tells c s t h)
      (by_calls l _ _ (also_kept c t (tells_no_places.leads c s t h)))

pub any_keeping : AnyKeeping step
any_keeping = by_calls

moved_same : (q : Fifo) → Whole q → SameBytes q (moved_up q)
moved_same q u = record { left = u; right = kept_as_before.whole q u; bytes = sym (kept_as_before.bytes q u) }

pub as_before : AsBefore step
as_before =
    record {
      anywhere = λ l s u. any_keeping (λ c s. moved_up) (λ c s. moved_same) l s (set_fifo (moved_up s.fifo) s) (alike (moved_same s.fifo u));
      from_fresh = λ l. any_keeping (λ c s. moved_up) (λ c s. moved_same) l fresh fresh (alike same_begin);
    }
