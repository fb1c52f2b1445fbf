-- While a command goes on, no register access changes the count.
--   Goes            if the command that runs is the same after as before, so is the count
--   level_one_lem       a code of Level I is one of six
--   access_goes     of every access, from every state in which a command runs
use mathlib.Core.Path.{◌≡◌, refl, sym, ap, ◌∙◌}
use mathlib.Core.Bool.{Bool, true, false, not, true≢false, false≢true}
use mathlib.Core.List.{List, [], ◌∷◌}
use Prim.Native.Nat.{ℕ, zero, suc}
use lib.Dec.{eqb, leb}
use lib.ListN.{get_or}
use borrow.Author.Tests.{eqb-true}
use Rattle.chip.specs.Choice.{both, either}
use Rattle.chip.specs.Answers.{done}
use Rattle.chip.specs.Lines.{code_of}
use Rattle.chip.specs.Interrupts.{busy}
use Rattle.chip.specs.Activity.{running_number, is_running}
use Rattle.chip.specs.Commands.{left_out, table, entry_of, is_two, reset, aborted, disconnected, selecting, carried_out, accepted, is_refused_busy, commanded}
use Rattle.chip.specs.Registers.{is_blind, read_at, written_at, stepped, accessed_at, accessed}
use Rattle.chip.specs.declared.State.{State}
use Rattle.chip.specs.declared.Reply.{Reply}
use Rattle.chip.specs.declared.Entry.{Entry}
use Rattle.refusals.specs.Refusals.{SameCount}
use Rattle.chip.proofs.Cases.{by_pick, by_case, both_first, both_second, either_first, either_second, either_last}
use Rattle.refusals.proofs.Counts.{stands, then, raise_count, end_count}
use Rattle.refusals.proofs.DataRegister.{read_count, write_count}

-- ---- the table's Level I codes

-- each entry of Level I stands at a place that passes
unfoldable ones_at : List Entry → (ℕ → Bool) → Bool
ones_at [] passes = true
ones_at (x ∷ l) passes = both (either (is_two x.level) (passes 0)) (ones_at l (λ i. passes (suc i)))

at_place : (l : List Entry) (passes : ℕ → Bool) → ones_at l passes ≡ true → (i : ℕ) → is_two (get_or l i left_out).level ≡ false
    → passes i ≡ true
unfolding ones_at
at_place [] passes h i e = absurd (true≢false e)
at_place (x ∷ l) passes h zero e = either_second _ _ (both_first _ _ h) e
at_place (x ∷ l) passes h (suc i) e = at_place l (λ i. passes (suc i)) (both_second _ _ h) i e

-- Reset, Abort, Assert ATN, Negate ACK, Disconnect, Set IDI
unfoldable is_level_one : ℕ → Bool
is_level_one c =
    either (eqb c 0x00) (either (eqb c 0x01) (either (eqb c 0x02) (either (eqb c 0x03) (either (eqb c 0x04) (eqb c 0x0F)))))

level_one_lem : (c : ℕ) → is_two (entry_of c).level ≡ false → is_level_one c ≡ true
unfolding entry_of table is_level_one ones_at both either
level_one_lem c e = at_place table is_level_one refl c e

not_one : (c k : ℕ) → is_level_one k ≡ false → is_level_one c ≡ true → eqb c k ≡ true → ⊥
not_one c k n h e =
    let one : is_level_one k ≡ true = rw (eqb-true c k e) at h in
    true≢false (sym one ∙ n)

-- ---- a command that is no transfer

aborted_count : (s : State) → SameCount s (aborted s)
unfolding aborted
aborted_count s =
    by_pick (SameCount s) _ (then (stands refl refl) (end_count _ _)) (then (stands refl refl) (raise_count _ _))

carried_out_lem : (c : ℕ) (single : Bool) (s : State) → is_level_one c ≡ true → SameCount s (carried_out c single s)
unfolding carried_out disconnected selecting is_level_one either
carried_out_lem c single s h =
    by_pick (SameCount s) _ (aborted_count s)
    (by_pick (SameCount s) _ (stands refl refl)
    (by_pick (SameCount s) _ (stands refl refl)
    (by_pick (SameCount s) _ (stands refl refl)
    (by_pick (SameCount s) _ (stands refl refl)
    (by_pick (SameCount s) _ (stands refl refl)
    (by_case (SameCount s) _ (λ e. absurd (not_one c 0x08 refl h e)) λ n8.
    by_case (SameCount s) _ (λ e. absurd (not_one c 0x09 refl h e)) λ n9.
    by_pick (SameCount s) _ (stands refl refl)
    (by_case (SameCount s) _ (λ e. absurd (not_one c 0x18 refl h e)) λ n24.
    by_case (SameCount s) _ (λ e. absurd (not_one c 0x20 refl h e)) λ n32. stands refl refl)))))))

pub record Goes (s : State) (q : Reply) : Type 0 where
  pub so : running_number q.state.activity ≡ running_number s.activity → SameCount s q.state

kept : {s : State} {q : Reply} → SameCount s q.state → Goes s q
kept h = record { so = λ e. h }

-- ---- in a state in which a command runs

module _ (s : State) (runs : is_running s.activity ≡ true) where
  is_busy : busy s ≡ true
  unfolding busy
  is_busy = runs

  level : (c : ℕ) → is_refused_busy c s ≡ false → is_two (entry_of c).level ≡ false
  unfolding is_refused_busy both
  level c e = either_first _ _ (rw is_busy at e)

  -- Reset ends the command
  reset_goes : (b : ℕ) → Goes s (done 0 (reset b s))
  unfolding reset
  reset_goes b = record { so = λ e. absurd (false≢true (ap (λ (n : ℕ). not (eqb n 0)) e ∙ runs)) }

  accepted_count : (b : ℕ) → SameCount s (accepted b s)
  unfolding accepted
  accepted_count b = stands refl refl

  command_goes : (b : ℕ) → Goes s (commanded b s)
  unfolding commanded
  command_goes b =
      by_case (Goes s) _ (λ e. reset_goes b) λ n0.
      by_pick (Goes s) _ (kept (stands refl refl))
      (by_case (Goes s) _ (λ e. kept (stands refl refl)) λ n.
      by_pick (Goes s) _
      (kept (then (accepted_count b) (carried_out_lem (code_of b) _ _ (level_one_lem _ (level _ n)))))
      (let h = accepted_count b in kept (stands h.shown h.beside)))

  -- with BSY only 18h and 19h are reachable
  hidden : (a : ℕ) → eqb a 0x18 ≡ false → eqb a 0x19 ≡ false → both (busy s) (not (either (eqb a 0x18) (eqb a 0x19))) ≡ true
  unfolding both either
  hidden a m n = rw (is_busy, m, n)

  blind : (w : Bool) (a : ℕ) → is_blind w a s ≡ false → eqb a 0x18 ≡ false → eqb a 0x19 ≡ false → ⊥
  unfolding is_blind
  blind w a h m n = true≢false (rw (hidden a m n, either_last (both w (eqb a 0x17)), either_last (leb 0x1A a)) at h)

  write_goes : (w : Bool) (a b : ℕ) → is_blind w a s ≡ false → Goes s (written_at a b s)
  unfolding written_at
  write_goes w a b h =
      by_case (Goes s) _ (λ e. command_goes b) λ m.
      by_case (Goes s) _ (λ e. kept (write_count b s)) λ n. absurd (blind w a h m n)

  read_goes : (a : ℕ) → Goes s (read_at a s)
  unfolding read_at
  read_goes a =
      by_pick (Goes s) _ (kept (stands refl refl))
      (by_pick (Goes s) _ (kept (stands refl refl)) (by_pick (Goes s) _ (kept (read_count s)) (kept (stands refl refl))))

  at_goes : (a : ℕ) (w : Bool) (b : ℕ) → Goes s (accessed_at a w b s)
  unfolding accessed_at
  at_goes a w b =
      by_case (Goes s) _ (λ e. kept (stands refl refl)) λ e. by_pick (Goes s) _ (write_goes w a b e) (read_goes a)

  pub access_goes : (w : Bool) (b : ℕ) → Goes s (accessed w b s)
  unfolding accessed stepped
  access_goes w b =
      record {
        so =
            λ e.
            let h = (at_goes s.status.pointer w b).so e in
            stands h.shown h.beside;
      }
