-- Time that passes: while nobody is being selected it changes nothing, and during a selection it stays within the timeout.
--   still    the scene stays as it is
--   Spared   time is left: no timeout, or what has passed and the Target's patience are within it
use mathlib.Core.Path.{◌≡◌, sym, ◌∙◌, ap, subst}
use mathlib.Core.Bool.{false}
use mathlib.Core.Logic.{◌⊎◌, inl, inr, ⊎_elim}
use Prim.Native.Nat.{ℕ, ◌+◌, ◌-◌, ◌≤◌, ◌<◌}
use native.Mathlib.Omega.{arith}
use lib.Dec.{ltb}
use Rattle.chip.specs.Choice.{pick, both}
use Rattle.chip.specs.Events.{selects, passed}
use Rattle.chip.specs.Connections.{is_selecting}
use Rattle.chip.specs.Calls.{time, is_good, carried, step}
use Rattle.chip.specs.declared.State.{State}
use Rattle.story.specs.Hosts.{Host, Program}
use Rattle.story.specs.Schedule.{Target, passing, elapsing}
use Rattle.served.proofs.Parts.{the_scene}
use Rattle.chip.proofs.Cases.{true_or_false, passed_over}

pass_still : (n : ℕ) (s : State) → is_selecting s.wire.connection ≡ false → (passed n s).state ≡ s
unfolding passed selects both pick
pass_still n s f = rw f

time_still : (n : ℕ) (s : State) → is_selecting s.wire.connection ≡ false → (step (time n) s).state ≡ s
unfolding step is_good carried pick
time_still n s f = ⊎_elim (λ r. rw r (pass_still n s f)) (λ r. rw r) (true_or_false (ltb n 256))

pub still : (g : Program) (n : ℕ) (s : State) (h : Host) (t : Target) → is_selecting s.wire.connection ≡ false
    → passing step g n (the_scene s h t) ≡ the_scene s h t
unfolding passing elapsing
still g n s h t f = passed_over _ _ f ∙ ap (λ (x : State). the_scene x h t) (time_still n s f)

pub record Spared (timeout elapsed patience : ℕ) : Type 0 where
  pub time : (timeout ≡ 0) ⊎ (elapsed + patience ≤ timeout)

-- n units of the patience are used up, noted by the chip or not
pub spare_on : {t e p : ℕ} (n : ℕ) → Spared t e p → n < p → Spared t e (p - n)
spare_on {t} {e} {p} n s h = ⊎_elim (λ z. record { time = inl z }) (λ z. record { time = inr (omega arith) }) s.time

pub spare_less : {t : ℕ} (e p n : ℕ) → e + p ≤ t → n < p → Spared t (e + n) (p - n)
spare_less e p n z h = record { time = inr (omega arith) }

pub spared_at : {t u p : ℕ} → u ≡ t → Spared t 0 p → Spared u 0 p
spared_at {p = p} e s = subst (λ (t : ℕ). Spared t 0 p) (sym e) s
