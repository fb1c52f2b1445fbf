-- Every reply to a register access fits it.
--   access_fits   of every access, from every state
use mathlib.Core.Path.{◌≡◌, refl, ap}
use mathlib.Core.Bool.{Bool, true}
use Prim.Native.Nat.{ℕ}
use lib.Dec.{eqb}
use borrow.Author.Tests.{eqb-true}
use Rattle.chip.specs.Choice.{pick, either}
use Rattle.chip.specs.State.{set_pointer, set_lci}
use Rattle.chip.specs.Answers.{ignored, no_data_now}
use Rattle.chip.specs.Commands.{commanded}
use Rattle.chip.specs.Registers.{pointer_after, read_at, written_at, stepped, accessed_at, accessed}
use Rattle.chip.specs.Calls.{register}
use Rattle.chip.specs.declared.State.{State}
use Rattle.chip.specs.declared.Reply.{Reply}
use Rattle.chip.proofs.Cases.{by_pick, by_case}
use Rattle.refusals.proofs.Fitting.{Fits, did}
use Rattle.refusals.proofs.DataRegister.{Gives, moves, nothing, read_gives, write_gives}

stays : (a k : ℕ) → eqb a k ≡ true → pointer_after k ≡ k → pointer_after a ≡ a
stays a k e h = rw (eqb-true a k e) h

module _ (m b : ℕ) (s : State) where
  -- the reply, once the pointer has stepped, fits the access
  abbrev Fine : Reply → Type 0
  Fine r = Fits (register m b) s (stepped s.status.pointer r)

  abbrev at : ℕ
  at = s.status.pointer

  ignore : eqb at 0x18 ≡ true → Fine (ignored s)
  unfolding stepped pointer_after either pick
  ignore e =
      record {
        among = refl;
        row = (refl, refl, record { state = ap (λ p. set_pointer p (set_lci true s)) (stays at 0x18 e refl); lent = refl });
      }

  no_data : eqb at 0x19 ≡ true → Fine (no_data_now s)
  unfolding stepped pointer_after either pick
  no_data e =
      record { among = refl; row = (refl, refl, record { state = ap (λ p. set_pointer p s) (stays at 0x19 e refl); lent = refl }) }

  command : (x : ℕ) → eqb at 0x18 ≡ true → Fine (commanded x s)
  unfolding commanded stepped
  command x e =
      by_pick Fine _ (did refl)
      (by_pick Fine _ (ignore e) (by_pick Fine _ (ignore e) (by_pick Fine _ (did refl) (did refl))))

  data_access_lem : {r : Reply} → Gives s r → eqb at 0x19 ≡ true → Fine r
  unfolding stepped
  data_access_lem moves e = did refl
  data_access_lem nothing e = no_data e

  reads : Fine (read_at at s)
  unfolding read_at stepped
  reads =
      by_pick Fine _ (did refl)
      (by_pick Fine _ (did refl) (by_case Fine _ (data_access_lem (read_gives s)) (λ e. did refl)))

  writes : (x : ℕ) → Fine (written_at at x s)
  unfolding written_at stepped
  writes x = by_case Fine _ (command x) (λ e. by_case Fine _ (data_access_lem (write_gives x s)) (λ f. did refl))

  pub access_fits : (w : Bool) (x : ℕ) → Fits (register m b) s (accessed w x s)
  unfolding accessed accessed_at stepped
  access_fits w x =
      by_pick Fine _
      (record { among = refl; row = (refl, refl, (pointer_after at, record { state = refl; lent = refl })) })
      (by_pick Fine _ (writes x) reads)
