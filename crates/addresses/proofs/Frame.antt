-- What most wrong steps are made by: with the controller's own translation it is the step, so such a one has only the mistake of its translation.
--   frame   `by translated_by` is the step
use mathlib.Core.Path.{◌≡◌, refl, sym, ap, ◌∙◌}
use mathlib.Core.Bool.{true, false, not}
use Prim.Native.Nat.{ℕ}
use borrow.Author.Tests.{not-true}
use Rattle.chip.specs.Choice.{pick, both, either}
use Rattle.chip.specs.State.{set_pointer}
use Rattle.chip.specs.Answers.{done}
use Rattle.chip.specs.Interrupts.{interrupted, busy, raise, outgoing_dropped}
use Rattle.chip.specs.Translate.{translated_by, translated}
use Rattle.chip.specs.Commands.{accepted}
use Rattle.chip.specs.Connections.{is_disconnected}
use Rattle.chip.specs.Registers as R
use Rattle.chip.specs.Calls.{Call, pointer, auxiliary, register, block, time, answer, reselection, request, free, plain, step}
use Rattle.chip.specs.declared.State.{State}
use Rattle.chip.proofs.Cases.{by_test, both_first, both_second, taken, passed_over}
use Rattle.chip.proofs.Numbers.{is_disconnected_lem}
use Rattle.chip.proofs.Translate.{by_translation}
use Rattle.unread.specs.Status.{is_command}
use Rattle.unread.specs.Because.{Translates}
use Rattle.unread.proofs.Pendings.{quiet_of}
use Rattle.unread.proofs.Host.{not_busy_ends, not_busy_runs}
use Rattle.addresses.specs.Places.{cdb_of}
use Rattle.addresses.specs.Wrong.{is_translation, by}
use Rattle.addresses.proofs.Places.{carried, at}

carries : (m b : ℕ) (s : State) → is_translation (register m b) s ≡ true → Translates (register m b) s
unfolding is_translation
carries m b s e =
    let f = both_second (is_command 0x18 (register m b) s) _ e in
    let g = both_second (is_disconnected s.wire.connection) _ f in
    let idle : busy s ≡ false = not-true _ (both_first _ _ g) in
    let calm : interrupted s ≡ false = not-true _ (both_second (not (busy s)) _ g) in
    record {
      command = both_first _ _ e;
      quiet = quiet_of s calm (not_busy_ends s idle);
      idle = not_busy_runs s idle;
      apart = is_disconnected_lem _ (both_first _ _ f);
    }

-- the pointer stands at 18h, and stays
stays_put : (t : State) → t.status.pointer ≡ 0x18 → set_pointer 0x18 t ≡ t
stays_put t e = rw (sym e) refl

pointer_kept : (b : ℕ) (s : State) → (translated (accepted b s)).status.pointer ≡ s.status.pointer
unfolding raise outgoing_dropped accepted
pointer_kept b s = by_translation (λ (t : State). t.status.pointer ≡ s.status.pointer) (accepted b s) (λ k l h. refl)

frame_out : (m b : ℕ) (s : State) → is_translation (register m b) s ≡ true
    → plain (done 0 (translated_by (cdb_of s) (accepted b s))) ≡ step (register m b) s
unfolding translated R.stepped R.pointer_after accepted either pick
frame_out m b s e =
    let h : Translates (register m b) s = carries m b s e in
    sym
    (carried m b s h
    ∙ ap (λ (t : State). plain (done 0 t)) (stays_put (translated (accepted b s)) (pointer_kept b s ∙ sym (at m b s h))))

pub frame : (c : Call) (s : State) → by translated_by c s ≡ step c s
unfolding by is_translation is_command both pick
frame (pointer m b) s = refl
frame auxiliary s = refl
frame (register m b) s = by_test (is_translation (register m b) s) (λ e. taken _ _ e ∙ frame_out m b s e) (λ e. passed_over _ _ e)
frame (block m l) s = refl
frame (time n) s = refl
frame answer s = refl
frame (reselection lines) s = refl
frame (request p b q) s = refl
frame free s = refl
