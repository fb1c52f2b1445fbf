-- Registers 03 to 0Eh stay, but for a Reset, a write of one of them and a translation with 15h.
--   load_stays   the law LoadStays of specs/Places.antt
use mathlib.Core.Path.{◌≡◌, refl}
use mathlib.Core.Bool.{Bool, true, false}
use mathlib.Core.Logic.{◌⊎◌, inl, inr}
use Prim.Native.Nat.{ℕ, ◌≤◌}
use native.Mathlib.Omega.{arith}
use lib.Dec.{eqb, ltb, leb}
use borrow.Author.Tests.{eqb-false, le-leb}
use Rattle.chip.specs.Choice.{pick, both}
use Rattle.chip.specs.Lines.{code_of}
use Rattle.chip.specs.Interrupts.{interrupted, raise, outgoing_dropped, ending_with, settled_by, settled}
use Rattle.chip.specs.Count.{loaded, loaded_for_transfer_info}
use Rattle.chip.specs.SelectAndTransfer.{from_disconnected, resumed}
use Rattle.chip.specs.Translate.{translated_by, translated}
use Rattle.chip.specs.Commands.{is_valid, is_refused_busy, aborted, disconnected, selecting, select_and_transfer_begun, transfer_info_begun, carried_out, accepted, commanded}
use Rattle.chip.specs.Registers as R
use Rattle.chip.specs.Calls.{register, is_good, is_set, carried, step}
use Rattle.chip.specs.declared.State.{State}
use Rattle.chip.specs.declared.Reply.{Reply}
use Rattle.chip.specs.declared.Registers.{Registers}
use Rattle.chip.specs.declared.Command.{Command}
use Rattle.chip.specs.declared.Activity.{Activity}
use Rattle.chip.specs.declared.Activity.TheVariants.{Idle, Interrupt, Runs, Ends, ReadOut}
use Rattle.chip.specs.declared.Direction.{Direction}
use Rattle.chip.specs.declared.Direction.TheVariants.{Unfixed, In, Out}
use Rattle.chip.proofs.Cases.{by_pick, by_case, by_test}
use Rattle.unread.specs.Status.{is_reset}
use Rattle.unread.specs.Because.{Translates}
use Rattle.unread.proofs.Choosing.{clash}
use Rattle.unread.proofs.Host.{is_command_lem, translates}
use Rattle.addresses.specs.Places.{cdb_of, is_load, LoadStays}

-- what ends a read-out leaves them
settled_by_lem : (a : Activity) (t : State) → cdb_of (settled_by a t) ≡ cdb_of t
unfolding settled_by raise outgoing_dropped
settled_by_lem Idle t = refl
settled_by_lem Interrupt t = refl
settled_by_lem (Runs r) t = refl
settled_by_lem (Ends r k) t = refl
settled_by_lem (ReadOut r) t = refl

settled_stays : (t : State) → cdb_of (settled t) ≡ cdb_of t
unfolding settled
settled_stays t = by_pick (λ (u : State). cdb_of u ≡ cdb_of t) _ (settled_by_lem t.activity t) refl

module _ (s : State) where
  abbrev Same : Reply → Type 0
  Same r = cdb_of r.state ≡ cdb_of s

  data_read_lem : (d : Direction) → Same (R.data_read_by d s)
  data_read_lem Unfixed = refl
  data_read_lem In = by_pick Same _ (settled_stays _) refl
  data_read_lem Out = refl

  data_written_lem : (d : Direction) (b : ℕ) → Same (R.data_written_by d b s)
  data_written_lem Unfixed b = refl
  data_written_lem In b = refl
  data_written_lem Out b = by_pick Same _ refl refl

  read_same : (a : ℕ) → Same (R.read_at a s)
  unfolding R.read_at R.data_read
  read_same a = by_pick Same _ refl (by_pick Same _ refl (by_pick Same _ (data_read_lem s.transfer.direction) refl))

  -- a register that is none of them
  stored_same : (a b : ℕ) → both (leb 0x03 a) (ltb a 0x0F) ≡ false → cdb_of (R.stored a b s) ≡ cdb_of s
  unfolding R.stored R.stored_in both
  stored_same a b h =
      let P : Registers → Type 0 = λ (r : Registers). r.descriptor.cdb ≡ cdb_of s in
      by_case P _ (λ e. refl) λ n0.
      by_case P _ (λ e. refl) λ n1.
      by_case P _ (λ e. refl) λ n2.
      by_case P _ (λ e. clash e (rw (le-leb 3 a (above a (eqb-false a 0 n0) (eqb-false a 1 n1) (eqb-false a 2 n2))) at h)) λ n.
      by_pick P _ refl
      (by_pick P _ refl
      (by_pick P _ refl (by_pick P _ refl (by_pick P _ refl (by_pick P _ refl (by_pick P _ refl refl))))))
    where
      above : (a : ℕ) → (a ≡ 0 → ⊥) → (a ≡ 1 → ⊥) → (a ≡ 2 → ⊥) → 3 ≤ a
      above a x y z = omega (arith, x, y, z)

-- ---- commands

module _
    (m b : ℕ) (s : State) (good : is_good (register m b) ≡ true) (set : is_set m ≡ true)
    (at : eqb s.status.pointer 0x18 ≡ true) where
  abbrev Stays : State → Type 0
  Stays t = (cdb_of t ≡ cdb_of s) ⊎ (Translates (register m b) s × (t.status.code ≡ 0x15))

  aborted_stays : Stays (aborted (accepted b s))
  unfolding aborted ending_with raise outgoing_dropped accepted
  aborted_stays = by_pick Stays _ (by_pick Stays _ (inl refl) (inl refl)) (inl refl)

  transferring_stays : (r : Command) → Stays (select_and_transfer_begun r (accepted b s))
  unfolding select_and_transfer_begun resumed selecting from_disconnected loaded ending_with raise outgoing_dropped accepted
  transferring_stays r =
      by_pick Stays _ (by_pick Stays _ (by_pick Stays _ (inl refl) (inl refl)) (inl refl)) (inl refl)

  module _ (i : interrupted s ≡ false) where
    translated_stays : eqb (code_of b) 0x18 ≡ true → is_refused_busy (code_of b) s ≡ false → is_valid (code_of b) s ≡ true
        → Stays (translated (accepted b s))
    unfolding translated translated_by raise outgoing_dropped accepted
    translated_stays e r v = by_pick Stays _ (inl refl) (inr (translates m b s good set at i e r v, refl))

    carried_stays : (single : Bool) → is_refused_busy (code_of b) s ≡ false → is_valid (code_of b) s ≡ true
        → Stays (carried_out (code_of b) single (accepted b s))
    unfolding carried_out disconnected selecting transfer_info_begun loaded_for_transfer_info accepted
    carried_stays single r v =
        by_pick Stays _ aborted_stays
        (by_pick Stays _ (inl refl)
        (by_pick Stays _ (inl refl)
        (by_pick Stays _ (inl refl)
        (by_pick Stays _ (inl refl)
        (by_pick Stays _ (inl refl)
        (by_pick Stays _ (transferring_stays _)
        (by_pick Stays _ (transferring_stays _)
        (by_pick Stays _ (inl refl)
        (by_case Stays _ (λ e. translated_stays e r v) λ n. by_pick Stays _ (inl refl) (inl refl))))))))))

  abbrev StaysReply : Reply → Type 0
  StaysReply r = Stays r.state

  commanded_stays : is_reset (register m b) s ≡ false → StaysReply (commanded b s)
  unfolding commanded accepted is_reset
  commanded_stays nr =
      by_case StaysReply _ (λ e. clash (is_command_lem m b s good set at 0x00 e) nr) λ n.
      by_case StaysReply _ (λ i. inl refl) λ i.
      by_case StaysReply _ (λ r. inl refl) λ r.
      by_case StaysReply _ (carried_stays i _ r) (λ v. inl refl)

-- ---- every access

module _ (m b : ℕ) (s : State) (good : is_good (register m b) ≡ true) (nr : is_reset (register m b) s ≡ false) (none : is_load m s ≡ false) where
  abbrev Access : Reply → Type 0
  Access r = (cdb_of r.state ≡ cdb_of s) ⊎ (Translates (register m b) s × (r.state.status.code ≡ 0x15))

  written_stays : is_set m ≡ true → Access (R.written_at s.status.pointer b s)
  unfolding R.written_at R.data_written is_load both
  written_stays w =
      by_case Access _ (λ at. commanded_stays m b s good w at nr) λ n.
      by_pick Access _ (inl (data_written_lem s s.transfer.direction b)) (inl (stored_same s s.status.pointer b (rw w at none)))

  access_stays : Access (R.accessed (is_set m) b s)
  unfolding R.accessed R.stepped R.accessed_at
  access_stays =
      by_pick Access _ (inl refl) (by_case Access _ written_stays (λ w. inl (read_same s s.status.pointer)))

pub load_stays : LoadStays step
unfolding step carried pick
load_stays =
    record {
      stays = λ m b s nr none. by_test (is_good (register m b)) (λ g. rw g (access_stays m b s g nr none)) (λ g. rw g (inl refl));
    }
