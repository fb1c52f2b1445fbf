-- The commands tell no places.
--   commands   a byte written to the Command register
use mathlib.Core.Path.{◌≡◌, refl}
use mathlib.Core.Bool.{Bool}
use mathlib.Core.List.{List}
use Prim.Native.Nat.{ℕ}
use Rattle.chip.specs.State.{set_fifo}
use Rattle.chip.specs.Lines.{code_of}
use Rattle.chip.specs.Interrupts.{busy}
use Rattle.chip.specs.Count.{loaded, means_one, loaded_for_transfer_info}
use Rattle.chip.specs.Translate.{translated_by, translated}
use Rattle.chip.specs.SelectAndTransfer.{size, from_disconnected, has_size, is_resumable}
use Rattle.chip.specs.Commands.{is_ready, is_valid, reset_code, reset, aborted, disconnected, selecting, select_and_transfer_begun, transfer_info_begun, carried_out, accepted, is_refused_busy, commanded}
use Rattle.chip.specs.declared.Command.{Command}
use Rattle.chip.specs.declared.Fifo.{Fifo}
use Rattle.chip.specs.declared.State.{State}
use Rattle.keeping.specs.Keeping.{SameBytes, Alike}
use Rattle.keeping.proofs.SameBytes.{same_begin}
use Rattle.keeping.proofs.Alike.{AlikeReply, said, alike, chosen, replied, replied_by}
use Rattle.keeping.proofs.Moving.{raised, ended}
use Rattle.keeping.proofs.SelectAndTransfer.{resumes}

module _ (s : State) {r : Fifo} (g : SameBytes s.fifo r) where
  aborts : Alike (aborted s) (aborted (set_fifo r s))
  unfolding aborted
  aborts = chosen _ (ended _ g _) (raised _ g 0x22)

  begins : (c : Command) → Alike (select_and_transfer_begun c s) (select_and_transfer_begun c (set_fifo r s))
  unfolding select_and_transfer_begun selecting from_disconnected loaded
  begins c = chosen _ (resumes s g c) (alike same_begin)

  translates : (l : List ℕ) → Alike (translated_by l s) (translated_by l (set_fifo r s))
  unfolding translated_by
  translates l = chosen _ (raised s g 0x45) (raised _ g 0x15)

  carries_out_lem : (n : ℕ) (single : Bool) → Alike (carried_out n single s) (carried_out n single (set_fifo r s))
  unfolding carried_out disconnected selecting translated transfer_info_begun loaded_for_transfer_info means_one
  carries_out_lem n single =
      chosen _ aborts
      (chosen _ (alike g)
      (chosen _ (alike g)
      (chosen _ (alike same_begin)
      (chosen _ (alike g)
      (chosen _ (alike g)
      (chosen _ (begins _)
      (chosen _ (begins _)
      (chosen _ (alike g) (chosen _ (translates _) (chosen _ (alike same_begin) (alike g)))))))))))

  same_valid : (n : ℕ) → is_valid n s ≡ is_valid n (set_fifo r s)
  unfolding is_valid is_ready is_resumable has_size size
  same_valid n = refl

  same_refused : (n : ℕ) → is_refused_busy n s ≡ is_refused_busy n (set_fifo r s)
  unfolding is_refused_busy busy is_valid is_ready is_resumable has_size size
  same_refused n = refl

pub commands : (b : ℕ) (s : State) {r : Fifo} → SameBytes s.fifo r → AlikeReply (commanded b s) (commanded b (set_fifo r s))
unfolding commanded accepted reset reset_code
commands b s g =
    replied _ (said (alike same_begin))
    (replied _ (said (alike g))
    (replied_by (same_refused s g (code_of b)) (said (alike g))
    (replied_by (same_valid s g (code_of b)) (said (carries_out_lem _ g (code_of b) _)) (said (alike g)))))
