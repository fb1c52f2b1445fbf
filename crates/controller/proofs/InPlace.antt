-- Stores into an image, one after the other: after each, the bytes are the image of the state so far.
-- `At l t`: the bytes l are the image of t. `at_start`: of the state that they say. `put-..-at`: a store of image::store.
use Rattle.std.specs.Prelude.{Option}
use Rattle.std.proofs.Common.{◌≡◌, ℕ, ◌/◌, ◌%◌, true, eqb, List, ◌++◌, length, take, set, sym, ap, ◌∙◌, arith, length-append, eq-eqb}
use Rattle.chip.specs.Choice.{pick}
use Rattle.chip.specs.declared.State.{State}
use Rattle.chip.specs.declared.Fifo.{Fifo}
use Rattle.chip.specs.Fifo.{fifo_bytes, Whole}
use Rattle.chip.specs.State.{set_pointer, set_fifo, set_count, set_last}
use Rattle.chip.specs.Image.{image_of, state_of, noted_byte, image_length, fifo_place}
use Rattle.chip.specs.declared.Phase.{Phase}
use Rattle.chip.proofs.FifoLaws.{fifo_length_lem}
use Rattle.chip.proofs.ImagePlaces.{head_length, middle_length}
use Rattle.image.specs.IsImage.{IsImage}
use Rattle.chip.proofs.ImageFields.{Long, long, pointer_stored, last_stored, low_stored, fifo_stored}
use Rattle.chip.proofs.Cases.{taken}

pub record At (l : List ℕ) (t : State) : Type 0 where
  pub image : l ≡ image_of t
  pub long : Long t
  pub fifo : Whole t.fifo

pub at_start : {l : List ℕ} → IsImage l → At l (state_of l)
at_start o = record { image = sym o.same; long = long o.ok; fifo = o.ok.fifo }

module _ {l : List ℕ} {t : State} (a : At l t) where
  pub fits : length l ≡ image_length
  unfolding image_of
  fits =
      ap length a.image
      ∙ simp length-append (omega (arith, head_length t, middle_length t, a.long.cdb_long, fifo_length_lem t.fifo a.fifo))

  whole : eqb (length l) image_length ≡ true
  whole = eq-eqb _ _ fits

  pub put_pointer_at : (after : List ℕ) (b : ℕ) → after ≡ pick (eqb (length l) image_length) (set l 25 b) l → At after (set_pointer b t)
  put_pointer_at after b e =
      record {
        image =
            e ∙ taken _ _ whole ∙ ap (λ (x : List ℕ). set x 25 b) a.image ∙ sym (pointer_stored b t a.long);
        long = record { cdb_long = a.long.cdb_long };
        fifo = a.fifo;
      }

  pub put_last_at : (after : List ℕ) (v : ℕ) (p : Option Phase) → after ≡ pick (eqb (length l) image_length) (set l 37 v) l → v ≡ noted_byte p
      → At after (set_last p t)
  put_last_at after v p e n =
      record {
        image =
            e ∙ taken _ _ whole ∙ ap (λ (x : ℕ). set l 37 x) n
            ∙ ap (λ (x : List ℕ). set x 37 (noted_byte p)) a.image ∙ sym (last_stored p t a.long);
        long = record { cdb_long = a.long.cdb_long };
        fifo = a.fifo;
      }

  pub put_low_at : (after : List ℕ) (n b : ℕ) → b ≡ n % 256 → after ≡ pick (eqb (length l) image_length) (set l 20 b) l
      → n / 256 ≡ t.registers.count / 256 → At after (set_count n t)
  put_low_at after n b v e h =
      record {
        image =
            e ∙ taken _ _ whole ∙ ap (λ (x : ℕ). set l 20 x) v ∙ ap (λ (x : List ℕ). set x 20 (n % 256)) a.image
            ∙ sym (low_stored n t a.long h);
        long = record { cdb_long = a.long.cdb_long };
        fifo = a.fifo;
      }

  pub put_fifo_at : (after : List ℕ) (q : Fifo) → Whole q
      → after ≡ pick (eqb (length l) image_length) (take fifo_place l ++ fifo_bytes q) l → At after (set_fifo q t)
  put_fifo_at after q u e =
      record {
        image =
            e ∙ taken _ _ whole ∙ ap (λ (x : List ℕ). take fifo_place x ++ fifo_bytes q) a.image
            ∙ sym (fifo_stored q t a.long);
        long = record { cdb_long = a.long.cdb_long };
        fifo = u;
      }
