-- Block moves in the image: what the stores leave is the image of the state that a block leads to. The bytes l are an image; t is their
-- state as the code reads it.
--   state_is way_is image_is   the state that bytes say, the way of its data, and bytes that are a state's image
--   drained_in filled_in    many bytes moved there
--   settled_made still_waits   an ending settled, where data comes in; nothing settled while bytes wait
--   read_none read_settled read_calm   a block read: nothing moved, an ending settled, none under way
--   written_made            a block written
use mathlib.Core.Path.{◌≡◌, ap, sym, subst, ◌∙◌}
use mathlib.Core.Bool.{true, false}
use mathlib.Core.List.{List, ◌++◌}
use Prim.Native.Nat.{ℕ}
use lib.Dec.{eqb}
use lib.ListN.{length, take}
use borrow.Author.Tests.{eq-eqb, ne_eqb}
use Rattle.chip.specs.Choice.{pick, both}
use Rattle.chip.specs.Count.{left}
use Rattle.chip.specs.Fifo.{fifo_bytes, is_empty, Goes, stays, Whole}
use Rattle.chip.specs.Image.{image_length, image_of, state_of, fifo_place}
use Rattle.chip.specs.Interrupts.{in_ending, settled}
use Rattle.chip.specs.Ok.{Ok}
use Rattle.chip.specs.Registers.{block_read, block_written}
use Rattle.chip.specs.State.{fresh, set_fifo}
use Rattle.chip.specs.declared.Direction.TheVariants.{In, Out}
use Rattle.chip.specs.declared.Fifo.{Fifo}
use Rattle.chip.specs.declared.State.{State}
use Rattle.chip.proofs.Cases.{taken, passed_over}
use Rattle.chip.proofs.ImageFields.{fifo_stored, long}
use Rattle.chip.proofs.ImageLaws.{image_valid, state_image}
use Rattle.chip.proofs.ImageValid.{valid}
use Rattle.chip.proofs.Moves.{settled_quiet}
use Rattle.fifo.specs.Bulk.{Bulk, drained, filled}
use Rattle.fifo.proofs.BulkLaws.{drained_whole, drained_still}
use Rattle.image.specs.IsImage.{IsImage}
use Rattle.image.specs.Waiting.{ImageMoved, holds_fifo, image_moved, image_drained, image_filled, in_image}
use Rattle.blocks.proofs.Blocks.{settled_in, read_in, written_out}

pub image_is : (l : List ℕ) (s : State) → Ok s → l ≡ image_of s → IsImage l
image_is l s o e =
    subst IsImage (sym e)
    (record { valid = image_valid s o; ok = subst Ok (sym (state_image s o)) o; same = ap image_of (state_image s o) })

pub said : (l : List ℕ) (s : State) → Ok s → l ≡ image_of s → state_of l ≡ s
said l s o e = ap state_of e ∙ state_image s o

module _ (l : List ℕ) (o : IsImage l) where
  fits : eqb (length l) image_length ≡ true
  fits = eq-eqb _ _ (valid l o.valid).long

  pub state_is : (t : State) → t ≡ pick (eqb (length l) image_length) (state_of l) fresh → t ≡ state_of l
  state_is t e = e ∙ taken _ _ fits

  pub way_is : (t : State) → t ≡ pick (eqb (length l) image_length) (state_of l) fresh → (state_of l).transfer.direction ≡ t.transfer.direction
  way_is t e = ap (λ (x : State). x.transfer.direction) (sym (state_is t e))

  -- the FIFO's part stored anew
  put : (q : Fifo) → take fifo_place l ++ fifo_bytes q ≡ image_of (set_fifo q (state_of l))
  put q =
      ap (λ (x : List ℕ). take fifo_place x ++ fifo_bytes q) (sym o.same) ∙ sym (fifo_stored q (state_of l) (long o.ok))

  put_ok : (q : Fifo) → Whole q → Ok (set_fifo q (state_of l))
  put_ok q u = record { cdb_long = o.ok.cdb_long; count_below = o.ok.count_below; identity_below = o.ok.identity_below; fifo = u }

  run_in : (f : List ℕ → Fifo → Bulk) (d : List ℕ) → image_moved f d l ≡ in_image l (f d (state_of l).fifo)
  unfolding image_moved holds_fifo both
  run_in f d = taken _ _ (rw fits (valid l o.valid).fifo)

  drained_in : (d : List ℕ) → image_drained d l ≡ in_image l (drained d (state_of l).fifo)
  drained_in d = run_in drained d

  filled_in : (n : ℕ) (d : List ℕ) → image_filled n d l ≡ in_image l (filled n d (state_of l).fifo)
  filled_in n d = run_in (filled n) d

  -- an ending

  pub settled_made : (t u : State) (after : List ℕ) → (state_of l).transfer.direction ≡ In
      → t ≡ pick (eqb (length l) image_length) (state_of l) fresh → u ≡ settled t
      → (IsImage l → Goes (state_of l).fifo u.fifo → after ≡ image_of u) → after ≡ image_of (settled (state_of l))
  settled_made t u after d e f w =
      let is : u ≡ settled (state_of l) = f ∙ ap settled (state_is t e) in
      let same : u.fifo ≡ (state_of l).fifo = ap (λ (x : State). x.fifo) is ∙ settled_in (state_of l) d in
      w o (subst (Goes (state_of l).fifo) (sym same) stays) ∙ ap image_of is

  -- while bytes wait it does not
  pub still_waits : (t : State) → t ≡ pick (eqb (length l) image_length) (state_of l) fresh → is_empty t.fifo ≡ false
      → l ≡ image_of (settled (state_of l))
  unfolding settled
  still_waits t e w =
      let waits : is_empty (state_of l).fifo ≡ false = ap (λ (x : State). is_empty x.fifo) (sym (state_is t e)) ∙ w in
      sym o.same ∙ ap image_of (sym (passed_over _ _ waits))

  -- a block read: n bytes moved, after which the image is a and the slice z

  module _ (d : List ℕ) (i : (state_of l).transfer.direction ≡ In) (n : ℕ) (a z : List ℕ)
      (m : (n ≡ (image_drained d l).moved) × (a ≡ (image_drained d l).image) × (z ≡ (image_drained d l).bytes)) where
    abbrev run : Bulk
    run = drained d (state_of l).fifo

    number : n ≡ run.moved
    number = m.0 ∙ ap (λ (x : ImageMoved). x.moved) (drained_in d)

    lent : z ≡ run.bytes
    lent = m.2 ∙ ap (λ (x : ImageMoved). x.bytes) (drained_in d)

    then : State
    then = set_fifo run.fifo (state_of l)

    after_is : a ≡ image_of then
    unfolding then
    after_is = m.1 ∙ ap (λ (x : ImageMoved). x.image) (drained_in d) ∙ put run.fifo

    then_ok : Ok then
    unfolding then
    then_ok = put_ok run.fifo (drained_whole d (state_of l).fifo o.ok.fifo)

    pub still_image : IsImage a
    still_image = image_is a then then_ok after_is

    pub still_in : (state_of a).transfer.direction ≡ In
    unfolding then
    still_in = ap (λ (x : State). x.transfer.direction) (said a then then_ok after_is) ∙ i

    -- what a block comes to
    block : block_read d (state_of l) ≡ record { number = run.moved; state = pick (eqb run.moved 0) (state_of l) (settled then); bytes = run.bytes }
    unfolding then
    block = read_in d (state_of l) i

    abbrev Read : ℕ → List ℕ → Type 0
    Read k b = (k ≡ (block_read d (state_of l)).number) × (b ≡ image_of (block_read d (state_of l)).state) × (z ≡ (block_read d (state_of l)).bytes)

    pub read_none : n ≡ 0 → Read n a
    unfolding then
    read_none e =
        let none : run.moved ≡ 0 = sym number ∙ e in
        let kept : then ≡ state_of l = ap (λ (q : Fifo). set_fifo q (state_of l)) (drained_still d (state_of l).fifo none) in
        rw block (number, after_is ∙ ap image_of (kept ∙ sym (taken _ _ (eq-eqb _ _ none))), lent)

    module _ (some : n ≡ 0 → ⊥) where
      moved_some : eqb run.moved 0 ≡ false
      moved_some = ne_eqb _ _ (λ e. some (number ∙ e))

      pub read_settled : (b : List ℕ) → b ≡ image_of (settled (state_of a)) → Read n b
      read_settled b e =
          rw block (number, e ∙ ap (λ (x : State). image_of (settled x)) (said a then then_ok after_is) ∙ ap image_of (sym (passed_over _ _ moved_some)), lent)

      pub read_calm : in_ending (state_of l) ≡ false → Read n a
      unfolding then
      read_calm c =
          rw block (number, after_is ∙ ap image_of (sym (passed_over _ _ moved_some ∙ settled_quiet then c)), lent)

  -- a block written

  pub written_made : (d : List ℕ) (t : State) (k n : ℕ) (a : List ℕ) → (state_of l).transfer.direction ≡ Out
      → t ≡ pick (eqb (length l) image_length) (state_of l) fresh → k ≡ left t
      → (n ≡ (image_filled k d l).moved) × (a ≡ (image_filled k d l).image)
      → (n ≡ (block_written d (state_of l)).number) × (a ≡ image_of (block_written d (state_of l)).state)
  written_made d t k n a i e f m =
      let is : k ≡ left (state_of l) = f ∙ ap left (state_is t e) in
      let run = filled (left (state_of l)) d (state_of l).fifo in
      let to : image_filled k d l ≡ in_image l run = ap (λ (x : ℕ). image_filled x d l) is ∙ filled_in (left (state_of l)) d in
      rw (written_out d (state_of l) i)
      (m.0 ∙ ap (λ (x : ImageMoved). x.moved) to, m.1 ∙ ap (λ (x : ImageMoved). x.image) to ∙ put run.fifo)
