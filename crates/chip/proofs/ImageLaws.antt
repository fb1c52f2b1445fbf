-- The image and the state: each is the other's, where the bytes are an image and the state is one that the form can hold.
-- `state_image`: the state that a state's image says is that state. `image_valid`: a state's image is an image.
-- `image_state`: an image is the image of the state that it says. `state_ok`: that state is one that the form can hold.
-- `one_image`: two states with one image are one state. `fresh_ok`: the fresh state is one that the form can hold.
use mathlib.Core.Path.{◌≡◌, refl, ap, sym, ◌∙◌}
use mathlib.Core.Bool.{true}
use mathlib.Core.List.{List, ◌++◌}
use Prim.Native.Nat.{ℕ}
use native.Mathlib.Omega.{arith}
use lib.ListN.{take, drop, length-drop}
use lib.Seq.{length-take-le}
use borrow.Author.Tests.{lt-ltb}
use Rattle.chip.specs.declared.State.{State}
use Rattle.chip.specs.Choice.{both}
use Rattle.chip.specs.State.{fresh}
use Rattle.chip.specs.Image.{head_bytes, middle_bytes, image_of, state_of, is_image, fifo_place}
use Rattle.chip.specs.Ok.{Ok, Bytes}
use Rattle.chip.proofs.ImageLists.{spelled, spelled_is, seam}
use Rattle.chip.proofs.ImagePlaces.{image_length_lem, cdb_whole, spread}
use Rattle.chip.proofs.ImageForms.{bit_form, connection_form, direction_form, noted_form, bit_kept, connection_kept, direction_kept, noted_kept, count_back, high_kept, middle_kept, low_kept}
use Rattle.chip.proofs.ImageActivity.{activity_form, activity_valid, pending_kept, code_kept, running_kept}
use Rattle.chip.proofs.ImageValid.{valid}
use Rattle.chip.specs.Fifo.{fifo_bytes, fifo_of}
use Rattle.chip.proofs.FifoLaws.{fifo_back, fifo_valid, bytes_back, fifo_ok, keeps_bytes}

-- a state by its parts
by_parts : (t s : State) → t.registers ≡ s.registers → t.status ≡ s.status → t.activity ≡ s.activity → t.fifo ≡ s.fifo
    → t.transfer ≡ s.transfer → t.wire ≡ s.wire → t ≡ s
by_parts t s a b x c d e =
    let p : record { registers = t.registers; status = t.status; activity = t.activity; fifo = t.fifo; transfer = t.transfer; wire = t.wire } ≡ s =
    rw (a, b, x, c, d, e) in
    p

module _ (s : State) (o : Ok s) where
  registers_back : (state_of (image_of s)).registers ≡ s.registers
  unfolding state_of head_bytes middle_bytes
  registers_back = rw (spread s o) (simp (cdb_whole s o, count_back s.registers.count o.count_below))

  status_back : (state_of (image_of s)).status ≡ s.status
  unfolding state_of head_bytes middle_bytes
  status_back =
      let t = s.status in
      rw (spread s o) (simp ((bit_form t.lci).0, (bit_form t.pe).0))

  activity_back : (state_of (image_of s)).activity ≡ s.activity
  unfolding state_of head_bytes middle_bytes
  activity_back = rw (spread s o) (activity_form s.activity)

  fifo_part_back : (state_of (image_of s)).fifo ≡ s.fifo
  unfolding state_of head_bytes middle_bytes
  fifo_part_back = rw (spread s o) (fifo_back s.fifo o.fifo)

  transfer_back : (state_of (image_of s)).transfer ≡ s.transfer
  unfolding state_of head_bytes middle_bytes
  transfer_back =
      let t = s.transfer in
      rw (spread s o) (simp ((direction_form t.direction).0, (bit_form t.single).0))

  wire_back : (state_of (image_of s)).wire ≡ s.wire
  unfolding state_of head_bytes middle_bytes
  wire_back =
      let w = s.wire in
      rw (spread s o)
      (simp (
        (connection_form w.connection).0,
        (bit_form w.handshake.atn).0,
        (bit_form w.handshake.ack).0,
        (noted_form w.seen.reported).0,
        (noted_form w.seen.last).0,
      ))

  pub state_image : state_of (image_of s) ≡ s
  state_image = by_parts (state_of (image_of s)) s registers_back status_back activity_back fifo_part_back transfer_back wire_back

  pub image_valid : is_image (image_of s) ≡ true
  unfolding is_image both head_bytes middle_bytes
  image_valid =
      rw (image_length_lem s o, spread s o)
      (simp (
        (bit_form s.status.lci).1,
        (bit_form s.status.pe).1,
        activity_valid s.activity,
        (connection_form s.wire.connection).1,
        (direction_form s.transfer.direction).1,
        (bit_form s.transfer.single).1,
        (bit_form s.wire.handshake.atn).1,
        (bit_form s.wire.handshake.ack).1,
        (noted_form s.wire.seen.reported).1,
        (noted_form s.wire.seen.last).1,
        lt-ltb _ _ o.identity_below,
        fifo_valid s.fifo o.fifo,
      ))

module _ (l : List ℕ) (e : is_image l ≡ true) (b : Bytes l) where
  middle_back : middle_bytes (state_of l) ≡ spelled 25 15 l
  unfolding middle_bytes state_of
  middle_back =
      let v = valid l e in
      simp (
        high_kept _ _ _ (b 18) (b 19) (b 20),
        middle_kept _ _ _ (b 18) (b 19) (b 20),
        low_kept _ _ _ (b 18) (b 19) (b 20),
        bit_kept _ v.b26,
        bit_kept _ v.b27,
        pending_kept _ _ _ v.b28,
        code_kept _ _ _ v.b28,
        running_kept _ _ _ v.b28,
        connection_kept _ v.b30,
        direction_kept _ v.b32,
        bit_kept _ v.b33,
        bit_kept _ v.b34,
        bit_kept _ v.b35,
        noted_kept _ v.b36,
        noted_kept _ v.b37,
      )

  pub image_state : image_of (state_of l) ≡ l
  unfolding image_of head_bytes state_of
  image_state =
      let h = (valid l e).long in
      let head = head_bytes (state_of l) in
      let cdb = take 12 (drop 3 l) in
      ap (λ (r : List ℕ). head ++ (cdb ++ (r ++ fifo_bytes (fifo_of (drop fifo_place l))))) (middle_back ∙ spelled_is 25 15 l (omega arith))
      ∙ ap (λ (r : List ℕ). head ++ (cdb ++ (take 25 (drop 15 l) ++ r)))
      (bytes_back (drop fifo_place l) (rw length-drop (omega arith)))
      ∙ ap (λ (r : List ℕ). head ++ (cdb ++ r)) (seam 25 15 l)
      ∙ ap (λ (r : List ℕ). head ++ r) (seam 12 3 l)
      ∙ ap (λ (r : List ℕ). r ++ drop 3 l) (spelled_is 3 0 l (omega arith))
      ∙ seam 3 0 l

  pub state_ok : Ok (state_of l)
  unfolding state_of
  state_ok =
      let v = valid l e in
      record {
        cdb_long = length-take-le 12 (drop 3 l) (rw length-drop (omega (arith, v.long)));
        count_below = omega (arith, b 18, b 19, b 20);
        identity_below = v.b38;
        fifo = fifo_ok (drop fifo_place l) (rw length-drop (omega (arith, v.long))) v.fifo;
      }

pub one_image : (s t : State) → Ok s → Ok t → image_of s ≡ image_of t → s ≡ t
one_image s t o p e = sym (state_image s o) ∙ ap state_of e ∙ state_image t p

pub fresh_ok : Ok fresh
unfolding both
fresh_ok =
    record {
      cdb_long = refl;
      count_below = omega arith;
      identity_below = omega arith;
      fifo = keeps_bytes.begins_whole;
    }
