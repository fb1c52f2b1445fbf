-- What the stores of each call served in place (in_place.rt) leave: the call's own reply, by chip's proofs/Moves.antt. The bytes l are
-- an image, and `after..` are the bytes after each store. in_place.rt names these lemmas in the attributes of its functions.
use Rattle.std.specs.Prelude.{Some}
use Rattle.std.proofs.Common.{◌≡◌, ℕ, ◌+◌, ◌-◌, ◌%◌, ◌<◌, ◌≤◌, Bool, true, false, eqb, ltb, List, ◌++◌, length, get_or, take, set, sym, refl, ap, ◌∙◌, arith, length-set, lt-ltb, eq-eqb}
use Rattle.chip.specs.Choice.{pick, both}
use Rattle.chip.specs.declared.State.{State}
use Rattle.chip.specs.declared.Reply.{Reply}
use Rattle.chip.specs.declared.Answer.{Answer}
use Rattle.chip.specs.declared.Answer.TheVariants.{Done}
use Rattle.chip.specs.declared.Direction.TheVariants.{In}
use Rattle.chip.specs.declared.Phase.TheVariants.{DataIn, DataOut}
use Rattle.chip.specs.Answers.{done}
use Rattle.chip.specs.Fifo.{is_empty, has_room, front, pop, push, fifo_bytes}
use Rattle.chip.specs.State.{set_pointer, set_fifo}
use Rattle.chip.specs.Image.{image_of, state_of, image_length, fifo_place}
use Rattle.chip.specs.Registers.{accessed, accessed_at, pointer_set, stored, register_at}
use Rattle.chip.specs.Events.{requested}
use Rattle.chip.specs.Interrupts.{in_ending, settled}
use Rattle.chip.specs.Ok.{Ok}
use Rattle.chip.proofs.FifoLaws.{keeps_bytes}
use Rattle.image.specs.IsImage.{IsImage}
use Rattle.blocks.proofs.InImage.{image_is, said as image-says}
use Rattle.chip.proofs.ImageRegisters.{register_at_lem, register_and_pointer}
use Rattle.chip.specs.Moves.{is_plain, reads_data, writes_data, takes_data, sends_data}
use Rattle.chip.proofs.Moves.{below, plain_read, plain_write, data_read_lem, data_write, coming_in, settled_quiet, low, taking, byte_taken, sending, byte_sent}
use Rattle.controller.specs.Returns.{Returns}
use Rattle.chip.proofs.Cases.{taken}
use Rattle.controller.proofs.Entry.{long_enough, and_true}
use Rattle.controller.proofs.InPlace.{At, at_start, fits, put_pointer_at, put_last_at, put_low_at, put_fifo_at}

-- a reply as it is computed
replied : (p r : Reply) (a : Answer) (after : List ℕ) → p ≡ r → Returns r a after → Returns p a after
replied p r a after e m = record { answer = m.answer ∙ ap (λ (x : Reply). x.answer) (sym e); image = m.image ∙ ap (λ (x : Reply). image_of x.state) (sym e) }

module _ (l : List ℕ) (o : IsImage l) where
  start : At l (state_of l)
  start = at_start o

  pub length_is : length l ≡ image_length
  length_is = fits start

  pub pointer_stored_made : (b : ℕ) (after : List ℕ) → after ≡ pick (eqb (length l) image_length) (set l 25 b) l
      → Returns (pointer_set b (state_of l)) (Done 0) after
  unfolding pointer_set
  pointer_stored_made b after e = record { answer = refl; image = (put_pointer_at start after b e).image }

  pub plain_below : is_plain (state_of l) ≡ true → get_or l 25 0 < 23
  unfolding state_of
  plain_below e = below (state_of l) e

  pub plain_written : (b next : ℕ) (after after₂ : List ℕ) → is_plain (state_of l) ≡ true → b < 256
      → after ≡ pick (both (eqb (length l) image_length) (ltb (get_or l 25 0) 23)) (set l (get_or l 25 0) b) l
      → next ≡ (get_or l 25 0 + 1) % 256 → after₂ ≡ pick (eqb (length after) image_length) (set after 25 next) after
      → Returns (accessed true b (state_of l)) (Done 0) after₂
  unfolding state_of
  plain_written b next after after₂ e h f w g =
      let a = get_or l 25 0 in
      let k : a < 23 = plain_below e in
      let f' : after ≡ set l a b = f ∙ taken _ _ (and_true (long_enough l o.valid) (lt-ltb _ _ k)) in
      let n : length after ≡ image_length = ap length f' ∙ length-set l a b ∙ length_is in
      let g' : after₂ ≡ set after 25 next = g ∙ taken _ _ (eq-eqb _ _ n) in
      let p : accessed true b (state_of l) ≡ done 0 (set_pointer next (stored a b (state_of l))) =
      plain_write (state_of l) e b ∙ ap (λ (x : ℕ). done 0 (set_pointer x (stored a b (state_of l)))) (sym w) in
      replied _ _ _ _ p
      (record {
        answer = refl;
        image =
            g' ∙ ap (λ (x : List ℕ). set x 25 next) f' ∙ ap (λ (x : List ℕ). set (set x a b) 25 next) start.image
            ∙ sym (register_and_pointer b next (state_of l) start.long h a k);
      })

  pub plain_given : (b next : ℕ) (after : List ℕ) → is_plain (state_of l) ≡ true
      → next ≡ (get_or l 25 0 + 1) % 256 → after ≡ pick (eqb (length l) image_length) (set l 25 next) l
      → Returns (accessed false b (state_of l)) (Done (get_or l (get_or l 25 0) 0)) after
  unfolding state_of
  plain_given b next after e w f =
      let a = get_or l 25 0 in
      let v : register_at a (state_of l).registers ≡ get_or l a 0 =
      register_at_lem (state_of l) start.long a (plain_below e) ∙ ap (λ (x : List ℕ). get_or x a 0) o.same in
      let p : accessed false b (state_of l) ≡ done (register_at a (state_of l).registers) (set_pointer next (state_of l)) =
      plain_read (state_of l) e b ∙ ap (λ (x : ℕ). done (register_at a (state_of l).registers) (set_pointer x (state_of l))) (sym w) in
      replied _ _ _ _ p (record { answer = ap Done (sym v); image = (put_pointer_at start after next f).image })

  -- after the first store, of the FIFO without its oldest byte, or with one more

  popped : (after : List ℕ) → after ≡ pick (eqb (length l) image_length) (take fifo_place l ++ fifo_bytes (pop (state_of l).fifo)) l
      → At after (set_fifo (pop (state_of l).fifo) (state_of l))
  popped after g = put_fifo_at start after (pop (state_of l).fifo) (keeps_bytes.pop_whole (state_of l).fifo start.fifo) g

  pushed : (b : ℕ) (after : List ℕ) → after ≡ pick (eqb (length l) image_length) (take fifo_place l ++ fifo_bytes (push b (state_of l).fifo)) l
      → At after (set_fifo (push b (state_of l).fifo) (state_of l))
  pushed b after g = put_fifo_at start after (push b (state_of l).fifo) (keeps_bytes.push_whole (state_of l).fifo b start.fifo) g

  -- the oldest byte, as it is read off the image
  oldest : (x : ℕ) → x ≡ pick (eqb (length l) image_length) (front (state_of l).fifo) 0 → x ≡ front (state_of l).fifo
  oldest x e = e ∙ taken _ _ (long_enough l o.valid)

  module _ (after : List ℕ) (g : after ≡ pick (eqb (length l) image_length) (take fifo_place l ++ fifo_bytes (pop (state_of l).fifo)) l) where
    popped_ok : Ok (set_fifo (pop (state_of l).fifo) (state_of l))
    popped_ok =
        record {
          cdb_long = o.ok.cdb_long;
          count_below = o.ok.count_below;
          identity_below = o.ok.identity_below;
          fifo = keeps_bytes.pop_whole (state_of l).fifo start.fifo;
        }

    pub popped_image : IsImage after
    popped_image = image_is after _ popped_ok (popped after g).image

    popped_state : state_of after ≡ set_fifo (pop (state_of l).fifo) (state_of l)
    popped_state = image-says after _ popped_ok (popped after g).image

    -- still an image, and data comes in: what settles an ending asks for
    pub popped_in : reads_data (state_of l) ≡ true → IsImage after × ((state_of after).transfer.direction ≡ In)
    popped_in d = (popped_image, ap (λ (x : State). x.transfer.direction) popped_state ∙ coming_in (state_of l) d)

    -- a read of the Data register: where no ending is under way, and where one settles
    pub data_given : (b f : ℕ) → reads_data (state_of l) ≡ true → f ≡ pick (eqb (length l) image_length) (front (state_of l).fifo) 0
        → in_ending (state_of l) ≡ false → Returns (accessed false b (state_of l)) (Done f) after
    data_given b f d h calm =
        replied _ _ _ _ (data_read_lem (state_of l) d b)
        (record {
          answer = ap Done (oldest f h);
          image = (popped after g).image ∙ ap image_of (sym (settled_quiet (set_fifo (pop (state_of l).fifo) (state_of l)) calm));
        })

    pub data_settled : (b f : ℕ) (after₂ : List ℕ) → reads_data (state_of l) ≡ true
        → f ≡ pick (eqb (length l) image_length) (front (state_of l).fifo) 0 → after₂ ≡ image_of (settled (state_of after))
        → Returns (accessed false b (state_of l)) (Done f) after₂
    data_settled b f after₂ d h e =
        replied _ _ _ _ (data_read_lem (state_of l) d b)
        (record { answer = ap Done (oldest f h); image = e ∙ ap (λ (x : State). image_of (settled x)) popped_state })

  pub data_written_lem : (b : ℕ) (after : List ℕ) → writes_data (state_of l) ≡ true
      → after ≡ pick (eqb (length l) image_length) (take fifo_place l ++ fifo_bytes (push b (state_of l).fifo)) l
      → Returns (accessed true b (state_of l)) (Done 0) after
  data_written_lem b after d g =
      replied _ _ _ _ (data_write (state_of l) d b) (record { answer = refl; image = (pushed b after g).image })

  pub low_enough : takes_data (state_of l) ≡ true → 2 ≤ (state_of l).registers.count % 256
  low_enough e = low (state_of l) (taking (state_of l) e)

  pub low_enough_out : sends_data (state_of l) ≡ true → 2 ≤ (state_of l).registers.count % 256
  low_enough_out e = low (state_of l) (sending (state_of l) e)

  pub taken_made : (b v : ℕ) (after after₂ after₃ : List ℕ) → takes_data (state_of l) ≡ true
      → has_room (state_of l).fifo ≡ true → v ≡ ((state_of l).registers.count - 1) % 256
      → after ≡ pick (eqb (length l) image_length) (take fifo_place l ++ fifo_bytes (push b (state_of l).fifo)) l
      → after₂ ≡ pick (eqb (length after) image_length) (set after 20 v) after
      → after₃ ≡ pick (eqb (length after₂) image_length) (set after₂ 37 2) after₂
      → Returns (requested DataIn b false (state_of l)) (Done b) after₃
  taken_made b v after after₂ after₃ d r h f g k =
      let n = low_enough d in
      let one = pushed b after f in
      let two = put_low_at one after₂ ((state_of l).registers.count - 1) v h g (omega (arith, n)) in
      replied _ _ _ _ (byte_taken (state_of l) d b r)
      (record { answer = refl; image = (put_last_at two after₃ 2 (Some DataIn) k refl).image })

  pub sent_made : (b v : ℕ) (bad : Bool) (x : ℕ) (after after₂ after₃ : List ℕ) → sends_data (state_of l) ≡ true
      → is_empty (state_of l).fifo ≡ false → v ≡ ((state_of l).registers.count - 1) % 256
      → x ≡ pick (eqb (length l) image_length) (front (state_of l).fifo) 0
      → after ≡ pick (eqb (length l) image_length) (take fifo_place l ++ fifo_bytes (pop (state_of l).fifo)) l
      → after₂ ≡ pick (eqb (length after) image_length) (set after 20 v) after
      → after₃ ≡ pick (eqb (length after₂) image_length) (set after₂ 37 1) after₂
      → Returns (requested DataOut b bad (state_of l)) (Done x) after₃
  sent_made b v bad x after after₂ after₃ d r h y f g k =
      let n = low_enough_out d in
      let one = popped after f in
      let two = put_low_at one after₂ ((state_of l).registers.count - 1) v h g (omega (arith, n)) in
      replied _ _ _ _ (byte_sent (state_of l) d b bad r)
      (record { answer = ap Done (oldest x y); image = (put_last_at two after₃ 1 (Some DataOut) k refl).image })

-- a read asks for no byte
pub read_alike : (b : ℕ) (s : State) → accessed false b s ≡ accessed false 0 s
unfolding accessed accessed_at pick
read_alike b s = refl
