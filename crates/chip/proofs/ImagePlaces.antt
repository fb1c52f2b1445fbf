-- Where each byte of a state's image stands.
-- `head_length`, `middle_length`: how many bytes stand before the command bytes, and between them and the FIFO's.
-- `image_length_lem`: how many there are. `cdb_whole`: the command bytes are twelve.
-- `spread`: the image with the command bytes one by one, so that what stands at a place computes.
use mathlib.Core.Path.{◌≡◌, refl, ap, sym, ◌∙◌}
use mathlib.Core.List.{List, ◌++◌}
use Prim.Native.Nat.{ℕ}
use native.Mathlib.Omega.{arith}
use lib.ListN.{length, length-append}
use lib.Seq.{take_all}
use Rattle.chip.specs.declared.State.{State}
use Rattle.chip.specs.Image.{head_bytes, middle_bytes, image_of, image_length}
use Rattle.chip.specs.Ok.{Ok}
use Rattle.chip.proofs.ImageLists.{spelled, spelled_is}
use Rattle.chip.specs.Fifo.{fifo_bytes}
use Rattle.chip.proofs.FifoLaws.{fifo_length_lem}

pub head_length : (s : State) → length (head_bytes s) ≡ 3
unfolding head_bytes
head_length s = refl

pub middle_length : (s : State) → length (middle_bytes s) ≡ 25
unfolding middle_bytes
middle_length s = refl

module _ (s : State) (o : Ok s) where
  pub image_length_lem : length (image_of s) ≡ image_length
  unfolding image_of
  image_length_lem = simp length-append (omega (arith, head_length s, middle_length s, o.cdb_long, fifo_length_lem s.fifo o.fifo))

  pub cdb_whole : spelled 12 0 s.registers.descriptor.cdb ≡ s.registers.descriptor.cdb
  cdb_whole =
      spelled_is 12 0 s.registers.descriptor.cdb (omega (arith, o.cdb_long)) ∙ take_all 12 s.registers.descriptor.cdb (omega (arith, o.cdb_long))

  pub spread : image_of s ≡ head_bytes s ++ (spelled 12 0 s.registers.descriptor.cdb ++ (middle_bytes s ++ fifo_bytes s.fifo))
  unfolding image_of
  spread = ap (λ (r : List ℕ). head_bytes s ++ (r ++ (middle_bytes s ++ fifo_bytes s.fifo))) (sym cdb_whole)
