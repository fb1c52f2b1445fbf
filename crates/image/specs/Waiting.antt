-- The waiting bytes in the image: what moves them there. Bytes that hold no FIFO move none.
use Rattle.std.specs.Prelude.{Bool, List, ◌++◌, ℕ, eqb, length, take, drop}
use Rattle.chip.specs.Choice.{pick, both}
use Rattle.chip.specs.Fifo.{fifo_bytes, is_fifo}
use Rattle.chip.specs.Image.{image_length, fifo_place, state_of}
use Rattle.chip.specs.declared.Fifo.{Fifo}
use Rattle.fifo.specs.Bulk.{Bulk, drained, filled}

-- bytes as long as an image, whose end is a FIFO's
unfoldable pub holds_fifo : List ℕ → Bool
holds_fifo l = both (eqb (length l) image_length) (is_fifo (drop fifo_place l))

-- how many bytes moved, the image then, and the slice then
pub record ImageMoved : Type 0 where
  pub moved : ℕ
  pub image : List ℕ
  pub bytes : List ℕ

abbrev pub in_image : List ℕ → Bulk → ImageMoved
in_image l r = record { moved = r.moved; image = take fifo_place l ++ fifo_bytes r.fifo; bytes = r.bytes }

abbrev pub unmoved : List ℕ → List ℕ → ImageMoved
unmoved d l = record { moved = 0; image = l; bytes = d }

-- a run f over the FIFO (`drained`, `filled`) with the slice d, where the end is a FIFO's
unfoldable pub image_moved : (List ℕ → Fifo → Bulk) → List ℕ → List ℕ → ImageMoved
image_moved f d l = pick (holds_fifo l) (in_image l (f d (state_of l).fifo)) (unmoved d l)

-- read out into the slice d
abbrev pub image_drained : List ℕ → List ℕ → ImageMoved
image_drained d l = image_moved drained d l

-- the slice d written in, as long as fewer than n wait
abbrev pub image_filled : ℕ → List ℕ → List ℕ → ImageMoved
image_filled n d l = image_moved (filled n) d l
