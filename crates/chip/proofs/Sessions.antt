-- The paper's sessions and the translations hold of the definitions: each call gives the answer of the table, each register shows its byte.
use mathlib.Core.Path.{◌≡◌, refl}
use lib.ListN.{replicate}
use Rattle.chip.specs.State.{fresh}
use Rattle.chip.specs.Image.{image_of, head_bytes, middle_bytes, image_length}
use Rattle.chip.specs.Fifo.{fifo_bytes}
use Rattle.chip.specs.Sessions.{sessions, played, played_each}
use Rattle.chip.specs.Translations.{translations}
use Rattle.chip.proofs.Computing.{everything}

pub sessions_hold : played_each sessions ≡ sessions
unfolding everything sessions played played_each
sessions_hold = refl

pub translations_hold : played_each translations ≡ translations
unfolding everything translations played played_each
translations_hold = refl

-- "A fresh state is all zero": its image is zeros
pub fresh_image : image_of fresh ≡ replicate image_length 0
unfolding image_of head_bytes middle_bytes fifo_bytes
fresh_image = refl
