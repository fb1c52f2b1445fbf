-- `is_image`: the laws of the image hold of a slice of bytes.
use Rattle.std.proofs.Common.{◌≡◌, sym, ◌∙◌, true, arith}
use Rattle.chip.specs.Image.{is_image}
use Rattle.chip.specs.Ok.{Bytes}
use Rattle.chip.proofs.ImageLaws.{image_state, state_ok}
use Rattle.image.proofs.is_image.Goals as goal

pub returns-then-image-eq-LENGTH : goal.returns-then-image-eq-LENGTH
returns-then-image-eq-LENGTH c =
    let l = c.args.image.now in
    let bytes : Bytes l = λ k. omega (arith, c.type_inv.image k) in (
      c.has_form.ensures,
      λ h.
          let e : is_image l ≡ true = sym c.has_form.ensures ∙ h in
          record { valid = e; ok = state_ok l e bytes; same = image_state l e bytes },
    )
