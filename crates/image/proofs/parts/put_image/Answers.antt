-- `parts::put_image`: the image up to its end, and the FIFO's part, are the image.
use Rattle.std.proofs.Common.{◌≡◌, ◌++◌, ap, ◌∙◌, List, ℕ, length, rules, arith, eq-eqb}
use Rattle.chip.specs.Fifo.{fifo_bytes}
use Rattle.chip.specs.Image.{image_length}
use Rattle.chip.proofs.Cases.{taken}
use Rattle.image.proofs.Others.{before_end, whole_image}
use Rattle.image.proofs.parts.put_image.Goals as goal

pub returns : goal.returns
returns c =
    let s = c.args.s in
    let y = c.put_others.new.image in
    let cdb_long : length s.registers.descriptor.cdb ≡ 12 = search rules in
    let hy : length y ≡ image_length = omega (arith, c.requires, c.put_others.auto.image) in
    c.fifo.ensures ∙ taken _ _ (eq-eqb _ _ hy)
    ∙ ap (λ (x : List ℕ). x ++ fifo_bytes s.fifo) (before_end s cdb_long y _ c.put_others.ensures)
    ∙ whole_image s cdb_long
