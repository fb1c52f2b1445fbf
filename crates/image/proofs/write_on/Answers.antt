-- `write_on`: the image up to its end, and of the FIFO's part one place and the ends.
use Rattle.std.proofs.Common.{◌≡◌, ◌++◌, ap₂, sym, ◌∙◌, List, ℕ, length, take, drop, rules, arith, eqb, eq-eqb}
use Rattle.chip.specs.Choice.{pick}
use Rattle.chip.specs.Fifo.{ends_over}
use Rattle.chip.specs.Image.{image_length, fifo_place, image_of}
use Rattle.chip.specs.declared.State.{State}
use Rattle.chip.proofs.Cases.{taken}
use Rattle.chip.proofs.ImageValid.{valid}
use Rattle.image.proofs.Others.{before_end, after_others, went_on}
use Rattle.image.proofs.write_on.Goals as goal

-- what is stored after the image up to its end; l: the image before, y: with all but the FIFO's bytes, z: with the ends too
stored : (s : State) (l y z : List ℕ) → length s.registers.descriptor.cdb ≡ 12 → length y ≡ image_length
    → y ≡ take fifo_place (image_of s) ++ drop fifo_place l
    → z ≡ pick (eqb (length y) image_length) (take fifo_place y ++ ends_over s.fifo (drop fifo_place y)) y
    → z ≡ take fifo_place (image_of s) ++ ends_over s.fifo (drop fifo_place l)
stored s l y z h hy e f =
    f ∙ taken _ _ (eq-eqb _ _ hy)
    ∙ ap₂ (λ (a b : List ℕ). a ++ ends_over s.fifo b) (before_end s h y _ e) (after_others s h y _ e)

pub returns-then-image-eq-LENGTH-clause-stored : goal.returns-then-image-eq-LENGTH-clause-stored
returns-then-image-eq-LENGTH-clause-stored c =
    let s = c.args.s in
    let h = c.if-image-eq-LENGTH.true in
    let y = c.put_others.new.image in
    let cdb_long : length s.registers.descriptor.cdb ≡ 12 = search rules in
    let hy : length y ≡ image_length = omega (arith, h, c.put_others.auto.image) in
    stored s c.args.image.now y _ cdb_long hy c.put_others.ensures c.ends.ensures ∙ sym (taken _ _ (eq-eqb _ _ h))

pub returns-then-image-eq-LENGTH-clause-goes_on : goal.returns-then-image-eq-LENGTH-clause-goes_on
returns-then-image-eq-LENGTH-clause-goes_on c =
    let s = c.args.s in
    let y = c.put_others.new.image in
    let cdb_long : length s.registers.descriptor.cdb ≡ 12 = search rules in
    let hy : length y ≡ image_length = omega (arith, c.if-image-eq-LENGTH.true, c.put_others.auto.image) in
    λ o g. stored s c.args.image.now y _ cdb_long hy c.put_others.ensures c.ends.ensures ∙ went_on _ s cdb_long o g

pub returns-else-image-eq-LENGTH-clause-goes_on : goal.returns-else-image-eq-LENGTH-clause-goes_on
returns-else-image-eq-LENGTH-clause-goes_on c = λ o g. absurd (c.if-image-eq-LENGTH.false (valid _ o.valid).long)
