-- `parts::put_others`: three runs, one after the other, are the image up to its end.
use Rattle.std.proofs.Common.{◌≡◌, ◌++◌, ap, sym, ◌∙◌, refl, List, ℕ, length, drop, rules, arith}
use Rattle.std.proofs.Math.Seq.{paste, length-sets}
use Rattle.std.proofs.lemmas.Slice.{put_mid-paste}
use borrow.Rule.Slice.PartMut.{put_mid}
use Rattle.chip.specs.Image.{head_bytes, middle_bytes, fifo_place}
use Rattle.chip.proofs.ImageLists.{three_over}
use Rattle.chip.proofs.ImagePlaces.{head_length, middle_length}
use Rattle.image.proofs.Others.{others_of}
use Rattle.image.proofs.parts.put_others.Goals as goal

pub returns : goal.returns
returns c =
    let s = c.args.s in
    let l = c.args.image.now in
    let w = c.put_head.new.image in
    let cdb = s.registers.descriptor.cdb in
    let cdb_long : length cdb ≡ 12 = search rules in
    let copied : c.copy_from_slice.new.self ≡ cdb = c.copy_from_slice.ensures.after in
    let placed : put_mid 3 12 w c.copy_from_slice.new.self ≡ paste w 3 cdb (length cdb) = put_mid-paste 3 12 w _ cdb (length cdb) copied cdb_long refl in
    let hx : length (put_mid 3 12 w c.copy_from_slice.new.self) ≡ 54 = omega (arith, ap length c.put_middle.ensures, length-sets (put_mid 3 12 w c.copy_from_slice.new.self) 15 (middle_bytes s), c.requires, c.put_head.auto.image, c.put_middle.auto.image) in
    three_over l w _ _ (head_bytes s) cdb (middle_bytes s) 3 15 fifo_place
    c.put_head.ensures placed c.put_middle.ensures
    (head_length s) (omega (arith, cdb_long)) (omega (arith, middle_length s)) (omega (arith, c.requires)) (omega (arith, hx))
    ∙ ap (λ (x : List ℕ). x ++ drop fifo_place l) (sym (others_of s cdb_long))
