-- `has_form`: the flag that the code makes is the definition's ranges, one beside the other.
use Rattle.std.proofs.Common.{◌≡◌, refl, sym, ◌∙◌, Bool, true, false, List, ℕ, length, get_or, drop, ltb, eq-eqb}
use mathlib.Core.Bool.{◌&&◌}
use Rattle.chip.specs.Choice.{both}
use Rattle.chip.specs.Connections.{connection_count}
use Rattle.chip.specs.Activity.{is_activity}
use Rattle.chip.specs.Image.{image_length, is_image, fifo_place}
use Rattle.chip.specs.Fifo.{is_fifo}
use Rattle.chip.proofs.ImageTests.{both_on, both_and, and_chain}
use Rattle.image.proofs.Ends.{valid_end}
use Rattle.image.proofs.parts.Bytes.has_form.Goals as goal

and_on : (a : Bool) → (a && true) ≡ a
and_on true = refl
and_on false = refl

and_off : (a : Bool) → (a && false) ≡ false
and_off true = refl
and_off false = refl

both_off : (a : Bool) → both false a ≡ false
unfolding both
both_off a = refl

-- the definition asks in the order of the bytes; the code asks the activity, c, last, and d and e after the flags
lined_up : (a b c d e f g h i j k z : Bool)
    → both a (both b (both c (both d (both e (both f (both g (both h (both i (both j (both k z))))))))))
    ≡ both (a && b && f && g && h && d && e && i && j && k && c) z
lined_up a b false d e f g h i j k z = simp (both_off, both_and, and_chain, and_off)
lined_up a b true false e f g h i j k z = simp (both_off, both_on, both_and, and_chain, and_off)
lined_up a b true true false f g h i j k z = simp (both_off, both_on, both_and, and_chain, and_off)
lined_up a b true true true f g h i j k z = simp (both_on, both_and, and_chain, and_on)

-- the flag that the code makes; a: what it was told of the activity
abbrev flag : List ℕ → Bool → Bool
flag l a =
    ltb (get_or l 26 0) 2
    && ltb (get_or l 27 0) 2
    && ltb (get_or l 33 0) 2
    && ltb (get_or l 34 0) 2
    && ltb (get_or l 35 0) 2
    && ltb (get_or l 30 0) connection_count
    && ltb (get_or l 32 0) 3
    && ltb (get_or l 36 0) 9
    && ltb (get_or l 37 0) 9
    && ltb (get_or l 38 0) 8
    && a

settled : (l : List ℕ) (a r : Bool) → length l ≡ image_length → a ≡ is_activity (get_or l 28 0) (get_or l 29 0) (get_or l 31 0) → flag l a ≡ r
    → is_image l ≡ both r (is_fifo (drop fifo_place l))
unfolding is_image
settled l a r h k e = rw (eq-eqb _ _ h, ← e, k) (both_on _ ∙ lined_up _ _ _ _ _ _ _ _ _ _ _ _)

pub returns-then-ranges : goal.returns-then-ranges
unfolding both
returns-then-ranges c =
    let l = c.self.inside.all.now in
    let h : length l ≡ image_length = c.self.invariant in
    rw (← c.self.view_is) (
    c.is_fifo.ensures ∙ valid_end l h
    ∙ sym (settled l _ true h c.is_activity.ensures c.if-ranges.true))
