-- A line's words, taken off one by one: past the blanks stands the first, and behind its end stand the others.
--   first_place   the place that `position` finds, or the end
--   first_split   what stands before and behind such places: the first word, and the line of the others
use Rattle.std.proofs.Common.{◌≡◌, ◌==◌, ◌≤◌, ◌+◌, ◌-◌, ℕ, suc, Bool, true, false, not, cond, List, [], ◌∷◌, length, take, drop, Option, Some, None, unwrap_or, refl, ap, ap₂, ◌∙◌, sym, arith}
use Rattle.std.proofs.lemmas.List.{take_rest}
use Rattle.std.proofs.lemmas.List.Splits.{slice_split-cons_yes, slice_split-cons_no}
use Rattle.std.proofs.lemmas.List.Sums.{prefix_len-le-length}
use Rattle.std.specs.List.{slice_get, slice_split, onto_first, position_or_len}
use lib.Dec.{ltb}
use Rattle.sessions.specs.Words.{is_blank, not_empty, words}

abbrev pub is_sign : ℕ → Bool
is_sign b = not (is_blank b)

abbrev pub past_blanks : List ℕ → List ℕ
past_blanks line = drop (position_or_len is_sign line) line

abbrev pub word_of : List ℕ → List ℕ
word_of line = take (position_or_len is_blank line) line

abbrev pub after_word : List ℕ → List ℕ
after_word line = drop (position_or_len is_blank line) line

take_next : (n b : ℕ) (line : List ℕ) → take (1 + n) (b ∷ line) ≡ b ∷ take n line
take_next n b line = let e : 1 + n ≡ suc n = omega arith in rw e refl

drop_next : (n b : ℕ) (line : List ℕ) → drop (1 + n) (b ∷ line) ≡ drop n line
drop_next n b line = let e : 1 + n ≡ suc n = omega arith in rw e refl

-- A sign that is no blank belongs to the word behind it.
longer : (b : ℕ) (line : List ℕ) → is_blank b ≡ false
    → (past_blanks (b ∷ line) ≡ b ∷ line) × (word_of (b ∷ line) ≡ b ∷ word_of line) × (after_word (b ∷ line) ≡ after_word line)
longer b line e = (rw e refl, rw e (take_next _ b line), rw e (drop_next _ b line))

-- The first piece ends at the first blank, and the pieces after it have the words of what stands from there on.
first_piece : (line : List ℕ) → (others : List (List ℕ)) × (slice_split is_blank line ≡ word_of line ∷ others) × (not_empty others ≡ words (after_word line))
first_piece [] = ([], refl, refl)
first_piece (b ∷ line) = go (is_blank b) refl (first_piece line) where
  go : (t : Bool) → is_blank b ≡ t → (others : List (List ℕ)) × (slice_split is_blank line ≡ word_of line ∷ others) × (not_empty others ≡ words (after_word line))
      → (others : List (List ℕ)) × (slice_split is_blank (b ∷ line) ≡ word_of (b ∷ line) ∷ others) × (not_empty others ≡ words (after_word (b ∷ line)))
  go true e more =
      let here : after_word (b ∷ line) ≡ b ∷ line = rw e refl in
      (slice_split is_blank line, rw e refl, sym (ap words here ∙ ap not_empty (slice_split-cons_yes is_blank b line e)))
  go false e more =
      let word = longer b line e in
      (more.0, slice_split-cons_no is_blank b line e ∙ ap (onto_first b) more.1 ∙ ap (λ w. w ∷ more.0) (sym word.1), more.2 ∙ ap words (sym word.2))

keeps_word : (b : ℕ) (word : List ℕ) (others : List (List ℕ)) → not_empty ((b ∷ word) ∷ others) ≡ (b ∷ word) ∷ not_empty others
keeps_word b word others =
    let e : (length (b ∷ word) == 0) ≡ false = grind arith in
    rw e refl

-- What stands past the blanks begins with the first word, and the others stand behind it.
first_word : (line : List ℕ) → (unwrap_or (slice_get (words line) 0) [] ≡ word_of (past_blanks line)) × (drop 1 (words line) ≡ words (after_word (past_blanks line)))
first_word [] = (refl, refl)
first_word (b ∷ line) = go (is_blank b) refl (first_word line) where
  go : (t : Bool) → is_blank b ≡ t → (unwrap_or (slice_get (words line) 0) [] ≡ word_of (past_blanks line)) × (drop 1 (words line) ≡ words (after_word (past_blanks line)))
      → (unwrap_or (slice_get (words (b ∷ line)) 0) [] ≡ word_of (past_blanks (b ∷ line))) × (drop 1 (words (b ∷ line)) ≡ words (after_word (past_blanks (b ∷ line))))
  go true e more =
      let past : past_blanks (b ∷ line) ≡ past_blanks line = rw e (drop_next _ b line) in
      (rw e more.0 ∙ ap word_of (sym past), rw e more.1 ∙ ap (λ rest. words (after_word rest)) (sym past))
  go false e more =
      let word = longer b line e in
      let piece = first_piece line in
      let kept : words (b ∷ line) ≡ (b ∷ word_of line) ∷ words (after_word line) =
      ap not_empty (slice_split-cons_no is_blank b line e ∙ ap (onto_first b) piece.1) ∙ keeps_word b (word_of line) piece.0 ∙ ap (λ others. (b ∷ word_of line) ∷ others) piece.2 in (
        ap (λ parts. unwrap_or (slice_get parts 0) []) kept ∙ sym word.1 ∙ ap word_of (sym word.0),
        ap (drop 1) kept ∙ ap words (sym word.2) ∙ ap (λ rest. words (after_word rest)) (sym word.0),
      )

or_len : (n m : ℕ) → n ≤ m → unwrap_or (cond (ltb n m) (Some n) None) m ≡ n
or_len n m h = grind arith

-- The place that `position` finds, or the end.
pub first_place : (test : ℕ → Bool) (line : List ℕ) (found : Option ℕ) (n : ℕ)
    → found ≡ cond (ltb (position_or_len test line) (length line)) (Some (position_or_len test line)) None → n ≡ unwrap_or found (length line) → n ≡ position_or_len test line
first_place test line found n is e = e ∙ ap (λ o. unwrap_or o (length line)) is ∙ or_len (position_or_len test line) (length line) (prefix_len-le-length (λ b. not (test b)) line)

-- What stands between such places.
pub first_split : (line rest : List ℕ) (start end : ℕ) → start ≡ position_or_len is_sign line → rest ≡ take (length line - start) (drop start line) → end ≡ position_or_len is_blank rest
    → (take end rest ≡ unwrap_or (slice_get (words line) 0) []) × (words (take (length rest - end) (drop end rest)) ≡ drop 1 (words line))
first_split line rest start end starts is ends =
    let past : rest ≡ past_blanks line = is ∙ take_rest line start ∙ ap (λ n. drop n line) starts in
    let at : end ≡ position_or_len is_blank (past_blanks line) = ends ∙ ap (position_or_len is_blank) past in (
      ap₂ take at past ∙ sym (first_word line).0,
      ap words (take_rest rest end ∙ ap₂ drop at past) ∙ sym (first_word line).1,
    )
