-- What an entry's promise settles.
--   promise_settles          law: two results that both satisfy an entry's promise are equal
--   answer_settled           law: the number that an entry returns settles the answer
--   number_alone_falls       refuted: a promise of the number alone
--   unless_refused_falls     refuted: a promise that says nothing of a refused call
--   answer_number_falls      refuted: the answer's number alone settles the answer
use mathlib.Core.Path.{◌≡◌, refl, sym, ap, ◌∙◌}
use mathlib.Core.Bool.{true≢false, false≢true}
use mathlib.Core.List.{List, [], ◌∷◌}
use Prim.Native.Nat.{ℕ, ◌+◌, ◌*◌, ◌<◌}
use native.Mathlib.Omega.{arith}
use lib.Dec.{eqb, lit<}
use lib.ListN.{length, get_or}
use Rattle.chip.specs.Choice.{pick, both}
use Rattle.chip.specs.Answers.{number, value}
use Rattle.chip.specs.Calls.{auxiliary}
use Rattle.chip.specs.Image.{is_image}
use Rattle.chip.specs.Entries.{AfterEntry, result_of, entered}
use Rattle.chip.specs.declared.Answer.{Answer}
use Rattle.chip.specs.declared.Answer.TheVariants.{Done, Held, OutOfPlace, BadNumber, Blind, CommandIgnored, ReselectionIgnored, NoDataNow, Reported}
use Rattle.refusals.specs.Promises.{PromiseSettles, Promise, AnswerSettled, NumberAlone, UnlessRefused}

pub promise_settles : PromiseSettles Promise
promise_settles c image x y p q i =
    record {
      result = (p.returned ∙ sym q.returned) i;
      image = (p.image_exit ∙ sym q.image_exit) i;
      lent = (p.slice_exit ∙ sym q.slice_exit) i;
    }

-- the answer of a number and a value
answer_of : ℕ → ℕ → Answer
answer_of n v =
    get_or (Done v ∷ Held ∷ OutOfPlace ∷ BadNumber ∷ Blind ∷ CommandIgnored ∷ ReselectionIgnored ∷ NoDataNow ∷ Reported ∷ []) n Held

answer_back : (a : Answer) → answer_of (number a) (value a) ≡ a
unfolding answer_of
answer_back (Done v) = refl
answer_back Held = refl
answer_back OutOfPlace = refl
answer_back BadNumber = refl
answer_back Blind = refl
answer_back CommandIgnored = refl
answer_back ReselectionIgnored = refl
answer_back NoDataNow = refl
answer_back Reported = refl

number_small : (a : Answer) → number a < 256
number_small (Done v) = lit< tt
number_small Held = lit< tt
number_small OutOfPlace = lit< tt
number_small BadNumber = lit< tt
number_small Blind = lit< tt
number_small CommandIgnored = lit< tt
number_small ReselectionIgnored = lit< tt
number_small NoDataNow = lit< tt
number_small Reported = lit< tt

same_parts : (n v m w : ℕ) → n < 256 → m < 256 → n + 256 * v ≡ m + 256 * w → (n ≡ m) × (v ≡ w)
same_parts n v m w h k e = omega arith

pub answer_settled : AnswerSettled result_of
answer_settled a b e =
    let p = same_parts (number a) (value a) (number b) (value b) (number_small a) (number_small b) e in
    sym (answer_back a) ∙ rw (p.0, p.1) (answer_back b)

-- what an entry could leave, with a number and an image
abbrev leaves : ℕ → List ℕ → AfterEntry
leaves n image = record { result = n; image = image; lent = [] }

pub number_alone_falls : PromiseSettles NumberAlone → ⊥
unfolding entered is_image both pick
number_alone_falls h =
    true≢false (ap (λ x. eqb (length x.image) 0) (h auxiliary [] (leaves 3 []) (leaves 3 (0 ∷ [])) refl refl))

pub unless_refused_falls : PromiseSettles UnlessRefused → ⊥
unfolding is_image both
unless_refused_falls h =
    true≢false (ap (λ x. eqb x.result 0)
    (h auxiliary [] (leaves 0 []) (leaves 1 []) (λ e. absurd (false≢true e)) (λ e. absurd (false≢true e))))

pub answer_number_falls : AnswerSettled number → ⊥
answer_number_falls h = true≢false (ap (λ a. eqb (value a) 0) (h (Done 0) (Done 1) refl))
