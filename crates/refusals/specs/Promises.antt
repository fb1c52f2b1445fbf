-- What an entry's promise settles. Paper: "its promise alone settles, on every input and refusal, the answer number, value, new state
-- and lent bytes. Two results that both satisfy it are proved equal".
--   PromiseSettles   a promise's law: two results that both satisfy it are equal, of every call on every lent image
--   Promise          the promise that the entries' contracts have: the number returned, the image and the lent slice on exit
--   AnswerSettled    the number returned settles the answer, its number and its value
--   NumberAlone      too little: the number returned
--   UnlessRefused    too little: nothing where the call is refused as Bad number
use Rattle.std.specs.Prelude.{◌≡◌, true, List, ℕ}
use Rattle.chip.specs.Choice.{both}
use Rattle.chip.specs.Calls.{Call, is_good}
use Rattle.chip.specs.Image.{is_image}
use Rattle.chip.specs.Entries.{AfterEntry, entered}
use Rattle.chip.specs.declared.Answer.{Answer}

abbrev pub PromiseSettles : (Call → List ℕ → AfterEntry → Type 0) → Type 0
PromiseSettles promise = (c : Call) (image : List ℕ) (x y : AfterEntry) → promise c image x → promise c image y → x ≡ y

-- an entry that lends no slice has the empty one
pub record Promise (c : Call) (image : List ℕ) (r : AfterEntry) : Type 0 where
  pub returned : r.result ≡ (entered c image).result
  pub image_exit : r.image ≡ (entered c image).image
  pub slice_exit : r.lent ≡ (entered c image).lent

abbrev pub AnswerSettled : (Answer → ℕ) → Type 0
AnswerSettled returned = (a b : Answer) → returned a ≡ returned b → a ≡ b

abbrev pub NumberAlone : Call → List ℕ → AfterEntry → Type 0
NumberAlone c image r = r.result ≡ (entered c image).result

abbrev pub UnlessRefused : Call → List ℕ → AfterEntry → Type 0
UnlessRefused c image r = both (is_image image) (is_good c) ≡ true → Promise c image r
