-- Alike states and alike replies: what the walk over the rules is made of. A rule f is walked at a state s and at the same state over
-- another FIFO, `set_fifo r s`: there each test that asks no FIFO computes to the same.
--   AlikeReply said        two replies with one answer and alike states; one answer said of two alike states
--   alike                  a state and the same over another FIFO
--   choose                 a `pick` on both sides, by one test
--   chosen replied         .. of states, and of replies
--   chosen_by replied_by   .. by two tests that are equal
--   by_alike               what is shown of s and `set_fifo r s` holds of any two alike states
use mathlib.Core.Path.{◌≡◌, refl, sym}
use mathlib.Core.Bool.{Bool, true, false}
use Rattle.chip.specs.Choice.{pick}
use Rattle.chip.specs.State.{set_fifo}
use Rattle.chip.specs.Answers.{says}
use Rattle.chip.specs.declared.Answer.{Answer}
use Rattle.chip.specs.declared.Fifo.{Fifo}
use Rattle.chip.specs.declared.Reply.{Reply}
use Rattle.chip.specs.declared.State.{State}
use Rattle.keeping.specs.Keeping.{SameBytes, Alike}

pub record AlikeReply (a b : Reply) : Type 0 where
  pub answer : a.answer ≡ b.answer
  pub states : Alike a.state b.state

pub said : {a : Answer} {s t : State} → Alike s t → AlikeReply (says a s) (says a t)
said h = record { answer = refl; states = h }

pub alike : {s : State} {r : Fifo} → SameBytes s.fifo r → Alike s (set_fifo r s)
alike g = record { rest = refl; fifo = g }

-- a choice on both sides

pub choose : {A : Type 0} (R : A → A → Type 0) (t : Bool) {a b c d : A} → R a c → R b d → R (pick t a b) (pick t c d)
unfolding pick
choose R true x y = x
choose R false x y = y

choose_by : {A : Type 0} (R : A → A → Type 0) {t u : Bool} {a b c d : A} → t ≡ u → R a c → R b d → R (pick t a b) (pick u c d)
choose_by R {t = t} e x y = rw (sym e) (choose R t x y)

pub chosen : (t : Bool) {a b c d : State} → Alike a c → Alike b d → Alike (pick t a b) (pick t c d)
chosen = choose Alike

pub replied : (t : Bool) {a b c d : Reply} → AlikeReply a c → AlikeReply b d → AlikeReply (pick t a b) (pick t c d)
replied = choose AlikeReply

pub chosen_by : {t u : Bool} {a b c d : State} → t ≡ u → Alike a c → Alike b d → Alike (pick t a b) (pick u c d)
chosen_by = choose_by Alike

pub replied_by : {t u : Bool} {a b c d : Reply} → t ≡ u → AlikeReply a c → AlikeReply b d → AlikeReply (pick t a b) (pick u c d)
replied_by = choose_by AlikeReply

-- of any two alike states
pub by_alike : {A : Type 0} (R : A → A → Type 0) (f : State → A)
    → ((s : State) (r : Fifo) → SameBytes s.fifo r → R (f s) (f (set_fifo r s)))
    → {s t : State} → Alike s t → R (f s) (f t)
by_alike R f h {s = s} {t = t} g = rw g.rest at (h s t.fifo g.fifo)
