-- A reply to a call, and what it has to be. The walks over chip's definitions carry these two.
--   Fits           it stands in the table of answers, and its answer is one that the call's kind has
--   Served         it fits, and the count falls or stands as it has to; k says that a byte that crosses counts
--   did            Done fits a call that may have it
--   passes         Done of a call that may have it, with the count as it was
--   holds          Held of a call that may have it, with the state as it was
--   elsewhere      Out of place of a call that may have it, with the state as it was
--   unless_held    a right reply is right too where INT holds the event instead
--   stood          where no byte counts, the count is as it was
use mathlib.Core.Path.{◌≡◌, refl}
use mathlib.Core.Bool.{Bool, true, false}
use mathlib.Core.List.{[]}
use Prim.Native.Nat.{ℕ}
use Rattle.chip.specs.Answers.{number, done, held, out_of_place}
use Rattle.chip.specs.Interrupts.{unless_interrupt}
use Rattle.chip.specs.Calls.{Call, plain, lent_by}
use Rattle.chip.specs.declared.State.{State}
use Rattle.chip.specs.declared.Reply.{Reply}
use Rattle.chip.specs.declared.Answer.{Answer}
use Rattle.chip.specs.declared.Answer.TheVariants.{Done, Held, OutOfPlace, BadNumber, Blind, CommandIgnored, ReselectionIgnored, NoDataNow, Reported}
use Rattle.refusals.specs.Refusals.{Table, SameCount}
use Rattle.refusals.specs.Kinds.{may, is_among}
use Rattle.refusals.specs.Counting.{Asked}
use Rattle.chip.proofs.Cases.{by_pick}
use Rattle.refusals.proofs.Counts.{stands}

pub record Fits (c : Call) (s : State) (r : Reply) : Type 0 where
  pub among : is_among (number r.answer) (may c) ≡ true
  pub row : Table r.answer c s (plain r)

pub record Served (c : Call) (k : Bool) (s : State) (r : Reply) : Type 0 where
  pub fits : Fits c s r
  pub count : Asked r.answer k s r.state

module _ {c : Call} {s : State} where
  pub did : {v : ℕ} {t : State} → is_among 0 (may c) ≡ true → Fits c s (done v t)
  did m = record { among = m; row = (refl, refl, tt) }

  pub passes : {v : ℕ} {t : State} → is_among 0 (may c) ≡ true → SameCount s t → Served c false s (done v t)
  passes m h = record { fits = did m; count = h }

  pub holds : {k : Bool} → is_among 1 (may c) ≡ true → [] ≡ lent_by c → Served c k s (held s)
  holds m l =
      record { fits = record { among = m; row = (refl, refl, record { state = refl; lent = l }) }; count = stands refl refl }

  pub elsewhere : {k : Bool} → is_among 2 (may c) ≡ true → [] ≡ lent_by c → Served c k s (out_of_place s)
  elsewhere m l =
      record { fits = record { among = m; row = (refl, refl, record { state = refl; lent = l }) }; count = stands refl refl }

  pub unless_held : {k : Bool} {r : Reply} → Served c k s (held s) → Served c k s r → Served c k s (unless_interrupt s r)
  unfolding unless_interrupt
  unless_held {k} h x = by_pick (Served c k s) _ h x

stood_by : (a : Answer) {s t : State} → Asked a false s t → SameCount s t
stood_by (Done v) h = h
stood_by Held h = h
stood_by OutOfPlace h = h
stood_by BadNumber h = h
stood_by Blind h = h
stood_by CommandIgnored h = h
stood_by ReselectionIgnored h = h
stood_by NoDataNow h = h
stood_by Reported h = h

pub stood : {c : Call} {s : State} {r : Reply} → Served c false s r → SameCount s r.state
stood {r = r} h = stood_by r.answer h.count
