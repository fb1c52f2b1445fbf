-- What each answer leaves. Paper: the table of the section "The answers", of every call from every state.
--   RefusalsKeep   a step's law: each outcome is as the table's row for its answer says
--   Table          the table, a line a row
--   Row            a row: the answer's number and value, and what it leaves
--   Became         the state after a call is a given one, and the lent slice is as it was
--   Unchanged      "nothing changed": the state and the lent slice are as they were
--   PointerMoves   "only the pointer moves"
--   LciSet         "only LCI set"
--   Noticed        "byte not taken; interrupt raised or ending, or direction fixed as out"
--   SameCount      12h to 14h and the single byte beside them are as they were
--   Untaken        a FIFO that took no byte: it is as it was, or dropped whole
--   Cause          why a Request is Reported: INT, an ending, or the way fixed as out
use Rattle.std.specs.Prelude.{◌≡◌, true, ℕ}
use Rattle.chip.specs.State.{set_pointer, set_lci}
use Rattle.chip.specs.Fifo.{emptied}
use Rattle.chip.specs.Answers.{number, value}
use Rattle.chip.specs.Calls.{Call, Outcome, lent_by}
use Rattle.chip.specs.declared.State.{State}
use Rattle.chip.specs.declared.Fifo.{Fifo}
use Rattle.chip.specs.declared.Activity.{Activity}
use Rattle.chip.specs.declared.Activity.TheVariants.{Interrupt, Ends}
use Rattle.chip.specs.declared.Command.{Command}
use Rattle.chip.specs.declared.Direction.{Direction}
use Rattle.chip.specs.declared.Direction.TheVariants.{Unfixed, Out}
use Rattle.chip.specs.declared.Answer.{Answer}
use Rattle.chip.specs.declared.Answer.TheVariants.{Done, Held, OutOfPlace, BadNumber, Blind, CommandIgnored, ReselectionIgnored, NoDataNow, Reported}

pub record Became (c : Call) (t : State) (o : Outcome) : Type 0 where
  pub state : o.state ≡ t
  pub lent : o.lent ≡ lent_by c

abbrev pub Unchanged : Call → State → Outcome → Type 0
Unchanged c s o = Became c s o

abbrev pub PointerMoves : Call → State → Outcome → Type 0
PointerMoves c s o = (p : ℕ) × Became c (set_pointer p s) o

abbrev pub LciSet : Call → State → Outcome → Type 0
LciSet c s o = Became c (set_lci true s) o

pub record SameCount (s t : State) : Type 0 where
  pub shown : t.registers.count ≡ s.registers.count
  pub beside : t.transfer.single ≡ s.transfer.single

pub data Untaken : Fifo → Fifo → Type 0 where
  kept : {q : Fifo} → Untaken q q
  dropped : {q : Fifo} → Untaken q (emptied q)

-- by the activity afterwards, and the way before and after
pub data Cause : Activity → Direction → Direction → Type 0 where
  raised : {d e : Direction} → Cause Interrupt d e
  ending : {r : Command} {code : ℕ} {d e : Direction} → Cause (Ends r code) d e
  opened : {a : Activity} → Cause a Unfixed Out

pub record Noticed (s t : State) : Type 0 where
  pub count : SameCount s t
  pub fifo : Untaken s.fifo t.fifo
  pub cause : Cause t.activity s.transfer.direction t.transfer.direction

abbrev pub Row : Answer → ℕ → ℕ → Type 0 → Type 0
Row a n v leaves = (number a ≡ n) × (value a ≡ v) × leaves

abbrev pub Table : Answer → Call → State → Outcome → Type 0
Table (Done v) c s o = Row (Done v) 0 v (Unit {0})
Table Held c s o = Row Held 1 0 (Unchanged c s o)
Table OutOfPlace c s o = Row OutOfPlace 2 0 (Unchanged c s o)
Table BadNumber c s o = Row BadNumber 3 0 (Unchanged c s o)
Table Blind c s o = Row Blind 4 0xFF (PointerMoves c s o)
Table CommandIgnored c s o = Row CommandIgnored 5 0 (LciSet c s o)
Table ReselectionIgnored c s o = Row ReselectionIgnored 6 0 (Unchanged c s o)
Table NoDataNow c s o = Row NoDataNow 7 0xFF (Unchanged c s o)
Table Reported c s o = Row Reported 8 0 (Noticed s o.state)

abbrev pub RefusalsKeep : (Call → State → Outcome) → Type 0
RefusalsKeep f = (c : Call) (s : State) → Table (f c s).answer c s (f c s)
