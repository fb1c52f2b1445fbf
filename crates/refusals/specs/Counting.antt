-- When the count falls. Paper: "A Request of the phase under transfer with bytes left takes one from, or puts one into, the FIFO and
-- lowers the count"; "Data moves as above"; of the readings to shut out, "Lowering the count when the host writes the FIFO. It falls
-- when a byte crosses."
--   CountFallsOnlyOnTheBus   a step's law: what is left falls by one with a byte that crosses, and otherwise the count stands
--   Counting                 what a call and its answer leave of the count; of a register access nothing is said here
--   Asked                    the same of a Request
--   Falls                    one byte less is left, or the count stands
--   is_counted                a byte of that phase counts: each under Transfer Info, those of Data in a Select-And-Transfer
--   is_data                   "Data (0 or 1)"
--   is_request                the call is a Request
use Rattle.std.specs.Prelude.{◌≡◌, Bool, true, false, ℕ, suc, eqb}
use Rattle.chip.specs.Choice.{pick}
use Rattle.chip.specs.Count.{left}
use Rattle.chip.specs.Activity.{running_number, is_running, is_select_and_transfer, is_transfer_info}
use Rattle.chip.specs.Phases.{phase_of}
use Rattle.chip.specs.Calls.{Call, Outcome, pointer, auxiliary, register, block, time, answer, reselection, request, free, kind}
use Rattle.chip.specs.declared.State.{State}
use Rattle.chip.specs.declared.Answer.{Answer}
use Rattle.chip.specs.declared.Answer.TheVariants.{Done, Held, OutOfPlace, BadNumber, Blind, CommandIgnored, ReselectionIgnored, NoDataNow, Reported}
use Rattle.chip.specs.declared.Phase.{Phase}
use Rattle.chip.specs.declared.Phase.TheVariants.{DataOut, DataIn, CommandOut, StatusIn, UnspecifiedOut, UnspecifiedIn, MessageOut, MessageIn}
use Rattle.chip.specs.declared.Activity.{Activity}
use Rattle.refusals.specs.Refusals.{SameCount}

abbrev pub is_data : Phase → Bool
is_data DataOut = true
is_data DataIn = true
is_data CommandOut = false
is_data StatusIn = false
is_data UnspecifiedOut = false
is_data UnspecifiedIn = false
is_data MessageOut = false
is_data MessageIn = false

unfoldable pub is_counted : Activity → Phase → Bool
is_counted r p = pick (is_select_and_transfer r) (is_data p) (is_transfer_info r)

abbrev pub Falls : Bool → State → State → Type 0
Falls true s t = left s ≡ suc (left t)
Falls false s t = SameCount s t

-- only Done takes a byte
abbrev pub Asked : Answer → Bool → State → State → Type 0
Asked (Done v) counted s t = Falls counted s t
Asked Held counted s t = SameCount s t
Asked OutOfPlace counted s t = SameCount s t
Asked BadNumber counted s t = SameCount s t
Asked Blind counted s t = SameCount s t
Asked CommandIgnored counted s t = SameCount s t
Asked ReselectionIgnored counted s t = SameCount s t
Asked NoDataNow counted s t = SameCount s t
Asked Reported counted s t = SameCount s t

abbrev pub Counting : Call → Answer → State → State → Type 0
Counting (pointer m b) a s t = SameCount s t
Counting auxiliary a s t = SameCount s t
Counting (register m b) a s t = Unit {0}
Counting (block m l) a s t = SameCount s t
Counting (time n) a s t = SameCount s t
Counting answer a s t = SameCount s t
Counting (reselection lines) a s t = SameCount s t
Counting (request p b q) a s t = Asked a (is_counted s.activity (phase_of p)) s t
Counting free a s t = SameCount s t

abbrev pub is_request : Call → Bool
is_request c = eqb (kind c) 7

pub record CountFallsOnlyOnTheBus (f : Call → State → Outcome) : Type 0 where
  -- every call but a register access, from every state
  pub counting : (c : Call) (s : State) → Counting c (f c s).answer s (f c s).state
  -- an access to the Data register, read or written, from every state
  pub at_data : (m b : ℕ) (s : State) → s.status.pointer ≡ 0x19 → SameCount s (f (register m b) s).state
  -- every call but a Request, while a command goes on
  pub going_on : (c : Call) (s : State) → is_request c ≡ false → is_running s.activity ≡ true
      → running_number (f c s).state.activity ≡ running_number s.activity → SameCount s (f c s).state
