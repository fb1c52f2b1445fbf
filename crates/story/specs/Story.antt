-- The story of one command: what crosses the bus, and the command that it is the story of.
-- The third demand: ".. take a command of group 0, 1 or 5 and a Target that answers selection in time, takes Identify and the whole
-- command, moves k data bytes one way, k not above the loaded count n, then sends one status byte and Command Complete .."
--   Item      what crosses: a phase and a byte
--   Way       the way of the data
--   Job       one command: what the host asks for and what the Target does
--   story     all that crosses
--   loaded    the loaded count n
--   Proper s  the numbers of a job are bytes, and the command has the size that a controller in s gives it
use Rattle.std.specs.Prelude.{◌≡◌, Bool, List, [], ◌∷◌, ◌++◌, ℕ, ◌+◌, ◌<◌, length, get_or}
use Rattle.chip.specs.declared.State.{State}
use Rattle.chip.specs.declared.Phase.{Phase}
use Rattle.chip.specs.declared.Phase.TheVariants.{DataOut, DataIn, CommandOut, StatusIn, MessageOut, MessageIn}
use Rattle.chip.specs.Lines.{identify}
use Rattle.chip.specs.SelectAndTransfer.{size_for}
use Rattle.chip.specs.Ok.{Bytes}

pub data Item : Type 0 where
  item : Phase → ℕ → Item

abbrev pub items : Phase → List ℕ → List Item
items p [] = []
items p (b ∷ l) = item p b ∷ items p l

pub data Way : Type 0 where
  inward : Way
  outward : Way

abbrev pub way_phase : Way → Phase
way_phase inward = DataIn
way_phase outward = DataOut

pub record Job : Type 0 where
  pub way : Way
  pub unit : ℕ  -- the logical unit that Identify names
  pub reselects : Bool  -- whether Identify allows the Target to disconnect; this one does not
  pub command : List ℕ
  pub moved : List ℕ  -- the k data bytes that the Target moves
  pub beyond : List ℕ  -- the n - k bytes of the loaded count that it does not move
  pub status : ℕ
  pub target : ℕ  -- the Destination ID
  pub timeout : ℕ  -- the Timeout Period; 0 waits without end

-- the loaded count, n
abbrev pub loaded : Job → ℕ
loaded j = length j.moved + length j.beyond

-- the byte of Identify: 80h, the unit, and 40h if the Target may disconnect
abbrev pub identifies : Job → ℕ
identifies j = identify (record { number = j.unit }) j.reselects

-- Status, then Command Complete
abbrev pub close : Job → List Item
close j = item StatusIn j.status ∷ item MessageIn 0x00 ∷ []

abbrev pub story : Job → List Item
story j = item MessageOut (identifies j) ∷ (items CommandOut j.command ++ (items (way_phase j.way) j.moved ++ close j))

pub record Proper (s : State) (j : Job) : Type 0 where
  pub unit_small : j.unit < 8
  pub command_bytes : Bytes j.command
  -- groups 0, 1 and 5 have a size, 6, 10 or 12; the others have none
  pub command_some : 0 < length j.command
  pub command_sized : length j.command ≡ size_for s (get_or j.command 0 0)
  pub moved_bytes : Bytes j.moved
  pub beyond_bytes : Bytes j.beyond
  pub count_fits : loaded j < 16777216
  pub status_byte : j.status < 256
  pub target_byte : j.target < 256
  pub timeout_byte : j.timeout < 256
