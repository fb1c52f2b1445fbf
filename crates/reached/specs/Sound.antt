-- What holds of every state reached from the fresh one by calls. Paper: "Interrupts and endings", "Bus events", "Commands".
--   Sound       the facts of a state: the image's form can hold it, and it has one of seven shapes
--   Kept        a step's law: every call keeps them
--   Shape       the count, the activity, connection, way, FIFO, ATN, held ACK and reported phase, together
--   Resting     no command runs: idle, or INT is set
--   Placed      a connection in which no selection and no wait goes on: ATN and held ACK only when connected
--   SelectsAndTransfers   a Select-And-Transfer
--   Moves       one of 08, 09 and 20h, the commands that move bytes
--   Selects     one of 06 to 09
--   Way         where no way is fixed, no byte waits; going out, no more wait than are left
--   Drained     no incoming byte waits: none at all, or an outgoing FIFO that holds no more than are left
--   is_unread    incoming bytes wait
-- The image's form enforces `ok`, and the type of activities that no state has INT with BSY or with an ending. An image of any other
-- combination is valid, and this room says that no list of calls comes to one that is not among the shapes.
use Rattle.std.specs.Prelude.{◌≡◌, Bool, true, false, not, ℕ, ◌≤◌, Option}
use Rattle.chip.specs.Choice.{pick, both}
use Rattle.chip.specs.Fifo as F
use Rattle.chip.specs.Fifo.{is_empty}
use Rattle.chip.specs.Interrupts.{is_incoming, is_outgoing}
use Rattle.chip.specs.Commands.{way_of}
use Rattle.chip.specs.Calls.{Call, Outcome}
use Rattle.chip.specs.declared.State.{State}
use Rattle.chip.specs.declared.Fifo.{Fifo}
use Rattle.chip.specs.declared.Activity.{Activity}
use Rattle.chip.specs.declared.Activity.TheVariants.{Idle, Interrupt, Runs, Ends, ReadOut}
use Rattle.chip.specs.declared.Command.{Command}
use Rattle.chip.specs.declared.Command.TheVariants.{SelectWithAtn, SelectWithoutAtn, SelectAndTransferWithAtn, SelectAndTransferWithoutAtn, TransferInfo}
use Rattle.chip.specs.declared.Connection.{Connection}
use Rattle.chip.specs.declared.Connection.TheVariants.{Disconnected, Selecting, Waiting, Connected}
use Rattle.chip.specs.declared.Direction.{Direction}
use Rattle.chip.specs.declared.Direction.TheVariants.{Unfixed, In, Out}
use Rattle.chip.specs.Ok.{Ok}
use Rattle.chip.specs.declared.Phase.{Phase}

abbrev pub is_unread : Direction → Fifo → Bool
is_unread d q = both (is_incoming d) (not (is_empty q))

pub data Resting : Activity → Type 0 where
  unasked : Resting Idle
  told : Resting Interrupt

pub data Placed : Connection → Bool → Bool → Type 0 where
  apart : Placed Disconnected false false
  joined : {atn ack : Bool} → Placed Connected atn ack

pub data SelectsAndTransfers : Command → Type 0 where
  with_atn : SelectsAndTransfers SelectAndTransferWithAtn
  without_atn : SelectsAndTransfers SelectAndTransferWithoutAtn

pub data Moves : Command → Type 0 where
  select_and_transfer : {r : Command} → SelectsAndTransfers r → Moves r
  transfer_info : Moves TransferInfo

pub data Selects : Command → Type 0 where
  six : Selects SelectWithAtn
  seven : Selects SelectWithoutAtn
  eight : Selects SelectAndTransferWithAtn
  nine : Selects SelectAndTransferWithoutAtn

-- single: the count n stands for a single byte, as `left` reads them
pub data Way (single : Bool) (n : ℕ) : Direction → Fifo → Type 0 where
  unfixed : {q : Fifo} → is_empty q ≡ true → Way single n Unfixed q
  incoming : {q : Fifo} → Way single n In q
  outgoing : {q : Fifo} → F.waits q ≤ pick single 1 n → Way single n Out q

pub data Drained (single : Bool) (n : ℕ) : Direction → Fifo → Type 0 where
  none : {d : Direction} {q : Fifo} → is_empty q ≡ true → Drained single n d q
  out : {q : Fifo} → F.waits q ≤ pick single 1 n → Drained single n Out q

pub data Shape (single : Bool) (n : ℕ) : Activity → Connection → Direction → Fifo → Bool → Bool → Option Phase → Type 0 where
  -- no command runs: INT or not, the way not out, no byte waits, and it is Disconnected or connected
  idle : {a : Activity} {c : Connection} {d : Direction} {q : Fifo} {atn ack : Bool} {w : Option Phase}
      → Resting a → is_outgoing d ≡ false → is_empty q ≡ true → Placed c atn ack → Shape single n a c d q atn ack w
  -- selecting: one of 06 to 09 runs, the way not out, no byte waits
  selects : {r : Command} {d : Direction} {q : Fifo} {w : Option Phase}
      → Selects r → is_outgoing d ≡ false → is_empty q ≡ true → Shape single n (Runs r) Selecting d q false false w
  -- waiting for reselection: a Select-And-Transfer runs, every incoming byte was read
  waits : {r : Command} {d : Direction} {q : Fifo} {w : Option Phase}
      → SelectsAndTransfers r → Drained single n d q → Shape single n (Runs r) Waiting d q false false w
  -- connected, a Select-And-Transfer runs
  selects_and_transfers : {r : Command} {d : Direction} {q : Fifo} {atn ack : Bool} {w : Option Phase}
      → SelectsAndTransfers r → Way single n d q → Shape single n (Runs r) Connected d q atn ack w
  -- connected, Transfer Info runs; the way is that of the reported phase
  transfers_info : {d : Direction} {q : Fifo} {atn ack : Bool} {w : Option Phase}
      → Way single n d q → d ≡ way_of w → Shape single n (Runs TransferInfo) Connected d q atn ack w
  -- an ending: of a command that moves bytes; incoming bytes wait, and it is Disconnected or connected
  ending : {code : ℕ} {r : Command} {c : Connection} {d : Direction} {q : Fifo} {atn ack : Bool} {w : Option Phase}
      → Moves r → is_unread d q ≡ true → Placed c atn ack → Shape single n (Ends r code) c d q atn ack w
  -- the read-out after a Free at 42h: of a Select-And-Transfer; incoming bytes wait, Disconnected
  read_out : {r : Command} {d : Direction} {q : Fifo} {w : Option Phase}
      → SelectsAndTransfers r → is_unread d q ≡ true → Shape single n (ReadOut r) Disconnected d q false false w

-- the shape of a state
abbrev pub Shaped : State → Type 0
Shaped s =
    Shape s.transfer.single s.registers.count s.activity s.wire.connection
    s.transfer.direction s.fifo s.wire.handshake.atn s.wire.handshake.ack s.wire.seen.reported

pub record Sound (s : State) : Type 0 where
  -- lengths, the count below 2^24, the identity below 8, at most 12 bytes wait, the oldest in one of twelve places
  pub ok : Ok s
  pub shape : Shaped s

abbrev pub Kept : (Call → State → Outcome) → Type 0
Kept f = (c : Call) (s : State) → Sound s → Sound (f c s).state
