-- What the shapes come to, fact by fact.
--   Facts       the facts of a state
--   Runs        which command runs, by the connection
--   GoesOn P a  a command with P runs, and no ending of it is under way
--   is_read_out   the read-out after a Free at 42h is pending
--   is_select    06 or 07
use Rattle.std.specs.Prelude.{◌≡◌, Bool, true, false, ◌||◌, ◌≤◌, eqb}
use Rattle.chip.specs.Fifo.{is_empty, waits}
use Rattle.chip.specs.Count.{left, dbr}
use Rattle.chip.specs.Interrupts.{in_ending, bytes_unread}
use Rattle.chip.specs.Activity.{is_of, is_running, goes_on, pending_number}
use Rattle.chip.specs.Connections.{is_connected, is_disconnected}
use Rattle.chip.specs.declared.State.{State}
use Rattle.chip.specs.declared.Activity.{Activity}
use Rattle.chip.specs.declared.Activity.TheVariants as A
use Rattle.chip.specs.declared.Command.{Command}
use Rattle.chip.specs.declared.Command.TheVariants.{SelectWithAtn, SelectWithoutAtn}
use Rattle.chip.specs.declared.Connection.{Connection}
use Rattle.chip.specs.declared.Connection.TheVariants.{Disconnected, Selecting, Waiting, Connected}
use Rattle.chip.specs.Interrupts.{is_outgoing}
use Rattle.reached.specs.Sound.{SelectsAndTransfers, Selects}

abbrev pub is_read_out : Activity → Bool
is_read_out a = eqb (pending_number a) 3

abbrev pub is_select : Activity → Bool
is_select a = is_of SelectWithAtn a || is_of SelectWithoutAtn a

pub data GoesOn (P : Command → Type 0) : Activity → Type 0 where
  on : {r : Command} → P r → GoesOn P (A.Runs r)

-- Disconnected, no command but one that has come to its ending or read-out; selecting, one of 06 to 09; waiting, a
-- Select-And-Transfer; connected, no Select
abbrev pub Runs : Connection → Activity → Type 0
Runs Disconnected a = goes_on a ≡ false
Runs Selecting a = GoesOn Selects a
Runs Waiting a = GoesOn SelectsAndTransfers a
Runs Connected a = is_select a ≡ false

pub record Facts (s : State) : Type 0 where
  -- ATN and held ACK only when connected
  pub atn_apart : is_connected s.wire.connection ≡ false → s.wire.handshake.atn ≡ false
  pub ack_apart : is_connected s.wire.connection ≡ false → s.wire.handshake.ack ≡ false
  -- in an ending or a read-out incoming bytes wait
  pub ending_waits : in_ending s ≡ true → bytes_unread s ≡ true
  -- a read-out is Disconnected
  pub read_out_apart : is_read_out s.activity ≡ true → is_disconnected s.wire.connection ≡ true
  -- no byte waits without a running command, and DBR is 0
  pub idle_empty : is_running s.activity ≡ false → is_empty s.fifo ≡ true
  pub idle_shut : is_running s.activity ≡ false → dbr s ≡ false
  -- the command that runs, by the connection
  pub runs : Runs s.wire.connection s.activity
  -- going out, no more bytes wait than are left to cross
  pub out_left : is_outgoing s.transfer.direction ≡ true → is_running s.activity ≡ true → waits s.fifo ≤ left s
