-- The two hosts, as programs over what a host can see: auxiliary status, the registers, and its own data.
-- The third demand: "A host that serves it by one Select-And-Transfer with ATN and a host that serves it by Select-With-ATN, one
-- Transfer Info per phase with that phase's count, n for data, and Negate ACK, both with the same Identify, command and data .."
--   Access      one access of a register: the pointer is set, then the register is read or written
--   Host        what a host has in hand: what it is about to do, the bytes that it still has to send, what it has read
--   Program     what a host does first, and what it does with a status code
--   asked       what auxiliary status asks for: INT, that 17h be read; DBR, that 19h be read or written
--   by_transfer  the host that serves by one Select-And-Transfer
--   by_phases    the host that serves phase by phase
use Rattle.std.specs.Prelude.{Bool, true, false, List, [], ◌∷◌, ◌++◌, ℕ, suc, ◌*◌, ◌/◌, ◌%◌, eqb, length}
use Rattle.chip.specs.Choice.{pick}
use Rattle.chip.specs.Phases.{phase_of, comes_in}
use Rattle.chip.specs.Lines.{bit, is_on}
use Rattle.chip.specs.Calls.{Call, register}
use Rattle.chip.specs.declared.Phase.{Phase}
use Rattle.chip.specs.declared.Phase.TheVariants.{DataOut, DataIn, CommandOut, StatusIn, UnspecifiedOut, UnspecifiedIn, MessageOut, MessageIn}
use Rattle.story.specs.Story.{Item, item, Way, inward, outward, way_phase, Job, loaded, identifies}

pub data Access : Type 0 where
  put : (address byte : ℕ) → Access  -- write a register
  get : (address : ℕ) → Access  -- read a register, and note what it holds
  code : Access  -- read SCSI Status, 17h
  take : Access  -- read a byte from the Data register, 19h
  send : Access  -- write the next byte to the Data register

-- an address and what was read there
pub data Note : Type 0 where
  note : (address value : ℕ) → Note

pub record Host : Type 0 where
  pub ahead : List Access  -- the accesses that it is about to make; none: it looks at auxiliary status
  pub pointed : Bool  -- the pointer is set for the first of them
  pub phase : Phase  -- the phase that it serves
  pub give : List ℕ  -- what it still has to send
  pub got : List Item  -- what it has read from the Data register, with the phase
  pub noted : List Note  -- what it has read from other registers

pub record Program : Type 0 where
  pub first : List Access
  pub phase : Phase
  pub give : List ℕ
  pub heard : ℕ → Host → Host

-- a host at the start of its program
abbrev pub starting : Program → Host
starting g =
    record { ahead = g.first; pointed = false; phase = g.phase; give = g.give; got = []; noted = [] }

-- the accesses that come next, the pointer not yet set for them
unfoldable pub planned : List Access → Host → Host
planned l h =
    record { ahead = l; pointed = false; phase = h.phase; give = h.give; got = h.got; noted = h.noted }

abbrev pub address_of : Access → ℕ
address_of (put a b) = a
address_of (get a) = a
address_of code = 0x17
address_of take = 0x19
address_of send = 0x19

abbrev pub next_byte : List ℕ → ℕ
next_byte [] = 0
next_byte (b ∷ l) = b

-- the call that makes the access, once the pointer is set
abbrev pub call_of : Access → Host → Call
call_of (put a b) h = register 1 b
call_of (get a) h = register 0 0
call_of code h = register 0 0
call_of take h = register 0 0
call_of send h = register 1 (next_byte h.give)

-- the Data register's access in a phase
abbrev pub data_access : Phase → Access
data_access p = pick (comes_in p) take send

abbrev pub asked_by : Bool → Bool → Phase → List Access
asked_by true dbr p = code ∷ []
asked_by false true p = data_access p ∷ []
asked_by false false p = []

-- INT is bit 7 of auxiliary status, DBR bit 0
unfoldable pub asked : ℕ → Phase → List Access
asked v p = asked_by (is_on 7 v) (is_on 0 v) p

unfoldable pub noting : Note → Host → Host
noting n h =
    record { ahead = h.ahead; pointed = h.pointed; phase = h.phase; give = h.give; got = h.got; noted = h.noted ++ (n ∷ []) }

unfoldable pub taking : ℕ → Host → Host
taking b h =
    record { ahead = h.ahead; pointed = h.pointed; phase = h.phase; give = h.give; got = h.got ++ (item h.phase b ∷ []); noted = h.noted }

abbrev pub tail : List ℕ → List ℕ
tail [] = []
tail (b ∷ l) = l

unfoldable pub sending : Host → Host
sending h =
    record { ahead = h.ahead; pointed = h.pointed; phase = h.phase; give = tail h.give; got = h.got; noted = h.noted }

-- an access was made, and v is the value that came back: all that a host sees of an answer
unfoldable pub made : Program → Access → ℕ → Host → Host
made g (put a b) v h = h
made g (get a) v h = noting (note a v) h
made g code v h = g.heard v h
made g take v h = taking v h
made g send v h = sending h

-- registers a, a + 1, ..
abbrev pub puts : ℕ → List ℕ → List Access
puts a [] = []
puts a (b ∷ l) = put a b ∷ puts (suc a) l

-- the three bytes of a count, high byte first, at 12h to 14h
abbrev pub count_puts : ℕ → List Access
count_puts n = put 0x12 (n / 65536) ∷ put 0x13 (n / 256 % 256) ∷ put 0x14 (n % 256) ∷ []

abbrev pub count_gets : List Access
count_gets = get 0x12 ∷ get 0x13 ∷ get 0x14 ∷ []

-- what there is to send
abbrev pub sent_by : Way → List ℕ → List ℕ
sent_by inward l = []
sent_by outward l = l

module _ (j : Job) where
  -- the host that serves by one Select-And-Transfer with ATN (08): it loads all that the command needs, moves the data, and after 16h
  -- reads the status at 0Fh and the count left

  abbrev pub transfer_loads : List Access
  transfer_loads =
      puts 0x03 j.command
      ++ (put 0x0F j.unit ∷ (count_puts (loaded j)
      ++ (put 0x15 j.target ∷ put 0x16 (bit j.reselects * 128) ∷ put 0x02 j.timeout ∷ [])))

  abbrev pub transfer_heard : ℕ → Host → Host
  transfer_heard k h = pick (eqb k 0x16) (planned (get 0x0F ∷ count_gets) h) h

  abbrev pub by_transfer : Program
  by_transfer =
      record {
        first = transfer_loads ++ (put 0x18 0x08 ∷ []);
        phase = way_phase j.way;
        give = sent_by j.way (j.moved ++ j.beyond);
        heard = transfer_heard;
      }

  -- the host that serves phase by phase: Select-With-ATN (06), and for each phase that a status code names that phase's count and
  -- Transfer Info (20h); Negate ACK (03) after 20h; where the data phase is over it first reads the count left

  abbrev pub count_for : Phase → ℕ
  count_for DataOut = loaded j
  count_for DataIn = loaded j
  count_for CommandOut = length j.command
  count_for StatusIn = 1
  count_for UnspecifiedOut = 1
  count_for UnspecifiedIn = 1
  count_for MessageOut = 1
  count_for MessageIn = 1

  abbrev pub give_for : Phase → List ℕ
  give_for DataOut = j.moved ++ j.beyond
  give_for DataIn = []
  give_for CommandOut = j.command
  give_for StatusIn = []
  give_for UnspecifiedOut = []
  give_for UnspecifiedIn = []
  give_for MessageOut = identifies j ∷ []
  give_for MessageIn = []

  abbrev pub left_gets : Phase → List Access
  left_gets DataOut = count_gets
  left_gets DataIn = count_gets
  left_gets CommandOut = []
  left_gets StatusIn = []
  left_gets UnspecifiedOut = []
  left_gets UnspecifiedIn = []
  left_gets MessageOut = []
  left_gets MessageIn = []

  unfoldable pub serving : Phase → Host → Host
  serving p h =
      record {
        ahead = left_gets h.phase ++ (count_puts (count_for p) ++ (put 0x18 0x20 ∷ []));
        pointed = false;
        phase = p;
        give = give_for p;
        got = h.got;
        noted = h.noted;
      }

  -- 11h: it is connected, and waits for the first phase; 20h: Message In is over and ACK is held; 85h: the bus is free; the other codes
  -- name a phase in their low three bits
  unfoldable pub phases_heard : ℕ → Host → Host
  phases_heard k h =
      pick (eqb k 0x11) h
      (pick (eqb k 0x20) (planned (put 0x18 0x03 ∷ []) h) (pick (eqb k 0x85) h (serving (phase_of (k % 8)) h)))

  abbrev pub by_phases : Program
  by_phases =
      record {
        first = put 0x15 j.target ∷ put 0x02 j.timeout ∷ put 0x18 0x06 ∷ [];
        phase = MessageOut;
        give = [];
        heard = phases_heard;
      }
