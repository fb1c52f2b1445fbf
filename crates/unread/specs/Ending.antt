-- An ending stays until it is over. Paper: "an incoming FIFO must be read out first, then c is raised. Until then BSY stays and bus events
-- are Held, except Time, which is Done without effect"; "no state has INT and an ending". Laws over one call, each a predicate of a step
-- function, from every state. The read-out after a Free at 42h "counts as an ending under every rule", and is one here.
--   EndingStays f        it begins with every byte that waits, the bytes are read in their order, and only a Reset, a Disconnect while
--                        connected or the read of the last byte ends it. The first two drop its code, its command and its bytes
--   EndingIsStill f      no bus event changes the controller during it
--   Untouched f c s      the call c, made in s, changes nothing, and the board is not told that it was taken, but for Time
--   Waits q s t          in t the bytes q wait, in the way of data of s
--   Dropped t            what a Disconnect that is taken leaves: nothing pending, Disconnected, no command, no way, no byte, no ATN, no ACK
--   ResetDropped s t     .. and a Reset made in s, which leaves INT and takes our identity from Own ID
--   is_event is_time       the call is a bus event; it is a Time
--   is_refusal a          an event's answer that says "nothing changed": Held, Out of place, Bad number, Reselection ignored
--   is_data_access c s     the call c, made in s, is an access to the Data register: at 19h, or a block
--   is_data_read c s       .. one that reads, with its operands in range
use Rattle.std.specs.Prelude.{◌≡◌, Bool, true, false, not, ℕ, eqb, leb}
use Rattle.chip.specs.Choice.{both, either}
use Rattle.chip.specs.Lines.{own_identity}
use Rattle.chip.specs.State.{nothing_moves}
use Rattle.chip.specs.Fifo.{front, pop, push, empty}
use Rattle.chip.specs.Interrupts.{interrupted, in_ending, is_incoming, is_outgoing, bytes_unread}
use Rattle.chip.specs.Calls.{Call, Outcome, pointer, auxiliary, register, block, time, answer, reselection, request, free, kind, is_good, is_set}
use Rattle.chip.specs.declared.State.{State}
use Rattle.chip.specs.declared.Fifo.{Fifo}
use Rattle.chip.specs.declared.Answer.{Answer}
use Rattle.chip.specs.declared.Answer.TheVariants.{Done, Held, OutOfPlace, BadNumber, Blind, CommandIgnored, ReselectionIgnored, NoDataNow, Reported}
use Rattle.chip.specs.declared.Activity.TheVariants.{Idle, Interrupt}
use Rattle.chip.specs.Activity.{running_number}
use Rattle.chip.specs.declared.Connection.TheVariants.{Disconnected, Waiting}
use Rattle.chip.specs.declared.Direction.TheVariants.{Unfixed}
use Rattle.unread.specs.Status.{Nothing, ReadOut, pending, is_reset, is_disconnect, is_dropped, reads_at}
use Rattle.unread.specs.Because.{LastMessage, Brings, BeginsReadOut, ReadsLast}

abbrev pub is_event : Call → Bool
is_event c = leb 4 (kind c)

abbrev pub is_time : Call → Bool
is_time c = eqb (kind c) 4

abbrev pub is_refusal : Answer → Bool
is_refusal (Done v) = false
is_refusal Held = true
is_refusal OutOfPlace = true
is_refusal BadNumber = true
is_refusal Blind = false
is_refusal CommandIgnored = false
is_refusal ReselectionIgnored = true
is_refusal NoDataNow = false
is_refusal Reported = false

pub record Untouched (f : Call → State → Outcome) (c : Call) (s : State) : Type 0 where
  pub same : (f c s).state ≡ s
  pub not_taken : either (is_time c) (is_refusal (f c s).answer) ≡ true

abbrev pub is_data_access : Call → State → Bool
is_data_access c s = either (eqb (kind c) 3) (both (eqb (kind c) 2) (eqb s.status.pointer 0x19))

unfoldable pub is_data_read : Call → State → Bool
is_data_read (pointer m b) s = false
is_data_read auxiliary s = false
is_data_read (register m b) s = reads_at 0x19 (register m b) s
is_data_read (block m l) s = both (is_good (block m l)) (not (is_set m))
is_data_read (time n) s = false
is_data_read answer s = false
is_data_read (reselection lines) s = false
is_data_read (request p b q) s = false
is_data_read free s = false

pub record Waits (q : Fifo) (s t : State) : Type 0 where
  pub bytes : t.fifo ≡ q
  pub way : t.transfer.direction ≡ s.transfer.direction

pub record Dropped (t : State) : Type 0 where
  pub activity : t.activity ≡ Idle
  pub connection : t.wire.connection ≡ Disconnected
  pub way : t.transfer.direction ≡ Unfixed
  pub bytes : t.fifo ≡ empty
  pub atn : t.wire.handshake.atn ≡ false
  pub ack : t.wire.handshake.ack ≡ false

pub record ResetDropped (s t : State) : Type 0 where
  pub activity : t.activity ≡ Interrupt
  pub connection : t.wire.connection ≡ Disconnected
  pub transfer : t.transfer ≡ nothing_moves
  pub bytes : t.fifo ≡ empty
  pub atn : t.wire.handshake.atn ≡ false
  pub ack : t.wire.handshake.ack ≡ false
  pub identity : t.wire.identity ≡ own_identity s.registers.setup.own

abbrev pub EndingIsStill : (Call → State → Outcome) → Type 0
EndingIsStill f = (c : Call) (s : State) → in_ending s ≡ true → is_event c ≡ true → Untouched f c s

pub record EndingStays (f : Call → State → Outcome) : Type 0 where
  -- what is pending stays pending, a code to come with its number, and so does the command
  pub stays : (c : Call) (s : State) → in_ending s ≡ true → is_dropped c s ≡ false → (ReadsLast c s → ⊥)
      → (f c s).state.activity ≡ s.activity
  -- so do the way of data and the mark of a single byte
  pub transfer_stays : (c : Call) (s : State) → in_ending s ≡ true → is_dropped c s ≡ false → (ReadsLast c s → ⊥)
      → (f c s).state.transfer ≡ s.transfer
  -- the bytes that wait stay, but for reads of the Data register. (With the way out a write would add one; no ending begins so, by `begins_keeps`.)
  pub bytes_stay : (c : Call) (s : State) → in_ending s ≡ true → is_dropped c s ≡ false → is_data_read c s ≡ false
      → both (is_outgoing s.transfer.direction) (is_data_access c s) ≡ false → (f c s).state.fifo ≡ s.fifo
  -- a read at 19h gives the oldest byte and takes it away, and no other. (A block is its single accesses: `BlockIsAccesses`, room refusals.)
  pub reads_oldest : (c : Call) (s : State) → bytes_unread s ≡ true → reads_at 0x19 c s ≡ true
      → ((f c s).answer ≡ Done (front s.fifo)) × ((f c s).state.fifo ≡ pop s.fifo)
  -- after the last byte none is unread
  pub all_read : (c : Call) (s : State) → ReadsLast c s → bytes_unread (f c s).state ≡ false
  -- where no code is to come, the last byte that is read leads to the wait for reselection, of the same command. (Where one is, it is
  -- raised: `RaisedBecause`.)
  pub waits_then : (c : Call) (s : State) → pending s ≡ ReadOut → ReadsLast c s
      → (pending (f c s).state ≡ Nothing) × (running_number (f c s).state.activity ≡ running_number s.activity)
      × ((f c s).state.wire.connection ≡ Waiting)
  -- the call that begins it leaves every byte that waits: those that waited, with the last Message In byte where it is that
  pub begins_keeps : (c : Call) (s : State) (k : ℕ) → Brings c s k → bytes_unread s ≡ true → Waits s.fifo s (f c s).state
  pub begins_with_last : (n b m : ℕ) (s : State) → LastMessage n b m s → is_incoming s.transfer.direction ≡ true
      → Waits (push b s.fifo) s (f (request n b m) s).state
  pub read_out_keeps : (c : Call) (s : State) → BeginsReadOut c s → Waits s.fifo s (f c s).state
  -- what drops it drops it whole
  pub dropped_whole : (c : Call) (s : State) → is_disconnect c s ≡ true → interrupted s ≡ false → Dropped (f c s).state
  pub reset_whole : (c : Call) (s : State) → is_reset c s ≡ true → ResetDropped s (f c s).state
