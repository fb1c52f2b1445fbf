-- What the host does: the pointer, auxiliary status, the registers, the Data register, block moves.
-- Paper: the section "Registers (001)", and of "The answers" the sentences on a block move.
use Rattle.std.specs.Prelude.{Bool, not, List, [], ◌∷◌, ℕ, suc, ◌+◌, ◌-◌, ◌*◌, ◌/◌, ◌%◌, eqb, ltb, leb, get_or, set}
use Rattle.chip.specs.Choice.{pick, both, either}
use Rattle.chip.specs.declared.State.{State}
use Rattle.chip.specs.declared.Registers.{Registers}
use Rattle.chip.specs.declared.Reply.{Reply}
use Rattle.chip.specs.declared.Answer.{Answer}
use Rattle.chip.specs.declared.Answer.TheVariants.{Done, Held, OutOfPlace, BadNumber, Blind, CommandIgnored, ReselectionIgnored, NoDataNow, Reported}
use Rattle.chip.specs.declared.Direction.{Direction}
use Rattle.chip.specs.declared.Direction.TheVariants.{Unfixed, In, Out}
use Rattle.chip.specs.State.{set_pointer, set_fifo, set_activity, set_registers, with_own, with_control, with_timeout, with_cdb, with_lun, with_phase, with_synchronous, with_count, with_destination, with_source}
use Rattle.chip.specs.Answers.{says, done, no_data_now}
use Rattle.chip.specs.Lines.{packed}
use Rattle.chip.specs.Fifo.{front, pop, push}
use Rattle.chip.specs.Interrupts.{interrupted, busy, settled}
use Rattle.chip.specs.Activity.{without_interrupt}
use Rattle.chip.specs.Count.{dbr}
use Rattle.chip.specs.Commands.{commanded}

-- "The 8-bit address pointer is read or set .. apart from the registers."
unfoldable pub pointer_read : State → Reply
pointer_read s = done s.status.pointer s

unfoldable pub pointer_set : ℕ → State → Reply
pointer_set b s = done 0 (set_pointer b s)

-- ".. and auxiliary status read"
unfoldable pub auxiliary_read : State → Reply
auxiliary_read s = done (packed (interrupted s) s.status.lci (busy s) s.status.pe (dbr s)) s

-- "After each register access it steps by one, FFh going round to 00, except at 18h, 19h and 1Fh, where it stays."
unfoldable pub pointer_after : ℕ → ℕ
pointer_after a = pick (either (eqb a 0x18) (either (eqb a 0x19) (eqb a 0x1F))) a ((a + 1) % 256)

-- "An access to 1Ah and above, or a write to 17h, is Blind. While BSY is set only 18h and 19h are reachable; the rest are Blind."
unfoldable pub is_blind : Bool → ℕ → State → Bool
is_blind writes a s =
    either (leb 0x1A a)
    (either (both writes (eqb a 0x17)) (both (busy s) (not (either (eqb a 0x18) (eqb a 0x19)))))

-- "Addresses 00 to 19h exist, 00 to 16h store any byte"; "The count is 12h to 14h, high byte first."
unfoldable pub register_at : ℕ → Registers → ℕ
register_at a r =
    pick (eqb a 0x00) r.setup.own
    (pick (eqb a 0x01) r.setup.control
    (pick (eqb a 0x02) r.setup.timeout
    (pick (ltb a 0x0F) (get_or r.descriptor.cdb (a - 3) 0)
    (pick (eqb a 0x0F) r.descriptor.lun
    (pick (eqb a 0x10) r.descriptor.phase
    (pick (eqb a 0x11) r.setup.synchronous
    (pick (eqb a 0x12) (r.count / 65536 % 256)
    (pick (eqb a 0x13) (r.count / 256 % 256)
    (pick (eqb a 0x14) (r.count % 256) (pick (eqb a 0x15) r.destination r.source))))))))))

-- the count with its high, middle or low byte written anew
unfoldable pub high_written : ℕ → ℕ → ℕ
high_written b n = b * 65536 + n % 65536

unfoldable pub middle_written : ℕ → ℕ → ℕ
middle_written b n = n / 65536 * 65536 + b * 256 + n % 256

unfoldable pub low_written : ℕ → ℕ → ℕ
low_written b n = n / 256 * 256 + b

-- the registers with the one at a written
unfoldable pub stored_in : ℕ → ℕ → Registers → Registers
stored_in a b r =
    pick (eqb a 0x00) (with_own b r)
    (pick (eqb a 0x01) (with_control b r)
    (pick (eqb a 0x02) (with_timeout b r)
    (pick (ltb a 0x0F) (with_cdb (set r.descriptor.cdb (a - 3) b) r)
    (pick (eqb a 0x0F) (with_lun b r)
    (pick (eqb a 0x10) (with_phase b r)
    (pick (eqb a 0x11) (with_synchronous b r)
    (pick (eqb a 0x12) (with_count (high_written b r.count) r)
    (pick (eqb a 0x13) (with_count (middle_written b r.count) r)
    (pick (eqb a 0x14) (with_count (low_written b r.count) r)
    (pick (eqb a 0x15) (with_destination b r) (with_source b r)))))))))))

unfoldable pub stored : ℕ → ℕ → State → State
stored a b s = set_registers (stored_in a b s.registers) s

-- "At 19h, answer 7 comes exactly when DBR is 0, or on a read going out or a write coming in."
-- The read that empties the FIFO of an ending lets its code come.
abbrev pub data_read_by : Direction → State → Reply
data_read_by Unfixed s = no_data_now s
data_read_by In s = pick (dbr s) (done (front s.fifo) (settled (set_fifo (pop s.fifo) s))) (no_data_now s)
data_read_by Out s = no_data_now s

unfoldable pub data_read : State → Reply
data_read s = data_read_by s.transfer.direction s

abbrev pub data_written_by : Direction → ℕ → State → Reply
data_written_by Unfixed b s = no_data_now s
data_written_by In b s = no_data_now s
data_written_by Out b s = pick (dbr s) (done 0 (set_fifo (push b s.fifo) s)) (no_data_now s)

unfoldable pub data_written : ℕ → State → Reply
data_written b s = data_written_by s.transfer.direction b s

-- "Reading 17h gives the code and clears INT; the code stays readable. 18h reads back the last command not ignored, all 8 bits."
unfoldable pub read_at : ℕ → State → Reply
read_at a s =
    pick (eqb a 0x17) (done s.status.code (set_activity (without_interrupt s.activity) s))
    (pick (eqb a 0x18) (done s.status.command s)
    (pick (eqb a 0x19) (data_read s) (done (register_at a s.registers) s)))

unfoldable pub written_at : ℕ → ℕ → State → Reply
written_at a b s =
    pick (eqb a 0x18) (commanded b s) (pick (eqb a 0x19) (data_written b s) (done 0 (stored a b s)))

-- the pointer steps after the access at a
unfoldable pub stepped : ℕ → Reply → Reply
stepped a r = says r.answer (set_pointer (pointer_after a) r.state)

-- a register access at the pointer, a read or a write of b; "for a register 4, then 5, 7, 0"
unfoldable pub accessed_at : ℕ → Bool → ℕ → State → Reply
accessed_at a writes b s = pick (is_blind writes a s) (says Blind s) (pick writes (written_at a b s) (read_at a s))

unfoldable pub accessed : Bool → ℕ → State → Reply
accessed writes b s = stepped s.status.pointer (accessed_at s.status.pointer writes b s)

-- "A block move, in or out, lends the Data register a slice: it does single accesses there, without the pointer, from the slice's
-- start until the slice ends or answer 7 would come. It answers 3, or else Done with the number moved as its value. Bytes of the
-- slice beyond that number keep their values."
pub record Moved : Type 0 where
  pub number : ℕ
  pub state : State
  pub bytes : List ℕ

-- one access moved a byte, and the slice's next place holds b; then the rest
abbrev pub and_then : ℕ → Moved → Moved
and_then b m = record { number = suc m.number; state = m.state; bytes = b ∷ m.bytes }

abbrev pub stopped : List ℕ → State → Moved
stopped l s = record { number = 0; state = s; bytes = l }

-- what a block does after a single access: go on where it is Done, else stop
abbrev pub go_on : Answer → (ℕ → Moved) → Moved → Moved
go_on (Done v) on stop = on v
go_on Held on stop = stop
go_on OutOfPlace on stop = stop
go_on BadNumber on stop = stop
go_on Blind on stop = stop
go_on CommandIgnored on stop = stop
go_on ReselectionIgnored on stop = stop
go_on NoDataNow on stop = stop
go_on Reported on stop = stop

-- the Data register is read into the slice
unfoldable pub block_read : List ℕ → State → Moved
block_read [] s = stopped [] s
block_read (b ∷ l) s =
    go_on (data_read s).answer (λ v. and_then v (block_read l (data_read s).state)) (stopped (b ∷ l) s)

-- the slice is written to the Data register
unfoldable pub block_written : List ℕ → State → Moved
block_written [] s = stopped [] s
block_written (b ∷ l) s =
    go_on (data_written b s).answer (λ v. and_then b (block_written l (data_written b s).state)) (stopped (b ∷ l) s)
