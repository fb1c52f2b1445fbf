-- The state: the fresh one, and a setter for each field that a rule changes.
-- Paper: "A fresh state is all zero, Disconnected, nothing pending."
-- A part has few fields, and its own setters (`with..`) are the only places that list them; a field more is a change to its part here.
use Rattle.std.specs.Prelude.{Bool, false, List, replicate, ℕ, Option, None}
use Rattle.chip.specs.declared.State.{State}
use Rattle.chip.specs.declared.Registers.{Registers}
use Rattle.chip.specs.declared.Setup.{Setup}
use Rattle.chip.specs.declared.Descriptor.{Descriptor}
use Rattle.chip.specs.declared.Status.{Status}
use Rattle.chip.specs.declared.Fifo.{Fifo}
use Rattle.chip.specs.declared.Transfer.{Transfer}
use Rattle.chip.specs.declared.Wire.{Wire}
use Rattle.chip.specs.declared.Handshake.{Handshake}
use Rattle.chip.specs.declared.Seen.{Seen}
use Rattle.chip.specs.declared.Identity.{Identity}
use Rattle.chip.specs.declared.Connection.{Connection}
use Rattle.chip.specs.declared.Connection.TheVariants.{Disconnected}
use Rattle.chip.specs.declared.Activity.{Activity}
use Rattle.chip.specs.declared.Activity.TheVariants.{Idle}
use Rattle.chip.specs.declared.Direction.{Direction}
use Rattle.chip.specs.declared.Direction.TheVariants.{Unfixed}
use Rattle.chip.specs.Fifo.{empty}
use Rattle.chip.specs.declared.Phase.{Phase}

-- registers 01 to 16h zero, register 00 as given
abbrev pub cleared : ℕ → Registers
cleared own =
    record {
      setup = record { own = own; control = 0; timeout = 0; synchronous = 0 };
      descriptor = record { cdb = replicate 12 0; lun = 0; phase = 0 };
      count = 0;
      destination = 0;
      source = 0;
    }

-- no direction is fixed
abbrev pub nothing_moves : Transfer
nothing_moves = record { direction = Unfixed; single = false }

-- Disconnected, under an identity
abbrev pub apart : Identity → Wire
apart own =
    record {
      connection = Disconnected;
      handshake = record { atn = false; ack = false };
      seen = record { reported = None; last = None };
      identity = own;
      elapsed = 0;
    }

abbrev pub fresh : State
fresh =
    record {
      registers = cleared 0;
      status = record { pointer = 0; code = 0; command = 0; lci = false; pe = false };
      activity = Idle;
      fifo = empty;
      transfer = nothing_moves;
      wire = apart (record { number = 0 });
    }

-- the parts of the state

abbrev pub set_registers : Registers → State → State
set_registers x s = record { registers = x; status = s.status; activity = s.activity; fifo = s.fifo; transfer = s.transfer; wire = s.wire }

abbrev pub set_status : Status → State → State
set_status x s = record { registers = s.registers; status = x; activity = s.activity; fifo = s.fifo; transfer = s.transfer; wire = s.wire }

abbrev pub set_activity : Activity → State → State
set_activity x s = record { registers = s.registers; status = s.status; activity = x; fifo = s.fifo; transfer = s.transfer; wire = s.wire }

abbrev pub set_fifo : Fifo → State → State
set_fifo x s = record { registers = s.registers; status = s.status; activity = s.activity; fifo = x; transfer = s.transfer; wire = s.wire }

abbrev pub set_transfer : Transfer → State → State
set_transfer x s = record { registers = s.registers; status = s.status; activity = s.activity; fifo = s.fifo; transfer = x; wire = s.wire }

abbrev pub set_wire : Wire → State → State
set_wire x s = record { registers = s.registers; status = s.status; activity = s.activity; fifo = s.fifo; transfer = s.transfer; wire = x }

-- the registers

abbrev with_setup : Setup → Registers → Registers
with_setup x r = record { setup = x; descriptor = r.descriptor; count = r.count; destination = r.destination; source = r.source }

abbrev with_descriptor : Descriptor → Registers → Registers
with_descriptor x r = record { setup = r.setup; descriptor = x; count = r.count; destination = r.destination; source = r.source }

abbrev pub with_count : ℕ → Registers → Registers
with_count x r = record { setup = r.setup; descriptor = r.descriptor; count = x; destination = r.destination; source = r.source }

abbrev pub with_destination : ℕ → Registers → Registers
with_destination x r = record { setup = r.setup; descriptor = r.descriptor; count = r.count; destination = x; source = r.source }

abbrev pub with_source : ℕ → Registers → Registers
with_source x r = record { setup = r.setup; descriptor = r.descriptor; count = r.count; destination = r.destination; source = x }

-- .. of the set-up

abbrev pub with_own : ℕ → Registers → Registers
with_own x r = with_setup (record { own = x; control = r.setup.control; timeout = r.setup.timeout; synchronous = r.setup.synchronous }) r

abbrev pub with_control : ℕ → Registers → Registers
with_control x r = with_setup (record { own = r.setup.own; control = x; timeout = r.setup.timeout; synchronous = r.setup.synchronous }) r

abbrev pub with_timeout : ℕ → Registers → Registers
with_timeout x r = with_setup (record { own = r.setup.own; control = r.setup.control; timeout = x; synchronous = r.setup.synchronous }) r

abbrev pub with_synchronous : ℕ → Registers → Registers
with_synchronous x r = with_setup (record { own = r.setup.own; control = r.setup.control; timeout = r.setup.timeout; synchronous = x }) r

-- .. of the descriptor

abbrev pub with_cdb : List ℕ → Registers → Registers
with_cdb x r = with_descriptor (record { cdb = x; lun = r.descriptor.lun; phase = r.descriptor.phase }) r

abbrev pub with_lun : ℕ → Registers → Registers
with_lun x r = with_descriptor (record { cdb = r.descriptor.cdb; lun = x; phase = r.descriptor.phase }) r

abbrev pub with_phase : ℕ → Registers → Registers
with_phase x r = with_descriptor (record { cdb = r.descriptor.cdb; lun = r.descriptor.lun; phase = x }) r

abbrev pub set_control : ℕ → State → State
set_control x s = set_registers (with_control x s.registers) s

abbrev pub set_timeout : ℕ → State → State
set_timeout x s = set_registers (with_timeout x s.registers) s

abbrev pub set_cdb : List ℕ → State → State
set_cdb x s = set_registers (with_cdb x s.registers) s

abbrev pub set_lun : ℕ → State → State
set_lun x s = set_registers (with_lun x s.registers) s

abbrev pub set_phase : ℕ → State → State
set_phase x s = set_registers (with_phase x s.registers) s

abbrev pub set_count : ℕ → State → State
set_count x s = set_registers (with_count x s.registers) s

abbrev pub set_source : ℕ → State → State
set_source x s = set_registers (with_source x s.registers) s

-- the status

abbrev with_pointer : ℕ → Status → Status
with_pointer x t = record { pointer = x; code = t.code; command = t.command; lci = t.lci; pe = t.pe }

abbrev with_code : ℕ → Status → Status
with_code x t = record { pointer = t.pointer; code = x; command = t.command; lci = t.lci; pe = t.pe }

abbrev with_command : ℕ → Status → Status
with_command x t = record { pointer = t.pointer; code = t.code; command = x; lci = t.lci; pe = t.pe }

abbrev with_lci : Bool → Status → Status
with_lci x t = record { pointer = t.pointer; code = t.code; command = t.command; lci = x; pe = t.pe }

abbrev with_pe : Bool → Status → Status
with_pe x t = record { pointer = t.pointer; code = t.code; command = t.command; lci = t.lci; pe = x }

abbrev pub set_pointer : ℕ → State → State
set_pointer x s = set_status (with_pointer x s.status) s

abbrev pub set_code : ℕ → State → State
set_code x s = set_status (with_code x s.status) s

abbrev pub set_command : ℕ → State → State
set_command x s = set_status (with_command x s.status) s

abbrev pub set_lci : Bool → State → State
set_lci x s = set_status (with_lci x s.status) s

abbrev pub set_pe : Bool → State → State
set_pe x s = set_status (with_pe x s.status) s

-- the transfer

abbrev with_direction : Direction → Transfer → Transfer
with_direction x t = record { direction = x; single = t.single }

abbrev with_single : Bool → Transfer → Transfer
with_single x t = record { direction = t.direction; single = x }

abbrev pub set_direction : Direction → State → State
set_direction x s = set_transfer (with_direction x s.transfer) s

abbrev pub set_single : Bool → State → State
set_single x s = set_transfer (with_single x s.transfer) s

-- the wire

abbrev with_connection : Connection → Wire → Wire
with_connection x w = record { connection = x; handshake = w.handshake; seen = w.seen; identity = w.identity; elapsed = w.elapsed }

abbrev with_handshake : Handshake → Wire → Wire
with_handshake x w = record { connection = w.connection; handshake = x; seen = w.seen; identity = w.identity; elapsed = w.elapsed }

abbrev with_seen : Seen → Wire → Wire
with_seen x w = record { connection = w.connection; handshake = w.handshake; seen = x; identity = w.identity; elapsed = w.elapsed }

abbrev with_elapsed : ℕ → Wire → Wire
with_elapsed x w = record { connection = w.connection; handshake = w.handshake; seen = w.seen; identity = w.identity; elapsed = x }

abbrev pub set_connection : Connection → State → State
set_connection x s = set_wire (with_connection x s.wire) s

abbrev pub set_elapsed : ℕ → State → State
set_elapsed x s = set_wire (with_elapsed x s.wire) s

-- .. the lines that we hold

abbrev pub set_atn : Bool → State → State
set_atn x s = set_wire (with_handshake (record { atn = x; ack = s.wire.handshake.ack }) s.wire) s

abbrev pub set_ack : Bool → State → State
set_ack x s = set_wire (with_handshake (record { atn = s.wire.handshake.atn; ack = x }) s.wire) s

-- .. the phases kept in mind

abbrev pub set_seen : Seen → State → State
set_seen x s = set_wire (with_seen x s.wire) s

abbrev pub set_reported : Option Phase → State → State
set_reported x s = set_seen (record { reported = x; last = s.wire.seen.last }) s

abbrev pub set_last : Option Phase → State → State
set_last x s = set_seen (record { reported = s.wire.seen.reported; last = x }) s
