-- The image of a state: 54 bytes, of which the first 25 are registers 00 to 18h at their addresses (docs/IMAGE.md).
-- Paper: "The state is lent as an image of one fixed length, one image per state, its form and field ranges written in docs/.
-- Another length, or bytes that are no state's image, is Bad number."
use Rattle.std.specs.Prelude.{Bool, List, [], ◌∷◌, ◌++◌, ℕ, ◌+◌, ◌-◌, ◌*◌, ◌/◌, ◌%◌, eqb, ltb, length, take, drop, get_or, Option, None, Some}
use Rattle.chip.specs.Choice.{pick, both}
use Rattle.chip.specs.Fifo.{fifo_bytes, fifo_of, is_fifo}
use Rattle.chip.specs.Lines.{bit}
use Rattle.chip.specs.declared.State.{State}
use Rattle.chip.specs.declared.Direction.{Direction}
use Rattle.chip.specs.declared.Direction.TheVariants.{Unfixed, In, Out}
use Rattle.chip.specs.Phases.{phase_number, phase_of}
use Rattle.chip.specs.Connections.{connection_number, connection_of, connection_count}
use Rattle.chip.specs.Activity.{running_number, pending_number, code_to_come, activity_of, is_activity}
use Rattle.chip.specs.declared.Phase.{Phase}

-- how many bytes an image has
abbrev pub image_length : ℕ
image_length = 54

-- where the FIFO's bytes begin; they are its end
abbrev pub fifo_place : ℕ
fifo_place = 40

-- each case as a byte, in the order in which the types list them

abbrev pub direction_byte : Direction → ℕ
direction_byte Unfixed = 0
direction_byte In = 1
direction_byte Out = 2

-- a phase is one more than its number, no phase is 0
abbrev pub noted_byte : Option Phase → ℕ
noted_byte None = 0
noted_byte (Some p) = phase_number p + 1

-- bytes 0 to 2
unfoldable pub head_bytes : State → List ℕ
head_bytes s = s.registers.setup.own ∷ s.registers.setup.control ∷ s.registers.setup.timeout ∷ []

-- bytes 15 to 39
unfoldable pub middle_bytes : State → List ℕ
middle_bytes s =
    s.registers.descriptor.lun
    ∷ s.registers.descriptor.phase
    ∷ s.registers.setup.synchronous
    ∷ s.registers.count / 65536 % 256
    ∷ s.registers.count / 256 % 256
    ∷ s.registers.count % 256
    ∷ s.registers.destination
    ∷ s.registers.source
    ∷ s.status.code
    ∷ s.status.command
    ∷ s.status.pointer
    ∷ bit s.status.lci
    ∷ bit s.status.pe
    ∷ pending_number s.activity
    ∷ code_to_come s.activity
    ∷ connection_number s.wire.connection
    ∷ running_number s.activity
    ∷ direction_byte s.transfer.direction
    ∷ bit s.transfer.single
    ∷ bit s.wire.handshake.atn
    ∷ bit s.wire.handshake.ack
    ∷ noted_byte s.wire.seen.reported
    ∷ noted_byte s.wire.seen.last
    ∷ s.wire.identity.number
    ∷ s.wire.elapsed
    ∷ []

-- the image of a state: bytes 3 to 14 are the command bytes, 40 to 53 the FIFO's
unfoldable pub image_of : State → List ℕ
image_of s = head_bytes s ++ (s.registers.descriptor.cdb ++ (middle_bytes s ++ fifo_bytes s.fifo))

-- what a byte stands for

unfoldable pub direction_of : ℕ → Direction
direction_of n = pick (eqb n 0) Unfixed (pick (eqb n 1) In Out)

unfoldable pub noted_of : ℕ → Option Phase
noted_of n = pick (eqb n 0) None (Some (phase_of (n - 1)))

-- the state whose image the bytes are
unfoldable pub state_of : List ℕ → State
state_of l =
    record {
      registers =
          record {
            setup = record { own = get_or l 0 0; control = get_or l 1 0; timeout = get_or l 2 0; synchronous = get_or l 17 0 };
            descriptor = record { cdb = take 12 (drop 3 l); lun = get_or l 15 0; phase = get_or l 16 0 };
            count = get_or l 18 0 * 65536 + get_or l 19 0 * 256 + get_or l 20 0;
            destination = get_or l 21 0;
            source = get_or l 22 0;
          };
      status =
          record {
            pointer = get_or l 25 0;
            code = get_or l 23 0;
            command = get_or l 24 0;
            lci = eqb (get_or l 26 0) 1;
            pe = eqb (get_or l 27 0) 1;
          };
      activity = activity_of (get_or l 28 0) (get_or l 29 0) (get_or l 31 0);
      fifo = fifo_of (drop fifo_place l);
      transfer =
          record { direction = direction_of (get_or l 32 0); single = eqb (get_or l 33 0) 1 };
      wire =
          record {
            connection = connection_of (get_or l 30 0);
            handshake = record { atn = eqb (get_or l 34 0) 1; ack = eqb (get_or l 35 0) 1 };
            seen = record { reported = noted_of (get_or l 36 0); last = noted_of (get_or l 37 0) };
            identity = record { number = get_or l 38 0 };
            elapsed = get_or l 39 0;
          };
    }

-- the bytes are a state's image: the length, the range of each byte that has one, the three that together say the activity (INT beside
-- a running command is none), and the FIFO's own bytes
unfoldable pub is_image : List ℕ → Bool
is_image l =
    both (eqb (length l) image_length)
    (both (ltb (get_or l 26 0) 2)
    (both (ltb (get_or l 27 0) 2)
    (both (is_activity (get_or l 28 0) (get_or l 29 0) (get_or l 31 0))
    (both (ltb (get_or l 30 0) connection_count)
    (both (ltb (get_or l 32 0) 3)
    (both (ltb (get_or l 33 0) 2)
    (both (ltb (get_or l 34 0) 2)
    (both (ltb (get_or l 35 0) 2)
    (both (ltb (get_or l 36 0) 9)
    (both (ltb (get_or l 37 0) 9)
    (both (ltb (get_or l 38 0) 8) (is_fifo (drop fifo_place l)))))))))))))
