-- A call on a lent image, as C makes it: the answer's number in bits 0 to 7, its value from bit 8 up.
-- Paper: "Another length, or bytes that are no state's image, is Bad number."; "Order of checks: 3 everywhere first."
-- `lines_entered` is an addition to the paper's calls (docs/DECISIONS.md): what a board has to drive on the bus.
use Rattle.std.specs.Prelude.{List, [], ℕ, ◌+◌, ◌*◌, eqb, length}
use Rattle.chip.specs.Choice.{pick, both}
use Rattle.chip.specs.declared.State.{State}
use Rattle.chip.specs.declared.Answer.{Answer}
use Rattle.chip.specs.declared.Answer.TheVariants.{Done, BadNumber}
use Rattle.chip.specs.declared.Connection.{Connection}
use Rattle.chip.specs.State.{fresh}
use Rattle.chip.specs.Connections.{is_connected, is_selecting, is_waiting}
use Rattle.chip.specs.Answers.{number, value}
use Rattle.chip.specs.Lines.{bit, destination}
use Rattle.chip.specs.Calls.{Call, Outcome, is_good, carried, lent_by}
use Rattle.chip.specs.Image.{image_length, image_of, state_of, is_image}

-- what an entry leaves behind: the number it returns, the image, and the lent slice of a block move
pub record AfterEntry : Type 0 where
  pub result : ℕ
  pub image : List ℕ
  pub lent : List ℕ

abbrev pub result_of : Answer → ℕ
result_of a = number a + 256 * value a

abbrev pub written : Outcome → AfterEntry
written o = record { result = result_of o.answer; image = image_of o.state; lent = o.lent }

-- "Bad number .. nothing changed"
abbrev pub refused : Call → List ℕ → AfterEntry
refused c image = record { result = result_of BadNumber; image = image; lent = lent_by c }

unfoldable pub entered : Call → List ℕ → AfterEntry
entered c image = pick (both (is_image image) (is_good c)) (written (carried c (state_of image))) (refused c image)

-- the fresh image, where the length is right
unfoldable pub fresh_entered : List ℕ → AfterEntry
fresh_entered image =
    pick (eqb (length image) image_length)
    (record { result = result_of (Done 0); image = image_of fresh; lent = [] })
    (record { result = result_of BadNumber; image = image; lent = [] })

-- bit 3 connected, bit 4 selecting, bit 5 waiting for reselection
unfoldable pub connection_bits : Connection → ℕ
connection_bits x = bit (is_connected x) * 8 + bit (is_selecting x) * 16 + bit (is_waiting x) * 32

-- bits 0 to 2 the destination identity, bit 6 ATN, bit 7 ACK held, bits 8 to 10 our own identity
unfoldable pub line_bits : State → ℕ
line_bits s =
    (destination s).number
    + connection_bits s.wire.connection
    + bit s.wire.handshake.atn * 64
    + bit s.wire.handshake.ack * 128
    + s.wire.identity.number * 256

unfoldable pub lines_entered : List ℕ → ℕ
lines_entered image = pick (is_image image) (256 * line_bits (state_of image)) 3
