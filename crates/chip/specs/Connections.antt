-- The four connections, what the bus and we are to each other: a number for each, and the questions that rules ask of them.
-- A connection more is a line in the numbering, one in `connection_of`, and the rules that differ for it.
use Rattle.std.specs.Prelude.{Bool, ℕ, eqb}
use Rattle.chip.specs.Choice.{pick}
use Rattle.chip.specs.declared.Connection.{Connection}
use Rattle.chip.specs.declared.Connection.TheVariants.{Disconnected, Selecting, Waiting, Connected}

-- the number of a connection: its byte in the image
abbrev pub connection_number : Connection → ℕ
connection_number Disconnected = 0
connection_number Selecting = 1
connection_number Waiting = 2
connection_number Connected = 3

-- how many there are
abbrev pub connection_count : ℕ
connection_count = 4

-- the connection of a number
unfoldable pub connection_of : ℕ → Connection
connection_of n = pick (eqb n 0) Disconnected (pick (eqb n 1) Selecting (pick (eqb n 2) Waiting Connected))

abbrev pub same_connection : Connection → Connection → Bool
same_connection x y = eqb (connection_number x) (connection_number y)

abbrev pub is_disconnected : Connection → Bool
is_disconnected x = same_connection x Disconnected

abbrev pub is_selecting : Connection → Bool
is_selecting x = same_connection x Selecting

-- waiting for reselection
abbrev pub is_waiting : Connection → Bool
is_waiting x = same_connection x Waiting

abbrev pub is_connected : Connection → Bool
is_connected x = same_connection x Connected
