-- What the controller is at: which command runs, and what is pending for the host. Two numbers say which activity it is, and the rules
-- ask by comparison. Paper 02, Req 14: BSY and INT are never both set; the type has no such case.
-- An activity more is a line in each numbering, one in `activity_of`, and the rules that differ for it; so is a command.
use Rattle.std.specs.Prelude.{Bool, true, false, not, ◌||◌, ℕ, eqb, ltb}
use Rattle.chip.specs.Choice.{pick, both, either}
use Rattle.chip.specs.declared.Command.{Command}
use Rattle.chip.specs.declared.Command.TheVariants.{SelectWithAtn, SelectWithoutAtn, SelectAndTransferWithAtn, SelectAndTransferWithoutAtn, TransferInfo}
use Rattle.chip.specs.declared.Activity.{Activity}
use Rattle.chip.specs.declared.Activity.TheVariants.{Idle, Interrupt, Runs, Ends, ReadOut}

-- the number of a command
abbrev pub command_number : Command → ℕ
command_number SelectWithAtn = 1
command_number SelectWithoutAtn = 2
command_number SelectAndTransferWithAtn = 3
command_number SelectAndTransferWithoutAtn = 4
command_number TransferInfo = 5

-- how many numbers there are, with 0 for no command
abbrev pub command_count : ℕ
command_count = 6

-- the command of a number from 1 up
unfoldable pub command_of : ℕ → Command
command_of n =
    pick (ltb n 3) (pick (ltb n 2) SelectWithAtn SelectWithoutAtn)
    (pick (ltb n 5) (pick (ltb n 4) SelectAndTransferWithAtn SelectAndTransferWithoutAtn) TransferInfo)

-- the command that runs, by its number; 0 where none does
abbrev pub running_number : Activity → ℕ
running_number Idle = 0
running_number Interrupt = 0
running_number (Runs r) = command_number r
running_number (Ends r k) = command_number r
running_number (ReadOut r) = command_number r

-- what is pending: nothing, INT, an ending with a code, the read-out after a Free at 42h
abbrev pub pending_number : Activity → ℕ
pending_number Idle = 0
pending_number Interrupt = 1
pending_number (Runs r) = 0
pending_number (Ends r k) = 2
pending_number (ReadOut r) = 3

-- the code of an ending; 0 where there is none
abbrev pub code_to_come : Activity → ℕ
code_to_come Idle = 0
code_to_come Interrupt = 0
code_to_come (Runs r) = 0
code_to_come (Ends r k) = k
code_to_come (ReadOut r) = 0

-- the activity with p pending, the code k to come, and the command n
unfoldable pub activity_of : ℕ → ℕ → ℕ → Activity
activity_of p k n =
    pick (eqb n 0) (pick (eqb p 0) Idle Interrupt)
    (pick (eqb p 0) (Runs (command_of n)) (pick (eqb p 2) (Ends (command_of n) k) (ReadOut (command_of n))))

-- what is pending goes with the command: nothing with each and with none, INT only where none runs, an ending and a read-out only where
-- one does; no code is to come but an ending's. "A lent image with both set is Bad number from then on." (02)
unfoldable pub go_with : ℕ → ℕ → ℕ → Bool
go_with p k n =
    pick (eqb p 0) (eqb k 0)
    (pick (eqb n 0) (both (eqb p 1) (eqb k 0)) (either (eqb p 2) (both (eqb p 3) (eqb k 0))))

-- the three numbers are an activity's
unfoldable pub is_activity : ℕ → ℕ → ℕ → Bool
is_activity p k n = both (ltb n command_count) (go_with p k n)

-- INT
abbrev pub is_interrupt : Activity → Bool
is_interrupt a = eqb (pending_number a) 1

-- an ending is under way; the read-out after a Free at 42h "counts as an ending under every rule"
abbrev pub is_ending : Activity → Bool
is_ending a = eqb (pending_number a) 2 || eqb (pending_number a) 3

-- "a Level II command runs", an ending included: BSY
abbrev pub is_running : Activity → Bool
is_running a = not (eqb (running_number a) 0)

-- a command runs, with no ending under way
abbrev pub goes_on : Activity → Bool
goes_on Idle = false
goes_on Interrupt = false
goes_on (Runs r) = true
goes_on (Ends r k) = false
goes_on (ReadOut r) = false

-- the command that runs is r
abbrev pub is_of : Command → Activity → Bool
is_of r a = eqb (running_number a) (command_number r)

abbrev pub is_select_and_transfer : Activity → Bool
is_select_and_transfer a = is_of SelectAndTransferWithAtn a || is_of SelectAndTransferWithoutAtn a

abbrev pub is_transfer_info : Activity → Bool
is_transfer_info a = is_of TransferInfo a

-- "ATN set for 06 and 08"; such a Select-And-Transfer identifies itself
abbrev pub sets_atn : Activity → Bool
sets_atn a = is_of SelectWithAtn a || is_of SelectAndTransferWithAtn a

-- the running command comes to its end: k is to come
abbrev pub ends : ℕ → Activity → Activity
ends k Idle = Idle
ends k Interrupt = Interrupt
ends k (Runs r) = Ends r k
ends k (Ends r j) = Ends r j
ends k (ReadOut r) = ReadOut r

-- the running command has its bytes read out, and no code is to come
abbrev pub reads_out : Activity → Activity
reads_out Idle = Idle
reads_out Interrupt = Interrupt
reads_out (Runs r) = ReadOut r
reads_out (Ends r j) = Ends r j
reads_out (ReadOut r) = ReadOut r

-- the status is read
abbrev pub without_interrupt : Activity → Activity
without_interrupt Idle = Idle
without_interrupt Interrupt = Idle
without_interrupt (Runs r) = Runs r
without_interrupt (Ends r k) = Ends r k
without_interrupt (ReadOut r) = ReadOut r
