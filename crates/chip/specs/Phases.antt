-- The eight phases. Paper: "Request phase p 0 to 7 (MSG, C/D, I/O as 4, 2, 1)"; "Odd p comes in."
use Rattle.std.specs.Prelude.{Bool, true, false, ℕ, eqb, Option, None, Some}
use Rattle.chip.specs.Choice.{pick}
use Rattle.chip.specs.declared.Phase.{Phase}
use Rattle.chip.specs.declared.Phase.TheVariants.{DataOut, DataIn, CommandOut, StatusIn, UnspecifiedOut, UnspecifiedIn, MessageOut, MessageIn}

abbrev pub phase_number : Phase → ℕ
phase_number DataOut = 0
phase_number DataIn = 1
phase_number CommandOut = 2
phase_number StatusIn = 3
phase_number UnspecifiedOut = 4
phase_number UnspecifiedIn = 5
phase_number MessageOut = 6
phase_number MessageIn = 7

-- the phase of a number from 0 to 7
unfoldable pub phase_of : ℕ → Phase
phase_of p =
    pick (eqb p 0) DataOut
    (pick (eqb p 1) DataIn
    (pick (eqb p 2) CommandOut
    (pick (eqb p 3) StatusIn (pick (eqb p 4) UnspecifiedOut (pick (eqb p 5) UnspecifiedIn (pick (eqb p 6) MessageOut MessageIn))))))

-- "Odd p comes in."
abbrev pub comes_in : Phase → Bool
comes_in DataOut = false
comes_in DataIn = true
comes_in CommandOut = false
comes_in StatusIn = true
comes_in UnspecifiedOut = false
comes_in UnspecifiedIn = true
comes_in MessageOut = false
comes_in MessageIn = true

abbrev pub same_phase : Phase → Phase → Bool
same_phase p q = eqb (phase_number p) (phase_number q)

abbrev pub is_command_out : Phase → Bool
is_command_out p = same_phase p CommandOut

abbrev pub is_message_out : Phase → Bool
is_message_out p = same_phase p MessageOut

abbrev pub is_message_in : Phase → Bool
is_message_in p = same_phase p MessageIn

-- p is the phase kept in mind
abbrev pub is_noted : Phase → Option Phase → Bool
is_noted p None = false
is_noted p (Some q) = same_phase p q
