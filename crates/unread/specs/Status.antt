-- The words of the laws on the status at 17h: which call is a command, which reads a register, which raised a code.
--   is_command_of t c s  the call c, made in s, writes a command to 18h, and its code passes the test t
--   is_command k c s    .. a command with the code k
--   is_reset c s        .. the Reset command
--   is_selection c s    .. one of the four that select
--   is_select_code k     the code k is that of one of the four, 06 to 09
--   is_disconnect c s   the call c, made in s, is the Disconnect command, while connected
--   is_dropped c s      .. one that drops an ending with its bytes and its code: Reset, or Disconnect while connected
--   is_answer c         the call c is an Answer
--   reads_at a c s      the call c, made in s, reads the register at the address a
--   Pending pending s  what is pending in s for the host, whatever command runs: nothing, INT, an ending with its code, a read-out
--   raised c s t       the call c, which led from s to t, raised the code that t shows at 17h
-- INT is `interrupted` of the chip's Interrupts, the code at 17h is `status.code`.
use Rattle.std.specs.Prelude.{Bool, true, false, not, ℕ, eqb}
use Rattle.chip.specs.Choice.{both, either}
use Rattle.chip.specs.Lines.{code_of}
use Rattle.chip.specs.Interrupts.{interrupted}
use Rattle.chip.specs.Connections.{is_connected}
use Rattle.chip.specs.Calls.{Call, pointer, auxiliary, register, block, time, answer, reselection, request, free, is_good, is_set}
use Rattle.chip.specs.declared.State.{State}
use Rattle.chip.specs.declared.Activity.{Activity}
use Rattle.chip.specs.declared.Activity.TheVariants as A

pub data Pending : Type 0 where
  Nothing Interrupt ReadOut : Pending
  Ending : (code : ℕ) → Pending

abbrev pub pending_in : Activity → Pending
pending_in A.Idle = Nothing
pending_in A.Interrupt = Interrupt
pending_in (A.Runs r) = Nothing
pending_in (A.Ends r k) = Ending k
pending_in (A.ReadOut r) = ReadOut

abbrev pub pending : State → Pending
pending s = pending_in s.activity

unfoldable pub is_command_of : (ℕ → Bool) → Call → State → Bool
is_command_of t (pointer m b) s = false
is_command_of t auxiliary s = false
is_command_of t (register m b) s =
    both (is_good (register m b)) (both (is_set m) (both (eqb s.status.pointer 0x18) (t (code_of b))))
is_command_of t (block m l) s = false
is_command_of t (time n) s = false
is_command_of t answer s = false
is_command_of t (reselection lines) s = false
is_command_of t (request p b q) s = false
is_command_of t free s = false

unfoldable pub is_command : ℕ → Call → State → Bool
unfolding is_command_of
is_command k c s = is_command_of (λ j. eqb j k) c s

unfoldable pub reads_at : ℕ → Call → State → Bool
reads_at a (pointer m b) s = false
reads_at a auxiliary s = false
reads_at a (register m b) s = both (is_good (register m b)) (both (not (is_set m)) (eqb s.status.pointer a))
reads_at a (block m l) s = false
reads_at a (time n) s = false
reads_at a answer s = false
reads_at a (reselection lines) s = false
reads_at a (request p b q) s = false
reads_at a free s = false

unfoldable pub is_reset : Call → State → Bool
is_reset c s = is_command 0x00 c s

unfoldable pub is_select_code : ℕ → Bool
is_select_code k = either (eqb k 0x06) (either (eqb k 0x07) (either (eqb k 0x08) (eqb k 0x09)))

unfoldable pub is_selection : Call → State → Bool
unfolding is_command_of is_select_code
is_selection c s = is_command_of is_select_code c s

unfoldable pub is_disconnect : Call → State → Bool
is_disconnect c s = both (is_command 0x04 c s) (is_connected s.wire.connection)

unfoldable pub is_dropped : Call → State → Bool
is_dropped c s = either (is_reset c s) (is_disconnect c s)

abbrev pub is_answer : Call → Bool
is_answer (pointer m b) = false
is_answer auxiliary = false
is_answer (register m b) = false
is_answer (block m l) = false
is_answer (time n) = false
is_answer answer = true
is_answer (reselection lines) = false
is_answer (request p b q) = false
is_answer free = false

-- INT is set after the call, and it was not before, or the code is another, or the call is a Reset
unfoldable pub raised : Call → State → State → Bool
raised c s t =
    both (interrupted t)
    (either (not (interrupted s)) (either (not (eqb t.status.code s.status.code)) (is_reset c s)))
