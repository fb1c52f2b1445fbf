-- "A status nobody has read is replaced only by Reset": two laws over one call, each a predicate of a step function, from every state.
--   UnreadStatusKept        while INT is set, the code at 17h and INT stay, but for Reset and the read of 17h
--   CodeMovesOnlyByRaising  the code at 17h changes only where INT is set after the call
use Rattle.std.specs.Prelude.{◌≡◌, true, false}
use Rattle.chip.specs.Interrupts.{interrupted}
use Rattle.chip.specs.Commands.{reset_code}
use Rattle.chip.specs.Calls.{Call, Outcome}
use Rattle.chip.specs.declared.State.{State}
use Rattle.unread.specs.Status.{is_reset, reads_at}

pub record UnreadStatusKept (f : Call → State → Outcome) : Type 0 where
  -- any call but Reset leaves the code
  pub code_kept : (c : Call) (s : State) → interrupted s ≡ true → is_reset c s ≡ false → (f c s).state.status.code ≡ s.status.code
  -- any call but a read of 17h leaves INT set
  pub int_kept : (c : Call) (s : State) → interrupted s ≡ true → reads_at 0x17 c s ≡ false → interrupted (f c s).state ≡ true
  -- Reset sets INT, with its own code
  pub reset_tells : (c : Call) (s : State) → is_reset c s ≡ true → interrupted (f c s).state ≡ true
  pub code_of_reset : (c : Call) (s : State) → is_reset c s ≡ true → (f c s).state.status.code ≡ reset_code s

pub record CodeMovesOnlyByRaising (f : Call → State → Outcome) : Type 0 where
  -- another code after the call: INT is set
  pub int_with_code : (c : Call) (s : State) → ((f c s).state.status.code ≡ s.status.code → ⊥) → interrupted (f c s).state ≡ true
