-- Wrong steps, each with one mistake. proofs/Wrong.antt refutes of each that it keeps the facts.
--   afterwards      a step that changes the state once more after a call of one kind
--   stays_selecting  a timeout raises 42h and stays selecting
--   keeps_ack        a Free keeps the held ACK
--   holds_time       a Time is Held wherever INT is set, and not only while a selection runs
--   sleeps          a Time while selecting is Done without effect
use Rattle.std.specs.Prelude.{ℕ, eqb}
use Rattle.chip.specs.Choice.{pick, both}
use Rattle.chip.specs.State.{set_ack, set_connection}
use Rattle.chip.specs.Interrupts.{interrupted}
use Rattle.chip.specs.Calls.{Call, Outcome, step, kind}
use Rattle.chip.specs.declared.State.{State}
use Rattle.chip.specs.declared.Answer.TheVariants.{Held}

-- after a call of kind k, as `kind` numbers them, the state is changed by what it was before
abbrev pub afterwards : ℕ → (State → State → State) → Call → State → Outcome
afterwards k change c s =
    record {
      answer = (step c s).answer;
      state = pick (eqb (kind c) k) (change s (step c s).state) (step c s).state;
      lent = (step c s).lent;
    }

unfoldable pub stays_selecting : Call → State → Outcome
stays_selecting =
    afterwards 4
    (λ s t. pick (interrupted t) (set_connection s.wire.connection t) t)

unfoldable pub keeps_ack : Call → State → Outcome
keeps_ack = afterwards 8 (λ s t. set_ack s.wire.handshake.ack t)

unfoldable pub holds_time : Call → State → Outcome
holds_time c s =
    record {
      answer = pick (both (eqb (kind c) 4) (interrupted s)) Held (step c s).answer;
      state = (step c s).state;
      lent = (step c s).lent;
    }

unfoldable pub sleeps : Call → State → Outcome
sleeps = afterwards 4 (λ s t. s)
