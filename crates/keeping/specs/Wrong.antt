-- Wrong steps, for the laws to refuse: each is the step with one mistake in how the FIFO keeps its bytes. Being wrong they may look at
-- places: outside the FIFO's own files only this one and proofs/Refuted.antt do.
--   straight_on    the end does not go round: where the oldest byte's place goes from the last to the first, it goes to a thirteenth
--   newest_first   a read of the Data register gives the newest byte
--   newest_while_idle   .. only where no command runs
--   overwrites    a byte that comes in stands in the place of the oldest
--   leaks         a read of the Data register where no byte waits is Done, with what stands in the place that the oldest would have
--   stops_short    a Request is Held where the newest byte stands in the last place, though there is room
--   dims          DBR is off where the oldest byte does not stand in the first place
--   from_the_first  a block read lends the places from the first on, whichever the oldest byte's is
--   glows         ATN is on where the oldest byte does not stand in the first place
--   loses         a byte that comes in while the oldest stands in the last place is not kept; the call is answered as ever
--   is_read is_block_read c   the call c reads a register, and a block
--   comes_in c s            .. is a Request by which one byte more waits
--   answering t a          the step, where a call that the test t is true of is answered by a, of the state before it
--   leaving t g            .. leaves the FIFO g, of the state before it and the one after
use Rattle.std.specs.Prelude.{Bool, false, not, ◌++◌, ◌+◌, ◌-◌, eqb, get_or, set, take, drop}
use Rattle.chip.specs.Choice.{pick, both, either}
use Rattle.chip.specs.Lines.{packed}
use Rattle.chip.specs.Answers.{value, held}
use Rattle.chip.specs.Fifo.{waiting, is_empty, has_room, waits}
use Rattle.chip.specs.State.{set_fifo, set_atn}
use Rattle.chip.specs.Interrupts.{interrupted, busy, is_incoming}
use Rattle.chip.specs.Moves.{reads_data}
use Rattle.chip.specs.Calls.{Call, Outcome, pointer, auxiliary, register, block, time, answer, reselection, request, free, kind, is_good, is_set, plain, step}
use Rattle.chip.specs.declared.Answer.{Answer}
use Rattle.chip.specs.declared.Answer.TheVariants.{Done}
use Rattle.chip.specs.declared.Fifo.{Fifo}
use Rattle.chip.specs.declared.State.{State}

abbrev pub is_read : Call → Bool
is_read (pointer m b) = false
is_read auxiliary = false
is_read (register m b) = both (is_good (register m b)) (not (is_set m))
is_read (block m l) = false
is_read (time n) = false
is_read answer = false
is_read (reselection lines) = false
is_read (request p b q) = false
is_read free = false

abbrev pub is_block_read : Call → Bool
is_block_read (pointer m b) = false
is_block_read auxiliary = false
is_block_read (register m b) = false
is_block_read (block m l) = both (is_good (block m l)) (not (is_set m))
is_block_read (time n) = false
is_block_read answer = false
is_block_read (reselection lines) = false
is_block_read (request p b q) = false
is_block_read free = false

abbrev pub comes_in : Call → State → Bool
comes_in c s = both (eqb (kind c) 7) (eqb (waits (step c s).state.fifo) (waits s.fifo + 1))

abbrev pub answering : (Call → State → Bool) → (State → Answer) → Call → State → Outcome
answering test a c s =
    record { answer = pick (test c s) (a s) (step c s).answer; state = (step c s).state; lent = (step c s).lent }

abbrev pub leaving : (Call → State → Bool) → (State → Outcome → Fifo) → Call → State → Outcome
leaving test g c s =
    record {
      answer = (step c s).answer;
      state = pick (test c s) (set_fifo (g s (step c s)) (step c s).state) (step c s).state;
      lent = (step c s).lent;
    }

unfoldable pub straight_on : Call → State → Outcome
straight_on =
    leaving (λ c s. both (eqb s.fifo.first 11) (eqb (step c s).state.fifo.first 0))
    (λ s o. record { bytes = o.state.fifo.bytes; first = 12; held = waits o.state.fifo })

unfoldable pub newest_first : Call → State → Outcome
newest_first =
    answering (λ c s. both (is_read c) (reads_data s)) (λ s. Done (get_or (waiting s.fifo) (waits s.fifo - 1) 0))

-- where no command runs: no calls lead there with a byte that waits, but an image may say so
unfoldable pub newest_while_idle : Call → State → Outcome
newest_while_idle =
    answering (λ c s. both (both (is_read c) (reads_data s)) (not (busy s)))
    (λ s. Done (get_or (waiting s.fifo) (waits s.fifo - 1) 0))

unfoldable pub overwrites : Call → State → Outcome
overwrites =
    leaving comes_in λ s o.
    record {
      bytes = set s.fifo.bytes s.fifo.first (value o.answer);
      first = s.fifo.first;
      held = waits o.state.fifo;
    }

-- the Data register is read, the way is in, and no byte waits
abbrev reads_nothing : Call → State → Bool
reads_nothing c s =
    both (both (is_read c) (eqb s.status.pointer 0x19)) (both (is_incoming s.transfer.direction) (is_empty s.fifo))

unfoldable pub leaks : Call → State → Outcome
leaks = answering reads_nothing (λ s. Done (get_or s.fifo.bytes s.fifo.first 0))

-- the newest byte stands in the last place, and there is room in those before the oldest
abbrev is_at_the_last : Fifo → Bool
is_at_the_last q = both (eqb (q.first + waits q) 12) (has_room q)

unfoldable pub stops_short : Call → State → Outcome
stops_short c s = pick (both (comes_in c s) (is_at_the_last s.fifo)) (plain (held s)) (step c s)

unfoldable pub dims : Call → State → Outcome
dims =
    answering (λ c s. both (eqb (kind c) 1) (not (eqb s.fifo.first 0)))
    (λ s. Done (packed (interrupted s) s.status.lci (busy s) s.status.pe false))

unfoldable pub from_the_first : Call → State → Outcome
from_the_first c s =
    record {
      answer = (step c s).answer;
      state = (step c s).state;
      lent =
          pick (is_block_read c)
          (take (value (step c s).answer) s.fifo.bytes ++ drop (value (step c s).answer) (step c s).lent) (step c s).lent;
    }

unfoldable pub glows : Call → State → Outcome
glows c s =
    record {
      answer = (step c s).answer;
      state = set_atn (either (step c s).state.wire.handshake.atn (not (eqb s.fifo.first 0))) (step c s).state;
      lent = (step c s).lent;
    }

unfoldable pub loses : Call → State → Outcome
loses = leaving (λ c s. both (comes_in c s) (eqb s.fifo.first 11)) (λ s o. s.fifo)
