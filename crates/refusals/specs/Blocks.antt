-- What a block move is. Paper: "A block move, in or out, lends the Data register a slice: it does single accesses there, without the
-- pointer, from the slice's start until the slice ends or answer 7 would come. It answers 3, or else Done with the number moved as
-- its value. Bytes of the slice beyond that number keep their values."
--   BlockIsAccesses   a step's law: a block gives what its single accesses give, with the pointer at 19h for their time
--   reads             the step's own reads at the pointer, one for each place of the slice, until it ends or one is not Done
--   writes            the same for writes
--   aside             what a run gives that has the pointer at 19h, and puts it back
--   placed            a run's outcome with the pointer at a place
--   are_bytes          each is below 256: what a slice of bytes holds
use Rattle.std.specs.Prelude.{◌≡◌, Bool, true, List, [], ◌∷◌, ℕ}
use Rattle.chip.specs.Choice.{both}
use Rattle.chip.specs.State.{set_pointer}
use Rattle.chip.specs.Registers.{Moved, and_then, stopped, go_on}
use Rattle.chip.specs.Calls.{Call, Outcome, register, block, is_byte, moved}
use Rattle.chip.specs.declared.State.{State}

unfoldable pub reads : (Call → State → Outcome) → List ℕ → State → Moved
reads f [] s = stopped [] s
reads f (b ∷ l) s =
    go_on (f (register 0 0) s).answer (λ v. and_then v (reads f l (f (register 0 0) s).state))
    (stopped (b ∷ l) (f (register 0 0) s).state)

unfoldable pub writes : (Call → State → Outcome) → List ℕ → State → Moved
writes f [] s = stopped [] s
writes f (b ∷ l) s =
    go_on (f (register 1 b) s).answer (λ v. and_then b (writes f l (f (register 1 b) s).state))
    (stopped (b ∷ l) (f (register 1 b) s).state)

-- m with the pointer at p
abbrev pub placed : ℕ → Moved → Moved
placed p m = record { number = m.number; state = set_pointer p m.state; bytes = m.bytes }

abbrev pub aside : (State → Moved) → State → Outcome
aside run s = moved (placed s.status.pointer (run (set_pointer 0x19 s)))

abbrev pub are_bytes : List ℕ → Bool
are_bytes [] = true
are_bytes (b ∷ l) = both (is_byte b) (are_bytes l)

pub record BlockIsAccesses (f : Call → State → Outcome) : Type 0 where
  pub into_slice : (l : List ℕ) (s : State) → f (block 0 l) s ≡ aside (reads f l) s
  pub out_of_slice : (l : List ℕ) (s : State) → are_bytes l ≡ true → f (block 1 l) s ≡ aside (writes f l) s
