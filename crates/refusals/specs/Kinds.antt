-- Which answers a call can get, by its kind. Paper: the table of the section "The answers" and its order of checks, "3 everywhere
-- first. For an event then 6, 2, 1, then 8 (Requests only) or 0; for a register 4, then 5, 7, 0". Each list keeps that order.
--   KindsKept   a step's law: no call gets an answer that its kind does not have
--   may         the numbers of the answers that a call can get
--   is_among     a number is in a list
use Rattle.std.specs.Prelude.{◌≡◌, Bool, true, false, ◌||◌, List, [], ◌∷◌, ℕ, eqb}
use Rattle.chip.specs.Answers.{number}
use Rattle.chip.specs.Calls.{Call, Outcome, pointer, auxiliary, register, block, time, answer, reselection, request, free}
use Rattle.chip.specs.declared.State.{State}

-- 3 where there is an operand; else by the kind
abbrev pub may : Call → List ℕ
may (pointer m b) = 3 ∷ 0 ∷ []
may auxiliary = 0 ∷ []
may (register m b) = 3 ∷ 4 ∷ 5 ∷ 7 ∷ 0 ∷ []
may (block m l) = 3 ∷ 0 ∷ []
may (time n) = 3 ∷ 0 ∷ []
may answer = 2 ∷ 1 ∷ 0 ∷ []
may (reselection lines) = 3 ∷ 6 ∷ 2 ∷ 1 ∷ 0 ∷ []
may (request p b q) = 3 ∷ 2 ∷ 1 ∷ 8 ∷ 0 ∷ []
may free = 2 ∷ 1 ∷ 0 ∷ []

abbrev pub is_among : ℕ → List ℕ → Bool
is_among n [] = false
is_among n (m ∷ l) = eqb n m || is_among n l

abbrev pub KindsKept : (Call → State → Outcome) → Type 0
KindsKept f = (c : Call) (s : State) → is_among (number (f c s).answer) (may c) ≡ true
