-- The first words are taken off, and the others stand in the rest.
use Rattle.std.proofs.Common.{◌≡◌, ◌≤◌, length, drop}
use Rattle.sessions.specs.Words.{words}
use Rattle.sessions.proofs.words.word.Given as goal

abbrev pub invariant-loop : goal.invariant-loop
invariant-loop l = (words l.rest ≡ drop l.counter (words l.line)) × (length l.rest ≤ length l.line)
