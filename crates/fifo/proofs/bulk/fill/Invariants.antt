-- The FIFO so far is the part's places under its own end and the one so far; `at` is the place behind.
use Rattle.std.proofs.Common.{◌≡◌, ◌+◌, ◌<◌, length, get_or}
use Rattle.chip.specs.Fifo.{round}
use Rattle.fifo.specs.Bulk.{filled}
use Rattle.fifo.proofs.Going.{Going}
use Rattle.fifo.proofs.Places.{under}
use Rattle.fifo.proofs.bulk.fill.Given as goal

abbrev pub invariant-loop-byte : goal.invariant-loop-byte
invariant-loop-byte l = record {
  long : length l.part ≡ 14;
  oldest : get_or l.part 1 0 ≡ l.first;
  place : l.at < 12;
  behind : l.at ≡ round (l.first + l.held);
  number : l.waited + l.byte-index ≡ l.held;
  going : Going (filled l.n) l.from (under l.initial.part l.first l.waited) l.from (under l.part l.first l.held) l.byte-index;
}
