-- The part stays as it is until the end; the FIFO so far is its places under the ends so far.
use Rattle.std.proofs.Common.{◌≡◌, ◌+◌, ◌<◌}
use Rattle.fifo.specs.Bulk.{drained}
use Rattle.fifo.proofs.Going.{Going}
use Rattle.fifo.proofs.Places.{under}
use Rattle.fifo.proofs.bulk.drain.Given as goal

abbrev pub invariant-loop-byte : goal.invariant-loop-byte
invariant-loop-byte l = record {
  place : l.first < 12;
  number : l.held + l.byte-index ≡ l.waited;
  going : Going drained l.initial.out (under l.part l.initial.first l.waited) l.out (under l.part l.first l.held) l.byte-index;
}
