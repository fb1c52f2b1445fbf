-- Two FIFOs with the same bytes waiting are the same to every rule. This is the only file of the room that asks anything of a FIFO, and it
-- asks `keeps_bytes` alone.
--   same_waits same_empty same_room same_front   how many wait, the two tests, and the oldest byte
--   same_pop same_push same_dropped same_begin   they stay so: without the oldest, with one more, dropped, begun anew
use mathlib.Core.Path.{◌≡◌, refl, ap, sym, ◌∙◌}
use mathlib.Core.List.{List}
use Prim.Native.Nat.{ℕ}
use Rattle.chip.specs.Queue as Queue
use Rattle.chip.specs.Fifo.{waiting, empty, emptied, is_empty, has_room, waits, front, pop, push, Whole}
use Rattle.chip.specs.declared.Fifo.{Fifo}
use Rattle.chip.proofs.FifoLaws.{keeps_bytes}
use Rattle.keeping.specs.Keeping.{SameBytes}

-- what is a function of the waiting bytes
of_bytes : {A : Type 0} (f : Fifo → A) (h : List ℕ → A) → ((q : Fifo) → Whole q → f q ≡ h (waiting q))
    → {q r : Fifo} → SameBytes q r → f q ≡ f r
of_bytes f h e {q = q} {r = r} g = e q g.left ∙ ap h g.bytes ∙ sym (e r g.right)

pub same_waits : {q r : Fifo} → SameBytes q r → waits q ≡ waits r
same_waits = of_bytes waits Queue.waits keeps_bytes.number

pub same_empty : {q r : Fifo} → SameBytes q r → is_empty q ≡ is_empty r
same_empty = of_bytes is_empty Queue.is_empty keeps_bytes.emptiness

pub same_room : {q r : Fifo} → SameBytes q r → has_room q ≡ has_room r
same_room = of_bytes has_room Queue.has_room keeps_bytes.room

pub same_front : {q r : Fifo} → SameBytes q r → front q ≡ front r
same_front = of_bytes front Queue.front keeps_bytes.oldest

pub same_pop : {q r : Fifo} → SameBytes q r → SameBytes (pop q) (pop r)
same_pop {q = q} {r = r} g =
    record {
      left = keeps_bytes.pop_whole q g.left;
      right = keeps_bytes.pop_whole r g.right;
      bytes = of_bytes (λ x. waiting (pop x)) Queue.pop keeps_bytes.less g;
    }

pub same_push : (b : ℕ) {q r : Fifo} → SameBytes q r → SameBytes (push b q) (push b r)
same_push b {q = q} {r = r} g =
    record {
      left = keeps_bytes.push_whole q b g.left;
      right = keeps_bytes.push_whole r b g.right;
      bytes = of_bytes (λ x. waiting (push b x)) (Queue.push b) (λ x u. keeps_bytes.more x b u) g;
    }

pub same_dropped : {q r : Fifo} → SameBytes q r → SameBytes (emptied q) (emptied r)
same_dropped {q = q} {r = r} g =
    record {
      left = keeps_bytes.dropped_whole q g.left;
      right = keeps_bytes.dropped_whole r g.right;
      bytes = keeps_bytes.dropped q g.left ∙ sym (keeps_bytes.dropped r g.right);
    }

pub same_begin : SameBytes empty empty
same_begin = record { left = keeps_bytes.begins_whole; right = keeps_bytes.begins_whole; bytes = refl }
