-- Data that go out: what waits in the FIFO and what the host still holds are what is still to cross and what will not cross.
--   Going         of the bytes in the FIFO, those to cross, those in the host's hands, and those beyond
--   one_out, one_more   a byte crosses; the host writes one
--   full_out, owed_out, sending_can   DBR, by what the host still holds
use mathlib.Core.Path.{◌≡◌, ◌∙◌, ap}
use mathlib.Core.Bool.{true, false, false≢true}
use mathlib.Core.List.{List, [], ◌∷◌, ◌++◌, append_assoc}
use Prim.Native.Nat.{ℕ, ◌+◌}
use native.Mathlib.Omega.{arith}
use lib.Dec.{ltb}
use lib.ListN.{length, length-append}
use borrow.Author.Tests.{lt-ltb, le-ltb}
use Rattle.chip.specs.Choice.{both}
use Rattle.chip.specs.Fifo.{waits, has_room}
use Rattle.chip.specs.declared.Fifo.{Fifo}
use Rattle.chip.specs.Ok.{Bytes}
use Rattle.served.proofs.Queue.{Lined, room_is, waits_is}
use Rattle.served.proofs.Small.{bytes_tail, can_send, can_now}

pub record Going (fifo rest give beyond : List ℕ) : Type 0 where
  pub line : fifo ++ give ≡ rest ++ beyond
  pub bytes : Bytes give

pub one_out : {y b : ℕ} {fifo rest give x : List ℕ} → Going (y ∷ fifo) (b ∷ rest) give x → (y ≡ b) × Going fifo rest give x
one_out s =
    let e = s.line in
    (cc, record { line = cc; bytes = s.bytes })

pub full_out : {fifo rest x : List ℕ} → Going fifo rest [] x → ltb (length fifo) (length rest + length x) ≡ false
full_out {fifo} {rest} {x} s =
    le-ltb (length fifo) (length rest + length x) (omega (arith, length-append fifo [], length-append rest x, ap length s.line))

pub owed_out : {fifo rest give x : List ℕ} {z : ℕ} → Going fifo rest (z ∷ give) x → ltb (length fifo) (length rest + length x) ≡ true
owed_out {fifo} {rest} {give} {x} {z} s =
    lt-ltb (length fifo) (length rest + length x) (omega (arith, length-append fifo (z ∷ give), length-append rest x, ap length s.line))

pub sending_can : (q : Fifo) {fifo rest x : List ℕ} (give : List ℕ) → Going fifo rest give x → Lined q fifo
    → both (ltb (waits q) (length rest + length x)) (has_room q) ≡ true → can_send fifo give ≡ true
unfolding both
sending_can q [] s n e =
    let z : false ≡ true = rw (waits_is n, full_out s) at e in
    absurd (false≢true z)
sending_can q {fifo} (y ∷ give) s n e = can_now fifo y give (rw (waits_is n, owed_out s, room_is n) at e)

pub one_more : {fifo rest give x : List ℕ} {z : ℕ} → Going fifo rest (z ∷ give) x → Going (fifo ++ (z ∷ [])) rest give x
one_more {fifo} {rest} {give} {x} {z} s = record { line = append_assoc fifo (z ∷ []) give ∙ s.line; bytes = bytes_tail z give s.bytes }
