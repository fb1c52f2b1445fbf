-- What the host does tells no places.
--   reads_pointer sets_pointer reads_auxiliary   the pointer, and auxiliary status
--   accesses                                     a register at the pointer
--   AlikeMoved block_reads block_writes          block moves: as many bytes, the same slice, alike states
use mathlib.Core.Path.{◌≡◌, refl, ap, subst}
use mathlib.Core.Bool.{Bool}
use mathlib.Core.List.{List, [], ◌∷◌}
use Prim.Native.Nat.{ℕ, suc}
use Rattle.chip.specs.State.{set_fifo, set_pointer}
use Rattle.chip.specs.Lines.{packed}
use Rattle.chip.specs.Interrupts.{interrupted, busy}
use Rattle.chip.specs.Registers.{pointer_read, pointer_set, auxiliary_read, pointer_after, is_blind, stored, data_read_by, data_read, data_written_by, data_written, read_at, written_at, stepped, accessed_at, accessed, Moved, and_then, stopped, go_on, block_read, block_written}
use Rattle.chip.specs.declared.Answer.{Answer}
use Rattle.chip.specs.declared.Answer.TheVariants.{Done, Held, OutOfPlace, BadNumber, Blind, CommandIgnored, ReselectionIgnored, NoDataNow, Reported}
use Rattle.chip.specs.declared.Direction.{Direction}
use Rattle.chip.specs.declared.Direction.TheVariants.{Unfixed, In, Out}
use Rattle.chip.specs.declared.Fifo.{Fifo}
use Rattle.chip.specs.declared.Reply.{Reply}
use Rattle.chip.specs.declared.State.{State}
use Rattle.keeping.specs.Keeping.{SameBytes, Alike}
use Rattle.keeping.proofs.SameBytes.{same_front, same_pop, same_push}
use Rattle.keeping.proofs.Alike.{AlikeReply, said, alike, replied, replied_by, by_alike}
use Rattle.keeping.proofs.Moving.{same_dbr, settles}
use Rattle.keeping.proofs.Commands.{commands}

steps : (n : ℕ) {a b : Reply} → AlikeReply a b → AlikeReply (stepped n a) (stepped n b)
unfolding stepped
steps n h =
    record {
      answer = h.answer;
      states = record { rest = ap (set_pointer (pointer_after n)) h.states.rest; fifo = h.states.fifo };
    }

module _ (s : State) {r : Fifo} (g : SameBytes s.fifo r) where
  -- the pointer and auxiliary status

  pub reads_pointer : AlikeReply (pointer_read s) (pointer_read (set_fifo r s))
  unfolding pointer_read
  reads_pointer = said (alike g)

  pub sets_pointer : (b : ℕ) → AlikeReply (pointer_set b s) (pointer_set b (set_fifo r s))
  unfolding pointer_set
  sets_pointer b = said (alike g)

  pub reads_auxiliary : AlikeReply (auxiliary_read s) (auxiliary_read (set_fifo r s))
  unfolding auxiliary_read busy
  reads_auxiliary =
      record {
        answer = ap (λ (t : Bool). Done (packed (interrupted s) s.status.lci (busy s) s.status.pe t)) (same_dbr s g);
        states = alike g;
      }

  -- the Data register

  data_read_by_lem : (d : Direction) → AlikeReply (data_read_by d s) (data_read_by d (set_fifo r s))
  data_read_by_lem Unfixed = said (alike g)
  data_read_by_lem In =
      replied_by (same_dbr s g) (record { answer = ap Done (same_front g); states = settles _ (same_pop g) }) (said (alike g))
  data_read_by_lem Out = said (alike g)

  reads_data_lem : AlikeReply (data_read s) (data_read (set_fifo r s))
  unfolding data_read
  reads_data_lem = data_read_by_lem s.transfer.direction

  data_written_by_lem : (d : Direction) (b : ℕ) → AlikeReply (data_written_by d b s) (data_written_by d b (set_fifo r s))
  data_written_by_lem Unfixed b = said (alike g)
  data_written_by_lem In b = said (alike g)
  data_written_by_lem Out b = replied_by (same_dbr s g) (said (alike (same_push b g))) (said (alike g))

  writes_data_lem : (b : ℕ) → AlikeReply (data_written b s) (data_written b (set_fifo r s))
  unfolding data_written
  writes_data_lem b = data_written_by_lem s.transfer.direction b

  -- the registers

  reads_at : (a : ℕ) → AlikeReply (read_at a s) (read_at a (set_fifo r s))
  unfolding read_at
  reads_at a = replied _ (said (alike g)) (replied _ (said (alike g)) (replied _ reads_data_lem (said (alike g))))

  writes_at : (a b : ℕ) → AlikeReply (written_at a b s) (written_at a b (set_fifo r s))
  unfolding written_at stored
  writes_at a b = replied _ (commands b s g) (replied _ (writes_data_lem b) (said (alike g)))

  pub accesses : (writes : Bool) (b : ℕ) → AlikeReply (accessed writes b s) (accessed writes b (set_fifo r s))
  unfolding accessed accessed_at is_blind busy
  accesses writes b = steps _ (replied _ (said (alike g)) (replied _ (writes_at _ b) (reads_at _)))

-- ---- block moves

pub record AlikeMoved (m n : Moved) : Type 0 where
  pub number : m.number ≡ n.number
  pub states : Alike m.state n.state
  pub bytes : m.bytes ≡ n.bytes

stops : (l : List ℕ) {s t : State} → Alike s t → AlikeMoved (stopped l s) (stopped l t)
stops l h = record { number = refl; states = h; bytes = refl }

goes_on : (b : ℕ) {m n : Moved} → AlikeMoved m n → AlikeMoved (and_then b m) (and_then b n)
goes_on b h = record { number = ap suc h.number; states = h.states; bytes = ap (λ (l : List ℕ). b ∷ l) h.bytes }

-- after a single access with one answer
after : (x : Answer) {on off : ℕ → Moved} {m n : Moved} → ((v : ℕ) → AlikeMoved (on v) (off v)) → AlikeMoved m n
    → AlikeMoved (go_on x on m) (go_on x off n)
after (Done v) f h = f v
after Held f h = h
after OutOfPlace f h = h
after BadNumber f h = h
after Blind f h = h
after CommandIgnored f h = h
after ReselectionIgnored f h = h
after NoDataNow f h = h
after Reported f h = h

-- .. or with two that are equal
after_both : {x y : Answer} → x ≡ y → {on off : ℕ → Moved} {m n : Moved} → ((v : ℕ) → AlikeMoved (on v) (off v)) → AlikeMoved m n
    → AlikeMoved (go_on x on m) (go_on y off n)
after_both {x = x} e {on = on} {off = off} {m = m} {n = n} f h =
    subst (λ (z : Answer). AlikeMoved (go_on x on m) (go_on z off n)) e (after x f h)

pub block_reads : (l : List ℕ) (s t : State) → Alike s t → AlikeMoved (block_read l s) (block_read l t)
unfolding block_read
block_reads [] s t h = stops [] h
block_reads (b ∷ l) s t h =
    let one : AlikeReply (data_read s) (data_read t) = by_alike AlikeReply data_read (λ u r g. reads_data_lem u g) h in
    after_both one.answer (λ v. goes_on v (block_reads l _ _ one.states)) (stops (b ∷ l) h)

pub block_writes : (l : List ℕ) (s t : State) → Alike s t → AlikeMoved (block_written l s) (block_written l t)
unfolding block_written
block_writes [] s t h = stops [] h
block_writes (b ∷ l) s t h =
    let one : AlikeReply (data_written b s) (data_written b t) = by_alike AlikeReply (data_written b) (λ u r g. writes_data_lem u g b) h in
    after_both one.answer (λ v. goes_on b (block_writes l _ _ one.states)) (stops (b ∷ l) h)
