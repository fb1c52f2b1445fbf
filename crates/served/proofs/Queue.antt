-- The FIFO as the list of its waiting bytes.
--   Lined      the bytes that wait in q are l, the oldest first
--   none_lined, popped, pushed              it stays so
--   empty_none, empty_some, room_is, waits_is, front_is   what the FIFO's tests come to
use mathlib.Core.Path.{◌≡◌, ap, sym, ◌∙◌}
use mathlib.Core.Bool.{true, false}
use mathlib.Core.List.{List, [], ◌∷◌, ◌++◌}
use Prim.Native.Nat.{ℕ, suc, ◌<◌, ◌≤◌}
use native.Mathlib.Omega.{arith}
use lib.Dec.{eqb, ltb}
use lib.ListN.{length, drop, get_or}
use borrow.Author.Tests.{ne_eqb, lt-ltb}
use Rattle.chip.specs.Fifo.{waiting, is_empty, has_room, front, pop, push, waits, empty, Whole}
use Rattle.chip.specs.declared.Fifo.{Fifo}
use Rattle.chip.proofs.Cases.{taken}
use Rattle.chip.proofs.FifoLaws.{keeps_bytes, waits_below}

pub record Lined (q : Fifo) (l : List ℕ) : Type 0 where
  pub whole : Whole q
  pub bytes : waiting q ≡ l

pub none_lined : Lined empty []
none_lined = record { whole = keeps_bytes.begins_whole; bytes = keeps_bytes.none }

module _ {q : Fifo} where
  pub empty_none : Lined q [] → is_empty q ≡ true
  empty_none h = keeps_bytes.emptiness q h.whole ∙ ap (λ (x : List ℕ). eqb (length x) 0) h.bytes

  pub empty_some : {b : ℕ} {l : List ℕ} → Lined q (b ∷ l) → is_empty q ≡ false
  empty_some {l = l} h =
      keeps_bytes.emptiness q h.whole ∙ ap (λ (x : List ℕ). eqb (length x) 0) h.bytes
      ∙ ne_eqb (suc (length l)) 0 (omega arith)

  pub room_is : {l : List ℕ} → Lined q l → has_room q ≡ ltb (length l) 12
  room_is h = keeps_bytes.room q h.whole ∙ ap (λ (x : List ℕ). ltb (length x) 12) h.bytes

  pub waits_is : {l : List ℕ} → Lined q l → waits q ≡ length l
  waits_is h = keeps_bytes.number q h.whole ∙ ap length h.bytes

  pub front_is : {b : ℕ} {l : List ℕ} → Lined q (b ∷ l) → front q ≡ b
  front_is h = keeps_bytes.oldest q h.whole ∙ ap (λ (x : List ℕ). get_or x 0 0) h.bytes

  pub fits : {l : List ℕ} → Lined q l → length l ≤ 12
  fits h = omega (arith, waits_below h.whole, waits_is h)

  pub popped : {b : ℕ} {l : List ℕ} → Lined q (b ∷ l) → Lined (pop q) l
  popped h =
      record {
        whole = keeps_bytes.pop_whole q h.whole;
        bytes = keeps_bytes.less q h.whole ∙ ap (drop 1) h.bytes;
      }

  pub pushed : {l : List ℕ} (b : ℕ) → Lined q l → length l < 12 → Lined (push b q) (l ++ (b ∷ []))
  pushed {l = l} b h k =
      let room : has_room q ≡ true = room_is h ∙ lt-ltb (length l) 12 k in
      record {
        whole = keeps_bytes.push_whole q b h.whole;
        bytes =
            keeps_bytes.more q b h.whole ∙ taken _ _ (sym (keeps_bytes.room q h.whole) ∙ room)
            ∙ ap (λ (x : List ℕ). x ++ (b ∷ [])) h.bytes;
      }
