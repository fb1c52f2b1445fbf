-- The old keeping and this one go together: to move the bytes up after a step is to step as before.
--   kept_as_before   the record KeptAsBefore of specs/Before.antt
use mathlib.Core.Path.{◌≡◌, refl, ap, ap₂, sym, ◌∙◌}
use mathlib.Core.Bool.{true}
use mathlib.Core.List.{List, [], ◌∷◌, ◌++◌, append_assoc, append-nil}
use Prim.Native.Nat.{ℕ, zero, suc, ◌+◌, ◌-◌, ◌<◌}
use native.Mathlib.Omega.{arith}
use lib.ListN.{length, take, drop, get_or, set, replicate, length-append, length-replicate, replicate-append-replicate}
use lib.Seq.{take_at, set_at, drop-append-le}
use Rattle.chip.specs.Fifo.{waiting, is_empty, has_room, waits, front, pop, push, Whole}
use Rattle.chip.specs.Before.{moved_up, front_before, pop_before, push_before, KeptAsBefore}
use Rattle.chip.specs.declared.Fifo.{Fifo}
use Rattle.chip.proofs.Cases.{by_test, taken, passed_over}
use Rattle.chip.proofs.FifoLaws.{keeps_bytes, pop_less, some_waits, waits_below, room_below}

-- the n bytes l in the first places, zeros in those behind them
abbrev up_to : List ℕ → ℕ → Fifo
up_to l n = record { bytes = l ++ replicate (12 - n) 0; first = 0; held = n }

module _ (l : List ℕ) (n : ℕ) (long : length l ≡ n) where
  waiting_up : waiting (up_to l n) ≡ l
  unfolding waiting
  waiting_up = ap (take n) (append-nil (l ++ replicate (12 - n) 0)) ∙ take_at l (replicate (12 - n) 0) n long

  -- the first byte taken away: the others move up, and a zero comes behind them
  shorter : 0 < n → n < 13
      → up_to (drop 1 l) (n - 1) ≡ record { bytes = drop 1 (l ++ replicate (12 - n) 0) ++ (0 ∷ []); first = 0; held = n - 1 }
  shorter some below =
      let zeros : 12 - n + 1 ≡ 12 - (n - 1) = omega arith in
      ap (λ (x : List ℕ). record { bytes = x; first = 0; held = n - 1 })
      (ap (λ (k : ℕ). drop 1 l ++ replicate k 0) (sym zeros)
      ∙ ap (λ (x : List ℕ). drop 1 l ++ x) (sym (replicate-append-replicate (12 - n) 1 0))
      ∙ sym (append_assoc (drop 1 l) (replicate (12 - n) 0) (0 ∷ []))
      ∙ ap (λ (x : List ℕ). x ++ (0 ∷ [])) (sym (drop-append-le 1 l (replicate (12 - n) 0) (omega (arith, long)))))

  -- a byte put behind them, over the first zero
  longer : (b : ℕ) → n < 12
      → up_to (l ++ (b ∷ [])) (n + 1) ≡ record { bytes = set (l ++ replicate (12 - n) 0) n b; first = 0; held = n + 1 }
  longer b room =
      let zeros : suc (12 - (n + 1)) ≡ 12 - n = omega arith in
      ap (λ (x : List ℕ). record { bytes = x; first = 0; held = n + 1 })
      (append_assoc l (b ∷ []) (replicate (12 - (n + 1)) 0)
      ∙ sym (set_at l 0 (replicate (12 - (n + 1)) 0) b n long)
      ∙ ap (λ (k : ℕ). set (l ++ replicate k 0) n b) zeros)

-- zeros behind some bytes: the first byte is the first of them, or a zero
first_of : (l : List ℕ) (n : ℕ) → get_or (l ++ replicate n 0) 0 0 ≡ get_or l 0 0
first_of [] zero = refl
first_of [] (suc n) = refl
first_of (x ∷ l) n = refl

push_one : (b : ℕ) (q : Fifo) → has_room q ≡ true → waits (push b q) ≡ waits q + 1
unfolding push waits
push_one b q e = ap (λ (x : Fifo). x.held) (taken _ _ e)

module _ (q : Fifo) (u : Whole q) where
  long : length (waiting q) ≡ waits q
  long = sym (keeps_bytes.number q u)

  whole_is : Whole (moved_up q)
  unfolding moved_up
  whole_is =
      record {
        long = rw (length-append, length-replicate, long) (omega (arith, waits_below u));
        place = omega arith;
        few = waits_below u;
      }

  bytes_are : waiting (moved_up q) ≡ waiting q
  unfolding moved_up
  bytes_are = waiting_up (waiting q) (waits q) long

  oldest_is : front_before (moved_up q) ≡ front q
  unfolding front_before moved_up
  oldest_is = first_of (waiting q) (12 - waits q) ∙ sym (keeps_bytes.oldest q u)

  less_is : moved_up (pop q) ≡ pop_before (moved_up q)
  unfolding pop_before moved_up is_empty waits
  less_is =
      by_test (is_empty q)
      (λ e. ap moved_up (keeps_bytes.nothing_less q u e) ∙ sym (taken _ _ e))
      (λ e.
      ap₂ up_to (keeps_bytes.less q u) (pop_less q e)
      ∙ shorter (waiting q) (waits q) long (some_waits q e) (waits_below u)
      ∙ sym (passed_over _ _ e))

  more_is : (b : ℕ) → moved_up (push b q) ≡ push_before b (moved_up q)
  unfolding push_before moved_up has_room waits
  more_is b =
      by_test (has_room q)
      (λ e.
      ap₂ up_to (keeps_bytes.more q b u ∙ taken _ _ (sym (keeps_bytes.room q u) ∙ e)) (push_one b q e)
      ∙ longer (waiting q) (waits q) long b (room_below q e)
      ∙ sym (taken _ _ e))
      (λ e. ap moved_up (keeps_bytes.nothing_more q b u e) ∙ sym (passed_over _ _ e))

pub kept_as_before : KeptAsBefore
kept_as_before =
    record {
      whole = whole_is;
      bytes = bytes_are;
      none = unfold moved_up waiting waits in refl;
      dropped = λ q. unfold moved_up waiting waits in refl;
      oldest = oldest_is;
      less = less_is;
      more = λ q b u. more_is q u b;
    }
