-- Small facts about numbers, lists, auxiliary status and the Data register that both hosts' proofs use.
--   asked_is                           what a look at auxiliary status asks for
--   polls_look, small_address          the host's next access after a look, and that its address is one
--   Quiet                              the Data register has nothing to move
--   bytes_tail, next_byte_lem              the bytes that a host sends are bytes
use mathlib.Core.Path.{◌≡◌, refl, ap, subst}
use mathlib.Core.Bool.{Bool, true, false, not, false≢true}
use mathlib.Core.List.{List, [], ◌∷◌, ◌++◌}
use Prim.Native.Nat.{ℕ, suc, ◌+◌, ◌-◌, ◌<◌}
use native.Mathlib.Omega.{arith}
use lib.Dec.{ltb}
use lib.ListN.{length, length-append}
use borrow.Author.Tests.{lt-ltb, ltb-true}
use Rattle.chip.proofs.Cases.{both_first, both_second}
use Rattle.chip.specs.Choice.{pick, both}
use Rattle.chip.specs.Phases.{comes_in}
use Rattle.chip.specs.Lines.{is_on, packed}
use Rattle.chip.specs.Fifo.{is_empty}
use Rattle.chip.specs.declared.Fifo.{Fifo}
use Rattle.chip.specs.declared.Phase.{Phase}
use Rattle.chip.specs.declared.Direction.{Direction}
use Rattle.chip.specs.declared.Direction.TheVariants.{Unfixed, In}
use Rattle.chip.specs.Ok.{Bytes}
use Rattle.story.specs.Story.{Item, item, items}
use Rattle.story.specs.Hosts.{Access, take, send, address_of, asked_by, asked, next_byte, tail}
use Rattle.served.proofs.Queue.{Lined, empty_none}
use Rattle.served.proofs.Parts.{Polled, coded, taken, sent, Polls, look, seen, ready}

pub length_snoc : (l : List ℕ) (b : ℕ) → length (l ++ (b ∷ [])) ≡ suc (length l)
length_snoc l b = omega (arith, length-append l (b ∷ []))

pub one_less : (l s : ℕ) → suc l + s - 1 ≡ l + s
one_less l s = omega arith

pub items_snoc : (p : Phase) (l : List ℕ) (b : ℕ) → items p (l ++ (b ∷ [])) ≡ items p l ++ (item p b ∷ [])
items_snoc p [] b = refl
items_snoc p (x ∷ l) b = ap (λ (t : List Item). item p x ∷ t) (items_snoc p l b)

pub bytes_tail : (b : ℕ) (l : List ℕ) → Bytes (b ∷ l) → Bytes l
bytes_tail b l h = λ k. h (suc k)

pub no_bytes : Bytes []
no_bytes = λ k. omega arith

pub next_byte_lem : (l : List ℕ) → Bytes l → ltb (next_byte l) 256 ≡ true
next_byte_lem [] h = refl
next_byte_lem (b ∷ l) h = lt-ltb b 256 (h 0)

-- ---- auxiliary status

pub asked_is : (i l b e d : Bool) (p : Phase) → asked (packed i l b e d) p ≡ asked_by i d p
unfolding asked is_on packed
asked_is true true true true true p = refl
asked_is true true true true false p = refl
asked_is true true true false true p = refl
asked_is true true true false false p = refl
asked_is true true false true true p = refl
asked_is true true false true false p = refl
asked_is true true false false true p = refl
asked_is true true false false false p = refl
asked_is true false true true true p = refl
asked_is true false true true false p = refl
asked_is true false true false true p = refl
asked_is true false true false false p = refl
asked_is true false false true true p = refl
asked_is true false false true false p = refl
asked_is true false false false true p = refl
asked_is true false false false false p = refl
asked_is false true true true true p = refl
asked_is false true true true false p = refl
asked_is false true true false true p = refl
asked_is false true true false false p = refl
asked_is false true false true true p = refl
asked_is false true false true false p = refl
asked_is false true false false true p = refl
asked_is false true false false false p = refl
asked_is false false true true true p = refl
asked_is false false true true false p = refl
asked_is false false true false true p = refl
asked_is false false true false false p = refl
asked_is false false false true true p = refl
asked_is false false false true false p = refl
asked_is false false false false true p = refl
asked_is false false false false false p = refl

data_polled : {i w o : Bool} (p : Phase) (t : Bool) → comes_in p ≡ t → (comes_in p ≡ true → w ≡ true) → (comes_in p ≡ false → o ≡ true)
    → Polled i w o (pick t take send)
unfolding pick
data_polled p true e h k = taken (h e)
data_polled p false e h k = sent (k e)

-- a look asks for a byte only where one waits or may be written
pub polls_look : (i l b e d : Bool) (p : Phase) (a : ℕ) {w o : Bool} → (d ≡ true → comes_in p ≡ true → w ≡ true) → (d ≡ true → comes_in p ≡ false → o ≡ true)
    → Polls i w o (asked (packed i l b e d) p) false a
polls_look i l b e d p a {w} {o} h k = rw (asked_is i l b e d p) (by_flags i d h k)
  where
    by_flags : (i d : Bool) → (d ≡ true → comes_in p ≡ true → w ≡ true) → (d ≡ true → comes_in p ≡ false → o ≡ true) → Polls i w o (asked_by i d p) false a
    by_flags true d h k = seen coded
    by_flags false true h k = seen (data_polled p (comes_in p) refl (h refl) (k refl))
    by_flags false false h k = look

-- with no byte to move it asks for none
pub polls_quiet : (i l b e : Bool) (p : Phase) (a : ℕ) {w o : Bool} → Polls i w o (asked (packed i l b e false) p) false a
polls_quiet i l b e p a = polls_look i l b e false p a (λ f. absurd (false≢true f)) (λ f. absurd (false≢true f))

pub polls_drained : (i l b e : Bool) (p : Phase) (a : ℕ) (q : Fifo) {w o : Bool} → is_empty q ≡ true
    → Polls i w o (asked (packed i l b e (not (is_empty q))) p) false a
polls_drained i l b e p a q f = rw f (polls_quiet i l b e p a)

pub polls_up : {i w o w' o' f : Bool} {l : List Access} {a : ℕ} → (w ≡ true → w' ≡ true) → (o ≡ true → o' ≡ true) → Polls i w o l f a → Polls i w' o' l f a
polls_up h k look = look
polls_up h k (seen coded) = seen coded
polls_up h k (seen (taken e)) = seen (taken (h e))
polls_up h k (seen (sent e)) = seen (sent (k e))
polls_up h k (ready coded) = ready coded
polls_up h k (ready (taken e)) = ready (taken (h e))
polls_up h k (ready (sent e)) = ready (sent (k e))

pub small_address : {i w o : Bool} {x : Access} → Polled i w o x → ltb (address_of x) 256 ≡ true
small_address coded = refl
small_address (taken e) = refl
small_address (sent e) = refl

-- a list holds a byte; the Data register takes the next one
abbrev pub is_some : List ℕ → Bool
is_some [] = false
is_some (b ∷ l) = true

unfoldable pub can_send : List ℕ → List ℕ → Bool
can_send fifo give = both (is_some give) (ltb (length fifo) 12)

pub waiting_some : {q : Fifo} (l : List ℕ) → Lined q l → not (is_empty q) ≡ true → is_some l ≡ true
waiting_some [] n e = let z : not true ≡ true = subst (λ (t : Bool). not t ≡ true) (empty_none n) e in absurd (false≢true z)
waiting_some (b ∷ l) n e = refl

pub some_snoc : (l : List ℕ) (b : ℕ) → is_some (l ++ (b ∷ [])) ≡ true
some_snoc [] b = refl
some_snoc (x ∷ l) b = refl

pub can_pop : (b : ℕ) (fifo give : List ℕ) → can_send (b ∷ fifo) give ≡ true → can_send fifo give ≡ true
unfolding can_send both
can_pop b fifo give e =
    rw (
      both_first (is_some give) (ltb (suc (length fifo)) 12) e,
      lt-ltb (length fifo) 12 (omega (arith, ltb-true (suc (length fifo)) 12 (both_second (is_some give) (ltb (suc (length fifo)) 12) e))),
    )

pub can_room : (fifo give : List ℕ) → can_send fifo give ≡ true → length fifo < 12
unfolding can_send
can_room fifo give e = ltb-true (length fifo) 12 (both_second (is_some give) (ltb (length fifo) 12) e)

pub can_not : {X : Type 0} (fifo : List ℕ) → can_send fifo [] ≡ true → X
unfolding can_send both
can_not fifo e = absurd (false≢true e)

pub can_now : (fifo : List ℕ) (b : ℕ) (give : List ℕ) → ltb (length fifo) 12 ≡ true → can_send fifo (b ∷ give) ≡ true
unfolding can_send both
can_now fifo b give e = e

pub tail_bytes : (l : List ℕ) → Bytes l → Bytes (tail l)
tail_bytes [] h = h
tail_bytes (b ∷ l) h = bytes_tail b l h

-- ---- the Data register

-- nothing to move
pub data Quiet : Direction → Fifo → Type 0 where
  unfixed : {q : Fifo} → Quiet Unfixed q
  drained : {q : Fifo} → is_empty q ≡ true → Quiet In q

-- a host that looks, or is at a data byte, does so with INT as well
pub no_code : {w o f : Bool} {l : List Access} {a : ℕ} → Polls false w o l f a → Polls true w o l f a
no_code look = look
no_code (seen (taken e)) = seen (taken e)
no_code (seen (sent e)) = seen (sent e)
no_code (ready (taken e)) = ready (taken e)
no_code (ready (sent e)) = ready (sent e)
