-- The FIFO keeps its bytes: every fact about how, for the rooms that may not look.
--   keeps_bytes     the law: front, pop, push and the tests are those of the list of waiting bytes
--   empty_waits pop_waits pop_one pop_less push_waits    how many wait, of any FIFO
--   waits_some some_waits none_waits waits-none push_some   whether any waits
--   waits_below room_below   at most 12 wait, fewer where there is room
--   fifo_length_lem fifo_back fifo_valid bytes_back fifo_ok   its bytes in the image
--   goes_over   what is stored of it after a step that touches one place at most
use mathlib.Core.Path.{◌≡◌, refl, ap, sym, ◌∙◌}
use mathlib.Core.Bool.{true, false}
use mathlib.Core.List.{List, [], ◌∷◌, ◌++◌, append_assoc, append-nil}
use Prim.Native.Nat.{ℕ, suc, ◌+◌, ◌-◌, ◌<◌, ◌≤◌}
use native.Mathlib.Nat.{zero-add, suc-add, add-zero}
use native.Mathlib.Numerals.{add-one}
use native.Mathlib.Omega.{arith}
use lib.Dec.{eqb, ltb}
use lib.ListN.{length, take, drop, get_or, set, length-append, length-drop, length-set, drop_of_length-le, get_or-append}
use lib.Seq.{drop-cons, drop-set-lt, drop-set-add, get_or-drop, get_or-take, length-take-le, take_all, take-append-le, take-nil, take-set-le, take-set-lt, take-suc, take-suc-set, set-append_left, set-get_or, get_or-set_same}
use borrow.Author.Tests.{ltb-true, ltb-false, lt-ltb, le-ltb, eqb-false, eqb-true, ne_eqb}
use Rattle.chip.specs.Choice.{pick, both}
use Rattle.chip.specs.Queue as Queue
use Rattle.chip.specs.Fifo.{in_order, waiting, round, place_behind, empty, emptied, is_empty, has_room, waits, front, pop, push, fifo_bytes, fifo_of, ends_over, is_fifo, Whole, Goes, stays, loses, gets, drops, gets_and_drops, KeepsBytes}
use Rattle.chip.specs.declared.Fifo.{Fifo}
use Rattle.chip.proofs.Cases.{by_pick, by_case, by_test, both_first, both_second, taken, passed_over}

-- how many wait

pub empty_waits : (q : Fifo) (m : ℕ) → is_empty q ≡ true → waits q ≤ m
unfolding is_empty waits
empty_waits q m e = omega (arith, eqb-true q.held 0 e)

pub pop_waits : (q : Fifo) (m : ℕ) → waits q ≤ m → waits (pop q) ≤ m
unfolding pop waits
pop_waits q m h = by_pick (λ (x : Fifo). x.held ≤ m) _ h (omega arith)

pub pop_one : (q : Fifo) → waits (pop q) ≤ waits q - 1
unfolding pop is_empty waits
pop_one q = by_case (λ (x : Fifo). x.held ≤ q.held - 1) _ (λ e. omega (arith, eqb-true q.held 0 e)) (λ e. omega arith)

pub pop_less : (q : Fifo) → is_empty q ≡ false → waits (pop q) ≡ waits q - 1
unfolding pop waits
pop_less q e = ap (λ (x : Fifo). x.held) (passed_over _ _ e)

pub push_waits : (b : ℕ) (q : Fifo) → waits (push b q) ≤ waits q + 1
unfolding push waits
push_waits b q = by_pick (λ (x : Fifo). x.held ≤ q.held + 1) _ (omega arith) (omega arith)

pub some_waits : (q : Fifo) → is_empty q ≡ false → 0 < waits q
unfolding is_empty waits
some_waits q e = omega (arith, eqb-false q.held 0 e)

pub none_waits : (q : Fifo) → is_empty q ≡ true → waits q ≡ 0
unfolding is_empty waits
none_waits q e = eqb-true q.held 0 e

pub waits_some : (q : Fifo) → 0 < waits q → is_empty q ≡ false
unfolding is_empty waits
waits_some q w = ne_eqb q.held 0 (λ e. omega arith)

pub push_some : (b : ℕ) (q : Fifo) → has_room q ≡ true → is_empty (push b q) ≡ false
unfolding push pick is_empty
push_some b q r = rw r (ne_eqb (q.held + 1) 0 (λ e. omega arith))

pub waits_below : {q : Fifo} → Whole q → waits q < 13
unfolding waits
waits_below u = u.few

pub room_below : (q : Fifo) → has_room q ≡ true → waits q < 12
unfolding has_room waits
room_below q e = ltb-true q.held 12 e

-- the places go round

pub round_in : (n : ℕ) → n < 12 → round n ≡ n
unfolding round
round_in n h = taken _ _ (lt-ltb n 12 h)

pub round_over : (n : ℕ) → 12 ≤ n → n < 24 → round n ≡ n - 12
unfolding round
round_over n h k = passed_over _ _ (le-ltb n 12 h) ∙ taken _ _ (lt-ltb n 24 k)

pub round_below : (n : ℕ) → round n < 12
unfolding round
round_below n =
    by_case (λ (x : ℕ). x < 12) _ (λ e. ltb-true n 12 e)
    (λ e. by_case (λ (x : ℕ). x < 12) _ (λ f. omega (arith, ltb-true n 24 f)) (λ f. omega arith))

pub behind_below : (q : Fifo) → place_behind q < 12
unfolding place_behind
behind_below q = round_below (q.first + q.held)

-- a store behind the seam
set_behind : (x y : List ℕ) (i b : ℕ) → set (x ++ y) (length x + i) b ≡ x ++ set y i b
set_behind [] y i b = ap (λ (k : ℕ). set y k b) (zero-add i)
set_behind (a ∷ x) y i b =
    ap (λ (k : ℕ). set (a ∷ (x ++ y)) k b) (suc-add (length x) i) ∙ ap (λ (r : List ℕ). a ∷ r) (set_behind x y i b)

-- the first of some, taken away
one_less : (n : ℕ) (l : List ℕ) → drop 1 (take (suc n) l) ≡ take n (drop 1 l)
one_less n [] = sym (take-nil n)
one_less n (x ∷ l) = refl

module _ (q : Fifo) (u : Whole q) where
  after_length : length (drop q.first q.bytes) ≡ 12 - q.first
  after_length = rw (length-drop, u.long)

  before_length : length (take q.first q.bytes) ≡ q.first
  before_length = length-take-le q.first q.bytes (omega (arith, u.long, u.place))

  order_length : length (in_order q) ≡ 12
  order_length = rw (length-append, after_length, before_length) (omega (arith, u.place))

  -- the byte in the oldest one's place
  abbrev oldest : ℕ
  oldest = get_or q.bytes q.first 0

  order_cons : drop q.first q.bytes ≡ oldest ∷ drop (suc q.first) q.bytes
  order_cons = drop-cons q.bytes q.first 0 (omega (arith, u.long, u.place))

  -- with the next place as the first one, the places are in order with the first of them moved to the end
  order_next : in_order (record { bytes = q.bytes; first = round (q.first + 1); held = q.held - 1 }) ≡ drop 1 (in_order q) ++ (oldest ∷ [])
  order_next =
      by_test (ltb (q.first + 1) 12)
      (λ e.
      let n : round (q.first + 1) ≡ q.first + 1 = round_in (q.first + 1) (ltb-true (q.first + 1) 12 e) in
      let more : take (suc q.first) q.bytes ≡ take q.first q.bytes ++ (oldest ∷ []) =
      take-suc q.bytes q.first 0 (omega (arith, u.long, u.place)) in
      rw (n, add-one, more, order_cons) (sym (append_assoc (drop (suc q.first) q.bytes) (take q.first q.bytes) (oldest ∷ []))))
      (λ e.
      let f : q.first ≡ 11 = omega (arith, u.place, ltb-false (q.first + 1) 12 e) in
      let n : round (q.first + 1) ≡ 0 = round_over (q.first + 1) (omega arith) (omega arith) ∙ omega arith in
      let none : drop (suc q.first) q.bytes ≡ [] = drop_of_length-le q.bytes {i = suc q.first} (omega (arith, u.long)) in
      let all : take (suc q.first) q.bytes ≡ q.bytes = take_all (suc q.first) q.bytes (omega (arith, u.long)) in
      rw (n, order_cons, none)
      (append-nil q.bytes ∙ sym all ∙ take-suc q.bytes q.first 0 (omega (arith, u.long, u.place))))

  -- a byte stored behind those that wait
  order_stored : (b : ℕ) → q.held < 12
      → in_order (record { bytes = set q.bytes (place_behind q) b; first = q.first; held = q.held + 1 }) ≡ set (in_order q) q.held b
  unfolding place_behind
  order_stored b h =
      by_test (ltb (q.first + q.held) 12)
      (λ e.
      let k : q.first + q.held < 12 = ltb-true (q.first + q.held) 12 e in
      let n : round (q.first + q.held) ≡ q.first + q.held = round_in (q.first + q.held) k in
      rw (n, drop-set-add q.first q.bytes q.held b, take-set-le q.first q.bytes (q.first + q.held) b (omega arith))
      (sym (set-append_left (drop q.first q.bytes) (take q.first q.bytes) q.held b (omega (arith, after_length)))))
      (λ e.
      let k : 12 ≤ q.first + q.held = ltb-false (q.first + q.held) 12 e in
      let n : round (q.first + q.held) ≡ q.first + q.held - 12 = round_over (q.first + q.held) k (omega (arith, u.place)) in
      let m : length (drop q.first q.bytes) + (q.first + q.held - 12) ≡ q.held = omega (arith, after_length, u.place) in
      rw (
        n,
        drop-set-lt q.first q.bytes (q.first + q.held - 12) b (omega (arith, u.place)),
        take-set-lt q.first q.bytes (q.first + q.held - 12) b (omega (arith, u.place)),
      )
      (sym (set_behind (drop q.first q.bytes) (take q.first q.bytes) (q.first + q.held - 12) b)
      ∙ ap (λ (i : ℕ). set (in_order q) i b) m))

  -- it stays whole

  popped_whole : Whole (pop q)
  unfolding pop is_empty
  popped_whole =
      by_case Whole _ (λ e. u) (λ e. record { long = u.long; place = round_below _; few = omega (arith, u.few) })

  pushed_whole : (b : ℕ) → Whole (push b q)
  unfolding push has_room
  pushed_whole b =
      by_case Whole _
      (λ e. record { long = rw length-set u.long; place = u.place; few = omega (arith, ltb-true q.held 12 e) })
      (λ e. u)

  -- as the list sees it

  held_is : q.held ≡ length (waiting q)
  unfolding waiting
  held_is = sym (length-take-le q.held (in_order q) (omega (arith, order_length, u.few)))

  number_is : waits q ≡ Queue.waits (waiting q)
  unfolding waits
  number_is = held_is

  empty_is : is_empty q ≡ Queue.is_empty (waiting q)
  unfolding is_empty
  empty_is = ap (λ (n : ℕ). eqb n 0) held_is

  room_is : has_room q ≡ Queue.has_room (waiting q)
  unfolding has_room
  room_is = ap (λ (n : ℕ). ltb n 12) held_is

  oldest_is : front q ≡ Queue.front (waiting q)
  unfolding front is_empty waiting
  oldest_is =
      by_test (eqb q.held 0)
      (λ e. taken _ _ e ∙ ap (λ (n : ℕ). get_or (take n (in_order q)) 0 0) (sym (eqb-true q.held 0 e)))
      (λ e.
      let some = eqb-false q.held 0 e in
      passed_over _ _ e ∙ sym
      (get_or-take q.held (in_order q) 0 0 (omega arith) ∙ get_or-append (drop q.first q.bytes) (take q.first q.bytes) 0 0 (omega (arith, after_length, u.place))
      ∙ get_or-drop q.first q.bytes 0 0 ∙ ap (λ (i : ℕ). get_or q.bytes i 0) (add-zero q.first)))

  less_is : waiting (pop q) ≡ Queue.pop (waiting q)
  unfolding pop is_empty
  less_is = by_test (eqb q.held 0) (λ e. ap waiting (taken _ _ e) ∙ none e) (λ e. ap waiting (passed_over _ _ e) ∙ shorter e)
    where
      none : eqb q.held 0 ≡ true → waiting q ≡ drop 1 (waiting q)
      none e =
          unfold waiting in
          let z = eqb-true q.held 0 e in
          rw z

      shorter : eqb q.held 0 ≡ false
          → waiting (record { bytes = q.bytes; first = round (q.first + 1); held = q.held - 1 }) ≡ drop 1 (waiting q)
      shorter e =
          unfold waiting in
          let some = eqb-false q.held 0 e in
          let n : q.held ≡ suc (q.held - 1) = omega arith in
          ap (take (q.held - 1)) order_next
          ∙ take-append-le (q.held - 1) (drop 1 (in_order q)) (oldest ∷ []) (rw length-drop (omega (arith, order_length, u.few)))
          ∙ sym (one_less (q.held - 1) (in_order q)) ∙ ap (λ (k : ℕ). drop 1 (take k (in_order q))) (sym n)

  more_is : (b : ℕ) → waiting (push b q) ≡ Queue.push b (waiting q)
  unfolding push
  more_is b =
      by_test (has_room q)
      (λ e. ap waiting (taken _ _ e) ∙ longer e ∙ sym (taken _ _ (sym room_is ∙ e)))
      (λ e. ap waiting (passed_over _ _ e) ∙ sym (passed_over _ _ (sym room_is ∙ e)))
    where
      longer : has_room q ≡ true
          → waiting (record { bytes = set q.bytes (place_behind q) b; first = q.first; held = q.held + 1 }) ≡ waiting q ++ (b ∷ [])
      longer e =
          unfold waiting has_room in
          let h : q.held < 12 = ltb-true q.held 12 e in
          ap (take (q.held + 1)) (order_stored b h) ∙ ap (λ (k : ℕ). take k (set (in_order q) q.held b)) (add-one q.held)
          ∙ take-suc-set (in_order q) q.held b (omega (arith, order_length))

  nothing_less_is : is_empty q ≡ true → pop q ≡ q
  unfolding pop
  nothing_less_is e = taken _ _ e

  nothing_more_is : (b : ℕ) → has_room q ≡ false → push b q ≡ q
  unfolding push
  nothing_more_is b e = passed_over _ _ e

none_whole : Whole empty
none_whole = record { long = refl; place = omega arith; few = omega arith }

pub keeps_bytes : KeepsBytes
keeps_bytes =
    record {
      none = unfold waiting in refl;
      dropped = λ q u. unfold waiting in refl;
      number = number_is;
      emptiness = empty_is;
      room = room_is;
      oldest = oldest_is;
      less = less_is;
      more = λ q b u. more_is q u b;
      nothing_less = nothing_less_is;
      nothing_more = λ q b u. nothing_more_is q u b;
      begins_whole = none_whole;
      dropped_whole = λ q u. record { long = u.long; place = omega arith; few = omega arith };
      pop_whole = popped_whole;
      push_whole = λ q b u. pushed_whole q u b;
    }

-- in the image

pub fifo_length_lem : (q : Fifo) → Whole q → length (fifo_bytes q) ≡ 14
unfolding fifo_bytes
fifo_length_lem q u = omega (arith, u.long)

pub fifo_back : (q : Fifo) → Whole q → fifo_of (fifo_bytes q) ≡ q
unfolding fifo_of fifo_bytes
fifo_back q u =
    ap (λ (x : List ℕ). record { bytes = x; first = q.first; held = q.held }) (take_all 12 q.bytes (omega (arith, u.long)))

pub fifo_valid : (q : Fifo) → Whole q → is_fifo (fifo_bytes q) ≡ true
unfolding is_fifo fifo_bytes both
fifo_valid q u = rw (lt-ltb q.held 13 u.few) (lt-ltb q.first 12 u.place)

module _ (l : List ℕ) (n : length l ≡ 14) where
  pub bytes_back : fifo_bytes (fifo_of l) ≡ l
  unfolding fifo_bytes fifo_of
  bytes_back =
      ap (λ (x : List ℕ). get_or l 0 0 ∷ get_or l 1 0 ∷ x) (take_all 12 (drop 2 l) (rw length-drop (omega arith)))
      ∙ ap (λ (x : List ℕ). get_or l 0 0 ∷ x) (sym (drop-cons l 1 0 (omega arith))) ∙ sym (drop-cons l 0 0 (omega arith))

  pub fifo_ok : is_fifo l ≡ true → Whole (fifo_of l)
  unfolding is_fifo fifo_of
  fifo_ok e =
      record {
        long = length-take-le 12 (drop 2 l) (rw length-drop (omega arith));
        place = ltb-true _ 12 (both_second (ltb (get_or l 0 0) 13) _ e);
        few = ltb-true _ 13 (both_first _ _ e);
      }

-- stored over the bytes of another

all_places : (p : Fifo) → Whole p → take 12 p.bytes ≡ p.bytes
all_places p u = take_all 12 p.bytes (omega (arith, u.long))

module _ (p : Fifo) (u : Whole p) where
  -- as it was but for that one place
  over_one : (q : Fifo) (x : ℕ) → q.bytes ≡ set p.bytes (place_behind p) x → ends_over q (fifo_bytes p) ≡ fifo_bytes q
  unfolding ends_over fifo_bytes
  over_one q x e =
      let at = place_behind (fifo_of (fifo_bytes p)) in
      let same : fifo_of (fifo_bytes p) ≡ p = fifo_back p u in
      let in_reach : place_behind p < length p.bytes = omega (arith, behind_below p, u.long) in
      ap (λ (l : List ℕ). q.held ∷ q.first ∷ l)
      (ap (λ (f : Fifo). set (take 12 p.bytes) (place_behind f) (get_or q.bytes (place_behind f) 0)) same
      ∙ rw (all_places p u, e, get_or-set_same p.bytes (place_behind p) x 0 in_reach))

  over_kept : (q : Fifo) → q.bytes ≡ p.bytes → ends_over q (fifo_bytes p) ≡ fifo_bytes q
  over_kept q e = over_one q (get_or p.bytes (place_behind p) 0) (e ∙ sym (set-get_or p.bytes (place_behind p) 0))

  popped_places : (pop p).bytes ≡ p.bytes
  unfolding pop
  popped_places = by_pick (λ (x : Fifo). x.bytes ≡ p.bytes) _ refl refl

  -- a byte more, in places that are those of q
  over_pushed : (b : ℕ) (q : Fifo) → q.bytes ≡ (push b p).bytes → ends_over q (fifo_bytes p) ≡ fifo_bytes q
  unfolding push
  over_pushed b q e =
      by_test (has_room p)
      (λ h. over_one q b (e ∙ ap (λ (x : Fifo). x.bytes) (taken _ _ h)))
      (λ h. over_kept q (e ∙ ap (λ (x : Fifo). x.bytes) (passed_over _ _ h)))

pub goes_over : (p q : Fifo) → Whole p → Goes p q → ends_over q (fifo_bytes p) ≡ fifo_bytes q
goes_over p _ u stays = over_kept p u p refl
goes_over p _ u loses = over_kept p u (pop p) (popped_places p u)
goes_over p _ u (gets b) = over_pushed p u b (push b p) refl
goes_over p _ u drops = over_kept p u (emptied p) refl
goes_over p _ u (gets_and_drops b) = over_pushed p u b (emptied (push b p)) refl
