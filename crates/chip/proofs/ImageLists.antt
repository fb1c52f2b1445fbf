-- Facts on lists and numbers alone, for the proofs of the image.
-- `stored`: a turn of a loop that copies into the middle of a list. `fetched`: one that copies out of it, and `fetched_all` its end.
-- `joined`: three bytes joined by shifts are their sum.
-- `three`, `three_over`: three runs laid one after the other into a list, which then begins with their join; what stood behind stays.
-- `spelled`, `spelled_is`: a part of a list, element by element. `seam`: a part and what follows it.
use mathlib.Core.Path.{◌≡◌, refl, ap, sym, ◌∙◌}
use mathlib.Core.List.{List, [], ◌∷◌, ◌++◌, append-nil, append_assoc}
use Prim.Native.Nat.{ℕ, zero, suc, ◌+◌, ◌*◌, ◌%◌, ◌≤◌, ◌<◌}
use native.Mathlib.Nat.{zero-add, mod-eq_of_lt}
use native.Mathlib.Numerals.{add-one}
use native.Mathlib.Omega.{arith}
use lib.Bits.{bit_or, or_shifted}
use lib.ListN.{length, get_or, set, take, drop, length-append, length-drop, drop_of_length-le, take-append-drop}
use lib.Seq.{paste, paste-suc, get_or-drop, sets, sets-eq, take_at, take-length, drop_at, drop-append-add, drop-cons, drop-drop, length-take-le}

pub stored : (d d₀ s : List ℕ) (at j : ℕ) → d ≡ paste d₀ at s j → at + j < length d₀ → j < length s
    → set d (at + j) (get_or s j 0) ≡ paste d₀ at s (j + 1)
stored d d₀ s at j e h k = rw (e, add-one) (paste-suc d₀ at s j 0 h k)

pub fetched : (d d₀ s : List ℕ) (at j : ℕ) → d ≡ paste d₀ 0 (drop at s) j → j < length d₀ → at + j < length s
    → set d j (get_or s (at + j) 0) ≡ paste d₀ 0 (drop at s) (j + 1)
fetched d d₀ s at j e h k =
    let h' : 0 + j < length d₀ = omega arith in
    let k' : j < length (drop at s) = simp length-drop (omega arith) in
    let p : set d (0 + j) (get_or (drop at s) j 0) ≡ paste d₀ 0 (drop at s) (j + 1) = stored d d₀ (drop at s) 0 j e h' k' in
    simp zero-add (simp (zero-add, get_or-drop) at p)

pub fetched_all : (d₀ s : List ℕ) (at : ℕ) → paste d₀ 0 (drop at s) (length d₀) ≡ take (length d₀) (drop at s)
fetched_all d₀ s at =
    let z : drop (0 + length d₀) d₀ ≡ [] = drop_of_length-le d₀ {i = 0 + length d₀} (omega arith) in
    ap (λ (r : List ℕ). take (length d₀) (drop at s) ++ r) z ∙ append-nil (take (length d₀) (drop at s))

pub joined : (a b c : ℕ) → a < 256 → b < 256 → c < 256
    → bit_or (bit_or (a * 65536 % 4294967296) (b * 256 % 4294967296)) c ≡ a * 65536 + b * 256 + c
joined a b c ha hb hc =
    let p : a * 65536 % 4294967296 ≡ a * 65536 = mod-eq_of_lt (omega arith) in
    let q : b * 256 % 4294967296 ≡ b * 256 = mod-eq_of_lt (omega arith) in
    let r : bit_or (a * 65536) (b * 256) ≡ a * 65536 + b * 256 = or_shifted a 16 (b * 256) (omega arith) in
    let s : a * 65536 + b * 256 ≡ (a * 256 + b) * 256 = omega arith in
    let t : bit_or ((a * 256 + b) * 256) c ≡ (a * 256 + b) * 256 + c = or_shifted (a * 256 + b) 8 c hc in
    ap (λ (x : ℕ). bit_or (bit_or x (b * 256 % 4294967296)) c) p
    ∙ ap (λ (x : ℕ). bit_or (bit_or (a * 65536) x) c) q
    ∙ ap (λ (x : ℕ). bit_or x c) (r ∙ s)
    ∙ t
    ∙ ap (λ (x : ℕ). x + c) (sym s)

-- a run that is stored, or copied, into d after p: what was there before p's end stays
laid : (d p q s : List ℕ) (n : ℕ) → d ≡ p ++ q → length p ≡ n
    → take n d ++ s ++ drop (n + length s) d ≡ p ++ s ++ drop (n + length s) d
laid d p q s n e h = ap (λ (r : List ℕ). r ++ s ++ drop (n + length s) d) (ap (take n) e ∙ take_at p q n h)

pub three : (l w x y a b c : List ℕ) (i j k : ℕ)
    → w ≡ sets l 0 a → x ≡ paste w i b (length b) → y ≡ sets x j c
    → length a ≡ i → i + length b ≡ j → j + length c ≡ k
    → k ≤ length l → k ≤ length x
    → take k y ≡ a ++ (b ++ c)
three l w x y a b c i j k ew ex ey ha hb hc hl hx =
    let pw : w ≡ a ++ drop (0 + length a) l = ew ∙ sets-eq a l 0 (omega arith) in
    let px : x ≡ a ++ b ++ drop (i + length b) w = ex ∙ rw take-length (laid w a (drop (0 + length a) l) b i pw ha) in
    let hab : length (a ++ b) ≡ j = simp length-append (omega arith) in
    let py : y ≡ a ++ b ++ c ++ drop (j + length c) x =
    ey ∙ sets-eq c x j (omega arith) ∙ laid x (a ++ b) (drop (i + length b) w) c j px hab in
    let habc : length (a ++ b ++ c) ≡ k = simp length-append (omega arith) in
    ap (take k) py ∙ take_at (a ++ b ++ c) (drop (j + length c) x) k habc ∙ append_assoc a b c

-- what stood behind the three stays
pub three_over : (l w x y a b c : List ℕ) (i j k : ℕ)
    → w ≡ sets l 0 a → x ≡ paste w i b (length b) → y ≡ sets x j c
    → length a ≡ i → i + length b ≡ j → j + length c ≡ k
    → k ≤ length l → k ≤ length x
    → y ≡ (a ++ (b ++ c)) ++ drop k l
three_over l w x y a b c i j k ew ex ey ha hb hc hl hx =
    let pw : w ≡ a ++ drop (0 + length a) l = ew ∙ sets-eq a l 0 (omega arith) in
    let px : x ≡ a ++ b ++ drop (i + length b) w = ex ∙ rw take-length (laid w a (drop (0 + length a) l) b i pw ha) in
    let hab : length (a ++ b) ≡ j = simp length-append (omega arith) in
    let kx : k ≡ length (a ++ b) + length c = omega arith in
    let kw : i + length b + length c ≡ length a + (length b + length c) = omega arith in
    let kl : 0 + length a + (length b + length c) ≡ k = omega arith in
    let behind-x : drop k x ≡ drop (i + length b + length c) w =
    ap (drop k) px ∙ ap (λ (n : ℕ). drop n (a ++ b ++ drop (i + length b) w)) kx
    ∙ drop-append-add (a ++ b) (drop (i + length b) w) (length c) ∙ drop-drop (length c) (i + length b) w in
    let behind-w : drop (i + length b + length c) w ≡ drop k l =
    ap (drop (i + length b + length c)) pw ∙ ap (λ (n : ℕ). drop n (a ++ drop (0 + length a) l)) kw
    ∙ drop-append-add a (drop (0 + length a) l) (length b + length c) ∙ drop-drop (length b + length c) (0 + length a) l
    ∙ ap (λ (n : ℕ). drop n l) kl in
    let py : y ≡ take j x ++ c ++ drop (j + length c) x = ey ∙ sets-eq c x j (omega arith) in
    let behind : drop k y ≡ drop k x =
    ap (drop k) py ∙ rw (drop_at (take j x ++ c) (drop (j + length c) x) k (rw (length-append, length-take-le j x (omega arith)) hc), hc) in
    sym (take-append-drop k y) ∙ ap (λ (r : List ℕ). r ++ drop k y) (three l w x y a b c i j k ew ex ey ha hb hc hl hx)
    ∙ ap (λ (r : List ℕ). (a ++ (b ++ c)) ++ r) (behind ∙ behind-x ∙ behind-w)

-- the n elements from i on, one by one
abbrev pub spelled : ℕ → ℕ → List ℕ → List ℕ
spelled zero i l = []
spelled (suc n) i l = get_or l i 0 ∷ spelled n (suc i) l

pub spelled_is : (n i : ℕ) (l : List ℕ) → i + n ≤ length l → spelled n i l ≡ take n (drop i l)
spelled_is zero i l h = refl
spelled_is (suc n) i l h =
    ap (λ (r : List ℕ). get_or l i 0 ∷ r) (spelled_is n (suc i) l (omega arith))
    ∙ sym (ap (take (suc n)) (drop-cons l i 0 (omega arith)))

pub seam : (n i : ℕ) (l : List ℕ) → take n (drop i l) ++ drop (i + n) l ≡ drop i l
seam n i l = rw (← drop-drop n i l) (take-append-drop n (drop i l))
