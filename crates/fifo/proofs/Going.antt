-- The loop of a bulk move f (`drained`, `filled`). It began with the slice l and the FIFO q; after i turns they are d and t.
--   Going   f of l and q is what was moved so far, and then f of the slice's rest and t
--   start   no turn was made
--   turn    one turn more, which moved the byte v: it stands at i in the slice
--   Ended   f of l and q leaves d and t, and moved i
--   over    where f moves nothing more, it is ended
--   full    f moves nothing more where the slice has ended
use mathlib.Core.Path.{◌≡◌, refl, sym, ◌∙◌}
use mathlib.Core.List.{List, [], ◌∷◌, ◌++◌}
use Prim.Native.Nat.{ℕ, suc, ◌+◌, ◌<◌, ◌≤◌, zero-le}
use native.Mathlib.Nat.{add-zero, zero-add}
use native.Mathlib.Numerals.{add-one}
use native.Mathlib.Omega.{arith}
use lib.ListN.{length, take, drop, set, length-set, length-append, take-append-drop, drop_of_length-le}
use lib.Seq.{take-suc-set, drop-set-lt, length-take-le, append_snoc}
use Rattle.chip.specs.declared.Fifo.{Fifo}
use Rattle.fifo.specs.Bulk.{Bulk, more, rest}

-- the bytes p moved, and then r
abbrev after : List ℕ → Bulk → Bulk
after p r = record { moved = length p + r.moved; fifo = r.fifo; bytes = p ++ r.bytes }

after_more : (p : List ℕ) (v : ℕ) (r : Bulk) → after (p ++ (v ∷ [])) r ≡ after p (more v r)
after_more p v r =
    let n : length (p ++ (v ∷ [])) + r.moved ≡ length p + suc r.moved = omega (arith, length-append p (v ∷ [])) in
    rw (n, append_snoc p v r.bytes)

pub record Going (f : List ℕ → Fifo → Bulk) (l : List ℕ) (q : Fifo) (d : List ℕ) (t : Fifo) (i : ℕ) : Type 0 where
  pub long : length d ≡ length l
  pub most : i ≤ length l
  pub so_far : f l q ≡ after (take i d) (f (drop i d) t)

abbrev pub Ended : (List ℕ → Fifo → Bulk) → List ℕ → Fifo → List ℕ → Fifo → ℕ → Type 0
Ended f l q d t i = f l q ≡ record { moved = i; fifo = t; bytes = d }

pub start : (f : List ℕ → Fifo → Bulk) (l : List ℕ) (q : Fifo) → Going f l q l q 0
start f l q = record { long = refl; most = zero-le; so_far = simp zero-add }

module _ {f : List ℕ → Fifo → Bulk} {l : List ℕ} {q : Fifo} {d : List ℕ} {t : Fifo} {i : ℕ} (g : Going f l q d t i) where
  pub turn : (u : Fifo) (v : ℕ) → i < length d → f (drop i d) t ≡ more v (f (drop (suc i) d) u)
      → Going f l q (set d i v) u (i + 1)
  turn u v h e =
      record {
        long = length-set d i v ∙ g.long;
        most = omega (arith, g.long);
        so_far =
            g.so_far
            ∙ rw (e, add-one, take-suc-set d i v, drop-set-lt (suc i) d i v (omega arith))
            (sym (after_more (take i d) v (f (drop (suc i) d) u)));
      }

  pub over : f (drop i d) t ≡ rest (drop i d) t → Ended f l q d t i
  over e =
      let n : length (take i d) ≡ i = length-take-le i d (omega (arith, g.long, g.most)) in
      g.so_far ∙ rw (e, n, take-append-drop i d, add-zero)

pub full : (f : List ℕ → Fifo → Bulk) (d : List ℕ) (t : Fifo) (i : ℕ) → f [] t ≡ rest [] t → length d ≤ i
    → f (drop i d) t ≡ rest (drop i d) t
full f d t i e h = rw (drop_of_length-le d {i = i} h) e
