-- What the phase by phase host's steps rest on: phases by number, codes that name a phase, what was heard, the accesses before a phase.
--   phase_round, phase_small, same_phase_lem   a phase and its number
--   heard_11, heard_20, heard_85, heard_named   what the host does with a status code
--   heard_out, heard_in, heard_read, heard_at   what the host has read, as the log grows
--   plays_phase   the accesses before a phase lead to that phase's count
use mathlib.Core.Path.{◌≡◌, refl, sym, ◌∙◌, ap, subst}
use mathlib.Core.Bool.{Bool, true, false}
use mathlib.Core.List.{List, [], ◌∷◌, ◌++◌, append_assoc, append-nil}
use Prim.Native.Nat.{ℕ, ◌+◌, ◌*◌, ◌/◌, ◌%◌, ◌<◌}
use native.Mathlib.Omega.{arith}
use native.Mathlib.Nat.{zero-add}
use lib.Dec.{ltb, eqb}
use borrow.Author.Tests.{lt-ltb, eq-eqb}
use Rattle.chip.specs.Choice.{pick}
use Rattle.chip.specs.Lines.{is_on}
use Rattle.chip.specs.Phases.{phase_number, phase_of, comes_in}
use Rattle.chip.specs.Registers.{register_at, high_written, middle_written, low_written, stored_in}
use Rattle.chip.specs.declared.Registers.{Registers}
use Rattle.chip.specs.declared.Phase.{Phase}
use Rattle.chip.specs.declared.Phase.TheVariants.{DataOut, DataIn, CommandOut, StatusIn, UnspecifiedOut, UnspecifiedIn, MessageOut, MessageIn}
use Rattle.story.specs.Story.{Item, item, items, Job}
use Rattle.story.specs.Hosts.{put, Note, Host, planned, count_puts, left_gets, count_for, serving, phases_heard}
use Rattle.served.proofs.Parts.{Plays, over, puts, gets}
use Rattle.served.proofs.Small.{items_snoc}
use Rattle.served.proofs.PhaseScenes.{Seg, seg, ins, notes_of, notes_after, Names, asked, Good, last, more, Heard, Noting, Counted}
use Rattle.served.proofs.PhaseScenes as S

pub phase_round : (p : Phase) → phase_of (phase_number p) ≡ p
unfolding phase_of pick
phase_round DataOut = refl
phase_round DataIn = refl
phase_round CommandOut = refl
phase_round StatusIn = refl
phase_round UnspecifiedOut = refl
phase_round UnspecifiedIn = refl
phase_round MessageOut = refl
phase_round MessageIn = refl

pub phase_small : (p : Phase) → ltb (phase_number p) 8 ≡ true
phase_small DataOut = refl
phase_small DataIn = refl
phase_small CommandOut = refl
phase_small StatusIn = refl
phase_small UnspecifiedOut = refl
phase_small UnspecifiedIn = refl
phase_small MessageOut = refl
phase_small MessageIn = refl

pub same_phase_lem : (p : Phase) → eqb (phase_number p) (phase_number p) ≡ true
same_phase_lem p = eq-eqb (phase_number p) (phase_number p) refl

pub shown_byte : (t : Bool) (b : ℕ) → b < 256 → ltb (pick t b 0) 256 ≡ true
unfolding pick
shown_byte true b h = lt-ltb b 256 h
shown_byte false b h = refl

pub single_info : is_on 7 0x20 ≡ false
unfolding is_on
single_info = refl

-- ---- status codes

module _ (j : Job) where
  pub heard_11 : (h : Host) → phases_heard j 0x11 h ≡ h
  unfolding phases_heard pick
  heard_11 h = refl

  pub heard_20 : (h : Host) → phases_heard j 0x20 h ≡ planned (put 0x18 0x03 ∷ []) h
  unfolding phases_heard pick
  heard_20 h = refl

  pub heard_85 : (h : Host) → phases_heard j 0x85 h ≡ h
  unfolding phases_heard pick
  heard_85 h = refl

  asked_is : (p : Phase) (h : Host) → phases_heard j (0x88 + phase_number p) h ≡ serving j p h
  unfolding phases_heard phase_of pick
  asked_is DataOut h = refl
  asked_is DataIn h = refl
  asked_is CommandOut h = refl
  asked_is StatusIn h = refl
  asked_is UnspecifiedOut h = refl
  asked_is UnspecifiedIn h = refl
  asked_is MessageOut h = refl
  asked_is MessageIn h = refl

  over_is : (t : Bool) (p : Phase) (h : Host) → phases_heard j (pick t 0x18 0x48 + phase_number p) h ≡ serving j p h
  unfolding phases_heard phase_of pick
  over_is true DataOut h = refl
  over_is true DataIn h = refl
  over_is true CommandOut h = refl
  over_is true StatusIn h = refl
  over_is true UnspecifiedOut h = refl
  over_is true UnspecifiedIn h = refl
  over_is true MessageOut h = refl
  over_is true MessageIn h = refl
  over_is false DataOut h = refl
  over_is false DataIn h = refl
  over_is false CommandOut h = refl
  over_is false StatusIn h = refl
  over_is false UnspecifiedOut h = refl
  over_is false UnspecifiedIn h = refl
  over_is false MessageOut h = refl
  over_is false MessageIn h = refl

  pub heard_named : (c : ℕ) (p : Phase) → Names c p → (h : Host) → phases_heard j c h ≡ serving j p h
  heard_named c p asked h = asked_is p h
  heard_named c p (S.over t) h = over_is t p h

-- ---- the count as three registers

pub written_count : (n old : ℕ) → n < 16777216 → low_written (n % 256) (middle_written (n / 256 % 256) (high_written (n / 65536) old)) ≡ n
unfolding low_written middle_written high_written
written_count n old h =
    let a : n / 65536 * 65536 + old % 65536 ≡ n / 65536 * 65536 + old % 65536 = refl in
    let b : (n / 65536 * 65536 + old % 65536) / 65536 ≡ n / 65536 = omega arith in
    let c : (n / 65536 * 65536 + n / 256 % 256 * 256 + (n / 65536 * 65536 + old % 65536) % 256) / 256 ≡ n / 65536 * 256 + n / 256 % 256 = omega arith in
    rw (b, c) (omega arith)

pub high_byte : (n : ℕ) → n < 16777216 → n / 65536 < 256
high_byte n h = omega arith

pub low_byte : (n : ℕ) → n % 256 < 256
low_byte n = omega arith

-- ---- what was heard

pub ins_append : (a b : List Item) → ins (a ++ b) ≡ ins a ++ ins b
unfolding pick
ins_append [] b = refl
ins_append (item p x ∷ a) b = go (comes_in p) (ins_append a b)
  where
    go : (t : Bool) → ins (a ++ b) ≡ ins a ++ ins b → pick t (item p x ∷ ins (a ++ b)) (ins (a ++ b)) ≡ pick t (item p x ∷ ins a) (ins a) ++ ins b
    go true e = ap (λ (l : List Item). item p x ∷ l) e
    go false e = e

module _ {j : Job} {whole : List Item} {total : List Note} where
  pub heard_out : {log got : List Item} {q : Phase} {f : List ℕ} (p : Phase) (x : ℕ) → comes_in p ≡ false → Heard j whole total log got q f
      → Heard j whole total (log ++ (item p x ∷ [])) got q f
  unfolding pick
  heard_out {log = log} p x e h = record { same = h.same ∙ sym (ins_append log (item p x ∷ []) ∙ (rw e (append-nil (ins log)))) }

  pub heard_in : {log got : List Item} (p : Phase) (x : ℕ) (f : List ℕ) → comes_in p ≡ true → Heard j whole total log got p f
      → Heard j whole total (log ++ (item p x ∷ [])) got p (f ++ (x ∷ []))
  unfolding pick
  heard_in {log = log} {got = got} p x f e h =
      record {
        same = rw (items_snoc p f x, ins_append log (item p x ∷ []), e, ← h.same) (sym (append_assoc got (items p f) (item p x ∷ [])));
      }

  pub heard_read : {log got : List Item} {p : Phase} {x : ℕ} {f : List ℕ} → Heard j whole total log got p (x ∷ f)
      → Heard j whole total log (got ++ (item p x ∷ [])) p f
  heard_read {got = got} {p = p} {x = x} {f = f} h = record { same = append_assoc got (item p x ∷ []) (items p f) ∙ h.same }

  pub heard_at : {log got : List Item} {p q : Phase} → Heard j whole total log got p [] → Heard j whole total log got q []
  heard_at h = record { same = h.same }

  pub good_byte : {p : Phase} {b : ℕ} {bs x : List ℕ} {g : List Seg} → Good j whole total (seg p (b ∷ bs) x ∷ g) → b < 256
  good_byte (last h) = h
  good_byte (more f a d g) = f.bytes 0

  pub noting_on : {n : List Note} (g : List Seg) (p : Phase) (x : ℕ) → Noting j whole total n (notes_of p x ++ notes_after g)
      → Noting j whole total n (notes_of p (0 + x) ++ notes_after g)
  noting_on {n = n} g p x h = subst (λ (y : ℕ). Noting j whole total n (notes_of p y ++ notes_after g)) (sym (zero-add x)) h

  -- ---- before a phase: the count left is read after data, then the phase's count is loaded

  count_plays : {rest : List Note} (p : Phase) (r : Registers) (n : List Note) → count_for j p < 16777216 → Noting j whole total n rest
      → Plays (put 0x18 0x20 ∷ []) (Counted j whole total p rest) (count_puts (count_for j p) ++ (put 0x18 0x20 ∷ [])) r n
  unfolding stored_in pick
  count_plays p r n h t =
      puts {a = 0x12} (omega arith) (high_byte (count_for j p) h)
      (puts {a = 0x13} (omega arith) (low_byte (count_for j p / 256))
      (puts {a = 0x14} (omega arith) (low_byte (count_for j p)) (over (record { count = written_count (count_for j p) _ h; noting = t }))))

  three_noted : (n : List Note) (a b c : Note) (g : List Note) → Noting j whole total n ((a ∷ b ∷ c ∷ []) ++ g)
      → Noting j whole total (((n ++ (a ∷ [])) ++ (b ∷ [])) ++ (c ∷ [])) g
  three_noted n a b c g t =
      record {
        all =
            append_assoc ((n ++ (a ∷ [])) ++ (b ∷ [])) (c ∷ []) g
            ∙ (append_assoc (n ++ (a ∷ [])) (b ∷ []) (c ∷ g) ∙ (append_assoc n (a ∷ []) (b ∷ c ∷ g) ∙ t.all));
      }

  pub plays_phase : (g : List Note) (cr p : Phase) (r : Registers) (n : List Note) → count_for j p < 16777216 → Noting j whole total n (notes_of cr r.count ++ g)
      → Plays (put 0x18 0x20 ∷ []) (Counted j whole total p g) (left_gets j cr ++ (count_puts (count_for j p) ++ (put 0x18 0x20 ∷ []))) r n
  unfolding register_at pick
  plays_phase g DataOut p r n h t =
      gets {a = 0x12} (omega arith)
      (gets {a = 0x13} (omega arith)
      (gets {a = 0x14} (omega arith) (count_plays p r _ h (three_noted n _ _ _ g t))))
  plays_phase g DataIn p r n h t =
      gets {a = 0x12} (omega arith)
      (gets {a = 0x13} (omega arith)
      (gets {a = 0x14} (omega arith) (count_plays p r _ h (three_noted n _ _ _ g t))))
  plays_phase g CommandOut p r n h t = count_plays p r n h t
  plays_phase g StatusIn p r n h t = count_plays p r n h t
  plays_phase g UnspecifiedOut p r n h t = count_plays p r n h t
  plays_phase g UnspecifiedIn p r n h t = count_plays p r n h t
  plays_phase g MessageOut p r n h t = count_plays p r n h t
  plays_phase g MessageIn p r n h t = count_plays p r n h t
