-- The phases of one command's story, which the host that serves phase by phase can serve.
--   segs     Identify, the command, the data if there are any, Status, Command Complete
--   good, told   they fit the host's counts and bytes, and they are the story
--   notes_some   with data, the host notes the count left
use mathlib.Core.Path.{◌≡◌, refl, sym, ◌∙◌, ap, subst}
use mathlib.Core.Bool.{Bool, true, false, true≢false}
use mathlib.Core.List.{List, [], ◌∷◌, ◌++◌, append-nil}
use Prim.Native.Nat.{ℕ, zero, suc, ◌+◌, ◌%◌, ◌*◌, ◌<◌}
use native.Mathlib.Omega.{arith}
use lib.ListN.{length, get_or}
use Rattle.chip.specs.declared.State.{State}
use Rattle.chip.proofs.Sizes.{size_most}
use Rattle.chip.specs.Lines.{identify, bit}
use Rattle.chip.specs.Phases.{is_message_in, same_phase}
use Rattle.chip.specs.declared.Phase.{Phase}
use Rattle.chip.specs.declared.Phase.TheVariants.{CommandOut, StatusIn, MessageOut, MessageIn}
use Rattle.chip.specs.Ok.{Bytes}
use Rattle.story.specs.Story.{Item, item, items, Way, inward, outward, way_phase, Job, identifies, close, story, Proper}
use Rattle.story.specs.Hosts.{Note}
use Rattle.served.proofs.Small.{no_bytes, bytes_tail}
use Rattle.served.proofs.PhaseScenes.{Seg, seg, flat, notes_after, count_notes, Fits, Good, last, more}

-- by the way of the data, the command and the data
abbrev pub segs_of : Job → Way → List ℕ → List ℕ → List Seg
segs_of j w cmd [] = seg MessageOut (identifies j ∷ []) [] ∷ seg CommandOut cmd [] ∷ seg StatusIn (j.status ∷ []) [] ∷ seg MessageIn (0x00 ∷ []) [] ∷ []
segs_of j w cmd (b ∷ dat) =
    seg MessageOut (identifies j ∷ []) [] ∷ seg CommandOut cmd [] ∷ seg (way_phase w) (b ∷ dat) j.beyond ∷ seg StatusIn (j.status ∷ []) []
    ∷ seg MessageIn (0x00 ∷ []) [] ∷ []

abbrev pub segs : Job → List Seg
segs j = segs_of j j.way j.command j.moved

told_of : (j : Job) (w : Way) (cmd dat : List ℕ)
    → flat (segs_of j w cmd dat) ≡ item MessageOut (identifies j) ∷ (items CommandOut cmd ++ (items (way_phase w) dat ++ close j))
told_of j w cmd [] = refl
told_of j w cmd (b ∷ dat) = refl

pub told : (j : Job) → flat (segs j) ≡ story j
told j = told_of j j.way j.command j.moved

notes_of_lem : (j : Job) (w : Way) (cmd : List ℕ) (b : ℕ) (dat : List ℕ) → notes_after (segs_of j w cmd (b ∷ dat)) ≡ count_notes (length j.beyond)
notes_of_lem j inward cmd b dat = refl
notes_of_lem j outward cmd b dat = refl

pub notes_some : (j : Job) → 0 < length j.moved → notes_after (segs j) ≡ count_notes (length j.beyond)
notes_some j h = by_data j.moved h
  where
    by_data : (dat : List ℕ) → 0 < length dat → notes_after (segs_of j j.way j.command dat) ≡ count_notes (length j.beyond)
    by_data [] h = absurd (omega arith)
    by_data (b ∷ dat) h = notes_of_lem j j.way j.command b dat

pub notes_none : (j : Job) → j.moved ≡ [] → notes_after (segs j) ≡ []
notes_none j e = rw e

one_byte : (b : ℕ) → b < 256 → Bytes (b ∷ [])
one_byte b h = by_index
  where
    by_index : (k : ℕ) → get_or (b ∷ []) k 0 < 256
    by_index zero = h
    by_index (suc k) = omega arith

pub bytes_append : (a b : List ℕ) → Bytes a → Bytes b → Bytes (a ++ b)
bytes_append [] b g h = h
bytes_append (x ∷ a) b g h = joined (bytes_append a b (bytes_tail x a g) h)
  where
    joined : Bytes (a ++ b) → (k : ℕ) → get_or (x ∷ (a ++ b)) k 0 < 256
    joined r zero = g 0
    joined r (suc k) = r k

module _ {s₀ : State} (j : Job) (pr : Proper s₀ j) (whole : List Item) (total : List Note) where
  abbrev F : Phase → List ℕ → List ℕ → Type 0
  F p bs x = Fits j whole total p bs x

  identify_byte : identifies j < 256
  unfolding identify
  identify_byte = by_flag j.reselects
    where
      by_flag : (t : Bool) → 0x80 + bit t * 0x40 + j.unit % 8 < 256
      by_flag true = omega arith
      by_flag false = omega arith

  link : {p q : Phase} {b c : ℕ} {bs cs x y : List ℕ} {gs : List Seg}
      → F p (b ∷ bs) x → is_message_in p ≡ false → same_phase q p ≡ false → Good j whole total (seg q (c ∷ cs) y ∷ gs)
      → Good j whole total (seg p (b ∷ bs) x ∷ seg q (c ∷ cs) y ∷ gs)
  link f a d g = more f a d g

  identify_fits : F MessageOut (identifies j ∷ []) []
  identify_fits =
      record { count = refl; small = omega arith; hand = λ e. refl; bytes = one_byte _ identify_byte; sent = one_byte _ identify_byte }

  command_fits : (c : ℕ) (cmd : List ℕ) → j.command ≡ c ∷ cmd → F CommandOut (c ∷ cmd) []
  command_fits c cmd e =
      record {
        count = omega (arith, ap length e);
        small = omega (arith, pr.command_sized, size_most (get_or j.command 0 0));
        hand = λ f. e ∙ sym (append-nil (c ∷ cmd));
        bytes = subst (λ (l : List ℕ). Bytes l) e pr.command_bytes;
        sent = pr.command_bytes;
      }

  status_fits : F StatusIn (j.status ∷ []) []
  status_fits = record { count = refl; small = omega arith; hand = λ e. absurd (true≢false e); bytes = one_byte _ pr.status_byte; sent = no_bytes }

  data_fits : (w : Way) (b : ℕ) (dat : List ℕ) → j.moved ≡ b ∷ dat → F (way_phase w) (b ∷ dat) j.beyond
  data_fits inward b dat e =
      record {
        count = ap (λ (l : List ℕ). length l + length j.beyond) e;
        small = pr.count_fits;
        hand = λ f. absurd (true≢false f);
        bytes = subst (λ (l : List ℕ). Bytes l) e pr.moved_bytes;
        sent = no_bytes;
      }
  data_fits outward b dat e =
      record {
        count = ap (λ (l : List ℕ). length l + length j.beyond) e;
        small = pr.count_fits;
        hand = λ f. ap (λ (l : List ℕ). l ++ j.beyond) e;
        bytes = subst (λ (l : List ℕ). Bytes l) e pr.moved_bytes;
        sent = bytes_append j.moved j.beyond pr.moved_bytes pr.beyond_bytes;
      }

  close_good : Good j whole total (seg StatusIn (j.status ∷ []) [] ∷ seg MessageIn (0x00 ∷ []) [] ∷ [])
  close_good = link status_fits refl refl (last (omega arith))

  good_of : (w : Way) (cmd dat : List ℕ) → j.command ≡ cmd → j.moved ≡ dat → 0 < length cmd → Good j whole total (segs_of j w cmd dat)
  good_of w [] dat e f h = absurd (omega arith)
  good_of w (c ∷ cmd) [] e f h = link identify_fits refl refl (link (command_fits c cmd e) refl refl close_good)
  good_of inward (c ∷ cmd) (b ∷ dat) e f h = link identify_fits refl refl (link (command_fits c cmd e) refl refl (link (data_fits inward b dat f) refl refl close_good))
  good_of outward (c ∷ cmd) (b ∷ dat) e f h = link identify_fits refl refl (link (command_fits c cmd e) refl refl (link (data_fits outward b dat f) refl refl close_good))

  pub good : Good j whole total (segs j)
  good = good_of j.way j.command j.moved refl refl pr.command_some
