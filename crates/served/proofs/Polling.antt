-- A host that is about to make the access of an earlier look is brought on like one that is about to look: what is due is asked of the
-- current state.
--   any_poll   whatever came of an earlier look
use mathlib.Core.Bool.{Bool, true, false}
use mathlib.Core.List.{List, [], ◌∷◌}
use Prim.Native.Nat.{ℕ}
use Rattle.chip.specs.Calls.{step}
use Rattle.chip.specs.declared.State.{State}
use Rattle.chip.specs.declared.Phase.{Phase}
use Rattle.story.specs.Story.{Item, item}
use Rattle.story.specs.Hosts.{Access, Note, Program}
use Rattle.story.specs.Schedule.{Place, calling, talking, away, Brought, now, later}
use Rattle.story.proofs.Opening.{scenes}
use Rattle.served.proofs.Parts.{the_host, the_target, the_scene, Polled, coded, taken, sent, Polls, look, seen, ready}

module _ (g : Program) (s : State) (ph : Phase) (v : List ℕ) (got : List Item) (n : List Note) (pa : ℕ) (log : List Item) where
  unplanned : {i w o : Bool} {x : Access} (f : Bool) (pl : Place) (td : List Item) → Polled i w o x
      → Brought step g (the_scene s (the_host [] false ph v got n) (the_target pl pa log td))
      → Brought step g (the_scene s (the_host (x ∷ []) f ph v got n) (the_target pl pa log td))
  unfolding scenes
  unplanned f calling td coded (now e) = now e
  unplanned f calling td coded (later e b') = later e b'
  unplanned f talking [] coded (now e) = now e
  unplanned f talking [] coded (later e b') = later e b'
  unplanned f talking (item p b ∷ l) coded (now e) = now e
  unplanned f talking (item p b ∷ l) coded (later e b') = later e b'
  unplanned f away td coded (now e) = now e
  unplanned f away td coded (later e b') = later e b'
  unplanned f calling td (taken z) (now e) = now e
  unplanned f calling td (taken z) (later e b') = later e b'
  unplanned f talking [] (taken z) (now e) = now e
  unplanned f talking [] (taken z) (later e b') = later e b'
  unplanned f talking (item p b ∷ l) (taken z) (now e) = now e
  unplanned f talking (item p b ∷ l) (taken z) (later e b') = later e b'
  unplanned f away td (taken z) (now e) = now e
  unplanned f away td (taken z) (later e b') = later e b'
  unplanned f calling td (sent z) (now e) = now e
  unplanned f calling td (sent z) (later e b') = later e b'
  unplanned f talking [] (sent z) (now e) = now e
  unplanned f talking [] (sent z) (later e b') = later e b'
  unplanned f talking (item p b ∷ l) (sent z) (now e) = now e
  unplanned f talking (item p b ∷ l) (sent z) (later e b') = later e b'
  unplanned f away td (sent z) (now e) = now e
  unplanned f away td (sent z) (later e b') = later e b'

  pub any_poll : {i w o f : Bool} {l : List Access} {a : ℕ} (pl : Place) (td : List Item) → Polls i w o l f a
      → Brought step g (the_scene s (the_host [] false ph v got n) (the_target pl pa log td))
      → Brought step g (the_scene s (the_host l f ph v got n) (the_target pl pa log td))
  any_poll pl td look b = b
  any_poll pl td (seen k) b = unplanned false pl td k b
  any_poll pl td (ready k) b = unplanned true pl td k b
