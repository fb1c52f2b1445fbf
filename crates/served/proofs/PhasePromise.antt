-- What the host that serves phase by phase holds, from every scene that can be reached.
--   held    with the bus free: what crossed is the story, and the host has read what came in and noted the count left
--   after_moves   every schedule leads to such a scene
use mathlib.Core.Path.{◌≡◌, refl, sym, ◌∙◌, ap}
use mathlib.Core.List.{List, [], ◌∷◌, ◌++◌, append-nil}
use Prim.Native.Nat.{ℕ}
use native.Mathlib.Omega.{arith}
use Rattle.chip.specs.Calls.{step}
use mathlib.Core.Logic.{◌⊎◌, inl, inr}
use Rattle.chip.specs.declared.Phase.TheVariants.{DataIn}
use Rattle.story.specs.Story.{Item, Job}
use Rattle.story.specs.Hosts.{Note, by_phases}
use Rattle.story.specs.Schedule.{away, talking, calling, Place, Scene, Move, offer, pass, work, moves, move}
use Rattle.served.proofs.Parts.{Tale}
use Rattle.served.proofs.PhaseScenes.{ins, Reach, begins, sending, taking, closing, draining, ends, loads, seeks, greets, waits, named, sends, takes, closes, drains, pauses, paused, calm, gone, rests}
use Rattle.served.proofs.PhaseScenes as S
use Rattle.served.proofs.PhaseSteps.{bus_step, pass_step, work_step}

module _ (j : Job) (whole : List Item) (total : List Note) where
  pub record Holds (c : Scene) : Type 0 where
    pub log : c.target.log ≡ whole
    pub got : c.host.got ≡ ins whole
    pub noted : c.host.noted ≡ total

  pub so_far : {c : Scene} → Reach j whole total c → (rest : List Item) × (c.target.log ++ rest ≡ whole)
  so_far (begins (loads p a q t g n w)) = (_, w.all)
  so_far (begins (seeks p q t g n w)) = (_, w.all)
  so_far (begins (greets p q g n w)) = (_, w.all)
  so_far (begins (waits p q g n w)) = (_, w.all)
  so_far (begins (named p q k g v n i w)) = (_, w.all)
  so_far (begins (S.coded p a q g i w)) = (_, w.all)
  so_far (sending (sends fifo rest give p e l s a n i w)) = (_, w.all)
  so_far (taking (takes fifo rest y p e l bs v a n i w)) = (_, w.all)
  so_far (closing (closes p l h v n i w)) = (_, w.all)
  so_far (draining (drains fifo p e l k g v n i w)) = (_, w.all)
  so_far (ends (pauses p l v n i w)) = (_, w.all)
  so_far (ends (paused p q v n i w)) = (_, w.all)
  so_far (ends (S.negates a q v n i w)) = (_, w.all)
  so_far (ends (calm p q v n i w)) = (_, w.all)
  so_far (ends (gone a q v n i w)) = (_, w.all)
  so_far (ends (rests p q v n i w)) = (_, w.all)

  not_yet : {X : Type 0} (p : Place) → p ≡ away → (p ≡ talking) ⊎ (p ≡ calling) → X
  not_yet p e (inl q) = let z : ◌≡◌ {A = ℕ} 0 1 = cc in absurd (omega arith)
  not_yet p e (inr q) = let z : ◌≡◌ {A = ℕ} 0 1 = cc in absurd (omega arith)

  logged : (log : List Item) → Tale whole log [] → log ≡ whole
  logged log t = sym (append-nil log) ∙ t.all

  holding : {c : Scene} {log got : List Item} {n : List Note} → Tale whole log [] → S.Heard j whole total log got DataIn [] → S.Noting j whole total n []
      → c.target.log ≡ log → c.host.got ≡ got → c.host.noted ≡ n → Holds c
  holding {log = log} {got = got} {n = n} t h m e f g =
      record {
        log = e ∙ logged log t;
        got = f ∙ (sym (append-nil got) ∙ (h.same ∙ ap ins (logged log t)));
        noted = g ∙ (sym (append-nil n) ∙ m.all);
      }

  pub held : {c : Scene} → Reach j whole total c → c.target.place ≡ away → Holds c
  held (begins (loads p a q t g n w)) y = not_yet _ y (inr refl)
  held (begins (seeks p q t g n w)) y = not_yet _ y (inr refl)
  held (begins (greets p q g n w)) y = not_yet _ y (inl refl)
  held (begins (waits p q g n w)) y = not_yet _ y (inl refl)
  held (begins (named p q k g v n i w)) y = not_yet _ y (inl refl)
  held (begins (S.coded p a q g i w)) y = not_yet _ y (inl refl)
  held (sending (sends fifo rest give p e l s a n i w)) y = not_yet _ y (inl refl)
  held (taking (takes fifo rest x p e l bs v a n i w)) y = not_yet _ y (inl refl)
  held (closing (closes p l h v n i w)) y = not_yet _ y (inl refl)
  held (draining (drains fifo p e l k g v n i w)) y = not_yet _ y (inl refl)
  held (ends (pauses p l v n i w)) y = not_yet _ y (inl refl)
  held (ends (paused p q v n i w)) y = not_yet _ y (inl refl)
  held (ends (S.negates a q v n i w)) y = not_yet _ y (inl refl)
  held (ends (calm p q v n i w)) y = not_yet _ y (inl refl)
  held (ends (gone a q v n i w)) y = holding w i n refl refl refl
  held (ends (rests p q v n i w)) y = holding w i n refl refl refl

  pub after_moves : (l : List Move) {c : Scene} → Reach j whole total c → Reach j whole total (moves step (by_phases j) l c)
  unfolding moves move
  after_moves [] r = r
  after_moves (offer ∷ l) r = after_moves l (bus_step j whole total r)
  after_moves (pass n ∷ l) r = after_moves l (pass_step j whole total n r)
  after_moves (work ∷ l) r = after_moves l (work_step j whole total r)
