-- With the host that serves phase by phase, each move leads from a scene that can be reached to one that can.
--   bus_step, pass_step, work_step   a move of the Target, units of time, a call of the host
use mathlib.Core.Path.{◌≡◌, refl, sym, ◌∙◌, subst}
use mathlib.Core.Bool.{false, true≢false, false≢true}
use mathlib.Core.List.{List, [], ◌∷◌, ◌++◌}
use mathlib.Core.Logic.{⊎_elim}
use Prim.Native.Nat.{ℕ, suc, ◌+◌, ◌<◌}
use native.Mathlib.Omega.{arith}
use lib.Dec.{ltb, eqb}
use lib.ListN.{length}
use borrow.Author.Tests.{lt-ltb, eq-eqb, ne_eqb, lt-leb, ltb-true}
use Rattle.chip.proofs.Cases.{true_or_false}
use Rattle.chip.specs.Calls.{step}
use Rattle.chip.specs.Phases.{comes_in}
use Rattle.chip.specs.declared.State.{State}
use Rattle.chip.specs.declared.Phase.{Phase}
use Rattle.chip.specs.declared.Phase.TheVariants.{MessageIn}
use Rattle.story.specs.Story.{Item, Job}
use Rattle.story.specs.Hosts.{Note, Host, count_for, give_for, serving, by_phases}
use Rattle.story.specs.Schedule.{Target, Scene, bus, access, passing}
use Rattle.served.proofs.Opening.{steps}
use Rattle.served.proofs.Time.{still, spare_on, spare_less, spared_at}
use Rattle.chip.specs.Connections.{is_selecting}
use Rattle.served.proofs.Going.{one_out, owed_out, sending_can, one_more}
use Rattle.served.proofs.Parts.{the_scene, before, aimed, coded, taken, sent, look, seen, ready, over, puts, gets, stored_is, onto}
use Rattle.served.proofs.Queue.{none_lined, empty_none, empty_some, room_is, waits_is, front_is, popped, pushed}
use Rattle.served.proofs.Small.{one_less, bytes_tail, tail_bytes, next_byte_lem, no_bytes, no_code, polls_look, polls_quiet, polls_drained, polls_up, small_address, some_snoc, waiting_some, can_pop, can_room, can_not, unfixed, drained}
use Rattle.served.proofs.PhaseFacts.{phase_round, phase_small, same_phase_lem, shown_byte, single_info, heard_11, heard_20, heard_85, heard_named, heard_out, heard_in, heard_read, heard_at, good_byte, noting_on, plays_phase}
use Rattle.served.proofs.PhaseScenes.{Seg, seg, asked, Good, last, more, next, polls, Begins, Sends, Takes, Closes, Drains, Ends, Reach, begins, sending, taking, closing, draining, ends, loads, seeks, greets, waits, named, sends, takes, closes, drains, pauses, paused, calm, gone, rests}
use Rattle.served.proofs.PhaseScenes as S

module _ (j : Job) (whole : List Item) (total : List Note) where
  abbrev R : Scene → Type 0
  R c = Reach j whole total c

  begins_bus : {c : Scene} → Begins j whole total c → R (bus step (by_phases j) c)
  unfolding steps
  begins_bus (loads p a q t g n w) = begins (loads p a q t g n w)
  begins_bus (seeks p unfixed t g n w) = begins (greets (no_code p) unfixed g n w)
  begins_bus (seeks p (drained k) t g n w) = begins (greets (no_code p) (drained k) g n w)
  begins_bus (greets p q (last h) n w) = rw (lt-ltb _ 256 h) (begins (greets p q (last h) n w))
  begins_bus (greets p q (more {p = ph} {b = x} f a d g) n w) = rw (phase_small ph, shown_byte (comes_in ph) x (f.bytes 0)) (begins (greets p q (more f a d g) n w))
  begins_bus (waits p unfixed (last h) n w) =
      rw (lt-ltb _ 256 h, phase_round MessageIn) (begins (named (no_code p) unfixed asked (last h) no_bytes n (record { same = refl }) w))
  begins_bus (waits p unfixed (more {p = ph} {b = x} f a d g) n w) =
      rw (phase_small ph, shown_byte (comes_in ph) x (f.bytes 0), phase_round ph) (begins (named (no_code p) unfixed asked (more f a d g) no_bytes n (record { same = refl }) w))
  begins_bus (waits p (drained k) (last h) n w) =
      rw (lt-ltb _ 256 h, phase_round MessageIn) (begins (named (no_code p) (drained k) asked (last h) no_bytes n (record { same = refl }) w))
  begins_bus (waits p (drained k) (more {p = ph} {b = x} f a d g) n w) =
      rw (phase_small ph, shown_byte (comes_in ph) x (f.bytes 0), phase_round ph) (begins (named (no_code p) (drained k) asked (more f a d g) no_bytes n (record { same = refl }) w))
  begins_bus (named p q k (last h) v n i w) = rw (lt-ltb _ 256 h, phase_round MessageIn) (begins (named p q k (last h) v n i w))
  begins_bus (named p q k (more {p = ph} {b = x} f a d g) v n i w) =
      rw (phase_small ph, shown_byte (comes_in ph) x (f.bytes 0), phase_round ph, same_phase_lem ph) (begins (named p q k (more f a d g) v n i w))
  begins_bus (S.coded p a q (last h) i w) = rw (lt-ltb _ 256 h, phase_round MessageIn) (begins (S.coded p a q (last h) i w))
  begins_bus (S.coded p a q (more {p = ph} {b = x} f z d g) i w) =
      rw (phase_small ph, shown_byte (comes_in ph) x (f.bytes 0), phase_round ph, same_phase_lem ph) (begins (S.coded p a q (more f z d g) i w))

  sending_bus : {c : Scene} → Sends j whole total c → R (bus step (by_phases j) c)
  unfolding steps
  sending_bus (sends {y = y} {p = ph} [] (x ∷ rest) give p e l s a n i w) =
      rw (phase_small ph, phase_round ph, e, same_phase_lem ph, ne_eqb (suc (length rest) + length y) 0 (omega arith), empty_none l)
      (sending (sends [] (x ∷ rest) give p e l s a n i w))
  sending_bus (sends {y = y} {p = ph} (z ∷ fifo) (x ∷ rest) give p e l s a n i w) =
      rw (
        phase_small ph,
        phase_round ph,
        e,
        same_phase_lem ph,
        ne_eqb (suc (length rest) + length y) 0 (omega arith),
        empty_some l,
        front_is l,
        (one_out s).0,
        one_less (length rest) (length y),
      )
      (sending (sends fifo rest give (polls_up (λ k. k) (can_pop z fifo give) p) e (popped l) (one_out s).1 a n (heard_out ph x e i) (onto w)))
  sending_bus (sends {y = y} {p = ph} fifo [] give p e l s (next {q = q} {c = c} {cs = cs} {y = y'} {gs = gs} z d g) n i w) =
      rw (phase_small q, shown_byte (comes_in q) c (good_byte g), phase_round q, d)
      (begins (named (no_code (polls_up (λ k. k) (λ k. refl) p)) unfixed (S.over (eqb (0 + length y) 0)) g s.bytes (noting_on (seg q (c ∷ cs) y' ∷ gs) ph (length y) n) i w))

  taking_bus : {c : Scene} → Takes j whole total c → R (bus step (by_phases j) c)
  unfolding steps
  taking_bus (takes {p = ph} [] [] y p e l bs v (next {q = q} {c = c} {cs = cs} {y = y'} {gs = gs} z d g) n i w) =
      rw (phase_small q, shown_byte (comes_in q) c (good_byte g), phase_round q, d, empty_none l)
      (begins (named (no_code p) (drained (empty_none l)) (S.over (eqb (0 + length y) 0)) g v (noting_on (seg q (c ∷ cs) y' ∷ gs) ph (length y) n) (heard_at i) w))
  taking_bus (takes {p = ph} (x ∷ fifo) [] y p e l bs v (next {q = q} {c = c} {cs = cs} {y = y'} {gs = gs} z d g) n i w) =
      rw (phase_small q, shown_byte (comes_in q) c (good_byte g), phase_round q, d, empty_some l)
      (draining (drains fifo p e l (S.over (eqb (0 + length y) 0)) g v (noting_on (seg q (c ∷ cs) y' ∷ gs) ph (length y) n) i w))
  taking_bus (takes {p = ph} fifo (x ∷ rest) y p e l bs v (next {q = q} z d g) n i w) =
      ⊎_elim
      (λ r.
      rw (
        phase_small ph,
        phase_round ph,
        e,
        lt-ltb x 256 (bs 0),
        same_phase_lem ph,
        ne_eqb (suc (length rest) + length y) 0 (omega arith),
        room_is l,
        r,
        z,
        one_less (length rest) (length y),
      )
      (taking (takes (fifo ++ (x ∷ [])) rest y (polls_up (λ k. some_snoc fifo x) (λ k. k) p) e (pushed x l (ltb-true _ _ r)) (bytes_tail x rest bs) v (next z d g) n (heard_in ph x fifo e i) (onto w))))
      (λ r.
      rw (phase_small ph, phase_round ph, e, lt-ltb x 256 (bs 0), same_phase_lem ph, ne_eqb (suc (length rest) + length y) 0 (omega arith), room_is l, r)
      (taking (takes fifo (x ∷ rest) y p e l bs v (next z d g) n i w)))
      (true_or_false (ltb (length fifo) 12))

  closing_bus : {c : Scene} → Closes j whole total c → R (bus step (by_phases j) c)
  unfolding steps
  closing_bus (closes {b = x} p l h v n i w) =
      rw (lt-ltb x 256 h, phase_round MessageIn, room_is l, empty_some (pushed x l (omega arith)))
      (ends (pauses (polls_up (λ k. refl) (λ k. k) p) (pushed x l (omega arith)) v n (heard_in MessageIn x [] refl i) (onto w)))

  draining_bus : {c : Scene} → Drains j whole total c → R (bus step (by_phases j) c)
  unfolding steps
  draining_bus (drains fifo p e l k (last h) v n i w) = rw (lt-ltb _ 256 h) (draining (drains fifo p e l k (last h) v n i w))
  draining_bus (drains fifo p e l k (more {p = ph} {b = x} f a d g) v n i w) =
      rw (phase_small ph, shown_byte (comes_in ph) x (f.bytes 0)) (draining (drains fifo p e l k (more f a d g) v n i w))

  ends_bus : {c : Scene} → Ends j whole total c → R (bus step (by_phases j) c)
  unfolding steps
  ends_bus (pauses p l v n i w) = ends (pauses p l v n i w)
  ends_bus (paused p q v n i w) = ends (paused p q v n i w)
  ends_bus (S.negates a unfixed v n i w) = ends (gone (S.Late.negates a) unfixed v n i w)
  ends_bus (calm p unfixed v n i w) = ends (gone (polls (no_code p)) unfixed v n i w)
  ends_bus (S.negates a (drained k) v n i w) = ends (gone (S.Late.negates a) (drained k) v n i w)
  ends_bus (calm p (drained k) v n i w) = ends (gone (polls (no_code p)) (drained k) v n i w)
  ends_bus (gone a q v n i w) = ends (gone a q v n i w)
  ends_bus (rests p q v n i w) = ends (rests p q v n i w)

  pub bus_step : {c : Scene} → R c → R (bus step (by_phases j) c)
  bus_step (begins k) = begins_bus k
  bus_step (sending k) = sending_bus k
  bus_step (taking k) = taking_bus k
  bus_step (closing k) = closing_bus k
  bus_step (draining k) = draining_bus k
  bus_step (ends k) = ends_bus k

  pub good_small : {p : Phase} {bs x : List ℕ} {g : List Seg} → Good j whole total (seg p bs x ∷ g) → count_for j p < 16777216
  good_small (last h) = omega arith
  good_small (more f a d g) = f.small

  begins_work : {c : Scene} → Begins j whole total c → R (access step (by_phases j) c)
  unfolding steps serving
  begins_work (loads (over g) before q t k n y) = begins (loads (over g) aimed q t k n y)
  begins_work (loads (over g) aimed q t k n y) = rw g.none (begins (seeks look q (spared_at g.timeout t) k n y))
  begins_work (loads (puts {a = a} {b = x} u k p) before q t g n y) = rw (lt-ltb a 256 (omega arith)) (begins (loads (puts u k p) aimed q t g n y))
  begins_work (loads (puts {a = a} {b = x} u k p) aimed q t g n y) =
      rw (lt-ltb x 256 k, lt-leb 0x1A a (omega arith), ne_eqb a 0x17 (omega arith), ne_eqb a 0x18 (omega arith), ne_eqb a 0x19 (omega arith), stored_is) (begins (loads p before q t g n y))
  begins_work (loads (gets {a = a} u p) before q t g n y) = rw (lt-ltb a 256 (omega arith)) (begins (loads (gets u p) aimed q t g n y))
  begins_work (loads (gets {a = a} u p) aimed q t g n y) = rw (lt-leb 0x1A a (omega arith), ne_eqb a 0x17 (omega arith), ne_eqb a 0x18 (omega arith), ne_eqb a 0x19 (omega arith)) (begins (loads p before q t g n y))
  begins_work (seeks look unfixed t g n y) = begins (seeks (polls_quiet _ _ _ _ _ _) unfixed t g n y)
  begins_work (seeks look (drained k) t g n y) = begins (seeks (polls_drained _ _ _ _ _ _ _ k) (drained k) t g n y)
  begins_work (seeks (seen k) q t g n y) = rw (small_address k) (begins (seeks (ready k) q t g n y))
  begins_work (seeks (ready (taken k)) q t g n y) = absurd (false≢true k)
  begins_work (seeks (ready (sent z)) unfixed t g n y) = begins (seeks look unfixed t g n y)
  begins_work (seeks (ready (sent z)) (drained k) t g n y) = begins (seeks look (drained k) t g n y)
  begins_work (greets look unfixed g n y) = begins (greets (polls_quiet _ _ _ _ _ _) unfixed g n y)
  begins_work (greets look (drained k) g n y) = begins (greets (polls_drained _ _ _ _ _ _ _ k) (drained k) g n y)
  begins_work (greets (seen k) q g n y) = rw (small_address k) (begins (greets (ready k) q g n y))
  begins_work (greets (ready (taken k)) q g n y) = absurd (false≢true k)
  begins_work (greets (ready (sent z)) unfixed g n y) = begins (greets look unfixed g n y)
  begins_work (greets (ready (sent z)) (drained k) g n y) = begins (greets look (drained k) g n y)
  begins_work (waits look unfixed g n y) = begins (waits (polls_quiet _ _ _ _ _ _) unfixed g n y)
  begins_work (waits look (drained k) g n y) = begins (waits (polls_drained _ _ _ _ _ _ _ k) (drained k) g n y)
  begins_work (waits (seen k) q g n y) = rw (small_address k) (begins (waits (ready k) q g n y))
  begins_work (waits (ready (taken k)) q g n y) = absurd (false≢true k)
  begins_work (waits (ready (sent z)) unfixed g n y) = begins (waits look unfixed g n y)
  begins_work (waits (ready (sent z)) (drained k) g n y) = begins (waits look (drained k) g n y)
  begins_work (greets (ready coded) q g n y) = rw (heard_11 j) (begins (waits look q g n y))
  begins_work (named look unfixed c g v n i y) = begins (named (polls_quiet _ _ _ _ _ _) unfixed c g v n i y)
  begins_work (named look (drained k) c g v n i y) = begins (named (polls_drained _ _ _ _ _ _ _ k) (drained k) c g v n i y)
  begins_work (named (seen k) q c g v n i y) = rw (small_address k) (begins (named (ready k) q c g v n i y))
  begins_work (named (ready (taken k)) q c g v n i y) = absurd (false≢true k)
  begins_work (named {v = vs} (ready (sent z)) unfixed c g v n i y) = rw (next_byte_lem vs v) (begins (named look unfixed c g (tail_bytes vs v) n i y))
  begins_work (named {v = vs} (ready (sent z)) (drained k) c g v n i y) = rw (next_byte_lem vs v) (begins (named look (drained k) c g (tail_bytes vs v) n i y))
  begins_work (named {c = c} {p = p} {cr = cr} (ready coded) q nm g v n i y) =
      rw (heard_named j c p nm) (begins (S.coded (plays_phase _ cr p _ _ (good_small g) n) before q g i y))
  begins_work (S.coded (over k) before q g i y) = begins (S.coded (over k) aimed q g i y)
  begins_work (S.coded (over k) aimed q (last h) i y) =
      rw (single_info, k.count) (closing (closes look none_lined h no_bytes k.noting (heard_at i) y))
  begins_work (S.coded (over k) aimed q (more {p = p} {b = b} {bs = bs} {x = x} f a d g) i y) =
      ⊎_elim
      (λ e.
      rw (single_info, e, k.count, f.count, ne_eqb (suc (length bs) + length x) 0 (omega arith))
      (taking (takes [] (b ∷ bs) x look e none_lined f.bytes f.sent (next a d g) k.noting (heard_at i) y)))
      (λ e.
      rw (single_info, e, k.count, f.count, ne_eqb (suc (length bs) + length x) 0 (omega arith))
      (sending (sends [] (b ∷ bs) (give_for j p) look e none_lined (record { line = f.hand e; bytes = f.sent }) (next a d g) k.noting i y)))
      (true_or_false (comes_in p))
  begins_work (S.coded (puts {a = a} {b = x} u k p) before q g i y) = rw (lt-ltb a 256 (omega arith)) (begins (S.coded (puts u k p) aimed q g i y))
  begins_work (S.coded (puts {a = a} {b = x} u k p) aimed q g i y) =
      rw (lt-ltb x 256 k, lt-leb 0x1A a (omega arith), ne_eqb a 0x17 (omega arith), ne_eqb a 0x18 (omega arith), ne_eqb a 0x19 (omega arith), stored_is) (begins (S.coded p before q g i y))
  begins_work (S.coded (gets {a = a} u p) before q g i y) = rw (lt-ltb a 256 (omega arith)) (begins (S.coded (gets u p) aimed q g i y))
  begins_work (S.coded (gets {a = a} u p) aimed q g i y) = rw (lt-leb 0x1A a (omega arith), ne_eqb a 0x17 (omega arith), ne_eqb a 0x18 (omega arith), ne_eqb a 0x19 (omega arith)) (begins (S.coded p before q g i y))

  sending_work : {c : Scene} → Sends j whole total c → R (access step (by_phases j) c)
  unfolding steps serving
  sending_work (sends fifo rest give look e l s a n i y) =
      sending (sends fifo rest give (polls_look _ _ _ _ _ _ _ (λ u c. absurd (true≢false (sym c ∙ e))) (λ u c. sending_can _ give s l u)) e l s a n i y)
  sending_work (sends fifo rest give (seen m) e l s a n i y) = rw (small_address m) (sending (sends fifo rest give (ready m) e l s a n i y))
  sending_work (sends fifo rest give (ready (taken k)) e l s a n i y) = absurd (false≢true k)
  sending_work (sends fifo rest [] (ready (sent k)) e l s a n i y) = can_not fifo k
  sending_work (sends fifo rest (z ∷ give) (ready (sent k)) e l s a n i y) =
      rw (lt-ltb z 256 (s.bytes 0), waits_is l, owed_out s, room_is l)
      (rw (lt-ltb (length fifo) 12 (can_room fifo (z ∷ give) k))
      (sending (sends (fifo ++ (z ∷ [])) rest give look e (pushed z l (can_room fifo (z ∷ give) k)) (one_more s) a n i y)))

  taking_work : {c : Scene} → Takes j whole total c → R (access step (by_phases j) c)
  unfolding steps serving
  taking_work (takes fifo rest x look e l bs v a n i y) =
      taking (takes fifo rest x (polls_look _ _ _ _ _ _ _ (λ u c. waiting_some fifo l u) (λ u c. refl)) e l bs v a n i y)
  taking_work (takes fifo rest x (seen m) e l bs v a n i y) = rw (small_address m) (taking (takes fifo rest x (ready m) e l bs v a n i y))
  taking_work (takes [] rest x (ready (taken k)) e l bs v a n i y) = absurd (false≢true k)
  taking_work (takes (b ∷ []) rest x (ready (taken k)) e l bs v a n i y) =
      rw (empty_some l, front_is l, empty_none (popped l)) (taking (takes [] rest x look e (popped l) bs v a n (heard_read i) y))
  taking_work (takes (b ∷ c ∷ fifo) rest x (ready (taken k)) e l bs v a n i y) =
      rw (empty_some l, front_is l, empty_some (popped l)) (taking (takes (c ∷ fifo) rest x look e (popped l) bs v a n (heard_read i) y))
  taking_work (takes {v = vs} fifo rest x (ready (sent k)) e l bs v a n i y) = rw (next_byte_lem vs v) (taking (takes fifo rest x look e l bs (tail_bytes vs v) a n i y))

  closing_work : {c : Scene} → Closes j whole total c → R (access step (by_phases j) c)
  unfolding steps serving
  closing_work (closes look l h v n i y) =
      closing (closes (polls_look _ _ _ _ _ _ _ (λ u c. waiting_some [] l u) (λ u c. refl)) l h v n i y)
  closing_work (closes (seen m) l h v n i y) = rw (small_address m) (closing (closes (ready m) l h v n i y))
  closing_work (closes (ready (taken k)) l h v n i y) = absurd (false≢true k)
  closing_work (closes {v = vs} (ready (sent k)) l h v n i y) = rw (next_byte_lem vs v) (closing (closes look l h (tail_bytes vs v) n i y))

  draining_work : {c : Scene} → Drains j whole total c → R (access step (by_phases j) c)
  unfolding steps serving
  draining_work (drains fifo look e l k g v n i y) =
      draining (drains fifo (polls_look _ _ _ _ _ _ _ (λ u c. refl) (λ u c. refl)) e l k g v n i y)
  draining_work (drains fifo (seen m) e l k g v n i y) = rw (small_address m) (draining (drains fifo (ready m) e l k g v n i y))
  draining_work (drains [] (ready (taken z)) e l k g v n i y) =
      rw (empty_some l, front_is l, empty_none (popped l))
      (begins (named look (drained (empty_none (popped l))) k g v n (heard_at (heard_read i)) y))
  draining_work (drains (b ∷ fifo) (ready (taken z)) e l k g v n i y) =
      rw (empty_some l, front_is l, empty_some (popped l)) (draining (drains fifo look e (popped l) k g v n (heard_read i) y))
  draining_work (drains {v = vs} fifo (ready (sent z)) e l k g v n i y) = rw (next_byte_lem vs v) (draining (drains fifo look e l k g (tail_bytes vs v) n i y))

  ends_work : {c : Scene} → Ends j whole total c → R (access step (by_phases j) c)
  unfolding steps serving
  ends_work (pauses look l v n i y) =
      ends (pauses (polls_look _ _ _ _ _ _ _ (λ u c. refl) (λ u c. refl)) l v n i y)
  ends_work (pauses (seen m) l v n i y) = rw (small_address m) (ends (pauses (ready m) l v n i y))
  ends_work (pauses (ready (taken z)) l v n i y) =
      rw (empty_some l, front_is l, empty_none (popped l))
      (ends (paused look (drained (empty_none (popped l))) v n (heard_at (heard_read i)) y))
  ends_work (pauses {v = vs} (ready (sent z)) l v n i y) = rw (next_byte_lem vs v) (ends (pauses look l (tail_bytes vs v) n i y))
  ends_work (paused look unfixed v n i y) = ends (paused (polls_quiet _ _ _ _ _ _) unfixed v n i y)
  ends_work (paused look (drained k) v n i y) = ends (paused (polls_drained _ _ _ _ _ _ _ k) (drained k) v n i y)
  ends_work (paused (seen k) q v n i y) = rw (small_address k) (ends (paused (ready k) q v n i y))
  ends_work (paused (ready (taken k)) q v n i y) = absurd (false≢true k)
  ends_work (paused {v = vs} (ready (sent z)) unfixed v n i y) = rw (next_byte_lem vs v) (ends (paused look unfixed (tail_bytes vs v) n i y))
  ends_work (paused {v = vs} (ready (sent z)) (drained k) v n i y) = rw (next_byte_lem vs v) (ends (paused look (drained k) (tail_bytes vs v) n i y))
  ends_work (paused (ready coded) q v n i y) = rw (heard_20 j) (ends (S.negates before q v n i y))
  ends_work (S.negates before q v n i y) = ends (S.negates aimed q v n i y)
  ends_work (S.negates aimed q v n i y) = ends (calm look q v n i y)
  ends_work (calm look unfixed v n i y) = ends (calm (polls_quiet _ _ _ _ _ _) unfixed v n i y)
  ends_work (calm look (drained k) v n i y) = ends (calm (polls_drained _ _ _ _ _ _ _ k) (drained k) v n i y)
  ends_work (calm (seen k) q v n i y) = rw (small_address k) (ends (calm (ready k) q v n i y))
  ends_work (calm (ready (taken k)) q v n i y) = absurd (false≢true k)
  ends_work (calm {v = vs} (ready (sent z)) unfixed v n i y) = rw (next_byte_lem vs v) (ends (calm look unfixed (tail_bytes vs v) n i y))
  ends_work (calm {v = vs} (ready (sent z)) (drained k) v n i y) = rw (next_byte_lem vs v) (ends (calm look (drained k) (tail_bytes vs v) n i y))
  ends_work (gone (S.Late.negates before) q v n i y) = ends (gone (S.Late.negates aimed) q v n i y)
  ends_work (gone (S.Late.negates aimed) q v n i y) = ends (gone (polls look) q v n i y)
  ends_work (gone (polls look) unfixed v n i y) = ends (gone (polls (polls_quiet _ _ _ _ _ _)) unfixed v n i y)
  ends_work (gone {v = vs} (polls (ready (sent z))) unfixed v n i y) = rw (next_byte_lem vs v) (ends (gone (polls look) unfixed (tail_bytes vs v) n i y))
  ends_work (gone (polls look) (drained k) v n i y) = ends (gone (polls (polls_drained _ _ _ _ _ _ _ k)) (drained k) v n i y)
  ends_work (gone {v = vs} (polls (ready (sent z))) (drained k) v n i y) = rw (next_byte_lem vs v) (ends (gone (polls look) (drained k) (tail_bytes vs v) n i y))
  ends_work (gone (polls (seen k)) q v n i y) = rw (small_address k) (ends (gone (polls (ready k)) q v n i y))
  ends_work (gone (polls (ready (taken k))) q v n i y) = absurd (false≢true k)
  ends_work (gone (polls (ready coded)) q v n i y) = rw (heard_85 j) (ends (rests look q v n i y))
  ends_work (rests look unfixed v n i y) = ends (rests (polls_quiet _ _ _ _ _ _) unfixed v n i y)
  ends_work (rests look (drained k) v n i y) = ends (rests (polls_drained _ _ _ _ _ _ _ k) (drained k) v n i y)
  ends_work (rests (seen k) q v n i y) = rw (small_address k) (ends (rests (ready k) q v n i y))
  ends_work (rests (ready (taken k)) q v n i y) = absurd (false≢true k)
  ends_work (rests {v = vs} (ready (sent z)) unfixed v n i y) = rw (next_byte_lem vs v) (ends (rests look unfixed (tail_bytes vs v) n i y))
  ends_work (rests {v = vs} (ready (sent z)) (drained k) v n i y) = rw (next_byte_lem vs v) (ends (rests look (drained k) (tail_bytes vs v) n i y))

  pub work_step : {c : Scene} → R c → R (access step (by_phases j) c)
  work_step (begins k) = begins_work k
  work_step (sending k) = sending_work k
  work_step (taking k) = taking_work k
  work_step (closing k) = closing_work k
  work_step (draining k) = draining_work k
  work_step (ends k) = ends_work k

  unmoved : (n : ℕ) (s : State) (h : Host) (t : Target) → is_selecting s.wire.connection ≡ false → R (the_scene s h t)
      → R (passing step (by_phases j) n (the_scene s h t))
  unmoved n s h t f r = subst (λ (c : Scene). R c) (sym (still (by_phases j) n s h t f)) r

  -- while it is being selected, the Target lets time pass within its patience, or answers
  pub pass_step : (n : ℕ) {c : Scene} → R c → R (passing step (by_phases j) n c)
  unfolding steps
  pass_step n (begins (seeks {pa = pa} {el = el} {tm = tm} p unfixed t g m w)) =
      ⊎_elim
      (λ r.
      ⊎_elim
      (λ u.
      ⊎_elim
      (λ z. rw r (rw u (rw (eq-eqb tm 0 z) (begins (seeks p unfixed (spare_on n t (ltb-true n pa r)) g m w)))))
      (λ z.
      rw r
      (rw u
      (rw (ne_eqb tm 0 (omega (arith, z, ltb-true n pa r)), lt-leb tm (el + n) (omega (arith, z, ltb-true n pa r)))
      (begins (seeks p unfixed (spare_less el pa n z (ltb-true n pa r)) g m w)))))
      t.time)
      (λ u. rw r (rw u (begins (seeks p unfixed (spare_on n t (ltb-true n pa r)) g m w))))
      (true_or_false (ltb n 256)))
      (λ r. rw r (begins (greets (no_code p) unfixed g m w)))
      (true_or_false (ltb n pa))
  pass_step n (begins (seeks {pa = pa} {el = el} {tm = tm} p (drained k) t g m w)) =
      ⊎_elim
      (λ r.
      ⊎_elim
      (λ u.
      ⊎_elim
      (λ z. rw r (rw u (rw (eq-eqb tm 0 z) (begins (seeks p (drained k) (spare_on n t (ltb-true n pa r)) g m w)))))
      (λ z.
      rw r
      (rw u
      (rw (ne_eqb tm 0 (omega (arith, z, ltb-true n pa r)), lt-leb tm (el + n) (omega (arith, z, ltb-true n pa r)))
      (begins (seeks p (drained k) (spare_less el pa n z (ltb-true n pa r)) g m w)))))
      t.time)
      (λ u. rw r (rw u (begins (seeks p (drained k) (spare_on n t (ltb-true n pa r)) g m w))))
      (true_or_false (ltb n 256)))
      (λ r. rw r (begins (greets (no_code p) (drained k) g m w)))
      (true_or_false (ltb n pa))
  pass_step m (begins (loads p a q t g n w)) = unmoved m _ _ _ refl (begins (loads p a q t g n w))
  pass_step m (begins (greets p q g n w)) = unmoved m _ _ _ refl (begins (greets p q g n w))
  pass_step m (begins (waits p q g n w)) = unmoved m _ _ _ refl (begins (waits p q g n w))
  pass_step m (begins (named p q k g v n i w)) = unmoved m _ _ _ refl (begins (named p q k g v n i w))
  pass_step m (begins (S.coded p a q g i w)) = unmoved m _ _ _ refl (begins (S.coded p a q g i w))
  pass_step m (sending (sends fifo rest give p e l s a n i w)) = unmoved m _ _ _ refl (sending (sends fifo rest give p e l s a n i w))
  pass_step m (taking (takes fifo rest y p e l bs v a n i w)) = unmoved m _ _ _ refl (taking (takes fifo rest y p e l bs v a n i w))
  pass_step m (closing (closes p l h v n i w)) = unmoved m _ _ _ refl (closing (closes p l h v n i w))
  pass_step m (draining (drains fifo p e l k g v n i w)) = unmoved m _ _ _ refl (draining (drains fifo p e l k g v n i w))
  pass_step m (ends (pauses p l v n i w)) = unmoved m _ _ _ refl (ends (pauses p l v n i w))
  pass_step m (ends (paused p q v n i w)) = unmoved m _ _ _ refl (ends (paused p q v n i w))
  pass_step m (ends (S.negates a q v n i w)) = unmoved m _ _ _ refl (ends (S.negates a q v n i w))
  pass_step m (ends (calm p q v n i w)) = unmoved m _ _ _ refl (ends (calm p q v n i w))
  pass_step m (ends (gone a q v n i w)) = unmoved m _ _ _ refl (ends (gone a q v n i w))
  pass_step m (ends (rests p q v n i w)) = unmoved m _ _ _ refl (ends (rests p q v n i w))
