-- With the host that serves by one Select-And-Transfer, each move leads from a scene that can be reached to one that can.
--   bus_step, pass_step, work_step   a move of the Target, units of time, a call of the host
use mathlib.Core.Path.{◌≡◌, refl, sym, ◌∙◌, ap, subst}
use mathlib.Core.Bool.{Bool, true, false, true≢false, false≢true}
use mathlib.Core.List.{List, [], ◌∷◌, ◌++◌, append_assoc, append-nil}
use mathlib.Core.Logic.{⊎_elim}
use Prim.Native.Nat.{ℕ, suc, ◌+◌, ◌/◌, ◌%◌, ◌<◌}
use native.Mathlib.Omega.{arith}
use native.Mathlib.Nat.{zero-add}
use lib.Dec.{ltb}
use lib.ListN.{length, get_or, length-append}
use lib.Seq.{get_or-append_seam}
use borrow.Author.Tests.{lt-ltb, eq-eqb, ne_eqb, lt-leb, ltb-true}
use Rattle.chip.proofs.Cases.{true_or_false}
use Rattle.chip.proofs.Sizes.{size_most}
use Rattle.chip.specs.Choice.{pick}
use Rattle.chip.specs.Calls.{step}
use Rattle.chip.specs.Lines.{is_on, identify}
use Rattle.chip.specs.Phases.{phase_of}
use Rattle.chip.specs.Registers.{register_at}
use Rattle.chip.specs.SelectAndTransfer.{size_of, stage_of}
use Rattle.chip.specs.declared.State.{State}
use Rattle.chip.specs.declared.Registers.{Registers}
use Rattle.chip.specs.declared.Stage.TheVariants.{SendCommand, Body}
use Rattle.chip.specs.declared.Phase.TheVariants.{DataIn, CommandOut, MessageOut}
use Rattle.chip.specs.Ok.{Bytes}
use Rattle.story.specs.Story.{Item, item, items, Way, inward, outward, way_phase, Job, identifies, close, Proper, story}
use Rattle.story.specs.Hosts.{Access, get, Note, note, Host, count_gets, by_transfer}
use Rattle.story.specs.Schedule.{Target, Scene, bus, access, passing}
use Rattle.story.specs.Demand.{incoming_data}
use Rattle.served.proofs.Opening.{steps}
use Rattle.served.proofs.Time.{still, spare_on, spare_less, spared_at}
use Rattle.chip.specs.Connections.{is_selecting}
use Rattle.served.proofs.Going.{one_out, owed_out, sending_can, one_more}
use Rattle.served.proofs.Parts.{the_scene, before, aimed, coded, taken, sent, look, seen, ready, Plays, over, puts, gets, stored_is, Tale, onto}
use Rattle.served.proofs.Queue.{none_lined, empty_none, empty_some, room_is, waits_is, front_is, popped, pushed}
use Rattle.served.proofs.Small.{length_snoc, items_snoc, one_less, bytes_tail, tail_bytes, next_byte_lem, no_bytes, no_code, polls_look, polls_quiet, polls_drained, polls_up, small_address, some_snoc, waiting_some, can_pop, can_room, can_not, unfixed, drained}
use Rattle.served.proofs.Stages.{stage_identify, stage_status, stage_next, stage_full, expects_after}
use Rattle.served.proofs.TransferScenes.{CommandPhase, first, later, body, late, Set, Hands, reads, writes, Coming, some, none, Finals, final_notes, Closes, reading, resting, Reach, loads, seeks, greets, commands, comes, goes, statuses, ends, told, calm, gone, rests}

command_at : (had : List ℕ) (b : ℕ) (rest command behind cd : List ℕ) → had ++ (b ∷ rest) ≡ command → cd ≡ command ++ behind
    → get_or cd (length had) 0 ≡ b
command_at had b rest command behind cd e f =
    rw (f, ← e, append_assoc had (b ∷ rest) behind) (get_or-append_seam had b (rest ++ behind) 0)

first_of : (command behind cd : List ℕ) → 0 < length command → cd ≡ command ++ behind → get_or cd 0 0 ≡ get_or command 0 0
first_of [] behind cd h e = absurd (omega arith)
first_of (b ∷ command) behind cd h e = rw e

module _ {s₀ : State} (j : Job) (pr : Proper s₀ j) where
  size_is : {cd : List ℕ} {lu src : ℕ} → Set j cd lu src → size_of (get_or cd 0 0) ≡ length j.command
  size_is {cd = cd} s = ap size_of (first_of j.command s.behind cd pr.command_some s.cdb) ∙ sym pr.command_sized

  pub next_is : {cd : List ℕ} {lu src : ℕ} (ph : ℕ) (had : List ℕ) (b : ℕ) (rest : List ℕ) → Set j cd lu src → CommandPhase ph (length had)
      → had ++ (b ∷ rest) ≡ j.command → stage_of true ph (size_of (get_or cd 0 0)) ≡ SendCommand (length had)
  next_is {cd = cd} ph had b rest s q e =
      let n : length had + suc (length rest) ≡ length j.command = sym (length-append had (b ∷ rest)) ∙ ap length e in
      stage_next ph (length had) _ q (omega (arith, size_is s)) (size_most (get_or cd 0 0))

  pub full_is : {cd : List ℕ} {lu src : ℕ} (ph : ℕ) (had : List ℕ) → Set j cd lu src → CommandPhase ph (length had) → had ++ [] ≡ j.command
      → stage_of true ph (size_of (get_or cd 0 0)) ≡ Body
  full_is {cd = cd} ph had s q e =
      let n : length had ≡ length j.command = ap length (sym (append-nil had) ∙ e) in
      stage_full ph (length had) _ q (omega (arith, size_is s)) (omega (arith, size_is s, pr.command_some)) (size_most (get_or cd 0 0))

  small_lun : j.unit % 8 ≡ j.unit
  small_lun = omega (arith, pr.unit_small)

  pub identify_is : {cd : List ℕ} {lu src : ℕ} → Set j cd lu src → identify (record { number = lu % 8 }) (is_on 7 src) ≡ identifies j
  unfolding identify
  identify_is s = rw (s.unit, s.er, small_lun, small_lun)

  opening_tale : {w : Way} {v : List ℕ} → Hands j w j.moved v
      → Tale (story j) (item MessageOut (identifies j) ∷ []) (items CommandOut j.command ++ (items (way_phase w) j.moved ++ close j))
  opening_tale (reads e f) = record { all = rw e }
  opening_tale (writes e f g) = record { all = rw e }

  none_in : {w : Way} {v : List ℕ} → Hands j w [] v → incoming_data j.way j.moved ≡ []
  none_in (reads e f) = rw (e, ← f)
  none_in (writes e f g) = rw e

  none_out : j.way ≡ outward → incoming_data j.way j.moved ≡ []
  none_out e = rw e

  one_in : {got : List Item} (fifo : List ℕ) (x : ℕ) (rest : List ℕ) → Coming j got fifo (x ∷ rest) → Coming j got (fifo ++ (x ∷ [])) rest
  one_in fifo x rest i =
      record {
        had = i.had;
        read = i.read;
        all = ap (λ (l : List ℕ). i.had ++ l) (append_assoc fifo (x ∷ []) rest) ∙ i.all;
        bytes = bytes_tail x rest i.bytes;
      }

  all_read : {got : List Item} → j.way ≡ inward → Coming j got [] [] → got ≡ items DataIn (incoming_data j.way j.moved)
  all_read w i = i.read ∙ (rw w (ap (items DataIn) (sym (append-nil i.had) ∙ i.all)))

  none_read : incoming_data j.way j.moved ≡ [] → [] ≡ items DataIn (incoming_data j.way j.moved)
  none_read e = rw e

  still_closes : {l : List Access} {f : Bool} {a : ℕ} {r : Registers} {n : List Note} → Closes j false l f a r n → Closes j true l f a r n
  still_closes (reading p a) = reading p a
  still_closes (resting p n) = resting (no_code p) n

  pub moved_byte : {x : ℕ} {d : List ℕ} → x ∷ d ≡ j.moved → x < 256
  moved_byte {x} {d} f = subst (λ (l : List ℕ). Bytes l) (sym f) pr.moved_bytes 0

  first_in : {x : ℕ} {d : List ℕ} → j.way ≡ inward → x ∷ d ≡ j.moved → Coming j [] (x ∷ []) d
  first_in {x} {d} w f =
      record { had = []; read = refl; all = f; bytes = bytes_tail x d (subst (λ (l : List ℕ). Bytes l) (sym f) pr.moved_bytes) }

  pub bus_step : {c : Scene} → Reach j c → Reach j (bus step (by_transfer j) c)
  unfolding steps phase_of
  bus_step (loads p a h t b) = loads p a h t b
  bus_step (seeks s p h t b) = greets s p h b
  bus_step (greets s p h b) =
      rw (stage_identify _, identify_is s) (commands [] j.command j.moved s p h b first refl (opening_tale h))
  bus_step (commands {ph = ph} had (x ∷ rest) d s p h b q e t) =
      rw (next_is ph had x rest s q e, command_at had x rest j.command s.behind _ e s.cdb)
      (commands (had ++ (x ∷ [])) rest d s p h b (later (length_snoc had x)) (append_assoc had (x ∷ []) rest ∙ e) (onto t))
  bus_step (commands {ph = ph} had [] [] s p h b q e t) =
      rw (full_is ph had s q e, lt-ltb j.status 256 pr.status_byte) (statuses (polls_up (λ k. k) (λ k. refl) p) (none (none_in h)) b (zero-add _) (onto t))
  bus_step (commands {ph = ph} had [] (x ∷ d) s p (reads w f) b q e t) =
      rw (
        full_is ph had s q e,
        lt-ltb x 256 (moved_byte f),
        ne_eqb (suc (length d) + length j.beyond) 0 (omega arith),
        room_is none_lined,
        one_less (length d) (length j.beyond),
      )
      (comes (x ∷ []) d w s (polls_up (λ k. refl) (λ k. k) p) (pushed x none_lined (omega arith)) (first_in w f) (expects_after (length d) _ ph _ (full_is ph had s q e)) (onto t))
  bus_step (commands {ph = ph} had [] (x ∷ d) s p (writes {v = v} w f g) b q e t) =
      rw (full_is ph had s q e, ne_eqb (suc (length d) + length j.beyond) 0 (omega arith))
      (goes [] (x ∷ d) v w s (polls_up (λ k. k) (λ k. absurd (false≢true k)) p) none_lined (record { line = g; bytes = b }) (body (full_is ph had s q e)) t)
  bus_step (comes fifo [] w s p n i (body e) t) =
      rw (e, lt-ltb j.status 256 pr.status_byte) (statuses (polls_up (λ k. k) (λ k. refl) p) (some fifo w n i) no_bytes (zero-add _) (onto t))
  bus_step (comes fifo [] w s p n i (late e z) t) =
      rw (e, lt-ltb j.status 256 pr.status_byte) (statuses (polls_up (λ k. k) (λ k. refl) p) (some fifo w n i) no_bytes (zero-add _) (onto t))
  bus_step (comes fifo (x ∷ rest) w s p n i (late e z) t) = absurd (omega arith)
  bus_step (comes {ph = ph} fifo (x ∷ rest) w s p n i (body e) t) =
      ⊎_elim
      (λ r.
      rw (
        e,
        lt-ltb x 256 (i.bytes 0),
        ne_eqb (suc (length rest) + length j.beyond) 0 (omega arith),
        room_is n,
        r,
        one_less (length rest) (length j.beyond),
      )
      (comes (fifo ++ (x ∷ [])) rest w s (polls_up (λ k. some_snoc fifo x) (λ k. k) p) (pushed x n (ltb-true _ _ r)) (one_in fifo x rest i) (expects_after (length rest) _ ph _ e) (onto t)))
      (λ r.
      rw (e, lt-ltb x 256 (i.bytes 0), ne_eqb (suc (length rest) + length j.beyond) 0 (omega arith), room_is n, r)
      (comes fifo (x ∷ rest) w s p n i (body e) t))
      (true_or_false (ltb (length fifo) 12))
  bus_step (goes fifo [] give w s p n i (body e) t) =
      rw (e, lt-ltb j.status 256 pr.status_byte) (statuses (polls_up (λ k. k) (λ k. refl) p) (none (none_out w)) i.bytes (zero-add _) (onto t))
  bus_step (goes fifo [] give w s p n i (late e z) t) =
      rw (e, lt-ltb j.status 256 pr.status_byte) (statuses (polls_up (λ k. k) (λ k. refl) p) (none (none_out w)) i.bytes (zero-add _) (onto t))
  bus_step (goes fifo (x ∷ rest) give w s p n i (late e z) t) = absurd (omega arith)
  bus_step (goes [] (x ∷ rest) give w s p n i (body e) t) =
      rw (e, ne_eqb (suc (length rest) + length j.beyond) 0 (omega arith), empty_none n) (goes [] (x ∷ rest) give w s p n i (body e) t)
  bus_step (goes {ph = ph} (y ∷ fifo) (x ∷ rest) give w s p n i (body e) t) =
      rw (
        e,
        ne_eqb (suc (length rest) + length j.beyond) 0 (omega arith),
        empty_some n,
        front_is n,
        (one_out i).0,
        one_less (length rest) (length j.beyond),
      )
      (goes fifo rest give w s (polls_up (λ k. k) (can_pop y fifo give) p) (popped n) (one_out i).1 (expects_after (length rest) _ ph _ e) (onto t))
  bus_step (statuses p (some [] w n i) b z t) =
      rw (stage_status _, empty_none n, t.all) (told (no_code p) (drained (empty_none n)) (all_read w i) b z)
  bus_step (statuses p (some (x ∷ fifo) w n i) b z t) =
      rw (stage_status _, empty_some n, t.all) (ends fifo p w n i b z)
  bus_step (statuses p (none e) b z t) = rw (stage_status _, t.all) (told (no_code p) unfixed (none_read e) b z)
  bus_step (ends fifo p w n i b z) = ends fifo p w n i b z
  bus_step (told p q e b z) = told p q e b z
  bus_step (calm k unfixed e b) = gone (still_closes k) unfixed e b
  bus_step (calm k (drained f) e b) = gone (still_closes k) (drained f) e b
  bus_step (gone k q e b) = gone k q e b
  bus_step (rests p n q e b) = rests p n q e b

  unmoved : (n : ℕ) (s : State) (h : Host) (t : Target) → is_selecting s.wire.connection ≡ false → Reach j (the_scene s h t)
      → Reach j (passing step (by_transfer j) n (the_scene s h t))
  unmoved n s h t f r = subst (λ (c : Scene). Reach j c) (sym (still (by_transfer j) n s h t f)) r

  -- while it is being selected, the Target lets time pass within its patience, or answers
  pub pass_step : (n : ℕ) {c : Scene} → Reach j c → Reach j (passing step (by_transfer j) n c)
  unfolding steps
  pass_step n (seeks {pa = pa} {el = el} {tm = tm} s p h t b) =
      ⊎_elim
      (λ r.
      ⊎_elim
      (λ u.
      ⊎_elim
      (λ z. rw r (rw u (rw (eq-eqb tm 0 z) (seeks s p h (spare_on n t (ltb-true n pa r)) b))))
      (λ z.
      rw r
      (rw u
      (rw (ne_eqb tm 0 (omega (arith, z, ltb-true n pa r)), lt-leb tm (el + n) (omega (arith, z, ltb-true n pa r)))
      (seeks s p h (spare_less el pa n z (ltb-true n pa r)) b))))
      t.time)
      (λ u. rw r (rw u (seeks s p h (spare_on n t (ltb-true n pa r)) b)))
      (true_or_false (ltb n 256)))
      (λ r. rw r (greets s p h b))
      (true_or_false (ltb n pa))
  pass_step n (loads p a h t b) = unmoved n _ _ _ refl (loads p a h t b)
  pass_step n (greets s p h b) = unmoved n _ _ _ refl (greets s p h b)
  pass_step n (commands had rest d s p h b q e t) = unmoved n _ _ _ refl (commands had rest d s p h b q e t)
  pass_step n (comes fifo rest w s p q i x t) = unmoved n _ _ _ refl (comes fifo rest w s p q i x t)
  pass_step n (goes fifo rest give w s p q i x t) = unmoved n _ _ _ refl (goes fifo rest give w s p q i x t)
  pass_step n (statuses p f b z t) = unmoved n _ _ _ refl (statuses p f b z t)
  pass_step n (ends fifo p w q i b z) = unmoved n _ _ _ refl (ends fifo p w q i b z)
  pass_step n (told p q e b z) = unmoved n _ _ _ refl (told p q e b z)
  pass_step n (calm k q e b) = unmoved n _ _ _ refl (calm k q e b)
  pass_step n (gone k q e b) = unmoved n _ _ _ refl (gone k q e b)
  pass_step n (rests p m q e b) = unmoved n _ _ _ refl (rests p m q e b)

  one_read : {got : List Item} (x : ℕ) (fifo rest : List ℕ) → Coming j got (x ∷ fifo) rest → Coming j (got ++ (item DataIn x ∷ [])) fifo rest
  one_read x fifo rest i =
      record {
        had = i.had ++ (x ∷ []);
        read = ap (λ (l : List Item). l ++ (item DataIn x ∷ [])) i.read ∙ sym (items_snoc DataIn i.had x);
        all = append_assoc i.had (x ∷ []) (fifo ++ rest) ∙ i.all;
        bytes = i.bytes;
      }

  pub has_size_lem : {cd : List ℕ} {lu src : ℕ} → Set j cd lu src → 0 < size_of (get_or cd 0 0)
  has_size_lem s = omega (arith, size_is s, pr.command_some)

  one_taken : {got : List Item} (x : ℕ) (fifo : List ℕ) → Coming j got (x ∷ fifo) [] → Coming j (got ++ (item DataIn x ∷ [])) fifo []
  one_taken x fifo i = one_read x fifo [] i

  pub closes_on : {i : Bool} {l : List Access} {a : ℕ} {r : Registers} {n : List Note} → Plays [] (Finals j) l r n → Closes j i l false a r n
  closes_on (over g) = resting look g
  closes_on (puts u k p) = reading (puts u k p) before
  closes_on (gets u p) = reading (gets u p) before

  pub final_plays : (r : Registers) → r.descriptor.lun ≡ j.status → r.count ≡ length j.beyond → Plays [] (Finals j) (get 0x0F ∷ count_gets) r []
  unfolding register_at pick
  final_plays r e f =
      gets {a = 0x0F} (omega arith)
      (gets {a = 0x12} (omega arith)
      (gets {a = 0x13} (omega arith) (gets {a = 0x14} (omega arith) (over (record { notes = notes_are })))))
    where
      n : ℕ
      n = length j.beyond

      high : n / 65536 % 256 ≡ n / 65536
      high = omega (arith, pr.count_fits)

      notes_are : note 0x0F r.descriptor.lun ∷ note 0x12 (r.count / 65536 % 256) ∷ note 0x13 (r.count / 256 % 256) ∷ note 0x14 (r.count % 256) ∷ [] ≡ final_notes j
      notes_are = rw (e, f, high)

  pub work_step : {c : Scene} → Reach j c → Reach j (access step (by_transfer j) c)
  unfolding steps
  work_step (loads (over g) before h t b) = loads (over g) aimed h t b
  work_step (loads (over {r = r} g) aimed h t b) =
      rw (lt-ltb 0 (size_of (get_or r.descriptor.cdb 0 0)) (has_size_lem g.set), g.count, g.none)
      (seeks g.set look h (spared_at g.timeout t) b)
  work_step (loads (puts {a = a} {b = x} u k p) before h t b) = rw (lt-ltb a 256 (omega arith)) (loads (puts u k p) aimed h t b)
  work_step (loads (puts {a = a} {b = x} u k p) aimed h t b) =
      rw (lt-ltb x 256 k, lt-leb 0x1A a (omega arith), ne_eqb a 0x17 (omega arith), ne_eqb a 0x18 (omega arith), ne_eqb a 0x19 (omega arith), stored_is) (loads p before h t b)
  work_step (loads (gets {a = a} u p) before h t b) = rw (lt-ltb a 256 (omega arith)) (loads (gets u p) aimed h t b)
  work_step (loads (gets {a = a} u p) aimed h t b) = rw (lt-leb 0x1A a (omega arith), ne_eqb a 0x17 (omega arith), ne_eqb a 0x18 (omega arith), ne_eqb a 0x19 (omega arith)) (loads p before h t b)
  work_step (seeks s look h t b) = seeks s (polls_quiet _ _ _ _ _ _) h t b
  work_step (seeks s (seen k) h t b) = rw (small_address k) (seeks s (ready k) h t b)
  work_step (seeks s (ready (taken k)) h t b) = absurd (false≢true k)
  work_step (seeks s (ready (sent k)) h t b) = absurd (false≢true k)
  work_step (greets s look h b) = greets s (polls_quiet _ _ _ _ _ _) h b
  work_step (greets s (seen k) h b) = rw (small_address k) (greets s (ready k) h b)
  work_step (greets s (ready (taken k)) h b) = absurd (false≢true k)
  work_step (greets s (ready (sent k)) h b) = absurd (false≢true k)
  work_step (commands had rest d s look h b q e t) = commands had rest d s (polls_quiet _ _ _ _ _ _) h b q e t
  work_step (commands had rest d s (seen k) h b q e t) = rw (small_address k) (commands had rest d s (ready k) h b q e t)
  work_step (commands had rest d s (ready (taken k)) h b q e t) = absurd (false≢true k)
  work_step (commands had rest d s (ready (sent k)) h b q e t) = absurd (false≢true k)
  work_step (comes fifo rest w s look n i x t) =
      comes fifo rest w s (polls_look _ _ _ _ _ _ _ (λ u c. waiting_some fifo n u) (λ u c. absurd (true≢false c))) n i x t
  work_step (comes fifo rest w s (seen k) n i x t) = rw (small_address k) (comes fifo rest w s (ready k) n i x t)
  work_step (comes [] rest w s (ready (taken k)) n i x t) = absurd (false≢true k)
  work_step (comes (y ∷ []) rest w s (ready (taken k)) n i x t) =
      rw (empty_some n, front_is n, empty_none (popped n)) (comes [] rest w s look (popped n) (one_read y [] rest i) x t)
  work_step (comes (y ∷ z ∷ fifo) rest w s (ready (taken k)) n i x t) =
      rw (empty_some n, front_is n, empty_some (popped n)) (comes (z ∷ fifo) rest w s look (popped n) (one_read y (z ∷ fifo) rest i) x t)
  work_step (comes fifo rest w s (ready (sent k)) n i x t) = absurd (false≢true k)
  work_step (goes fifo rest give w s look n i x t) =
      goes fifo rest give w s (polls_look _ _ _ _ _ _ _ (λ u c. absurd (false≢true c)) (λ u c. sending_can _ give i n u)) n i x t
  work_step (goes fifo rest give w s (seen k) n i x t) = rw (small_address k) (goes fifo rest give w s (ready k) n i x t)
  work_step (goes fifo rest give w s (ready (taken k)) n i x t) = absurd (false≢true k)
  work_step (goes fifo rest [] w s (ready (sent k)) n i x t) = can_not fifo k
  work_step (goes fifo rest (y ∷ give) w s (ready (sent k)) n i x t) =
      rw (lt-ltb y 256 (i.bytes 0), waits_is n, owed_out i, room_is n)
      (rw (lt-ltb (length fifo) 12 (can_room fifo (y ∷ give) k))
      (goes (fifo ++ (y ∷ [])) rest give w s look (pushed y n (can_room fifo (y ∷ give) k)) (one_more i) x t))
  work_step (statuses look (some fifo w n i) b z t) =
      statuses (polls_look _ _ _ _ _ _ _ (λ u c. waiting_some fifo n u) (λ u c. refl)) (some fifo w n i) b z t
  work_step (statuses look (none e) b z t) = statuses (polls_quiet _ _ _ _ _ _) (none e) b z t
  work_step (statuses (seen k) f b z t) = rw (small_address k) (statuses (ready k) f b z t)
  work_step (statuses (ready (taken k)) (some [] w n i) b z t) = absurd (false≢true k)
  work_step (statuses (ready (taken k)) (some (y ∷ []) w n i) b z t) =
      rw (empty_some n, front_is n, empty_none (popped n)) (statuses look (some [] w (popped n) (one_taken y [] i)) b z t)
  work_step (statuses (ready (taken k)) (some (y ∷ x ∷ fifo) w n i) b z t) =
      rw (empty_some n, front_is n, empty_some (popped n)) (statuses look (some (x ∷ fifo) w (popped n) (one_taken y (x ∷ fifo) i)) b z t)
  work_step (statuses (ready (taken k)) (none e) b z t) = absurd (false≢true k)
  work_step (statuses {v = v} (ready (sent k)) (some fifo w n i) b z t) = rw (next_byte_lem v b) (statuses look (some fifo w n i) (tail_bytes v b) z t)
  work_step (statuses {v = v} (ready (sent k)) (none e) b z t) = rw (next_byte_lem v b) (statuses look (none e) (tail_bytes v b) z t)
  work_step (ends fifo look w n i b z) = ends fifo (polls_look _ _ _ _ _ _ _ (λ u c. refl) (λ u c. refl)) w n i b z
  work_step (ends fifo (seen k) w n i b z) = rw (small_address k) (ends fifo (ready k) w n i b z)
  work_step (ends [] (ready (taken k)) w n i b z) =
      rw (empty_some n, front_is n, empty_none (popped n)) (told look (drained (empty_none (popped n))) (all_read w (one_taken _ [] i)) b z)
  work_step (ends (y ∷ fifo) (ready (taken k)) w n i b z) =
      rw (empty_some n, front_is n, empty_some (popped n)) (ends fifo look w (popped n) (one_taken _ (y ∷ fifo) i) b z)
  work_step (ends {v = v} fifo (ready (sent k)) w n i b z) = rw (next_byte_lem v b) (ends fifo look w n i (tail_bytes v b) z)
  work_step (told look unfixed e b z) = told (polls_quiet _ _ _ _ _ _) unfixed e b z
  work_step (told {v = v} (ready (sent k)) unfixed e b z) = rw (next_byte_lem v b) (told look unfixed e (tail_bytes v b) z)
  work_step (told look (drained f) e b z) = told (polls_drained _ _ _ _ _ _ _ f) (drained f) e b z
  work_step (told {v = v} (ready (sent k)) (drained f) e b z) = rw (next_byte_lem v b) (told look (drained f) e (tail_bytes v b) z)
  work_step (told (seen k) q e b z) = rw (small_address k) (told (ready k) q e b z)
  work_step (told (ready (taken k)) q e b z) = absurd (false≢true k)
  work_step (told (ready coded) q e b z) = calm (reading (final_plays _ refl z) before) q e b
  work_step (calm (reading (puts {a = a} {b = x} u k p) before) q e b) = rw (lt-ltb a 256 (omega arith)) (calm (reading (puts u k p) aimed) q e b)
  work_step (calm (reading (puts {a = a} {b = x} u k p) aimed) q e b) =
      rw (lt-ltb x 256 k, lt-leb 0x1A a (omega arith), ne_eqb a 0x17 (omega arith), ne_eqb a 0x18 (omega arith), ne_eqb a 0x19 (omega arith), stored_is) (calm (closes_on p) q e b)
  work_step (calm (reading (gets {a = a} u p) before) q e b) = rw (lt-ltb a 256 (omega arith)) (calm (reading (gets u p) aimed) q e b)
  work_step (calm (reading (gets {a = a} u p) aimed) q e b) = rw (lt-leb 0x1A a (omega arith), ne_eqb a 0x17 (omega arith), ne_eqb a 0x18 (omega arith), ne_eqb a 0x19 (omega arith)) (calm (closes_on p) q e b)
  work_step (calm (resting look n) unfixed e b) = calm (resting (polls_quiet _ _ _ _ _ _) n) unfixed e b
  work_step (calm {v = v} (resting (ready (sent k)) n) unfixed e b) = rw (next_byte_lem v b) (calm (resting look n) unfixed e (tail_bytes v b))
  work_step (calm (resting look n) (drained f) e b) = calm (resting (polls_drained _ _ _ _ _ _ _ f) n) (drained f) e b
  work_step (calm {v = v} (resting (ready (sent k)) n) (drained f) e b) = rw (next_byte_lem v b) (calm (resting look n) (drained f) e (tail_bytes v b))
  work_step (calm (resting (seen k) n) q e b) = rw (small_address k) (calm (resting (ready k) n) q e b)
  work_step (calm (resting (ready (taken k)) n) q e b) = absurd (false≢true k)
  work_step (gone (reading (puts {a = a} {b = x} u k p) before) q e b) = rw (lt-ltb a 256 (omega arith)) (gone (reading (puts u k p) aimed) q e b)
  work_step (gone (reading (puts {a = a} {b = x} u k p) aimed) q e b) =
      rw (lt-ltb x 256 k, lt-leb 0x1A a (omega arith), ne_eqb a 0x17 (omega arith), ne_eqb a 0x18 (omega arith), ne_eqb a 0x19 (omega arith), stored_is) (gone (closes_on p) q e b)
  work_step (gone (reading (gets {a = a} u p) before) q e b) = rw (lt-ltb a 256 (omega arith)) (gone (reading (gets u p) aimed) q e b)
  work_step (gone (reading (gets {a = a} u p) aimed) q e b) = rw (lt-leb 0x1A a (omega arith), ne_eqb a 0x17 (omega arith), ne_eqb a 0x18 (omega arith), ne_eqb a 0x19 (omega arith)) (gone (closes_on p) q e b)
  work_step (gone (resting look n) unfixed e b) = gone (resting (polls_quiet _ _ _ _ _ _) n) unfixed e b
  work_step (gone {v = v} (resting (ready (sent k)) n) unfixed e b) = rw (next_byte_lem v b) (gone (resting look n) unfixed e (tail_bytes v b))
  work_step (gone (resting look n) (drained f) e b) = gone (resting (polls_drained _ _ _ _ _ _ _ f) n) (drained f) e b
  work_step (gone {v = v} (resting (ready (sent k)) n) (drained f) e b) = rw (next_byte_lem v b) (gone (resting look n) (drained f) e (tail_bytes v b))
  work_step (gone (resting (seen k) n) q e b) = rw (small_address k) (gone (resting (ready k) n) q e b)
  work_step (gone (resting (ready (taken k)) n) q e b) = absurd (false≢true k)
  work_step (gone (resting (ready coded) n) q e b) = rests look n q e b
  work_step (rests look n unfixed e b) = rests (polls_quiet _ _ _ _ _ _) n unfixed e b
  work_step (rests {v = v} (ready (sent k)) n unfixed e b) = rw (next_byte_lem v b) (rests look n unfixed e (tail_bytes v b))
  work_step (rests look n (drained f) e b) = rests (polls_drained _ _ _ _ _ _ _ f) n (drained f) e b
  work_step (rests {v = v} (ready (sent k)) n (drained f) e b) = rw (next_byte_lem v b) (rests look n (drained f) e (tail_bytes v b))
  work_step (rests (seen k) n q e b) = rw (small_address k) (rests (ready k) n q e b)
  work_step (rests (ready (taken k)) n q e b) = absurd (false≢true k)
