-- The third demand of the chip's step.
--   demand   for every earlier life of the controller, every job, and every schedule of each host
use mathlib.Core.Path.{◌≡◌, refl, sym, ◌∙◌, ap, subst}
use mathlib.Core.Bool.{true, false}
use mathlib.Core.List.{List, [], ◌∷◌, ◌++◌, append-nil}
use mathlib.Core.Logic.{◌⊎◌, inl, inr, ⊎_elim}
use Prim.Native.Nat.{ℕ, ◌+◌, ◌-◌, ◌/◌, ◌%◌, ◌≤◌}
use native.Mathlib.Omega.{arith}
use lib.ListN.{length}
use borrow.Author.Tests.{eq-eqb}
use Rattle.chip.specs.Choice.{pick}
use Rattle.chip.specs.Phases.{phase_number, comes_in}
use Rattle.chip.specs.Calls.{step, run}
use Rattle.chip.specs.State.{fresh}
use Rattle.chip.specs.declared.State.{State}
use Rattle.chip.specs.declared.Activity.TheVariants.{Idle}
use Rattle.chip.specs.declared.Connection.TheVariants.{Disconnected}
use Rattle.chip.specs.declared.Phase.{Phase}
use Rattle.chip.specs.declared.Phase.TheVariants.{DataOut, DataIn, CommandOut, StatusIn, MessageOut, MessageIn}
use Rattle.story.specs.Story.{Item, item, items, Way, inward, outward, way_phase, Job, loaded, story, Proper}
use Rattle.story.specs.Hosts.{Note, Host, sent_by, by_transfer, by_phases}
use Rattle.story.specs.Schedule.{calling, Scene, Move}
use Rattle.story.specs.Demand.{InTime, bytes_of, notes_at, status_held, count_held, count_bytes, incoming_data, opening, Promise, scene_a, scene_b, Demand3, Demand}
use Rattle.served.proofs.Parts.{kept_of, the_status, the_transfer, the_wire, the_state, the_host, the_target, the_scene, before}
use Rattle.served.proofs.Small.{no_bytes}
use Rattle.served.proofs.Start.{Apart, apart, transfer_plays, phases_plays}
use Rattle.served.proofs.Phases.{segs_of, segs, told, good, notes_some, bytes_append}
use Rattle.served.proofs.PhaseScenes.{flat, ins, notes_after, begins}
use Rattle.served.proofs.PhaseScenes as B
use Rattle.served.proofs.PhaseServes as BS
use Rattle.served.proofs.PhasePromise as BP
use Rattle.served.proofs.TransferScenes as A
use Rattle.served.proofs.TransferServes as AS

-- the state with what is known of it put in
module _ (s : State) (a : Apart s) where
  abbrev plain : State
  plain =
      the_state s.registers (the_status s.status.pointer s.status.code s.status.command s.status.lci s.status.pe) Idle s.fifo
      (the_transfer s.transfer.direction s.transfer.single)
      (the_wire Disconnected s.wire.handshake.atn false s.wire.seen.reported s.wire.seen.last (kept_of s) s.wire.elapsed)

  is_plain_lem : s ≡ plain
  is_plain_lem =
      λ x.
      the_state s.registers (the_status s.status.pointer s.status.code s.status.command s.status.lci s.status.pe) (a.activity x) s.fifo
      (the_transfer s.transfer.direction s.transfer.single)
      (the_wire (a.connection x) s.wire.handshake.atn (a.ack x) s.wire.seen.reported s.wire.seen.last (kept_of s) s.wire.elapsed)

module _ {s₀ : State} (j : Job) (pr : Proper s₀ j) (s : State) (a : Apart s) (patience : ℕ) (t : InTime j.timeout patience) where
  spared : (j.timeout ≡ 0) ⊎ (0 + patience ≤ j.timeout)
  spared = ⊎_elim (λ e. inl e) (λ e. inr (omega arith)) t

  -- ---- the Select-And-Transfer host

  begins_a : (w : Way) → j.way ≡ w
      → A.Reach j
      (the_scene (plain s a) (the_host (by_transfer j).first false (way_phase w) (sent_by w (j.moved ++ j.beyond)) [] [])
      (the_target calling patience [] (A.story_of j w)))
  begins_a inward e =
      A.loads (transfer_plays j pr s.registers a.cdb) before (A.reads e refl) (record { time = spared }) no_bytes
  begins_a outward e =
      A.loads (transfer_plays j pr s.registers a.cdb) before (A.writes e refl refl) (record { time = spared })
      (bytes_append j.moved j.beyond pr.moved_bytes pr.beyond_bytes)

  reach_a : A.Reach j (opening step j (by_transfer j) patience s)
  reach_a = subst (λ (x : State). A.Reach j (opening step j (by_transfer j) patience x)) (sym (is_plain_lem s a)) (begins_a j.way refl)

  promise_a : (l : List Move) → Promise step j (by_transfer j) (scene_a step j s patience l)
  promise_a l = AS.serves j pr l reach_a

  -- ---- the phase by phase host

  abbrev total : List Note
  total = notes_after (segs j)

  begins_b : B.Reach j (story j) total
      (the_scene (plain s a) (the_host (by_phases j).first false MessageOut [] [] []) (the_target calling patience [] (flat (segs j))))
  begins_b =
      begins
      (B.loads (phases_plays j pr (story j) total s.registers) before a.quiet (record { time = spared }) (good j pr (story j) total) (record { all = refl })
      (record { all = told j }))

  reach_b : B.Reach j (story j) total (opening step j (by_phases j) patience s)
  reach_b =
      subst (λ (x : State). B.Reach j (story j) total (opening step j (by_phases j) patience x)) (sym (is_plain_lem s a))
      (subst
      (λ (l : List Item).
      B.Reach j (story j) total (the_scene (plain s a) (the_host (by_phases j).first false MessageOut [] [] []) (the_target calling patience [] l)))
      (told j) begins_b)

  -- of what came in, the bytes of a phase

  skip_ins : (p : Phase) → comes_in p ≡ false → (l : List ℕ) (r : List Item) → ins (items p l ++ r) ≡ ins r
  unfolding pick
  skip_ins p e [] r = refl
  skip_ins p e (b ∷ l) r = rw e (skip_ins p e l r)

  keep_ins : (p : Phase) → comes_in p ≡ true → (l : List ℕ) (r : List Item) → ins (items p l ++ r) ≡ items p l ++ ins r
  unfolding pick
  keep_ins p e [] r = refl
  keep_ins p e (b ∷ l) r = rw e (ap (λ (x : List Item). item p b ∷ x) (keep_ins p e l r))

  keep_bytes : (p : Phase) (l : List ℕ) (r : List Item) → bytes_of p (items p l ++ r) ≡ l ++ bytes_of p r
  unfolding pick
  keep_bytes p [] r = refl
  keep_bytes p (b ∷ l) r = rw (eq-eqb (phase_number p) (phase_number p) refl) (ap (λ (x : List ℕ). b ∷ x) (keep_bytes p l r))

  skip_data : (l : List ℕ) (r : List Item) → bytes_of StatusIn (items DataIn l ++ r) ≡ bytes_of StatusIn r
  unfolding pick
  skip_data [] r = refl
  skip_data (b ∷ l) r = skip_data l r

  ins_of : (w : Way) → j.way ≡ w → ins (story j) ≡ items DataIn (incoming_data w j.moved) ++ (item StatusIn j.status ∷ item MessageIn 0x00 ∷ [])
  unfolding pick
  ins_of inward e = rw (e, skip_ins CommandOut refl j.command, keep_ins DataIn refl j.moved)
  ins_of outward e = rw (e, skip_ins CommandOut refl j.command, skip_ins DataOut refl j.moved)

  heard_data : bytes_of DataIn (ins (story j)) ≡ incoming_data j.way j.moved
  unfolding pick
  heard_data = rw (ins_of j.way refl) (keep_bytes DataIn (incoming_data j.way j.moved) _ ∙ append-nil _)

  heard_status : bytes_of StatusIn (ins (story j)) ≡ j.status ∷ []
  unfolding pick
  heard_status = rw (ins_of j.way refl) (skip_data (incoming_data j.way j.moved) _)

  no_status_note : (w : Way) (dat : List ℕ) → notes_at 0x0F (notes_after (segs_of j w j.command dat)) ≡ []
  unfolding pick
  no_status_note inward [] = refl
  no_status_note outward [] = refl
  no_status_note inward (b ∷ dat) = refl
  no_status_note outward (b ∷ dat) = refl

  status_b : (h : Host) → h.got ≡ ins (story j) → h.noted ≡ total → status_held h ≡ j.status ∷ []
  status_b h e f = rw (e, f, heard_status, no_status_note j.way j.moved)

  count_b : (h : Host) → h.noted ≡ total → 1 ≤ length j.moved → count_held h ≡ count_bytes (loaded j - length j.moved)
  unfolding pick
  count_b h f k =
      let n : loaded j - length j.moved ≡ length j.beyond = omega arith in
      let high : length j.beyond / 65536 % 256 ≡ length j.beyond / 65536 = omega (arith, pr.count_fits) in
      rw (f ∙ notes_some j k, n, high)

  promised_b : {c : Scene} → B.Reach j (story j) total c → Promise step j (by_phases j) c
  promised_b {c} r =
      record {
        so_far = BP.so_far j (story j) total r;
        all = λ y. (BP.held j (story j) total r y).log;
        data_in = λ y. ap (bytes_of DataIn) (BP.held j (story j) total r y).got ∙ heard_data;
        status = λ y. let k = BP.held j (story j) total r y.free in status_b c.host k.got k.noted;
        count = λ y m. count_b c.host (BP.held j (story j) total r y.free).noted m;
        on = BS.brought j (story j) total r;
      }

  promise_b : (l : List Move) → Promise step j (by_phases j) (scene_b step j s patience l)
  promise_b l = promised_b (BP.after_moves j (story j) total l reach_b)

  pub both_hosts : (la lb : List Move) → Demand3 step j s patience la lb
  both_hosts la lb =
      let x = promise_a la in
      let y = promise_b lb in
      record {
        for_transfer = x;
        for_phases = y;
        same =
            λ f g.
            record {
              the_data = x.data_in f.free ∙ sym (y.data_in g.free);
              the_status = x.status f ∙ sym (y.status g);
              the_count = λ k. x.count f k ∙ sym (y.count g k);
            };
      }

pub demand : Demand step
demand earlier j patience la lb pr st t = both_hosts j pr (run step earlier fresh) (apart earlier st) patience t la lb
