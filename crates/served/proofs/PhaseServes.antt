-- The demand for the host that serves phase by phase, from every scene that can be reached.
--   brought   the Target is brought on
--   serves    the promise, after every schedule, where the phases are the story
use Rattle.std.specs.Prelude.{Option, None, Some}
use mathlib.Core.Path.{◌≡◌, refl}
use mathlib.Core.Bool.{Bool, true, false}
use mathlib.Core.List.{List, [], ◌∷◌, ◌++◌}
use mathlib.Core.Logic.{⊎_elim}
use Prim.Native.Nat.{ℕ, suc, ◌+◌, ◌<◌}
use native.Mathlib.Omega.{arith}
use lib.Dec.{ltb, eqb}
use lib.ListN.{length}
use borrow.Author.Tests.{lt-ltb, ne_eqb}
use Rattle.chip.proofs.Cases.{true_or_false}
use Rattle.chip.specs.Calls.{step}
use Rattle.chip.specs.Phases.{comes_in, is_message_in}
use Rattle.chip.specs.declared.Registers.{Registers}
use Rattle.chip.specs.declared.Transfer.{Transfer}
use Rattle.chip.specs.declared.Fifo.{Fifo}
use Rattle.chip.specs.declared.Connection.TheVariants.{Disconnected, Connected}
use Rattle.chip.specs.declared.Command.{Command}
use Rattle.chip.specs.declared.Command.TheVariants.{TransferInfo}
use Rattle.chip.specs.declared.Activity.{Activity}
use Rattle.chip.specs.declared.Activity.TheVariants.{Idle, Interrupt, Runs, Ends}
use Rattle.chip.specs.declared.Direction.{Direction}
use Rattle.chip.specs.declared.Direction.TheVariants.{In, Out}
use Rattle.chip.specs.declared.Phase.{Phase}
use Rattle.chip.specs.declared.Phase.TheVariants.{MessageOut, MessageIn}
use Rattle.reached.specs.Sound.{Resting, unasked, told}
use Rattle.story.specs.Story.{Item, item, Job}
use Rattle.story.specs.Hosts.{Access, put, Note, Host, give_for, serving, by_phases}
use Rattle.story.specs.Schedule.{calling, talking, away, Scene, bus, Brought, now}
use Rattle.story.proofs.Opening.{scenes}
use Rattle.served.proofs.Opening.{steps}
use Rattle.served.proofs.Parts.{Kept, the_registers, the_status, the_transfer, the_wire, the_state, the_host, the_target, the_scene, Plays, over, puts, gets}
use Rattle.served.proofs.Queue.{Lined, none_lined, empty_none, empty_some, room_is, waits_is, front_is, fits, popped, pushed}
use Rattle.served.proofs.Small.{asked_is, Quiet, unfixed, drained}
use Rattle.served.proofs.Accesses.{put_done, get_done, wait_at, at_once, Attends, attend, attend_at, bus_idle, none_left}
use Rattle.served.proofs.Going.{Going, owed_out}
use Rattle.served.proofs.Polling.{any_poll}
use Rattle.served.proofs.PhaseFacts.{phase_round, phase_small, same_phase_lem, shown_byte, single_info, heard_11, heard_20, heard_85, heard_named, good_byte, noting_on, plays_phase}
use Rattle.served.proofs.PhaseScenes.{Seg, seg, flat, notes_of, notes_after, Names, Good, last, more, After, next, Noting, Ready, Counted, polls, Begins, Sends, Takes, Closes, Drains, Reach, begins, sending, taking, closing, draining, ends, loads, seeks, greets, waits, named, sends, takes, closes, drains, pauses, paused, calm, gone, rests}
use Rattle.served.proofs.PhaseScenes as S
use Rattle.served.proofs.PhaseSteps.{good_small}

module _ (j : Job) (whole : List Item) (total : List Note) where
  abbrev B : Scene → Type 0
  B c = Brought step (by_phases j) c

  -- a phase that is reported is Held while no command runs, its code read or not
  bus_named : (r : Registers) (x c m : ℕ) (l e : Bool) (q : Fifo) (d : Direction) (o at : Bool) (ls : Option Phase) (id : Kept) (el : ℕ) (h : Host)
      (pa : ℕ) (log : List Item) {act : Activity} {p : Phase} {bs y : List ℕ} {g : List Seg}
      → Resting act
      → Good j whole total (seg p bs y ∷ g)
      → bus step (by_phases j)
      (the_scene (the_state r (the_status x c m l e) act q (the_transfer d o) (the_wire Connected at false (Some p) ls id el)) h
      (the_target talking pa log (flat (seg p bs y ∷ g))))
      ≡ the_scene (the_state r (the_status x c m l e) act q (the_transfer d o) (the_wire Connected at false (Some p) ls id el)) h
      (the_target talking pa log (flat (seg p bs y ∷ g)))
  unfolding steps
  bus_named r x c m l e q d o at ls id el h pa log unasked (last k) = rw (lt-ltb _ 256 k, phase_round MessageIn)
  bus_named r x c m l e q d o at ls id el h pa log told (last k) = rw (lt-ltb _ 256 k, phase_round MessageIn)
  bus_named r x c m l e q d o at ls id el h pa log unasked (more {p = ph} {b = b} f a z g) =
      rw (phase_small ph, shown_byte (comes_in ph) b (f.bytes 0), phase_round ph, same_phase_lem ph)
  bus_named r x c m l e q d o at ls id el h pa log told (more {p = ph} {b = b} f a z g) =
      rw (phase_small ph, shown_byte (comes_in ph) b (f.bytes 0), phase_round ph, same_phase_lem ph)

  -- a phase goes out
  give_on : {c m x pa el ow ct tm lu ph sy ds sr : ℕ} {l e at : Bool} {q : Fifo} {ls : Option Phase} {id : Kept} {cd y : List ℕ}
      {t : List Item} {p : Phase} {log got : List Item} {n : List Note} (z b : ℕ) (rest give : List ℕ)
      → comes_in p ≡ false
      → Lined q []
      → Going [] (b ∷ rest) (z ∷ give) y
      → Attends (by_phases j)
      (the_scene
      (the_state (the_registers ow ct tm cd lu ph sy (length (b ∷ rest) + length y) ds sr) (the_status x c m l e) (Runs TransferInfo) q (the_transfer Out false)
      (the_wire Connected at false (Some p) ls id el)) (the_host [] false p (z ∷ give) got n) (the_target talking pa log (item p b ∷ t)))
  unfolding steps
  give_on {y = y} {p = p} z b rest give e k s =
      record {
        asks = rw (asked_is, waits_is k, owed_out s, room_is k);
        on =
            rw (asked_is, waits_is k, owed_out s, room_is k)
            (rw e
            (rw (lt-ltb z 256 (s.bytes 0), waits_is k, owed_out s, room_is k)
            (at_once (by_phases j) _
            (rw (phase_small p, phase_round p, e, same_phase_lem p, ne_eqb (suc (length rest) + length y) 0 (omega arith), empty_some (pushed z k (omega arith)))))));
      }

  send_on : {c m x pa el ow ct tm lu ph sy ds sr : ℕ} {l e at : Bool} {q : Fifo} {ls : Option Phase} {id : Kept} {cd y : List ℕ}
      {t : List Item} {p : Phase} {log got : List Item} {n : List Note} (fifo : List ℕ) (b : ℕ) (rest give : List ℕ)
      → comes_in p ≡ false
      → Lined q fifo
      → Going fifo (b ∷ rest) give y
      → B
      (the_scene
      (the_state (the_registers ow ct tm cd lu ph sy (length (b ∷ rest) + length y) ds sr) (the_status x c m l e) (Runs TransferInfo) q (the_transfer Out false)
      (the_wire Connected at false (Some p) ls id el)) (the_host [] false p give got n) (the_target talking pa log (item p b ∷ t)))
  unfolding steps
  send_on {y = y} {p = p} (z ∷ fifo) b rest give e k s =
      at_once (by_phases j) _ (rw (phase_small p, phase_round p, e, same_phase_lem p, ne_eqb (suc (length rest) + length y) 0 (omega arith), empty_some k))
  send_on {y = y} [] b rest [] e k s = absurd (none_left rest y s.line)
  send_on {y = y} {p = p} [] b rest (z ∷ give) e k s =
      attend (by_phases j) _
      (rw (phase_small p, phase_round p, e, same_phase_lem p, ne_eqb (suc (length rest) + length y) 0 (omega arith), empty_none k)
      (give_on z b rest give e k s))

  -- a phase comes in
  read_on : {c m x pa el ow ct tm lu ph sy ds sr : ℕ} {l e at : Bool} {q : Fifo} {ls : Option Phase} {id : Kept} {cd v : List ℕ}
      {t : List Item} {p : Phase} {log got : List Item} {n : List Note} (z u : ℕ) (fifo : List ℕ) (b : ℕ) (rest y : List ℕ)
      → comes_in p ≡ true
      → is_message_in p ≡ false
      → Lined q (z ∷ u ∷ fifo)
      → b < 256
      → Attends (by_phases j)
      (the_scene
      (the_state (the_registers ow ct tm cd lu ph sy (length (b ∷ rest) + length y) ds sr) (the_status x c m l e) (Runs TransferInfo) q (the_transfer In false)
      (the_wire Connected at false (Some p) ls id el)) (the_host [] false p v got n) (the_target talking pa log (item p b ∷ t)))
  unfolding steps
  read_on {p = p} z u fifo b rest y e i k h =
      record {
        asks = rw (asked_is, empty_some k);
        on =
            rw (asked_is, empty_some k)
            (rw e
            (rw (empty_some k, front_is k, empty_some (popped k))
            (at_once (by_phases j) _
            (rw (
              phase_small p,
              phase_round p,
              e,
              lt-ltb b 256 h,
              same_phase_lem p,
              ne_eqb (suc (length rest) + length y) 0 (omega arith),
              room_is (popped k),
              lt-ltb (length (u ∷ fifo)) 12 (omega (arith, fits k)),
              i,
            )))));
      }

  take_on : {c m x pa el ow ct tm lu ph sy ds sr : ℕ} {l e at : Bool} {q : Fifo} {ls : Option Phase} {id : Kept} {cd v : List ℕ}
      {t : List Item} {p : Phase} {log got : List Item} {n : List Note} (fifo : List ℕ) (b : ℕ) (rest y : List ℕ)
      → comes_in p ≡ true
      → is_message_in p ≡ false
      → Lined q fifo
      → b < 256
      → B
      (the_scene
      (the_state (the_registers ow ct tm cd lu ph sy (length (b ∷ rest) + length y) ds sr) (the_status x c m l e) (Runs TransferInfo) q (the_transfer In false)
      (the_wire Connected at false (Some p) ls id el)) (the_host [] false p v got n) (the_target talking pa log (item p b ∷ t)))
  unfolding steps
  take_on {p = p} [] b rest y e i k h = at_once (by_phases j) _ (rw (phase_small p, phase_round p, e, lt-ltb b 256 h, same_phase_lem p, ne_eqb (suc (length rest) + length y) 0 (omega arith), room_is k, i))
  take_on {p = p} (z ∷ []) b rest y e i k h = at_once (by_phases j) _ (rw (phase_small p, phase_round p, e, lt-ltb b 256 h, same_phase_lem p, ne_eqb (suc (length rest) + length y) 0 (omega arith), room_is k, i))
  take_on {p = p} (z ∷ u ∷ fifo) b rest y e i k h =
      ⊎_elim
      (λ r. at_once (by_phases j) _ (rw (phase_small p, phase_round p, e, lt-ltb b 256 h, same_phase_lem p, ne_eqb (suc (length rest) + length y) 0 (omega arith), room_is k, r, i)))
      (λ r. attend (by_phases j) _ (rw (phase_small p, phase_round p, e, lt-ltb b 256 h, same_phase_lem p, ne_eqb (suc (length rest) + length y) 0 (omega arith), room_is k, r) (read_on z u fifo b rest y e i k h)))
      (true_or_false (ltb (length (z ∷ u ∷ fifo)) 12))

  -- the phase's count is loaded, and Transfer Info written
  command_on : {c m x pa el : ℕ} {l e at o f : Bool} {q : Fifo} {d : Direction} {ls : Option Phase} {id : Kept} {r : Registers}
      {bs y : List ℕ} {g : List Seg} {p : Phase} {log got : List Item} {n rest : List Note}
      → Counted j whole total p rest r n
      → Good j whole total (seg p bs y ∷ g)
      → Attends (by_phases j)
      (the_scene (the_state r (the_status x c m l e) Idle q (the_transfer d o) (the_wire Connected at false (Some p) ls id el))
      (the_host (put 0x18 0x20 ∷ []) f p (give_for j p) got n) (the_target talking pa log (flat (seg p bs y ∷ g))))
  unfolding steps
  command_on k (last h) =
      record {
        asks = refl;
        on = rw (single_info, k.count) (at_once (by_phases j) _ (rw (lt-ltb _ 256 h, phase_round MessageIn, room_is none_lined)));
      }
  command_on {p = p} k (more {b = b} {bs = bs} {x = x} f a z g) =
      record {
        asks = refl;
        on =
            ⊎_elim
            (λ i.
            rw (single_info, i, k.count, f.count, ne_eqb (suc (length bs) + length x) 0 (omega arith))
            (take_on [] b bs x i a none_lined (f.bytes 0)))
            (λ i.
            rw (single_info, i, k.count, f.count, ne_eqb (suc (length bs) + length x) 0 (omega arith))
            (send_on [] b bs (give_for j p) i none_lined (record { line = f.hand i; bytes = f.sent })))
            (true_or_false (comes_in p));
      }

  code_on : {c m pa el : ℕ} {l e at o : Bool} {q : Fifo} {d : Direction} {ls : Option Phase} {id : Kept} {bs y : List ℕ} {g : List Seg} {p : Phase}
      {log got : List Item} {rest : List Note} {td : List Access} {x : ℕ} {f : Bool} {r : Registers} {n : List Note}
      → Plays (put 0x18 0x20 ∷ []) (Counted j whole total p rest) td r n
      → Good j whole total (seg p bs y ∷ g)
      → B
      (the_scene (the_state r (the_status x c m l e) Idle q (the_transfer d o) (the_wire Connected at false (Some p) ls id el))
      (the_host td f p (give_for j p) got n) (the_target talking pa log (flat (seg p bs y ∷ g))))
  unfolding scenes
  code_on (over k) w = attend_at (by_phases j) (bus_named _ _ _ _ _ _ _ _ _ _ _ _ _ _ _ _ unasked w) (command_on k w)
  code_on {c = c} {m = m} {l = l} {e = e} {o = o} {q = q} {d = d} {p = ph} {got = got} {td = td} {x = x} {f = f} {r = r} {n = n} (puts {a = a} {b = b} {l = k} u h p) w =
      wait_at (by_phases j) _ _ (bus_named _ _ _ _ _ _ _ _ _ _ _ _ _ _ _ _ unasked w) refl
      (put_done r c m l e Idle q d o _ refl (by_phases j) ph (give_for j ph) got n _ x f td k a b u h) (code_on p w)
  code_on {c = c} {m = m} {l = l} {e = e} {o = o} {q = q} {d = d} {p = ph} {got = got} {td = td} {x = x} {f = f} {r = r} {n = n} (gets {a = a} {l = k} u p) w =
      wait_at (by_phases j) _ _ (bus_named _ _ _ _ _ _ _ _ _ _ _ _ _ _ _ _ unasked w) refl
      (get_done r c m l e Idle q d o _ refl (by_phases j) ph (give_for j ph) got n _ x f td k a u) (code_on p w)

  -- a code that names a phase is read
  name_on : {c m x pa el : ℕ} {l e at o : Bool} {q : Fifo} {d : Direction} {ls : Option Phase} {id : Kept} {r : Registers}
      {v bs y : List ℕ} {g : List Seg} {p cr : Phase} {log got : List Item} {n : List Note}
      → Names c p
      → Good j whole total (seg p bs y ∷ g)
      → Noting j whole total n (notes_of cr r.count ++ notes_after (seg p bs y ∷ g))
      → Attends (by_phases j)
      (the_scene (the_state r (the_status x c m l e) Interrupt q (the_transfer d o) (the_wire Connected at false (Some p) ls id el))
      (the_host [] false cr v got n) (the_target talking pa log (flat (seg p bs y ∷ g))))
  unfolding steps serving
  name_on {c = c} {r = r} {p = p} {cr = cr} {n = n} k w t =
      record {
        asks = rw asked_is;
        on = rw asked_is (rw (heard_named j c p k) (code_on (plays_phase _ cr p r n (good_small j whole total w) t) w));
      }

  -- in an ending every phase is Held
  bus_ending : (r : Registers) (x c k m : ℕ) (l e : Bool) (run : Command) (q : Fifo) (tr : Transfer) (at ak : Bool) (rp ls : Option Phase) (id : Kept) (el : ℕ) (h : Host) (pa : ℕ) (log : List Item)
      {p : Phase} {bs y : List ℕ} {g : List Seg}
      → Good j whole total (seg p bs y ∷ g)
      → bus step (by_phases j)
      (the_scene (the_state r (the_status x c m l e) (Ends run k) q tr (the_wire Connected at ak rp ls id el)) h (the_target talking pa log (flat (seg p bs y ∷ g))))
      ≡ the_scene (the_state r (the_status x c m l e) (Ends run k) q tr (the_wire Connected at ak rp ls id el)) h (the_target talking pa log (flat (seg p bs y ∷ g)))
  unfolding steps
  bus_ending r x c i m l e run q tr at ak rp ls id el h pa log (last k) = rw (lt-ltb _ 256 k)
  bus_ending r x c i m l e run q tr at ak rp ls id el h pa log (more {p = ph} {b = b} f a z g) =
      rw (phase_small ph, shown_byte (comes_in ph) b (f.bytes 0))

  -- the bytes that came in are read out, then the code is raised
  drain_on : {c k m pa el ow ct tm lu ph sy lf ds sr : ℕ} {l e at o : Bool} {ls : Option Phase} {id : Kept}
      {cd v bs y : List ℕ} {g : List Seg} {p cr : Phase} {log : List Item} {n : List Note} (fifo : List ℕ) {b x : ℕ} {q : Fifo} {got : List Item}
      → comes_in cr ≡ true
      → Lined q (b ∷ fifo)
      → Names k p
      → Good j whole total (seg p bs y ∷ g)
      → Noting j whole total n (notes_of cr lf ++ notes_after (seg p bs y ∷ g))
      → Attends (by_phases j)
      (the_scene
      (the_state (the_registers ow ct tm cd lu ph sy lf ds sr) (the_status x c m l e) (Ends TransferInfo k) q (the_transfer In o)
      (the_wire Connected at false (Some p) ls id el)) (the_host [] false cr v got n) (the_target talking pa log (flat (seg p bs y ∷ g))))
  unfolding steps
  drain_on [] e k c w t =
      record {
        asks = rw (asked_is, empty_some k);
        on =
            rw (asked_is, empty_some k)
            (rw e (rw (empty_some k, front_is k, empty_none (popped k)) (attend_at (by_phases j) (bus_named _ _ _ _ _ _ _ _ _ _ _ _ _ _ _ _ told w) (name_on c w t))));
      }
  drain_on (z ∷ fifo) e k c w t =
      record {
        asks = rw (asked_is, empty_some k);
        on =
            rw (asked_is, empty_some k)
            (rw e (rw (empty_some k, front_is k, empty_some (popped k)) (attend_at (by_phases j) (bus_ending _ _ _ _ _ _ _ _ _ _ _ _ _ _ _ _ _ _ _ w) (drain_on fifo e (popped k) c w t))));
      }

  -- the selection
  select_on : {c m x pa el : ℕ} {l e at o f : Bool} {q : Fifo} {d : Direction} {rp ls : Option Phase} {id : Kept} {r : Registers} {n : List Note} {t : List Item}
      → B
      (the_scene (the_state r (the_status x c m l e) Idle q (the_transfer d o) (the_wire Disconnected at false rp ls id el))
      (the_host (put 0x18 0x06 ∷ []) f MessageOut [] [] n) (the_target calling pa [] t))
  unfolding steps
  select_on = attend (by_phases j) _ (record { asks = refl; on = now refl })

  load_on : {c m pa el : ℕ} {l e at o : Bool} {q : Fifo} {d : Direction} {rp ls : Option Phase} {id : Kept} {t : List Item} {td : List Access} {x : ℕ}
      {f : Bool} {r : Registers} {n : List Note}
      → Plays (put 0x18 0x06 ∷ []) (Ready j whole total) td r n
      → B
      (the_scene (the_state r (the_status x c m l e) Idle q (the_transfer d o) (the_wire Disconnected at false rp ls id el))
      (the_host td f MessageOut [] [] n) (the_target calling pa [] t))
  unfolding scenes
  load_on (over g) = select_on
  load_on {c = c} {m = m} {l = l} {e = e} {o = o} {q = q} {d = d} {td = td} {x = x} {f = f} {r = r} {n = n} (puts {a = a} {b = b} {l = k} u h p) =
      wait_at (by_phases j) _ _ (bus_idle (by_phases j) _ _ _ _ _ _ _ _ _ _ _ _ _ _) refl
      (put_done r c m l e Idle q d o _ refl (by_phases j) MessageOut [] [] n _ x f td k a b u h) (load_on p)
  load_on {c = c} {m = m} {l = l} {e = e} {o = o} {q = q} {d = d} {td = td} {x = x} {f = f} {r = r} {n = n} (gets {a = a} {l = k} u p) =
      wait_at (by_phases j) _ _ (bus_idle (by_phases j) _ _ _ _ _ _ _ _ _ _ _ _ _ _) refl
      (get_done r c m l e Idle q d o _ refl (by_phases j) MessageOut [] [] n _ x f td k a u) (load_on p)

  -- the first phase is reported, after 11h
  wait_on : {c m x pa el : ℕ} {l e at o : Bool} {q : Fifo} {d : Direction} {ls : Option Phase} {id : Kept} {r : Registers} {g : List Seg} {n : List Note}
      → Quiet d q
      → Good j whole total g
      → Noting j whole total n (notes_after g)
      → B
      (the_scene (the_state r (the_status x c m l e) Idle q (the_transfer d o) (the_wire Connected at false None ls id el))
      (the_host [] false MessageOut [] [] n) (the_target talking pa [] (flat g)))
  unfolding steps
  wait_on unfixed (last h) t = attend (by_phases j) _ (rw (lt-ltb _ 256 h, phase_round MessageIn) (name_on S.asked (last h) t))
  wait_on unfixed (more {p = ph} {b = b} f a d g) t =
      attend (by_phases j) _ (rw (phase_small ph, shown_byte (comes_in ph) b (f.bytes 0), phase_round ph) (name_on S.asked (more f a d g) t))
  wait_on (drained z) (last h) t = attend (by_phases j) _ (rw (lt-ltb _ 256 h, phase_round MessageIn) (name_on S.asked (last h) t))
  wait_on (drained z) (more {p = ph} {b = b} f a d g) t =
      attend (by_phases j) _ (rw (phase_small ph, shown_byte (comes_in ph) b (f.bytes 0), phase_round ph) (name_on S.asked (more f a d g) t))

  greet_on : {m x pa el : ℕ} {l e at o : Bool} {q : Fifo} {d : Direction} {ls : Option Phase} {id : Kept} {r : Registers} {g : List Seg} {n : List Note}
      → Quiet d q
      → Good j whole total g
      → Noting j whole total n (notes_after g)
      → Attends (by_phases j)
      (the_scene (the_state r (the_status x 0x11 m l e) Interrupt q (the_transfer d o) (the_wire Connected at false None ls id el))
      (the_host [] false MessageOut [] [] n) (the_target talking pa [] (flat g)))
  unfolding steps
  greet_on k w t = record { asks = rw asked_is; on = rw asked_is (rw (heard_11 j) (wait_on k w t)) }

  greet_held : {m x pa el : ℕ} {l e at o : Bool} {q : Fifo} {d : Direction} {ls : Option Phase} {id : Kept} {r : Registers} {g : List Seg} {n : List Note}
      → Quiet d q
      → Good j whole total g
      → Noting j whole total n (notes_after g)
      → B
      (the_scene (the_state r (the_status x 0x11 m l e) Interrupt q (the_transfer d o) (the_wire Connected at false None ls id el))
      (the_host [] false MessageOut [] [] n) (the_target talking pa [] (flat g)))
  unfolding steps
  greet_held k (last h) t = attend (by_phases j) _ (rw (lt-ltb _ 256 h) (greet_on k (last h) t))
  greet_held k (more {p = ph} {b = b} f a d g) t =
      attend (by_phases j) _ (rw (phase_small ph, shown_byte (comes_in ph) b (f.bytes 0)) (greet_on k (more f a d g) t))

  -- a phase is over: another is offered
  next_on : {c m x pa el ow ct tm lu ph sy ds sr : ℕ} {l e at : Bool} {q : Fifo} {ls : Option Phase} {id : Kept} {cd v : List ℕ}
      {g : List Seg} {p : Phase} {log got : List Item} {n : List Note} (y : List ℕ)
      → After j whole total p g
      → Noting j whole total n (notes_of p (length y) ++ notes_after g)
      → B
      (the_scene
      (the_state (the_registers ow ct tm cd lu ph sy (0 + length y) ds sr) (the_status x c m l e) (Runs TransferInfo) q (the_transfer Out false)
      (the_wire Connected at false (Some p) ls id el)) (the_host [] false p v got n) (the_target talking pa log (flat g)))
  unfolding steps
  next_on {p = p} y (next {q = q} {c = c} {cs = cs} {y = y'} {gs = gs} z d g) t =
      attend (by_phases j) _
      (rw (phase_small q, shown_byte (comes_in q) c (good_byte g), phase_round q, d)
      (name_on (S.over (eqb (0 + length y) 0)) g (noting_on (seg q (c ∷ cs) y' ∷ gs) p (length y) t)))

  turn_on : {c m x pa el ow ct tm lu ph sy ds sr : ℕ} {l e at : Bool} {q : Fifo} {ls : Option Phase} {id : Kept} {cd v : List ℕ}
      {g : List Seg} {p : Phase} {log got : List Item} {n : List Note} (fifo y : List ℕ)
      → comes_in p ≡ true
      → Lined q fifo
      → After j whole total p g
      → Noting j whole total n (notes_of p (length y) ++ notes_after g)
      → B
      (the_scene
      (the_state (the_registers ow ct tm cd lu ph sy (0 + length y) ds sr) (the_status x c m l e) (Runs TransferInfo) q (the_transfer In false)
      (the_wire Connected at false (Some p) ls id el)) (the_host [] false p v got n) (the_target talking pa log (flat g)))
  unfolding steps
  turn_on {p = p} [] y e k (next {q = q} {c = c} {cs = cs} {y = y'} {gs = gs} z d g) t =
      attend (by_phases j) _
      (rw (phase_small q, shown_byte (comes_in q) c (good_byte g), phase_round q, d, empty_none k)
      (name_on (S.over (eqb (0 + length y) 0)) g (noting_on (seg q (c ∷ cs) y' ∷ gs) p (length y) t)))
  turn_on {p = p} (b ∷ fifo) y e k (next {q = q} {c = c} {cs = cs} {y = y'} {gs = gs} z d g) t =
      attend (by_phases j) _
      (rw (phase_small q, shown_byte (comes_in q) c (good_byte g), phase_round q, d, empty_some k)
      (drain_on fifo e k (S.over (eqb (0 + length y) 0)) g (noting_on (seg q (c ∷ cs) y' ∷ gs) p (length y) t)))

  -- Message In is over
  pause_on : {m x pa el : ℕ} {l e at o : Bool} {q : Fifo} {d : Direction} {rp ls : Option Phase} {id : Kept} {r : Registers} {v : List ℕ}
      {log got : List Item} {n : List Note} {hp : Phase}
      → B
      (the_scene (the_state r (the_status x 0x20 m l e) Interrupt q (the_transfer d o) (the_wire Connected at true rp ls id el))
      (the_host [] false hp v got n) (the_target talking pa log []))
  unfolding steps
  pause_on = attend (by_phases j) _ (record { asks = rw asked_is; on = rw asked_is (rw (heard_20 j) (now refl)) })

  close_on : {c m x pa el b : ℕ} {l e at o : Bool} {q : Fifo} {rp ls : Option Phase} {id : Kept} {r : Registers} {v : List ℕ}
      {log got : List Item} {n : List Note}
      → Lined q (b ∷ [])
      → B
      (the_scene (the_state r (the_status x c m l e) (Ends TransferInfo 0x20) q (the_transfer In o) (the_wire Connected at true rp ls id el))
      (the_host [] false MessageIn v got n) (the_target talking pa log []))
  unfolding steps
  close_on k =
      attend (by_phases j) _
      (record {
        asks = rw (asked_is, empty_some k);
        on = rw (asked_is, empty_some k) (rw (empty_some k, front_is k, empty_none (popped k)) pause_on);
      })

  rest_on : {c m x pa el : ℕ} {l e at o : Bool} {q : Fifo} {d : Direction} {rp ls : Option Phase} {id : Kept} {r : Registers} {v : List ℕ}
      {log got : List Item} {n : List Note} {hp : Phase}
      → Quiet d q
      → B
      (the_scene (the_state r (the_status x c m l e) Idle q (the_transfer d o) (the_wire Disconnected at false rp ls id el))
      (the_host [] false hp v got n) (the_target away pa log []))
  unfolding steps
  rest_on unfixed = at_once (by_phases j) _ (rw asked_is)
  rest_on (drained f) = at_once (by_phases j) _ (rw (asked_is, f))

  free_on : {m x pa el : ℕ} {l e at o : Bool} {q : Fifo} {d : Direction} {rp ls : Option Phase} {id : Kept} {r : Registers} {v : List ℕ}
      {log got : List Item} {n : List Note} {hp : Phase}
      → Quiet d q
      → B
      (the_scene (the_state r (the_status x 0x85 m l e) Interrupt q (the_transfer d o) (the_wire Disconnected at false rp ls id el))
      (the_host [] false hp v got n) (the_target away pa log []))
  unfolding steps
  free_on k = attend (by_phases j) _ (record { asks = rw asked_is; on = rw asked_is (rw (heard_85 j) (rest_on k)) })

  late_on : {m x pa el : ℕ} {l e at o f : Bool} {q : Fifo} {d : Direction} {rp ls : Option Phase} {id : Kept} {r : Registers} {v : List ℕ}
      {log got : List Item} {n : List Note} {hp : Phase}
      → Quiet d q
      → B
      (the_scene (the_state r (the_status x 0x85 m l e) Interrupt q (the_transfer d o) (the_wire Disconnected at false rp ls id el))
      (the_host (put 0x18 0x03 ∷ []) f hp v got n) (the_target away pa log []))
  unfolding steps
  late_on k = attend (by_phases j) _ (record { asks = refl; on = free_on k })

  begins_on : {c : Scene} → Begins j whole total c → B c
  unfolding steps
  begins_on (loads p a q t g n w) = load_on p
  begins_on (seeks p q t g n w) = now refl
  begins_on (greets p q g n w) = any_poll (by_phases j) _ _ _ _ _ _ _ _ _ p (greet_held q g n)
  begins_on (waits p q g n w) = any_poll (by_phases j) _ _ _ _ _ _ _ _ _ p (wait_on q g n)
  begins_on (named p q k g v n i w) =
      any_poll (by_phases j) _ _ _ _ _ _ _ _ _ p (attend_at (by_phases j) (bus_named _ _ _ _ _ _ _ _ _ _ _ _ _ _ _ _ told g) (name_on k g n))
  begins_on (S.coded p a q g i w) = code_on p g

  sends_on : {c : Scene} → Sends j whole total c → B c
  sends_on (sends fifo (b ∷ rest) give p e l s a n i w) = any_poll (by_phases j) _ _ _ _ _ _ _ _ _ p (send_on fifo b rest give e l s)
  sends_on (sends {y = y} fifo [] give p e l s a n i w) = any_poll (by_phases j) _ _ _ _ _ _ _ _ _ p (next_on y a n)

  takes_on : {c : Scene} → Takes j whole total c → B c
  takes_on (takes fifo (b ∷ rest) y p e l bs v (next z d g) n i w) = any_poll (by_phases j) _ _ _ _ _ _ _ _ _ p (take_on fifo b rest y e z l (bs 0))
  takes_on (takes fifo [] y p e l bs v a n i w) = any_poll (by_phases j) _ _ _ _ _ _ _ _ _ p (turn_on fifo y e l a n)

  closes_on : {c : Scene} → Closes j whole total c → B c
  unfolding steps
  closes_on (closes {b = b} p l h v n i w) = at_once (by_phases j) _ (rw (lt-ltb b 256 h, phase_round MessageIn, room_is l))

  drains_on : {c : Scene} → Drains j whole total c → B c
  drains_on (drains fifo p e l k g v n i w) =
      any_poll (by_phases j) _ _ _ _ _ _ _ _ _ p (attend_at (by_phases j) (bus_ending _ _ _ _ _ _ _ _ _ _ _ _ _ _ _ _ _ _ _ g) (drain_on fifo e l k g n))

  ends_on : {c : Scene} → S.Ends j whole total c → B c
  unfolding steps
  ends_on (pauses p l v n i w) = any_poll (by_phases j) _ _ _ _ _ _ _ _ _ p (close_on l)
  ends_on (paused p q v n i w) = any_poll (by_phases j) _ _ _ _ _ _ _ _ _ p pause_on
  ends_on (S.negates a q v n i w) = now refl
  ends_on (calm p q v n i w) = now refl
  ends_on (gone (S.negates a) q v n i w) = late_on q
  ends_on (gone (polls p) q v n i w) = any_poll (by_phases j) _ _ _ _ _ _ _ _ _ p (free_on q)
  ends_on (rests p q v n i w) = any_poll (by_phases j) _ _ _ _ _ _ _ _ _ p (rest_on q)

  pub brought : {c : Scene} → Reach j whole total c → B c
  brought (begins k) = begins_on k
  brought (sending k) = sends_on k
  brought (taking k) = takes_on k
  brought (closing k) = closes_on k
  brought (draining k) = drains_on k
  brought (ends k) = ends_on k
