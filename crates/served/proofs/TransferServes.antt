-- The demand for the host that serves by one Select-And-Transfer, from every scene that can be reached.
--   brought   the Target is brought on
--   serves    the promise, after every schedule
use Rattle.std.specs.Prelude.{Option}
use mathlib.Core.Path.{◌≡◌, refl, sym, ◌∙◌, ap}
use mathlib.Core.Bool.{Bool, true, false}
use mathlib.Core.List.{List, [], ◌∷◌, ◌++◌, append-nil}
use mathlib.Core.Logic.{⊎_elim}
use Prim.Native.Nat.{ℕ, suc, ◌+◌, ◌-◌, ◌<◌}
use native.Mathlib.Omega.{arith}
use lib.Dec.{ltb}
use lib.ListN.{length, get_or}
use borrow.Author.Tests.{lt-ltb, eq-eqb, ne_eqb}
use Rattle.chip.specs.declared.State.{State}
use Rattle.chip.proofs.Cases.{true_or_false}
use Rattle.chip.specs.Choice.{pick}
use Rattle.chip.specs.Fifo.{empty}
use Rattle.chip.specs.Calls.{step}
use Rattle.chip.specs.Phases.{phase_number, phase_of}
use Rattle.chip.specs.Lines.{packed}
use Rattle.chip.specs.SelectAndTransfer.{size_of, stage_of}
use Rattle.chip.specs.declared.Registers.{Registers}
use Rattle.chip.specs.declared.Stage.TheVariants.{Body}
use Rattle.chip.specs.declared.Fifo.{Fifo}
use Rattle.chip.specs.declared.Connection.TheVariants.{Disconnected, Connected}
use Rattle.chip.specs.declared.Command.TheVariants.{SelectAndTransferWithAtn}
use Rattle.chip.specs.declared.Activity.TheVariants.{Idle, Interrupt, Runs, Ends}
use Rattle.chip.specs.declared.Direction.{Direction}
use Rattle.chip.specs.declared.Direction.TheVariants.{Unfixed, In, Out}
use Rattle.chip.specs.declared.Phase.{Phase}
use Rattle.chip.specs.declared.Phase.TheVariants.{DataOut, DataIn, CommandOut, StatusIn}
use Rattle.chip.specs.Ok.{Bytes}
use Rattle.story.specs.Story.{Item, item, items, Way, way_phase, Job, loaded, close, story, Proper}
use Rattle.story.specs.Hosts.{Access, put, Note, Host, asked, by_transfer}
use Rattle.story.specs.Schedule.{calling, talking, away, Scene, Brought, now, Move, offer, pass, work, moves, move}
use Rattle.story.specs.Demand.{bytes_of, status_held, count_held, count_bytes, incoming_data, Finished, Promise}
use Rattle.story.proofs.Opening.{scenes}
use Rattle.served.proofs.Opening.{steps}
use Rattle.served.proofs.Parts.{Kept, the_registers, the_status, the_transfer, the_wire, the_state, the_host, the_target, the_scene, Plays, over, puts, gets, Aimed, before, coded, taken, sent, look, seen, ready}
use Rattle.served.proofs.Queue.{Lined, none_lined, empty_none, empty_some, room_is, waits_is, front_is, fits, popped, pushed}
use Rattle.served.proofs.Small.{asked_is, Quiet, unfixed, drained}
use Rattle.served.proofs.Stages.{stage_identify, stage_status}
use Rattle.served.proofs.Accesses.{put_done, get_done, wait_at, at_once, Attends, attend, bus_idle, none_left}
use Rattle.served.proofs.Going.{Going, owed_out}
use Rattle.served.proofs.Polling.{any_poll}
use Rattle.served.proofs.TransferScenes.{CommandPhase, Expects, body, late, Set, Ready, Hands, reads, writes, Coming, some, none, Finals, final_notes, reading, resting, Reach, loads, seeks, greets, commands, comes, goes, statuses, ends, told, calm, gone, rests}
use Rattle.served.proofs.TransferSteps.{bus_step, pass_step, work_step, next_is, full_is, has_size_lem, moved_byte}

module _ {s₀ : State} (j : Job) (pr : Proper s₀ j) where
  abbrev B : Scene → Type 0
  B c = Brought step (by_transfer j) c

  -- the host loads the registers, and writes the command
  command_on : {c m x pa el : ℕ} {l e at o f : Bool} {q : Fifo} {d : Direction} {rp ls : Option Phase} {id : Kept} {r : Registers}
      {v : List ℕ} {n : List Note} {hp : Phase} {t : List Item}
      → Ready j r n
      → B
      (the_scene (the_state r (the_status x c m l e) Idle q (the_transfer d o) (the_wire Disconnected at false rp ls id el))
      (the_host (put 0x18 0x08 ∷ []) f hp v [] n) (the_target calling pa [] t))
  unfolding steps
  command_on {r = r} g =
      attend (by_transfer j) _ (record { asks = refl; on = rw (lt-ltb 0 (size_of (get_or r.descriptor.cdb 0 0)) (has_size_lem j pr g.set)) (now refl) })

  load_on : {c m pa el : ℕ} {l e at o : Bool} {q : Fifo} {d : Direction} {rp ls : Option Phase} {id : Kept} {v : List ℕ} {hp : Phase} {t : List Item}
      {td : List Access} {x : ℕ} {f : Bool} {r : Registers} {n : List Note}
      → Plays (put 0x18 0x08 ∷ []) (Ready j) td r n
      → B
      (the_scene (the_state r (the_status x c m l e) Idle q (the_transfer d o) (the_wire Disconnected at false rp ls id el))
      (the_host td f hp v [] n) (the_target calling pa [] t))
  unfolding scenes
  load_on (over g) = command_on g
  load_on {c = c} {m = m} {l = l} {e = e} {o = o} {q = q} {d = d} {v = v} {hp = hp} {td = td} {x = x} {f = f} {r = r} {n = n} (puts {a = a} {b = b} {l = k} u h p) =
      wait_at (by_transfer j) _ _ (bus_idle (by_transfer j) _ _ _ _ _ _ _ _ _ _ _ _ _ _) refl
      (put_done r c m l e Idle q d o _ refl (by_transfer j) hp v [] n _ x f td k a b u h) (load_on p)
  load_on {c = c} {m = m} {l = l} {e = e} {o = o} {q = q} {d = d} {v = v} {hp = hp} {td = td} {x = x} {f = f} {r = r} {n = n} (gets {a = a} {l = k} u p) =
      wait_at (by_transfer j) _ _ (bus_idle (by_transfer j) _ _ _ _ _ _ _ _ _ _ _ _ _ _) refl
      (get_done r c m l e Idle q d o _ refl (by_transfer j) hp v [] n _ x f td k a u) (load_on p)

  -- the first byte goes into the FIFO, and is taken from there
  give_on : {c m x pa el ow ct tm lu sy ds sr ph : ℕ} {l e at : Bool} {rp ls : Option Phase} {id : Kept} {cd : List ℕ} {log t : List Item} {q : Fifo}
      (y z : ℕ) (rest give : List ℕ)
      → Lined q []
      → stage_of true ph (size_of (get_or cd 0 0)) ≡ Body
      → Going [] (z ∷ rest) (y ∷ give) j.beyond
      → Attends (by_transfer j)
      (the_scene
      (the_state (the_registers ow ct tm cd lu ph sy (length (z ∷ rest) + length j.beyond) ds sr) (the_status x c m l e) (Runs SelectAndTransferWithAtn) q
      (the_transfer Out false) (the_wire Connected at false rp ls id el)) (the_host [] false DataOut (y ∷ give) [] [])
      (the_target talking pa log (item DataOut z ∷ t)))
  unfolding steps phase_of
  give_on y z rest give n s i =
      record {
        asks = rw (asked_is, waits_is n, owed_out i, room_is n);
        on =
            rw (asked_is, waits_is n, owed_out i, room_is n)
            (rw (lt-ltb y 256 (i.bytes 0), waits_is n, owed_out i, room_is n)
            (at_once (by_transfer j) _ (rw (s, ne_eqb (suc (length rest) + length j.beyond) 0 (omega arith), empty_some (pushed y n (omega arith))))));
      }

  -- the command is sent
  commands_on : {c m x pa el ow ct tm lu sy ds sr ph : ℕ} {l e at : Bool} {rp ls : Option Phase} {id : Kept} {cd v : List ℕ} {w : Way} {log : List Item}
      (had rest d : List ℕ)
      → Set j cd lu sr
      → Hands j w d v
      → Bytes v
      → CommandPhase ph (length had)
      → had ++ rest ≡ j.command
      → B
      (the_scene
      (the_state (the_registers ow ct tm cd lu ph sy (length d + length j.beyond) ds sr) (the_status x c m l e) (Runs SelectAndTransferWithAtn) empty
      (the_transfer Unfixed false) (the_wire Connected at false rp ls id el)) (the_host [] false (way_phase w) v [] [])
      (the_target talking pa log (items CommandOut rest ++ (items (way_phase w) d ++ close j))))
  unfolding steps phase_of
  commands_on {ph = ph} had (x ∷ rest) d s h b q e = at_once (by_transfer j) _ (rw (next_is j pr ph had x rest s q e))
  commands_on {ph = ph} had [] [] s h b q e = at_once (by_transfer j) _ (rw (full_is j pr ph had s q e, lt-ltb j.status 256 pr.status_byte))
  commands_on {ph = ph} had [] (x ∷ d) s (reads w f) b q e =
      at_once (by_transfer j) _
      (rw (full_is j pr ph had s q e, lt-ltb x 256 (moved_byte j pr f), ne_eqb (suc (length d) + length j.beyond) 0 (omega arith), room_is none_lined))
  commands_on {ph = ph} had [] (x ∷ d) s (writes {v = []} w f g) b q e = absurd (none_left d j.beyond g)
  commands_on {ph = ph} had [] (x ∷ d) s (writes {v = y ∷ v} w f g) b q e =
      attend (by_transfer j) _
      (rw (full_is j pr ph had s q e, ne_eqb (suc (length d) + length j.beyond) 0 (omega arith))
      (give_on y x d v none_lined (full_is j pr ph had s q e) (record { line = g; bytes = b })))

  -- the FIFO is full: the host reads a byte, and the next has room
  take_on : {c m x pa el ow ct tm lu sy ds sr ph : ℕ} {l e at : Bool} {rp ls : Option Phase} {id : Kept} {cd : List ℕ} {log got t : List Item} {q : Fifo}
      (y z : ℕ) (fifo : List ℕ) (b : ℕ) (rest : List ℕ)
      → Lined q (y ∷ z ∷ fifo)
      → stage_of true ph (size_of (get_or cd 0 0)) ≡ Body
      → b < 256
      → Attends (by_transfer j)
      (the_scene
      (the_state (the_registers ow ct tm cd lu ph sy (length (b ∷ rest) + length j.beyond) ds sr) (the_status x c m l e) (Runs SelectAndTransferWithAtn) q
      (the_transfer In false) (the_wire Connected at false rp ls id el)) (the_host [] false DataIn [] got [])
      (the_target talking pa log (item DataIn b ∷ t)))
  unfolding steps phase_of
  take_on y z fifo b rest n s h =
      record {
        asks = rw (asked_is, empty_some n);
        on =
            rw (asked_is, empty_some n)
            (rw (empty_some n, front_is n, empty_some (popped n))
            (at_once (by_transfer j) _
            (rw (
              s,
              lt-ltb b 256 h,
              ne_eqb (suc (length rest) + length j.beyond) 0 (omega arith),
              room_is (popped n),
              lt-ltb (length (z ∷ fifo)) 12 (omega (arith, fits n)),
            ))));
      }

  -- data come in
  come_on : {c m x pa el ow ct tm lu sy ds sr ph : ℕ} {l e at : Bool} {rp ls : Option Phase} {id : Kept} {cd : List ℕ} {log got : List Item} {q : Fifo}
      (fifo rest : List ℕ)
      → Lined q fifo
      → Coming j got fifo rest
      → Expects ph (size_of (get_or cd 0 0)) (length rest + length j.beyond)
      → B
      (the_scene
      (the_state (the_registers ow ct tm cd lu ph sy (length rest + length j.beyond) ds sr) (the_status x c m l e) (Runs SelectAndTransferWithAtn) q
      (the_transfer In false) (the_wire Connected at false rp ls id el)) (the_host [] false DataIn [] got [])
      (the_target talking pa log (items DataIn rest ++ close j)))
  unfolding steps phase_of
  come_on fifo [] n i (body s) = at_once (by_transfer j) _ (rw (s, lt-ltb j.status 256 pr.status_byte))
  come_on fifo [] n i (late s z) = at_once (by_transfer j) _ (rw (s, lt-ltb j.status 256 pr.status_byte))
  come_on fifo (x ∷ rest) n i (late s z) = absurd (omega arith)
  come_on [] (x ∷ rest) n i (body s) =
      at_once (by_transfer j) _ (rw (s, lt-ltb x 256 (i.bytes 0), ne_eqb (suc (length rest) + length j.beyond) 0 (omega arith), room_is n))
  come_on (y ∷ []) (x ∷ rest) n i (body s) =
      at_once (by_transfer j) _ (rw (s, lt-ltb x 256 (i.bytes 0), ne_eqb (suc (length rest) + length j.beyond) 0 (omega arith), room_is n))
  come_on (y ∷ z ∷ fifo) (x ∷ rest) n i (body s) =
      ⊎_elim
      (λ r. at_once (by_transfer j) _ (rw (s, lt-ltb x 256 (i.bytes 0), ne_eqb (suc (length rest) + length j.beyond) 0 (omega arith), room_is n, r)))
      (λ r.
      attend (by_transfer j) _
      (rw (s, lt-ltb x 256 (i.bytes 0), ne_eqb (suc (length rest) + length j.beyond) 0 (omega arith), room_is n, r)
      (take_on y z fifo x rest n s (i.bytes 0))))
      (true_or_false (ltb (length (y ∷ z ∷ fifo)) 12))

  -- data go out
  go_on : {c m x pa el ow ct tm lu sy ds sr ph : ℕ} {l e at : Bool} {rp ls : Option Phase} {id : Kept} {cd : List ℕ} {log : List Item} {q : Fifo}
      (fifo rest give : List ℕ)
      → Lined q fifo
      → Going fifo rest give j.beyond
      → Expects ph (size_of (get_or cd 0 0)) (length rest + length j.beyond)
      → B
      (the_scene
      (the_state (the_registers ow ct tm cd lu ph sy (length rest + length j.beyond) ds sr) (the_status x c m l e) (Runs SelectAndTransferWithAtn) q
      (the_transfer Out false) (the_wire Connected at false rp ls id el)) (the_host [] false DataOut give [] [])
      (the_target talking pa log (items DataOut rest ++ close j)))
  unfolding steps phase_of
  go_on fifo [] give n i (body s) = at_once (by_transfer j) _ (rw (s, lt-ltb j.status 256 pr.status_byte))
  go_on fifo [] give n i (late s z) = at_once (by_transfer j) _ (rw (s, lt-ltb j.status 256 pr.status_byte))
  go_on fifo (x ∷ rest) give n i (late s z) = absurd (omega arith)
  go_on (y ∷ fifo) (x ∷ rest) give n i (body s) =
      at_once (by_transfer j) _ (rw (s, ne_eqb (suc (length rest) + length j.beyond) 0 (omega arith), empty_some n))
  go_on [] (x ∷ rest) [] n i (body s) = absurd (none_left rest j.beyond i.line)
  go_on [] (x ∷ rest) (y ∷ give) n i (body s) =
      attend (by_transfer j) _
      (rw (s, ne_eqb (suc (length rest) + length j.beyond) 0 (omega arith), empty_none n) (give_on y x rest give n s i))

  -- 16h waits until the data are read out, and the bus until 16h is read
  tell_on : {m x pa el ow ct tm sy ds sr n : ℕ} {l e at o : Bool} {rp ls : Option Phase} {id : Kept} {cd v : List ℕ} {hp : Phase} {log got : List Item}
      {q : Fifo} {d : Direction}
      → B
      (the_scene
      (the_state (the_registers ow ct tm cd j.status 0x60 sy n ds sr) (the_status x 0x16 m l e) Interrupt q (the_transfer d o)
      (the_wire Connected at false rp ls id el)) (the_host [] false hp v got []) (the_target talking pa log []))
  unfolding steps
  tell_on = attend (by_transfer j) _ (record { asks = rw asked_is; on = rw asked_is (now refl) })

  end_on : {c m pa el ow ct tm sy ds sr n : ℕ} {l e at : Bool} {rp ls : Option Phase} {id : Kept} {cd v : List ℕ} {log : List Item}
      (fifo : List ℕ) {b x : ℕ} {q : Fifo} {got : List Item}
      → Lined q (b ∷ fifo)
      → B
      (the_scene
      (the_state (the_registers ow ct tm cd j.status 0x60 sy n ds sr) (the_status x c m l e) (Ends SelectAndTransferWithAtn 0x16) q (the_transfer In false)
      (the_wire Connected at false rp ls id el)) (the_host [] false DataIn v got []) (the_target talking pa log []))
  unfolding steps
  end_on [] n =
      attend (by_transfer j) _
      (record {
        asks = rw (asked_is, empty_some n);
        on = rw (asked_is, empty_some n) (rw (empty_some n, front_is n, empty_none (popped n)) tell_on);
      })
  end_on (y ∷ fifo) n =
      attend (by_transfer j) _
      (record {
        asks = rw (asked_is, empty_some n);
        on = rw (asked_is, empty_some n) (rw (empty_some n, front_is n, empty_some (popped n)) (end_on fifo (popped n)));
      })

  -- the bus is free: the host reads on to its end
  rest_on : {c m x pa el : ℕ} {l e at o : Bool} {rp ls : Option Phase} {id : Kept} {v : List ℕ} {hp : Phase} {log got : List Item}
      {q : Fifo} {d : Direction} {r : Registers} {n : List Note}
      → Quiet d q
      → B
      (the_scene (the_state r (the_status x c m l e) Idle q (the_transfer d o) (the_wire Disconnected at false rp ls id el))
      (the_host [] false hp v got n) (the_target away pa log []))
  unfolding steps
  rest_on unfixed = at_once (by_transfer j) _ (rw asked_is)
  rest_on (drained f) = at_once (by_transfer j) _ (rw (asked_is, f))

  free_on : {m x pa el : ℕ} {l e at o : Bool} {rp ls : Option Phase} {id : Kept} {v : List ℕ} {hp : Phase} {log got : List Item}
      {q : Fifo} {d : Direction} {r : Registers} {n : List Note}
      → Quiet d q
      → B
      (the_scene (the_state r (the_status x 0x85 m l e) Interrupt q (the_transfer d o) (the_wire Disconnected at false rp ls id el))
      (the_host [] false hp v got n) (the_target away pa log []))
  unfolding steps
  free_on k = attend (by_transfer j) _ (record { asks = rw asked_is; on = rw asked_is (rest_on k) })

  read_on : {m pa el : ℕ} {l e at o : Bool} {rp ls : Option Phase} {id : Kept} {v : List ℕ} {hp : Phase} {log got : List Item}
      {q : Fifo} {d : Direction} {td : List Access} {x : ℕ} {f : Bool} {r : Registers} {n : List Note}
      → Quiet d q
      → Aimed td f x
      → Plays [] (Finals j) td r n
      → B
      (the_scene (the_state r (the_status x 0x85 m l e) Interrupt q (the_transfer d o) (the_wire Disconnected at false rp ls id el))
      (the_host td f hp v got n) (the_target away pa log []))
  unfolding scenes
  read_on k before (over g) = free_on k
  read_on {m = m} {l = l} {e = e} {o = o} {v = v} {hp = hp} {got = got} {q = q} {d = d} {td = td} {x = x} {f = f} {r = r} {n = n} z y (puts {a = a} {b = b} {l = k} u h p) =
      wait_at (by_transfer j) _ _ refl refl (put_done r 0x85 m l e Interrupt q d o _ refl (by_transfer j) hp v got n _ x f td k a b u h) (read_on z before p)
  read_on {m = m} {l = l} {e = e} {o = o} {v = v} {hp = hp} {got = got} {q = q} {d = d} {td = td} {x = x} {f = f} {r = r} {n = n} z y (gets {a = a} {l = k} u p) =
      wait_at (by_transfer j) _ _ refl refl (get_done r 0x85 m l e Interrupt q d o _ refl (by_transfer j) hp v got n _ x f td k a u) (read_on z before p)

  pub brought : {c : Scene} → Reach j c → B c
  unfolding steps phase_of
  brought (loads p a h t b) = load_on p
  brought (seeks s p h t b) = now refl
  brought (greets s p h b) = at_once (by_transfer j) _ (rw (stage_identify _))
  brought (commands had rest d s p h b q e t) = any_poll (by_transfer j) _ _ _ _ _ _ _ _ _ p (commands_on had rest d s h b q e)
  brought (comes fifo rest w s p n i x t) = any_poll (by_transfer j) _ _ _ _ _ _ _ _ _ p (come_on fifo rest n i x)
  brought (goes fifo rest give w s p n i x t) = any_poll (by_transfer j) _ _ _ _ _ _ _ _ _ p (go_on fifo rest give n i x)
  brought (statuses p (some fifo w n i) b z t) = at_once (by_transfer j) _ (rw (stage_status _))
  brought (statuses p (none e) b z t) = at_once (by_transfer j) _ (rw (stage_status _))
  brought (ends fifo p w n i b z) = any_poll (by_transfer j) _ _ _ _ _ _ _ _ _ p (end_on fifo n)
  brought (told p q e b z) = any_poll (by_transfer j) _ _ _ _ _ _ _ _ _ p tell_on
  brought (calm k unfixed e b) = now refl
  brought (calm k (drained f) e b) = now refl
  brought (gone (reading p a) q e b) = read_on q a p
  brought (gone (resting p n) q e b) = any_poll (by_transfer j) _ _ _ _ _ _ _ _ _ p (free_on q)
  brought (rests p n q e b) = any_poll (by_transfer j) _ _ _ _ _ _ _ _ _ p (rest_on q)

  -- ---- what is promised

  so_far : {c : Scene} → Reach j c → (rest : List Item) × (c.target.log ++ rest ≡ story j)
  so_far (loads p a h t b) = (story j, refl)
  so_far (seeks s p h t b) = (story j, refl)
  so_far (greets s p h b) = (story j, refl)
  so_far (commands had rest d s p h b q e t) = (_, t.all)
  so_far (comes fifo rest w s p n i x t) = (_, t.all)
  so_far (goes fifo rest give w s p n i x t) = (_, t.all)
  so_far (statuses p f b z t) = (_, t.all)
  so_far (ends fifo p w n i b z) = ([], append-nil (story j))
  so_far (told p q e b z) = ([], append-nil (story j))
  so_far (calm k q e b) = ([], append-nil (story j))
  so_far (gone k q e b) = ([], append-nil (story j))
  so_far (rests p n q e b) = ([], append-nil (story j))

  -- what the host holds once the bus is free
  record Held (c : Scene) : Type 0 where
    log : c.target.log ≡ story j
    got : c.host.got ≡ items DataIn (incoming_data j.way j.moved)

  held : {c : Scene} → Reach j c → c.target.place ≡ away → Held c
  held (loads p a h t b) y = let u : ◌≡◌ {A = ℕ} 0 1 = cc in absurd (omega arith)
  held (seeks s p h t b) y = let u : ◌≡◌ {A = ℕ} 0 1 = cc in absurd (omega arith)
  held (greets s p h b) y = let u : ◌≡◌ {A = ℕ} 0 1 = cc in absurd (omega arith)
  held (commands had rest d s p h b q e t) y = let u : ◌≡◌ {A = ℕ} 0 1 = cc in absurd (omega arith)
  held (comes fifo rest w s p n i x t) y = let u : ◌≡◌ {A = ℕ} 0 1 = cc in absurd (omega arith)
  held (goes fifo rest give w s p n i x t) y = let u : ◌≡◌ {A = ℕ} 0 1 = cc in absurd (omega arith)
  held (statuses p f b z t) y = let u : ◌≡◌ {A = ℕ} 0 1 = cc in absurd (omega arith)
  held (ends fifo p w n i b z) y = let u : ◌≡◌ {A = ℕ} 0 1 = cc in absurd (omega arith)
  held (told p q e b z) y = let u : ◌≡◌ {A = ℕ} 0 1 = cc in absurd (omega arith)
  held (calm k q e b) y = let u : ◌≡◌ {A = ℕ} 0 1 = cc in absurd (omega arith)
  held (gone k q e b) y = record { log = refl; got = e }
  held (rests p n q e b) y = record { log = refl; got = e }

  some_left : {x : Access} {l : List Access} {X : Type 0} → x ∷ l ≡ [] → X
  some_left e = let u : ◌≡◌ {A = ℕ} 0 1 = cc in absurd (omega arith)

  code_left : {X : Type 0} (l b e d : Bool) (p : Phase) → asked (packed true l b e d) p ≡ [] → X
  code_left l b e d p f = some_left (sym (asked_is true l b e d p) ∙ f)

  -- with nothing left to do it has read status and count
  notes : {c : Scene} → Reach j c → Finished step j (by_transfer j) c → c.host.noted ≡ final_notes j
  unfolding steps
  notes (loads p a h t b) y = let w' = y.free in let u : ◌≡◌ {A = ℕ} 0 1 = cc in absurd (omega arith)
  notes (seeks s p h t b) y = let w' = y.free in let u : ◌≡◌ {A = ℕ} 0 1 = cc in absurd (omega arith)
  notes (greets s p h b) y = let w' = y.free in let u : ◌≡◌ {A = ℕ} 0 1 = cc in absurd (omega arith)
  notes (commands had rest d s p h b q e t) y = let w' = y.free in let u : ◌≡◌ {A = ℕ} 0 1 = cc in absurd (omega arith)
  notes (comes fifo rest w s p n i x t) y = let w' = y.free in let u : ◌≡◌ {A = ℕ} 0 1 = cc in absurd (omega arith)
  notes (goes fifo rest give w s p n i x t) y = let w' = y.free in let u : ◌≡◌ {A = ℕ} 0 1 = cc in absurd (omega arith)
  notes (statuses p f b z t) y = let w' = y.free in let u : ◌≡◌ {A = ℕ} 0 1 = cc in absurd (omega arith)
  notes (ends fifo p w n i b z) y = let w' = y.free in let u : ◌≡◌ {A = ℕ} 0 1 = cc in absurd (omega arith)
  notes (told p q e b z) y = let w' = y.free in let u : ◌≡◌ {A = ℕ} 0 1 = cc in absurd (omega arith)
  notes (calm k q e b) y = let w' = y.free in let u : ◌≡◌ {A = ℕ} 0 1 = cc in absurd (omega arith)
  notes (gone (reading (puts u h p) a) q e b) y = some_left y.rest
  notes (gone (reading (gets u p) a) q e b) y = some_left y.rest
  notes (gone (resting look n) q e b) y = code_left _ _ _ _ _ y.rest
  notes (gone (resting (seen coded) n) q e b) y = code_left _ _ _ _ _ y.rest
  notes (gone (resting (seen (taken k)) n) q e b) y = code_left _ _ _ _ _ y.rest
  notes (gone (resting (seen (sent k)) n) q e b) y = code_left _ _ _ _ _ y.rest
  notes (gone (resting (ready coded) n) q e b) y = code_left _ _ _ _ _ y.rest
  notes (gone (resting (ready (taken k)) n) q e b) y = code_left _ _ _ _ _ y.rest
  notes (gone (resting (ready (sent k)) n) q e b) y = code_left _ _ _ _ _ y.rest
  notes (rests p n q e b) y = n.notes

  bytes_same : (p : Phase) → (l : List ℕ) → bytes_of p (items p l) ≡ l
  unfolding pick
  bytes_same p [] = refl
  bytes_same p (b ∷ l) = rw (eq-eqb (phase_number p) (phase_number p) refl) (ap (λ (t : List ℕ). b ∷ t) (bytes_same p l))

  no_status : (l : List ℕ) → bytes_of StatusIn (items DataIn l) ≡ []
  unfolding pick
  no_status [] = refl
  no_status (b ∷ l) = no_status l

  status_is : (h : Host) → h.got ≡ items DataIn (incoming_data j.way j.moved) → h.noted ≡ final_notes j → status_held h ≡ j.status ∷ []
  unfolding pick
  status_is h e f = rw (e, f, no_status (incoming_data j.way j.moved))

  count_is : (h : Host) → h.noted ≡ final_notes j → count_held h ≡ count_bytes (loaded j - length j.moved)
  unfolding pick
  count_is h f =
      let n : loaded j - length j.moved ≡ length j.beyond = omega arith in
      rw (f, n)

  all_moves : (l : List Move) {c : Scene} → Reach j c → Reach j (moves step (by_transfer j) l c)
  unfolding moves move
  all_moves [] r = r
  all_moves (offer ∷ l) r = all_moves l (bus_step j pr r)
  all_moves (pass n ∷ l) r = all_moves l (pass_step j pr n r)
  all_moves (work ∷ l) r = all_moves l (work_step j pr r)

  pub promised : {c : Scene} → Reach j c → Promise step j (by_transfer j) c
  promised {c} r =
      record {
        so_far = so_far r;
        all = λ y. (held r y).log;
        data_in = λ y. ap (bytes_of DataIn) (held r y).got ∙ bytes_same DataIn (incoming_data j.way j.moved);
        status = λ y. status_is c.host (held r y.free).got (notes r y);
        count = λ y k. count_is c.host (notes r y);
        on = brought r;
      }

  pub serves : (l : List Move) {c : Scene} → Reach j c → Promise step j (by_transfer j) (moves step (by_transfer j) l c)
  serves l r = promised (all_moves l r)
