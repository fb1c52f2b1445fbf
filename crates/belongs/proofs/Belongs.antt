-- The promise of specs/Belongs.antt holds of the step.
--   status_belongs   the status that a driver reads, with INT set, belongs to what last happened
--   Belongs owed_belongs   .. of every code that is owed, one that is still to come too
--   passed_on        a code that is owed after a call is caused by it, or was owed before and is not disturbed
use mathlib.Core.Path.{◌≡◌, refl, sym, ap, ◌∙◌}
use mathlib.Core.Bool.{true, false, not}
use mathlib.Core.List.{List, [], ◌∷◌, ◌++◌}
use mathlib.Core.Logic.{◌⊎◌, inl, inr, ⊎_elim}
use Prim.Native.Nat.{ℕ}
use Rattle.chip.specs.Choice.{pick, both, either}
use Rattle.chip.specs.State.{fresh, set_pointer}
use Rattle.chip.specs.Interrupts.{interrupted, in_ending, busy}
use Rattle.chip.specs.Activity.{is_interrupt, is_ending, is_running}
use Rattle.chip.specs.Registers as R
use Rattle.chip.specs.Calls.{Call, Outcome, pointer, auxiliary, register, is_byte, is_good, carried, step, run}
use Rattle.chip.specs.declared.State.{State}
use Rattle.chip.specs.declared.Wire.{Wire}
use Rattle.chip.specs.declared.Answer.TheVariants.{Done, Blind}
use Rattle.chip.specs.declared.Activity.{Activity}
use Rattle.chip.proofs.Cases.{by_test, either_last}
use Rattle.reached.specs.Sound.{Sound}
use Rattle.unread.specs.Status.{Ending, pending, is_reset, is_disconnect, reads_at, raised}
use Rattle.unread.specs.Because.{Because}
use Rattle.unread.specs.Codes as C
use Rattle.unread.specs.Codes.{Since}
use Rattle.unread.proofs.Choosing.{clash}
use Rattle.unread.proofs.Pendings.{is_end, int_by, end_by, cleared_int}
use Rattle.unread.proofs.Told.{reset_told, disconnect_told, ReadTold, blind, read, status_read}
use Rattle.unread.proofs.Unread.{int_pending, unread_status_kept, raised_anew, raised_reset}
use Rattle.unread.proofs.Because.{Found, quiet, reading_out, resetting, because_found, raised_because, ending_because}
use Rattle.unread.proofs.Codes.{run_more, by_calls}
use Rattle.unread.proofs.Ending.{ending_is_still}
use Rattle.unread.proofs.Placed.{ending_placed}
use Rattle.belongs.specs.StillBus.{is_pending}
use Rattle.belongs.specs.Belongs.{flags, Causes, at_once, to_come, Owes, unread, coming, Undisturbed, StatusBelongs}
use Rattle.belongs.proofs.StillBus.{unread_still}
use Rattle.reached.proofs.Laws.{reached}
use Rattle.belongs.proofs.Unmoved.{unmoved}

module _ (k : ℕ) (c : Call) (s : State) where
  abbrev Passed : Type 0
  Passed = Causes c s k ⊎ Undisturbed step k c s

  -- an ending with k, before the call and after it, or raised by it
  in_ending_lem : pending s ≡ Ending k → is_reset c s ≡ false → is_disconnect c s ≡ false → Undisturbed step k c s
  in_ending_lem p r d =
      record {
        owed = coming p;
        still = ending_is_still c s (end_by s p);
        placed = ending_placed c s k p r d;
        bus = λ i. clash i (int_by s p);
        command = λ i. clash i (int_by s p);
      }

  -- after a Reset INT is set, and after a Disconnect nothing is pending
  no_reset : interrupted (step c s).state ≡ false → is_reset c s ≡ false
  no_reset n = by_test (is_reset c s) (λ r. clash (ap is_interrupt (reset_told c s r).1) n) (λ r. r)

  no_disconnect : interrupted s ≡ false → is_pending (step c s).state ≡ true → is_disconnect c s ≡ false
  unfolding either
  no_disconnect i o =
      by_test (is_disconnect c s) (λ d. clash o (ap (λ (a : Activity). either (is_interrupt a) (is_ending a)) (disconnect_told c s d i).1))
      (λ d. d)

  -- what the table says of a code that was not there before
  found_on : Because c s k → is_reset c s ≡ false → interrupted s ≡ false → interrupted (step c s).state ≡ true → Found c s k → Passed
  unfolding either
  found_on h r i j (quiet q) = inl (at_once h (rw (end_by s q)))
  found_on h r i j (reading_out o) = inr (in_ending_lem o.ending r (no_disconnect i (rw j)))
  found_on h r i j (resetting f) = clash f r

  -- the code stands unread after the call
  raised_on : Sound s → interrupted (step c s).state ≡ true → (step c s).state.status.code ≡ k → Passed
  raised_on x j e =
      by_test (is_reset c s) (λ r. inl (at_once (because (raised_reset c s _ j r)) (rw r (either_last (not (in_ending s))))))
      (λ r. by_test (interrupted s) (λ i. inr (kept r i))
      (λ i. let h : Because c s k = because (raised_anew c s _ j i) in found_on h r i j (because_found h)))
    where
      because : raised c s (step c s).state ≡ true → Because c s k
      because h = rw e at (raised_because.sound c s h)

      kept : is_reset c s ≡ false → interrupted s ≡ true → Undisturbed step k c s
      kept r i =
          let u = unmoved s x i c r in
          record {
            owed = unread i (sym (unread_status_kept.code_kept c s i r) ∙ e);
            still = unread_still s i c;
            placed = ap (λ (w : Wire). w.connection) u.wire;
            bus = λ i. u.wire;
            command = λ i. u.command;
          }

  pub passed_on : Sound s → Owes k (step c s).state → Passed
  unfolding either
  passed_on x (unread j e) = raised_on x j e
  passed_on x (coming p) =
      ⊎_elim (λ q. inr (in_ending_lem q (no_reset (int_by (step c s).state p)) (no_disconnect (int_by s q) (owing p)))) (λ b. inl (to_come b))
      (ending_because.sound c s k p)
    where
      owing : pending (step c s).state ≡ Ending k → is_pending (step c s).state ≡ true
      owing p = rw (int_by (step c s).state p, end_by (step c s).state p)

abbrev pub Belongs : List Call → Type 0
Belongs l = (k : ℕ) → Owes k (run step l fresh) → Since step (λ c s. Causes c s k) (Undisturbed step k) l

nothing_owed : Belongs []
unfolding run
nothing_owed k (unread i e) = clash i refl
nothing_owed k (coming p) = clash (ap is_end p) refl

one_more : (l : List Call) (c : Call) → Belongs l → Belongs (l ++ (c ∷ []))
one_more l c h k o =
    ⊎_elim (C.now l c) (λ u. C.still l c (h k u.owed) u) (passed_on k c (run step l fresh) (reached l) (rw (run_more step l c fresh) at o))

-- 17h is not Blind: with INT set no command runs
read_gives : (s : State) (o : Outcome) → busy s ≡ false → ReadTold s o → o.answer ≡ Done s.status.code
read_gives s o n (blind b a k q) = clash b n
read_gives s o n (read b a k q) = a

-- .. and is Blind while one does
read_hushed : (s : State) (o : Outcome) → busy s ≡ true → ReadTold s o → o.answer ≡ Blind
read_hushed s o n (blind b a k q) = a
read_hushed s o n (read b a k q) = clash n b

-- it clears INT
read_clears : (s : State) (o : Outcome) → busy s ≡ false → ReadTold s o → interrupted o.state ≡ false
read_clears s o n (blind b a k q) = clash b n
read_clears s o n (read b a k q) = ap is_interrupt q ∙ cleared_int s.activity

pub owed_belongs : (l : List Call) → Belongs l
owed_belongs = by_calls Belongs nothing_owed one_more

-- with INT set no command runs
not_busy : (s : State) → interrupted s ≡ true → busy s ≡ false
unfolding busy
not_busy s i = ap is_running ((int_pending s).0 i)

-- the driver's own two calls
pointed : (s : State) (b : ℕ) → is_byte b ≡ true → (step (pointer 1 b) s).state ≡ set_pointer b s
unfolding step carried is_good R.pointer_set both pick
pointed s b e = rw e

hears : (s : State) → busy s ≡ false → (step (register 0 0) (set_pointer 0x17 s)).answer ≡ Done s.status.code
unfolding reads_at is_good both busy
hears s n =
    read_gives (set_pointer 0x17 s) (step (register 0 0) (set_pointer 0x17 s)) n (status_read (register 0 0) (set_pointer 0x17 s) refl)

shows : (s : State) → (step auxiliary s).answer ≡ Done (flags s)
unfolding step carried is_good R.auxiliary_read pick
shows s = refl

pub status_belongs : StatusBelongs step
status_belongs =
    record {
      shown = λ l. shows (run step l fresh);
      heard = λ l i.
          ap (λ (t : State). (step (register 0 0) t).answer) (pointed (run step l fresh) 0x17 refl)
          ∙ hears (run step l fresh) (not_busy (run step l fresh) i);
      pointed = λ l. pointed (run step l fresh);
      hushed = λ l c b r. read_hushed (run step l fresh) _ b (status_read c (run step l fresh) r);
      given = λ l c i r.
          let s : State = run step l fresh in
          let n : busy s ≡ false = not_busy s i in
          let t : ReadTold s (step c s) = status_read c s r in
          let u = unmoved s (reached l) i c (no_reset 0 c s (read_clears s (step c s) n t)) in
          record {
            code = read_gives s (step c s) n t;
            bus = u.wire;
            command = u.command;
          };
      belongs = λ l i. owed_belongs l (run step l fresh).status.code (unread i refl);
    }
