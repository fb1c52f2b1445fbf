-- With a status unread nothing that the host does moves the bus or a command, but for Reset.
--   Unmoved unmoved   the bus lines, connection and running command after any other call
use mathlib.Core.Path.{◌≡◌, refl, ap}
use mathlib.Core.Bool.{true, false}
use mathlib.Core.List.{List, [], ◌∷◌}
use Prim.Native.Nat.{ℕ}
use lib.Dec.{eqb}
use Rattle.chip.specs.Choice.{both}
use Rattle.chip.specs.Lines.{code_of}
use Rattle.chip.specs.Fifo.{is_empty}
use Rattle.chip.specs.Answers.{no_data_now}
use Rattle.chip.specs.Interrupts.{interrupted}
use Rattle.chip.specs.Count.{dbr}
use Rattle.chip.specs.Commands.{commanded}
use Rattle.chip.specs.Registers as R
use Rattle.chip.specs.Calls.{Call, Outcome, pointer, auxiliary, register, block, time, answer, reselection, request, free, is_good, is_set, carried, step}
use Rattle.chip.specs.declared.State.{State}
use Rattle.chip.specs.declared.Reply.{Reply}
use Rattle.chip.specs.declared.Direction.{Direction}
use Rattle.chip.specs.declared.Direction.TheVariants.{Unfixed, In, Out}
use Rattle.chip.proofs.Cases.{by_pick, by_case, passed_over}
use Rattle.reached.specs.Sound.{Sound}
use Rattle.reached.proofs.Facts.{facts}
use Rattle.unread.specs.Status.{is_reset, is_command}
use Rattle.unread.specs.Ending.{is_event}
use Rattle.unread.proofs.Choosing.{clash}
use Rattle.unread.proofs.Host.{stored_keeps}
use Rattle.unread.proofs.Rows.{no_data, no_block}
use Rattle.belongs.proofs.StillBus.{unread_still}
use Rattle.belongs.specs.Belongs.{SameCommand}
use Rattle.unread.proofs.Unread.{int_pending}
use Rattle.chip.specs.Activity.{is_running, running_number, without_interrupt}
use Rattle.chip.specs.declared.Activity.{Activity}
use Rattle.chip.specs.declared.Activity.TheVariants.{Idle, Interrupt, Runs, Ends, ReadOut}

pub record Unmoved (s t : State) : Type 0 where
  pub wire : t.wire ≡ s.wire
  pub command : SameCommand s t

-- the read of a status starts and ends no command
cleared_runs : (a : Activity) → running_number (without_interrupt a) ≡ running_number a
cleared_runs Idle = refl
cleared_runs Interrupt = refl
cleared_runs (Runs r) = refl
cleared_runs (Ends r k) = refl
cleared_runs (ReadOut r) = refl

abbrev rest : (s : State) → Unmoved s s
rest s = record { wire = refl; command = record { running = refl; transfer = refl } }

-- the Data register gives and takes nothing
module _ (s : State) (e : is_empty s.fifo ≡ true) (d : dbr s ≡ false) where
  none_written : (b : ℕ) → R.data_written b s ≡ no_data_now s
  unfolding R.data_written
  none_written b = by_way s.transfer.direction
    where
      by_way : (x : Direction) → R.data_written_by x b s ≡ no_data_now s
      by_way Unfixed = refl
      by_way In = refl
      by_way Out = passed_over _ _ d

  block_written_lem : (l : List ℕ) → (R.block_written l s).state ≡ s
  unfolding R.block_written
  block_written_lem [] = refl
  block_written_lem (b ∷ l) = rw (none_written b)

module _ (s : State) (x : Sound s) (i : interrupted s ≡ true) where
  abbrev Rests : Reply → Type 0
  Rests r = Unmoved s r.state

  abbrev Leads : Outcome → Type 0
  Leads o = Unmoved s o.state

  idle : is_running s.activity ≡ false
  idle = ap is_running ((int_pending s).0 i)

  none_waits : is_empty s.fifo ≡ true
  none_waits = (facts x).idle_empty idle

  shut : dbr s ≡ false
  shut = (facts x).idle_shut idle

  commanded_rests : (b : ℕ) → eqb (code_of b) 0x00 ≡ false → Rests (commanded b s)
  unfolding commanded
  commanded_rests b n =
      by_case Rests _ (λ e. clash e n) (λ e. by_case Rests _ (λ f. record { wire = refl; command = record { running = refl; transfer = refl } }) (λ f. clash i f))

  read_rests : (a : ℕ) → Rests (R.read_at a s)
  unfolding R.read_at
  read_rests a =
      by_pick Rests _ (record { wire = refl; command = record { running = cleared_runs s.activity; transfer = refl } })
      (by_pick Rests _ (rest s) (by_pick Rests _ (rw (no_data s none_waits) (rest s)) (rest s)))

  written_rests : (m b : ℕ) → is_good (register m b) ≡ true → is_set m ≡ true → is_reset (register m b) s ≡ false
      → Rests (R.written_at s.status.pointer b s)
  unfolding R.written_at is_reset is_command both
  written_rests m b g w r =
      by_case Rests _ (λ a. commanded_rests b (rw (g, w, a) at r))
      (λ a. by_pick Rests _ (rw (none_written s none_waits shut b) (rest s))
      (record {
        wire = stored_keeps (λ (t : State). t.wire) (λ x t. refl) s.status.pointer b s;
        command = record {
          running = stored_keeps (λ (t : State). running_number t.activity) (λ x t. refl) s.status.pointer b s;
          transfer = stored_keeps (λ (t : State). t.transfer) (λ x t. refl) s.status.pointer b s;
        };
      }))

  access_rests : (m b : ℕ) → is_good (register m b) ≡ true → is_reset (register m b) s ≡ false → Rests (R.accessed (is_set m) b s)
  unfolding R.accessed R.stepped R.accessed_at
  access_rests m b g r =
      let h : Rests (R.accessed_at s.status.pointer (is_set m) b s) =
      by_pick Rests _ (rest s) (by_case Rests _ (λ w. written_rests m b g w r) (λ w. read_rests s.status.pointer)) in
      record { wire = h.wire; command = record { running = h.command.running; transfer = h.command.transfer } }

  block_rests : (m : ℕ) (l : List ℕ) → Unmoved s (carried (block m l) s).state
  unfolding carried
  block_rests m l =
      by_pick (λ (r : R.Moved). Unmoved s r.state) _ (rw (block_written_lem s none_waits shut l) (rest s)) (rw (no_block l s none_waits) (rest s))

  -- a bus event leaves everything
  event_rests : (c : Call) → is_event c ≡ true → Unmoved s (step c s).state
  event_rests c v =
      let e = (unread_still s i c v).same in
      record {
        wire = ap (λ (t : State). t.wire) e;
        command = record { running = ap (λ (t : State). running_number t.activity) e; transfer = ap (λ (t : State). t.transfer) e };
      }

  pub unmoved : (c : Call) → is_reset c s ≡ false → Unmoved s (step c s).state
  unfolding step carried R.pointer_set R.pointer_read R.auxiliary_read
  unmoved (pointer m b) r =
      by_pick Leads _ (by_pick Rests _ (record { wire = refl; command = record { running = refl; transfer = refl } }) (rest s)) (rest s)
  unmoved auxiliary r = by_pick Leads _ (rest s) (rest s)
  unmoved (register m b) r = by_case Leads _ (λ g. access_rests m b g r) (λ g. rest s)
  unmoved (block m l) r = by_pick Leads _ (block_rests m l) (rest s)
  unmoved (time n) r = event_rests (time n) refl
  unmoved answer r = event_rests answer refl
  unmoved (reselection lines) r = event_rests (reselection lines) refl
  unmoved (request p b q) r = event_rests (request p b q) refl
  unmoved free r = event_rests free refl
