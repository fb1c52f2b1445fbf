-- Every call keeps the facts, so every state reached from the fresh one has them.
--   kept                 law: a step keeps them
--   fresh_sound          the fresh state has them
--   reached              every state reached has them
--   reached_image        the image of every state reached is valid
--   by_parts, of_parts   the facts as `Sound` has them, and by a state's parts
use mathlib.Core.Path.{◌≡◌, refl}
use mathlib.Core.Bool.{Bool, true, false, not}
use mathlib.Core.List.{List, [], ◌∷◌}
use Prim.Native.Nat.{ℕ, ◌<◌}
use borrow.Author.Tests.{ltb-true}
use lib.Dec.{eqb}
use Rattle.chip.specs.Choice.{either}
use Rattle.chip.specs.Interrupts.{busy}
use Rattle.chip.specs.Activity.{is_running}
use Rattle.chip.specs.State.{fresh}
use Rattle.chip.specs.Fifo.{is_empty}
use Rattle.chip.specs.Phases.{phase_of}
use Rattle.chip.specs.Registers.{pointer_read, pointer_set, auxiliary_read, is_blind, read_at, written_at, stepped, accessed_at, accessed, Moved}
use Rattle.chip.specs.Calls.{Call, Outcome, pointer, auxiliary, register, block, time, answer, reselection, request, free, is_mark, is_good, is_set, carried, step, run}
use Rattle.chip.specs.Image.{image_of, is_image}
use Rattle.chip.specs.declared.State.{State}
use Rattle.chip.proofs.ImageLaws.{fresh_ok, image_valid}
use Rattle.chip.proofs.Cases.{by_pick, by_case, both_second, either_rest}
use Rattle.reached.specs.Sound.{unasked, apart, idle, Sound, Kept}
use Rattle.reached.proofs.Shapes.{Good, so, Fine}
use Rattle.reached.proofs.Requests.{request_kept}
use Rattle.reached.proofs.Events.{time_kept, answer_kept, reselection_kept, free_kept}
use Rattle.reached.proofs.Host.{data_read_kept, data_written_kept, block_read_kept, block_written_kept, stored_kept, status_read_kept}
use Rattle.reached.proofs.Commands.{refused, commanded_kept}

-- ---- every call

neither : (t u : Bool) → t ≡ false → u ≡ false → not (either t u) ≡ true
unfolding either
neither t u e f = rw (e, f)

module _ (s : State) (g : Good s) where
  -- 00 to 17h are not Blind only where no command runs
  calm : (w : Bool) (a : ℕ) → is_blind w a s ≡ false → eqb a 0x18 ≡ false → eqb a 0x19 ≡ false
      → is_running s.activity ≡ false
  unfolding is_blind busy
  calm w a h m n = refused _ _ (either_rest _ _ (either_rest _ _ h)) (neither (eqb a 0x18) (eqb a 0x19) m n)

  written : (w : Bool) (a b : ℕ) → b < 256 → is_blind w a s ≡ false → Fine (written_at a b s)
  unfolding written_at
  written w a b h x =
      by_case Fine _ (λ e. commanded_kept b s g) λ m.
      by_case Fine _ (λ e. data_written_kept b s g) λ n. stored_kept a b s h (calm w a x m n) g

  read : (a : ℕ) → Fine (read_at a s)
  unfolding read_at
  read a = by_pick Fine _ (status_read_kept s g) (by_pick Fine _ g (by_pick Fine _ (data_read_kept s g) g))

  at_pointer : (a : ℕ) (w : Bool) (b : ℕ) → b < 256 → Fine (accessed_at a w b s)
  unfolding accessed_at
  at_pointer a w b h = by_case Fine _ (λ e. g) (λ e. by_pick Fine _ (written w a b h e) (read a))

  access : (w : Bool) (b : ℕ) → b < 256 → Fine (accessed w b s)
  unfolding accessed stepped
  access w b h =
      let x : Fine (accessed_at s.status.pointer w b s) = at_pointer s.status.pointer w b h in
      so _ x.numbers x.whole x.shape

  carried_kept : (c : Call) → is_good c ≡ true → Good (carried c s).state
  unfolding carried is_good pointer_read pointer_set auxiliary_read
  carried_kept (pointer m b) e = by_pick Fine _ (so _ g.numbers g.whole g.shape) g
  carried_kept auxiliary e = g
  carried_kept (register m b) e = access (is_set m) b (ltb-true b 256 (both_second (is_mark m) _ e))
  carried_kept (block m l) e = by_pick (λ (x : Moved). Good x.state) _ (block_written_kept l s g) (block_read_kept l s g)
  carried_kept (time n) e = time_kept s g n
  carried_kept answer e = answer_kept s g
  carried_kept (reselection lines) e = reselection_kept s g lines
  carried_kept (request p b q) e = request_kept (phase_of p) b (is_set q) s g
  carried_kept free e = free_kept s g

  step_kept : (c : Call) → Good (step c s).state
  unfolding step
  step_kept c = by_case (λ (o : Outcome). Good o.state) _ (carried_kept c) (λ e. g)

-- ---- the facts and their parts

pub by_parts : {s : State} → Sound s → Good s
by_parts x =
    let o = x.ok in
    so _ (record { cdb_long = o.cdb_long; count_below = o.count_below; identity_below = o.identity_below })
    o.fifo x.shape

pub of_parts : {s : State} → Good s → Sound s
of_parts g =
    let n = g.numbers in
    let u = g.whole in
    record {
      ok =
          record {
            cdb_long = n.cdb_long;
            count_below = n.count_below;
            identity_below = n.identity_below;
            fifo = u;
          };
      shape = g.shape;
    }

pub kept : Kept step
kept c s x = of_parts (step_kept s (by_parts x) c)

pub fresh_sound : Sound fresh
unfolding is_empty
fresh_sound = record { ok = fresh_ok; shape = idle unasked refl refl apart }

run_sound : (l : List Call) (s : State) → Sound s → Sound (run step l s)
unfolding run
run_sound [] s x = x
run_sound (c ∷ l) s x = run_sound l (step c s).state (kept c s x)

pub reached : (l : List Call) → Sound (run step l fresh)
reached l = run_sound l fresh fresh_sound

pub reached_image : (l : List Call) → is_image (image_of (run step l fresh)) ≡ true
reached_image l = image_valid (run step l fresh) (reached l).ok
