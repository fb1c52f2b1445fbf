-- The host's accesses to 00 to 16h while no command runs, and how a scene is brought on by an access.
--   point_step, put_step, get_step     the calls
--   put_done, get_done                 pointer and access together
--   wait_at, Attends, attend           an access is due, and with it made the Target is brought on
--   at_once                            it is brought on already
use Rattle.std.specs.Prelude.{Option}
use mathlib.Core.Path.{◌≡◌, refl, sym, subst}
use mathlib.Core.Bool.{Bool, true, false}
use mathlib.Core.List.{List, [], ◌∷◌, ◌++◌}
use Prim.Native.Nat.{ℕ, ◌<◌}
use native.Mathlib.Omega.{arith}
use borrow.Author.Tests.{lt-ltb, lt-leb, ne_eqb}
use Rattle.chip.specs.Choice.{pick, both, either}
use Rattle.chip.specs.State.{set_pointer}
use Rattle.chip.specs.Interrupts.{busy}
use Rattle.chip.specs.Activity.{is_running}
use Rattle.chip.specs.Registers.{pointer_set, pointer_after, is_blind, register_at, read_at, written_at, stepped, accessed_at, accessed, stored_in}
use Rattle.chip.specs.Calls.{pointer, register, Outcome, is_good, carried, step}
use Rattle.chip.specs.declared.State.{State}
use Rattle.chip.specs.declared.Answer.TheVariants.{Done}
use Rattle.chip.specs.declared.Registers.{Registers}
use Rattle.chip.specs.declared.Status.{Status}
use Rattle.chip.specs.declared.Transfer.{Transfer}
use Rattle.chip.specs.declared.Connection.TheVariants.{Disconnected}
use Rattle.chip.specs.declared.Fifo.{Fifo}
use Rattle.chip.specs.declared.Wire.{Wire}
use Rattle.chip.specs.declared.Activity.{Activity}
use Rattle.chip.specs.declared.Direction.{Direction}
use Rattle.chip.specs.declared.Phase.{Phase}
use Rattle.story.specs.Story.{Item}
use Rattle.story.specs.Hosts.{Access, put, get, Note, note, Host, Program}
use Rattle.story.specs.Schedule.{Target, Scene, replanned, access, bus, due, attended, is_none, onward, calling, Brought, now, later}
use Rattle.story.proofs.Opening.{scenes}
use Rattle.served.proofs.Opening.{steps}
use Rattle.served.proofs.Parts.{Kept, the_status, the_transfer, the_state, the_host, the_wire, the_target, the_scene, stored_is}

abbrev gives : ℕ → State → Outcome
gives v s = record { answer = Done v; state = s; lent = [] }

pub point_step : (a : ℕ) (s : State) → a < 256 → step (pointer 1 a) s ≡ gives 0 (set_pointer a s)
unfolding step is_good carried pointer_set pick both
point_step a s h = rw (lt-ltb a 256 h)

module _ (r : Registers) (c m : ℕ) (l e : Bool) (y : Activity) (q : Fifo) (d : Direction) (o : Bool) (w : Wire) (calm : is_running y ≡ false) where
  abbrev at : ℕ → Registers → State
  at a r' = the_state r' (the_status a c m l e) y q (the_transfer d o) w

  pub put_step : (a b : ℕ) → a < 0x17 → b < 256 → step (register 1 b) (at a r) ≡ gives 0 (at (pointer_after a) (stored_in a b r))
  unfolding step is_good carried accessed accessed_at is_blind busy written_at stepped pick both either
  put_step a b h k =
      rw (
        lt-ltb b 256 k,
        calm,
        lt-leb 0x1A a (omega arith),
        ne_eqb a 0x17 (omega arith),
        ne_eqb a 0x18 (omega arith),
        ne_eqb a 0x19 (omega arith),
        stored_is a b r (the_status a c m l e) y q (the_transfer d o) w,
      )

  pub get_step : (a : ℕ) → a < 0x17 → step (register 0 0) (at a r) ≡ gives (register_at a r) (at (pointer_after a) r)
  unfolding step is_good carried accessed accessed_at is_blind busy read_at stepped pick both either
  get_step a h =
      rw (calm, lt-leb 0x1A a (omega arith), ne_eqb a 0x17 (omega arith), ne_eqb a 0x18 (omega arith), ne_eqb a 0x19 (omega arith))

  module _ (g : Program) (ph : Phase) (v : List ℕ) (got : List Item) (n : List Note) (t : Target) (x : ℕ) (f : Bool) (td k : List Access) where
    pub put_done : (a b : ℕ) → a < 0x17 → b < 256
        → access step g (access step g (replanned (put a b ∷ k) (the_scene (at x r) (the_host td f ph v got n) t)))
        ≡ the_scene (at (pointer_after a) (stored_in a b r)) (the_host k false ph v got n) t
    unfolding scenes
    put_done a b h i = rw (point_step a (at x r) (omega arith), put_step a b h i)

    pub get_done : (a : ℕ) → a < 0x17
        → access step g (access step g (replanned (get a ∷ k) (the_scene (at x r) (the_host td f ph v got n) t)))
        ≡ the_scene (at (pointer_after a) r) (the_host k false ph v got (n ++ (note a (register_at a r) ∷ []))) t
    unfolding scenes
    get_done a h = rw (point_step a (at x r) (omega arith), get_step a h)

pub wait_at : (g : Program) (c k : Scene) {x : Scene} → bus step g c ≡ k → is_none (due step g k) ≡ false → attended step g k ≡ x → Brought step g x
    → Brought step g c
wait_at g c k e f h b =
    later (subst (λ (z : Scene). is_none (due step g z) ≡ false) (sym e) f)
    (subst (λ (z : Scene). Brought step g (attended step g z)) (sym e) (subst (λ (z : Scene). Brought step g z) (sym h) b))

module _ (g : Program) where
  pub at_once : (c : Scene) → onward step g c.target.place c ≡ true → Brought step g c
  at_once c e = now e

  -- an access is due, and with it made the Target is brought on
  pub record Attends (c : Scene) : Type 0 where
    pub asks : is_none (due step g c) ≡ false
    pub on : Brought step g (attended step g c)

  pub attend : (c : Scene) → Attends (bus step g c) → Brought step g c
  attend c a = later a.asks a.on

  pub attend_at : {c k : Scene} → bus step g c ≡ k → Attends k → Brought step g c
  attend_at {c} e a = attend c (subst (λ (z : Scene). Attends z) (sym e) a)

  -- before the selection the Target calls in vain
  pub bus_idle : (r : Registers) (st : Status) (act : Activity) (q : Fifo) (tr : Transfer) (at ak : Bool) (rp ls : Option Phase) (id : Kept) (el : ℕ) (h : Host)
      (pa : ℕ) (t : List Item)
      → bus step g (the_scene (the_state r st act q tr (the_wire Disconnected at ak rp ls id el)) h (the_target calling pa [] t))
      ≡ the_scene (the_state r st act q tr (the_wire Disconnected at ak rp ls id el)) h (the_target calling pa [] t)
  unfolding steps
  bus_idle r st act q tr at ak rp ls id el h pa t = refl

pub none_left : {x : ℕ} (d e : List ℕ) → [] ≡ (x ∷ d) ++ e → ⊥
none_left d e q = let z : ◌≡◌ {A = ℕ} 0 1 = cc in omega arith
