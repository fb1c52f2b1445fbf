-- Two addresses for which a driver reads 15h and the same place, on the same disk, are equal.
--   write_one write_all      registers 03 to 0Eh hold what is written there, one after the other
--   asked_is                 the state in which the driver looks
--   looked                   what it then reads
--   same_geometry            two loads that say the same disk
--   same_place_same_address  the law of specs/SamePlace.antt
use mathlib.Core.Path.{◌≡◌, refl, sym, ap, ap₂, ◌∙◌}
use mathlib.Core.Bool.{Bool, true, false, not}
use mathlib.Core.List.{List, [], ◌∷◌}
use Prim.Native.Nat.{ℕ, suc, ◌+◌, ◌-◌, ◌*◌, ◌/◌, ◌%◌, ◌<◌, ◌≤◌}
use native.Mathlib.Nat.{div-add-mod'}
use native.Mathlib.Omega.{arith}
use lib.Dec.{eqb}
use lib.ListN.{length, get_or, set}
use borrow.Author.Tests.{eq-eqb, ne_eqb, lt-ltb, lt-leb}
use Rattle.chip.specs.Choice.{pick, both, either}
use Rattle.chip.specs.State.{set_pointer, set_cdb, set_activity}
use Rattle.chip.specs.Ok.{Bytes}
use Rattle.chip.specs.Answers.{value}
use Rattle.chip.specs.Interrupts.{busy}
use Rattle.chip.specs.Activity.{is_running}
use Rattle.chip.specs.Translate.{Geometry, Physical, joined, has_spares_in, per_cylinder_in, geometry_of, address_of}
use Rattle.chip.specs.Registers as R
use Rattle.chip.specs.Registers.{register_at}
use Rattle.chip.specs.Calls.{Outcome, pointer, register, is_good, carried, step, run}
use Rattle.chip.specs.declared.State.{State}
use Rattle.chip.specs.declared.Reply.{Reply}
use Rattle.chip.specs.declared.Answer.{Answer}
use Rattle.chip.specs.declared.Answer.TheVariants.{Done, Held}
use Rattle.chip.specs.declared.Activity.TheVariants.{Interrupt}
use Rattle.chip.proofs.Cases.{by_test, taken, passed_over}
use Rattle.chip.proofs.Computing.{everything}
use Rattle.chip.proofs.ImageFields.{whole}
use Rattle.reached.proofs.Laws.{reached}
use Rattle.unread.specs.Status.{is_command}
use Rattle.unread.specs.Because.{Translates}
use Rattle.unread.proofs.Told.{good_step, access_step}
use Rattle.addresses.specs.Places.{Lies, cdb_of}
use Rattle.addresses.specs.SamePlace.{Ready, Loads, IsTranslate, SameDisk, written, asked, looks, told, PlaceRead, Finds, SamePlaceSameAddress}
use Rattle.addresses.proofs.Places.{places_right, leaves_the_rest}

-- ---- what is written

-- the bytes x in l, from the place i on
unfoldable over : List ℕ → ℕ → List ℕ → List ℕ
over l i [] = l
over l i (b ∷ x) = over (set l i b) (suc i) x

module _ (b a : ℕ) (s : State) (byte : b < 256) (from : 3 ≤ a) (to : a < 15) (at : s.status.pointer ≡ a) (free : busy s ≡ false) where
  good : is_good (register 1 b) ≡ true
  unfolding is_good both
  good = lt-ltb b 256 byte

  reachable : R.is_blind true a s ≡ false
  unfolding R.is_blind both either
  reachable = rw (lt-leb 0x1A a (omega (arith, to)), ne_eqb a 0x17 (λ e. omega (arith, to)), free)

  -- the address is one of 03 to 0Eh
  stored_is : R.stored_in a b s.registers ≡ (set_cdb (set (cdb_of s) (a - 3) b) s).registers
  unfolding R.stored_in
  stored_is =
      passed_over _ _ (ne_eqb a 0x00 (λ e. omega (arith, from)))
      ∙ passed_over _ _ (ne_eqb a 0x01 (λ e. omega (arith, from)))
      ∙ passed_over _ _ (ne_eqb a 0x02 (λ e. omega (arith, from)))
      ∙ taken _ _ (lt-ltb a 0x0F to)

  pointer_is : R.pointer_after a ≡ suc a
  unfolding R.pointer_after either pick
  pointer_is =
      rw (ne_eqb a 0x18 (λ e. omega (arith, to)), ne_eqb a 0x19 (λ e. omega (arith, to)), ne_eqb a 0x1F (λ e. omega (arith, to)))
      (omega (arith, to))

  reply_is : (R.accessed_at a true b s).state ≡ set_cdb (set (cdb_of s) (a - 3) b) s
  unfolding R.accessed_at R.written_at R.stored pick
  reply_is =
      ap (λ (r : Reply). r.state)
      (passed_over _ _ reachable
      ∙ passed_over _ _ (ne_eqb a 0x18 (λ e. omega (arith, to)))
      ∙ passed_over _ _ (ne_eqb a 0x19 (λ e. omega (arith, to))))
      ∙ rw stored_is refl

  write_one : (step (register 1 b) s).state ≡ set_pointer (suc a) (set_cdb (set (cdb_of s) (a - 3) b) s)
  unfolding R.stepped
  write_one =
      ap (λ (o : Outcome). o.state) (access_step 1 b s a true good refl (eq-eqb _ _ at))
      ∙ ap₂ (λ (p : ℕ) (t : State). set_pointer p t) pointer_is reply_is

write_all : (x : List ℕ) (a : ℕ) (s : State) → Bytes x → 3 ≤ a → a + length x ≤ 15 → s.status.pointer ≡ a → busy s ≡ false
    → run step (written x) s ≡ set_pointer (a + length x) (set_cdb (over (cdb_of s) (a - 3) x) s)
unfolding run busy over
write_all [] a s h from to at free = rw (at_end a) (rw (sym at) refl)
  where
    at_end : (n : ℕ) → n + 0 ≡ n
    at_end n = omega arith
write_all (b ∷ x) a s h from to at free =
    ap (run step (written x)) (write_one b a s (h 0) from (omega (arith, to)) at free)
    ∙ write_all x (suc a) (set_pointer (suc a) (set_cdb (set (cdb_of s) (a - 3) b) s)) (λ k. h (suc k)) (omega (arith, from)) (omega (arith, to)) refl free
    ∙ ap₂ (λ (p i : ℕ). set_pointer p (set_cdb (over (set (cdb_of s) (a - 3) b) i x) s)) (omega arith) (omega (arith, from))

-- twelve bytes over twelve
over_all : (l x : List ℕ) → length l ≡ 12 → length x ≡ 12 → over l 0 x ≡ x
unfolding over
over_all l x h k = ap₂ (λ (m y : List ℕ). over m 0 y) (sym (whole l h)) (sym (whole x k)) ∙ whole x k

-- ---- one driver

module _ (s : State) (r : Ready s) (long : length (cdb_of s) ≡ 12) (x : List ℕ) (h : Loads x) where
  -- the registers loaded, the pointer at 18h
  abbrev loaded : State
  loaded = set_pointer 0x18 (set_cdb x s)

  pointed : (a : ℕ) (t : State) → is_good (pointer 1 a) ≡ true → (step (pointer 1 a) t).state ≡ set_pointer a t
  unfolding carried R.pointer_set pick
  pointed a t g = ap (λ (o : Outcome). o.state) (good_step (pointer 1 a) t g)

  free : busy s ≡ false
  unfolding busy
  free = ap is_running r.idle

  loads_is : (step (pointer 1 0x18) (run step (written x) (step (pointer 1 0x03) s).state)).state ≡ loaded
  unfolding is_good both busy
  loads_is =
      ap (λ (t : State). (step (pointer 1 0x18) (run step (written x) t)).state) (pointed 0x03 s refl)
      ∙ ap (λ (t : State). (step (pointer 1 0x18) t).state)
      (write_all x 3 (set_pointer 3 s) h.bytes (omega arith) (omega (arith, h.long)) refl free)
      ∙ pointed 0x18 _ refl
      ∙ ap (λ (l : List ℕ). set_pointer 0x18 (set_cdb l s)) (over_all (cdb_of s) x long h.long)

  module _ (b : ℕ) (c : IsTranslate b) where
    translates : Translates (register 1 b) loaded
    unfolding is_command is_good both
    translates =
        record {
          command = rw (lt-ltb _ _ c.byte, eq-eqb _ _ c.code);
          quiet = rw r.idle refl;
          idle = ap is_running r.idle;
          apart = r.apart;
        }

    asked_is : asked step x b s ≡ (step (register 1 b) loaded).state
    asked_is = ap (λ (t : State). (step (register 1 b) t).state) loads_is

    after_is : asked step x b s ≡ set_activity Interrupt (step (register 1 b) loaded).state
    after_is = asked_is ∙ rw (sym (leaves_the_rest.told 1 b loaded translates)) refl

-- with a status unread, 17h gives it and the four registers follow
looked : (u : State) → told step looks (set_activity Interrupt u)
    ≡ Done 0
    ∷ Done u.status.code
    ∷ Done 0
    ∷ Done (register_at 0x0B u.registers)
    ∷ Done (register_at 0x0C u.registers)
    ∷ Done (register_at 0x0D u.registers)
    ∷ Done (register_at 0x0E u.registers)
    ∷ []
unfolding everything told
looked u = refl

-- the n-th number that was read
abbrev number_at : ℕ → List Answer → ℕ
number_at n l = value (get_or l n Held)

record Found (x : List ℕ) (p : PlaceRead) : Type 0 where
  pub place : Physical
  pub lies : Lies (geometry_of x) (address_of x) place
  pub sector : place.sector ≡ p.sector
  pub head : place.head ≡ p.head
  pub cylinder_high : place.cylinder / 256 ≡ p.cylinder_high
  pub cylinder_low : place.cylinder % 256 ≡ p.cylinder_low

module _ (s : State) (r : Ready s) (long : length (cdb_of s) ≡ 12) (x : List ℕ) (h : Loads x) (b : ℕ) (c : IsTranslate b) where
  found : (p : PlaceRead) → Finds step s x b p → Found x p
  found p e =
      let u : State = (step (register 1 b) (loaded s r long x h)).state in
      let read = sym (looked u) ∙ ap (told step looks) (sym (after_is s r long x h b c)) ∙ e in
      let real = places_right.real 1 b (loaded s r long x h) (translates s r long x h b c) h.long (ap (number_at 1) read) in
      let at = real.2 in
      record {
        place = real.0;
        lies = real.1;
        sector = sym at.sector ∙ ap (number_at 3) read;
        head = sym at.head ∙ ap (number_at 4) read;
        cylinder_high = sym at.cylinder_high ∙ ap (number_at 5) read;
        cylinder_low = sym at.cylinder_low ∙ ap (number_at 6) read;
      }

-- ---- two

-- a number by its bytes
same_number : (x y : ℕ) → x / 256 ≡ y / 256 → x % 256 ≡ y % 256 → x ≡ y
same_number x y h l = sym (div-add-mod' x 256) ∙ ap₂ (λ (a b : ℕ). a * 256 + b) h l ∙ div-add-mod' y 256

module _ (x y : List ℕ) (h : SameDisk x y) where
  same_spares : has_spares_in x ≡ has_spares_in y
  unfolding has_spares_in
  same_spares = ap not h.spares

  spares_are : {t : Bool} → eqb (get_or x 9 0) 0 ≡ t → has_spares_in x ≡ not t
  unfolding has_spares_in
  spares_are e = ap not e

  same_per : per_cylinder_in x ≡ per_cylinder_in y
  unfolding per_cylinder_in
  same_per =
      by_test (eqb (get_or x 9 0) 0)
      (λ e.
      passed_over _ _ (spares_are e)
      ∙ ap₂ (λ (a b : ℕ). a * b) h.sectors h.heads
      ∙ sym (passed_over _ _ (sym same_spares ∙ spares_are e)))
      (λ e.
      taken _ _ (spares_are e)
      ∙ ap₂ joined (h.per_cylinder_high e) (h.per_cylinder_low e)
      ∙ sym (taken _ _ (sym same_spares ∙ spares_are e)))

  same_geometry : geometry_of x ≡ geometry_of y
  same_geometry = rw (h.sectors, h.heads, h.cylinders_high, h.cylinders_low, same_per, same_spares) refl

  same_address : {p : PlaceRead} → Found x p → Found y p → address_of x ≡ address_of y
  same_address a b =
      let sector : a.place.sector ≡ b.place.sector = a.sector ∙ sym b.sector in
      let head : a.place.head ≡ b.place.head = a.head ∙ sym b.head in
      let cylinder : a.place.cylinder ≡ b.place.cylinder =
      same_number _ _ (a.cylinder_high ∙ sym b.cylinder_high) (a.cylinder_low ∙ sym b.cylinder_low) in
      a.lies.address
      ∙ ap (λ (g : Geometry). a.place.cylinder * g.per_cylinder + a.place.head * g.sectors + a.place.sector) same_geometry
      ∙ rw (sector, head, cylinder) (sym b.lies.address)

pub same_place_same_address : SamePlaceSameAddress step
same_place_same_address =
    record {
      same =
          λ l m x y b d p r q h k c e g u v.
          same_address x y g (found _ r (reached l).ok.cdb_long x h b c p u) (found _ q (reached m).ok.cdb_long y k d e p v);
    }
