-- Translate Address places right, and leaves the rest.
--   lies there within_lies   the place by the two divisions is the one where the address lies
--   Carried carried          what the step makes of a Translate Address
--   places_right leaves_the_rest   the laws of specs/Places.antt
use mathlib.Core.Path.{◌≡◌, refl, sym, ap, ◌∙◌}
use mathlib.Core.Bool.{true, false}
use mathlib.Core.List.{List}
use mathlib.Core.Logic.{◌⊎◌, inl, ⊎_elim}
use Prim.Native.Nat.{ℕ, ◌+◌, ◌-◌, ◌*◌, ◌/◌, ◌%◌, ◌<◌}
use native.Mathlib.Nat.{add_assoc, mod-lt, div-add-mod', lt_irrefl}
use native.Mathlib.Omega.{arith}
use lib.Arith.{digits_div, digits_mod}
use lib.Dec.{eqb, ltb}
use lib.ListN.{length, get_or, set, length-set}
use lib.Seq.{get_or-set_same, get_or-set_other}
use Rattle.chip.specs.Choice.{pick, either}
use Rattle.chip.specs.Answers.{done}
use Rattle.chip.specs.State.{with_cdb, set_cdb}
use Rattle.chip.specs.Interrupts.{raise, outgoing_dropped}
use Rattle.chip.specs.Translate.{Geometry, Physical, cylinder_of, head_of, sector_of, geometry_of, address_of, physical_of, placed, translated_by, translated}
use Rattle.chip.specs.Registers as R
use Rattle.chip.specs.Registers.{register_at}
use Rattle.chip.specs.Commands.{accepted}
use Rattle.chip.specs.Calls.{Outcome, register, is_good, is_set, plain, step}
use Rattle.chip.specs.declared.State.{State}
use Rattle.chip.specs.declared.Reply.{Reply}
use Rattle.chip.specs.declared.Registers.{Registers}
use Rattle.chip.specs.declared.Answer.TheVariants.{Done}
use Rattle.chip.specs.declared.Activity.TheVariants.{Interrupt}
use Rattle.chip.proofs.Cases.{by_test, both_first, both_second, taken, passed_over}
use Rattle.chip.proofs.Translate.{Within, within, exceeds_not}
use Rattle.unread.specs.Because.{Translates, is_off_disk}
use Rattle.unread.proofs.Choosing.{clash}
use Rattle.unread.proofs.Told.{issued_by}
use Rattle.unread.proofs.Rows.{translate_taken}
use Rattle.unread.specs.Status.{is_command}
use borrow.Author.Tests.{eqb-true, ltb-true}
use Rattle.addresses.specs.Places.{Lies, cdb_of, Shows, PlacesRight, Kept, LeavesTheRest}

-- ---- the place

module _ (g : Geometry) (n : ℕ) where
  pub lies : Within g n → Lies g n (physical_of g n)
  unfolding cylinder_of head_of sector_of
  lies w =
      let per = g.per_cylinder in
      let rest = n % per in
      let parts : rest / g.sectors * g.sectors + rest % g.sectors ≡ rest = div-add-mod' rest g.sectors in
      record {
        address =
            sym (div-add-mod' n per)
            ∙ ap (λ (x : ℕ). n / per * per + x) (sym parts)
            ∙ sym (add_assoc (n / per * per) (rest / g.sectors * g.sectors) (rest % g.sectors));
        on_track = mod-lt rest w.on_track;
        on_cylinder = rw parts (omega (arith, mod-lt n w.on_cylinder));
        head = w.head;
        cylinder = w.cylinder;
        limits = λ e. record { cylinders = w.few_cylinders e; heads = w.few_heads e };
      }

  module _ (p : Physical) (h : Lies g n p) where
    split : n ≡ p.cylinder * g.per_cylinder + (p.head * g.sectors + p.sector)
    split = h.address ∙ add_assoc (p.cylinder * g.per_cylinder) (p.head * g.sectors) p.sector

    rest_is : n % g.per_cylinder ≡ p.head * g.sectors + p.sector
    rest_is = ap (λ (x : ℕ). x % g.per_cylinder) split ∙ digits_mod p.cylinder h.on_cylinder

    cylinder_is : cylinder_of g n ≡ p.cylinder
    unfolding cylinder_of
    cylinder_is = ap (λ (x : ℕ). x / g.per_cylinder) split ∙ digits_div p.cylinder h.on_cylinder

    head_is : head_of g n ≡ p.head
    unfolding head_of
    head_is = ap (λ (x : ℕ). x / g.sectors) rest_is ∙ digits_div p.head h.on_track

    sector_is : sector_of g n ≡ p.sector
    unfolding sector_of
    sector_is = ap (λ (x : ℕ). x % g.sectors) rest_is ∙ digits_mod p.head h.on_track

    pub there : physical_of g n ≡ p
    there = rw (cylinder_is, head_is, sector_is) refl

    pub within_lies : Within g n
    within_lies =
        record {
          on_cylinder = omega (arith, h.on_cylinder);
          on_track = omega (arith, h.on_track);
          head = rw head_is h.head;
          cylinder = rw cylinder_is h.cylinder;
          few_cylinders = λ e. (h.limits e).cylinders;
          few_heads = λ e. (h.limits e).heads;
        }

-- ---- the step

module _ (m b : ℕ) (s : State) (h : Translates (register m b) s) where
  pub carried : step (register m b) s ≡ plain (R.stepped 0x18 (done 0 (translated (accepted b s))))
  carried =
      let i = issued_by 0x18 m b s h.command in
      i.1
      ∙ ap (λ (r : Reply). plain (R.stepped 0x18 r)) (translate_taken (register m b) s h.quiet h.idle h.apart b i.0)

  -- 18h is the address that is accessed, and there the pointer stays
  pub at : 0x18 ≡ s.status.pointer
  unfolding is_command
  at =
      let f = both_second (is_good (register m b)) _ h.command in
      sym (eqb-true _ _ (both_first _ _ (both_second (is_set m) _ f)))

-- ---- the registers

module _ (p : Physical) (l : List ℕ) where
  abbrev one : List ℕ
  one = set l 8 p.sector

  abbrev two : List ℕ
  two = set one 9 p.head

  abbrev three : List ℕ
  three = set two 10 (p.cylinder / 256)

  placed_other : (j : ℕ) → (j < 8) ⊎ (11 < j) → get_or (placed p l) j 0 ≡ get_or l j 0
  unfolding placed
  placed_other j h =
      get_or-set_other three 11 j _ 0 (λ e. ⊎_elim (λ x. omega arith) (λ x. omega arith) h)
      ∙ get_or-set_other two 10 j _ 0 (λ e. ⊎_elim (λ x. omega arith) (λ x. omega arith) h)
      ∙ get_or-set_other one 9 j _ 0 (λ e. ⊎_elim (λ x. omega arith) (λ x. omega arith) h)
      ∙ get_or-set_other l 8 j _ 0 (λ e. ⊎_elim (λ x. omega arith) (λ x. omega arith) h)

  module _ (long : length l ≡ 12) where
    long_one : length one ≡ 12
    long_one = length-set l 8 _ ∙ long

    long_two : length two ≡ 12
    long_two = length-set one 9 _ ∙ long_one

    long_three : length three ≡ 12
    long_three = length-set two 10 _ ∙ long_two

    sector_placed : get_or (placed p l) 8 0 ≡ p.sector
    unfolding placed
    sector_placed =
        get_or-set_other three 11 8 _ 0 (λ e. omega arith) ∙ get_or-set_other two 10 8 _ 0 (λ e. omega arith)
        ∙ get_or-set_other one 9 8 _ 0 (λ e. omega arith) ∙ get_or-set_same l 8 _ 0 (omega (arith, long))

    head_placed : get_or (placed p l) 9 0 ≡ p.head
    unfolding placed
    head_placed =
        get_or-set_other three 11 9 _ 0 (λ e. omega arith) ∙ get_or-set_other two 10 9 _ 0 (λ e. omega arith)
        ∙ get_or-set_same one 9 _ 0 (omega (arith, long_one))

    high_placed : get_or (placed p l) 10 0 ≡ p.cylinder / 256
    unfolding placed
    high_placed = get_or-set_other three 11 10 _ 0 (λ e. omega arith) ∙ get_or-set_same two 10 _ 0 (omega (arith, long_two))

    low_placed : get_or (placed p l) 11 0 ≡ p.cylinder % 256
    unfolding placed
    low_placed = get_or-set_same three 11 _ 0 (omega (arith, long_three))

-- a register that is not among those that differ
other_register : (a : ℕ) (r : Registers) (x : List ℕ) → (ltb a 0x0F ≡ true → get_or x (a - 3) 0 ≡ get_or r.descriptor.cdb (a - 3) 0)
    → register_at a (with_cdb x r) ≡ register_at a r
unfolding register_at
other_register a r x h =
    ap (λ (y : ℕ). pick (eqb a 0x00) r.setup.own (pick (eqb a 0x01) r.setup.control (pick (eqb a 0x02) r.setup.timeout y)))
    (by_test (ltb a 0x0F) (λ e. taken _ _ e ∙ h e ∙ sym (taken _ _ e)) (λ e. passed_over _ _ e ∙ sym (passed_over _ _ e)))

placed_register : (p : Physical) (r : Registers) (a : ℕ) → (a < 0x0B) ⊎ (0x0E < a)
    → register_at a (with_cdb (placed p r.descriptor.cdb) r) ≡ register_at a r
placed_register p r a h =
    other_register a r _ λ e.
    let below : a < 0x0F = ltb-true a 0x0F e in
    ⊎_elim (λ x. placed_other p _ (a - 3) (inl (omega (arith, below)))) (λ x. absurd (lt_irrefl a (omega (arith, below)))) h

-- ---- the laws

module _ (m b : ℕ) (s : State) (h : Translates (register m b) s) where
  abbrev after : State
  after = (step (register m b) s).state

  abbrev place : Physical
  place = physical_of (geometry_of (cdb_of s)) (address_of (cdb_of s))

  abbrev translation : State → State
  translation t = (R.stepped 0x18 (done 0 t)).state

  located : is_off_disk s ≡ false → after ≡ translation (raise 0x15 (set_cdb (placed place (cdb_of s)) (accepted b s)))
  unfolding translated translated_by accepted
  located e = ap (λ (o : Outcome). o.state) (carried m b s h) ∙ ap translation (passed_over _ _ e)

  missed : is_off_disk s ≡ true → after ≡ translation (raise 0x45 (accepted b s))
  unfolding translated translated_by accepted
  missed e = ap (λ (o : Outcome). o.state) (carried m b s h) ∙ ap translation (taken _ _ e)

  shows : (p : Physical) → place ≡ p → length (cdb_of s) ≡ 12
      → Shows p (translation (raise 0x15 (set_cdb (placed place (cdb_of s)) (accepted b s))))
  unfolding raise outgoing_dropped R.stepped accepted register_at pick
  shows p e long =
      rw e
      (record {
        sector = sector_placed p (cdb_of s) long;
        head = head_placed p (cdb_of s) long;
        cylinder_high = high_placed p (cdb_of s) long;
        cylinder_low = low_placed p (cdb_of s) long;
      })

  code_located : is_off_disk s ≡ false → after.status.code ≡ 0x15
  unfolding raise R.stepped
  code_located e = ap (λ (t : State). t.status.code) (located e)

  code_missed : is_off_disk s ≡ true → after.status.code ≡ 0x45
  unfolding raise R.stepped
  code_missed e = ap (λ (t : State). t.status.code) (missed e)

  -- after 15h none of the reasons for 45h holds, and after 45h one does
  on_disk : after.status.code ≡ 0x15 → is_off_disk s ≡ false
  on_disk k = by_test (is_off_disk s) (λ e. clash (ap (λ (n : ℕ). eqb n 0x15) k) (ap (λ (n : ℕ). eqb n 0x15) (code_missed e))) (λ e. e)

  off_disk : after.status.code ≡ 0x45 → is_off_disk s ≡ true
  off_disk k = by_test (is_off_disk s) (λ e. e) (λ e. clash (ap (λ (n : ℕ). eqb n 0x45) k) (ap (λ (n : ℕ). eqb n 0x45) (code_located e)))

  kept_raised : (k : ℕ) (l : List ℕ)
      → ((a : ℕ) → (a < 0x0B) ⊎ (0x0E < a) → register_at a (with_cdb l s.registers) ≡ register_at a s.registers)
      → Kept b s (translation (raise k (set_cdb l (accepted b s))))
  unfolding raise outgoing_dropped R.stepped R.pointer_after accepted either pick
  kept_raised k l others =
      record {
        registers = others;
        pointer = at m b s h;
        read_back = refl;
        lci = refl;
        pe = refl;
        wire = refl;
        single = refl;
        direction = refl;
        fifo = refl;
      }

  kept_all : Kept b s after
  unfolding accepted
  kept_all = by_test (is_off_disk s) (λ e. rw (missed e) (kept_raised 0x45 (cdb_of s) (λ a x. refl)))
      (λ e. rw (located e) (kept_raised 0x15 _ (placed_register place s.registers)))

  answered_done : (step (register m b) s).answer ≡ Done 0
  unfolding R.stepped
  answered_done = ap (λ (o : Outcome). o.answer) (carried m b s h)

  told_at_once : after.activity ≡ Interrupt
  unfolding raise R.stepped
  told_at_once =
      by_test (is_off_disk s) (λ e. ap (λ (t : State). t.activity) (missed e)) (λ e. ap (λ (t : State). t.activity) (located e))

  registers_stay : after.status.code ≡ 0x45 → after.registers ≡ s.registers
  unfolding raise outgoing_dropped R.stepped accepted
  registers_stay k = ap (λ (t : State). t.registers) (missed (off_disk k))

pub places_right : PlacesRight step
places_right =
    record {
      found =
          λ m b s h long p l.
          let w : is_off_disk s ≡ false = exceeds_not _ _ (within_lies _ _ p l) in
          (code_located m b s h w, rw (located m b s h w) (shows m b s h p (there _ _ p l) long));
      real =
          λ m b s h long k.
          let w : is_off_disk s ≡ false = on_disk m b s h k in
          (place m b s h, lies _ _ (within _ _ w), rw (located m b s h w) (shows m b s h _ refl long));
      missing =
          λ m b s h none.
          by_test (is_off_disk s) (code_missed m b s h) (λ e. absurd (none (place m b s h) (lies _ _ (within _ _ e))));
    }

pub leaves_the_rest : LeavesTheRest step
leaves_the_rest = record { done = answered_done; told = told_at_once; kept = kept_all; refused_kept = registers_stay }
