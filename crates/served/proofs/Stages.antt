-- What the command phase register stands for on the way through a command.
--   stage_identify, stage_next, stage_full, stage_data, stage_status   at 10h, while command bytes are taken, at the size, 46h, 50h
use mathlib.Core.Path.{◌≡◌, refl, ◌∙◌}
use mathlib.Core.Bool.{Bool, true, false}
use Prim.Native.Nat.{ℕ, suc, ◌+◌, ◌-◌, ◌≤◌, ◌<◌}
use native.Mathlib.Omega.{arith}
use lib.Dec.{eqb}
use borrow.Author.Tests.{lt-ltb, le-ltb, eq-eqb, ne_eqb, eqb-true}
use Rattle.chip.specs.Choice.{pick, both}
use Rattle.chip.specs.SelectAndTransfer.{first_stage, next_stage, is_command_phase, stage_of}
use Rattle.chip.specs.declared.Stage.TheVariants.{SendIdentify, SendCommand, Body, AfterData, AfterStatus}
use Rattle.served.proofs.TransferScenes.{CommandPhase, first, later, Expects, body, late}

pub stage_identify : (n : ℕ) → stage_of true 0x10 n ≡ SendIdentify
unfolding stage_of pick
stage_identify n = refl

pub stage_status : (n : ℕ) → stage_of true 0x50 n ≡ AfterStatus
unfolding stage_of is_command_phase pick both
stage_status n = refl

pub stage_data : (n : ℕ) → stage_of true 0x46 n ≡ AfterData
unfolding stage_of is_command_phase pick both
stage_data n = refl

stage_more : (y n : ℕ) → y < 15 → stage_of true (0x31 + y) n ≡ next_stage (suc y) n
unfolding stage_of is_command_phase pick both
stage_more y n h =
    let q : 0x31 + y - 0x30 ≡ suc y = omega arith in
    rw (
      ne_eqb (0x31 + y) 0x10 (omega arith),
      ne_eqb (0x31 + y) 0x20 (omega arith),
      ne_eqb (0x31 + y) 0x30 (omega arith),
      lt-ltb 0x30 (0x31 + y) (omega arith),
      lt-ltb (0x31 + y) 0x40 (omega arith),
      q,
    )

-- x bytes of n were taken, and more are to come
pub stage_next : (p x n : ℕ) → CommandPhase p x → x < n → n ≤ 12 → stage_of true p n ≡ SendCommand x
unfolding stage_of first_stage next_stage pick
stage_next p x n first h k = rw (lt-ltb 0 n h)
stage_next p x n (later {x = y} e) h k =
    let s : y < 15 = omega arith in
    let t : suc y < n = omega arith in
    stage_more y n s ∙ (rw (lt-ltb (suc y) n t, e))

-- all of them were
pub stage_full : (p x n : ℕ) → CommandPhase p x → x ≡ n → 0 < n → n ≤ 12 → stage_of true p n ≡ Body
unfolding stage_of next_stage pick
stage_full p x n first h k m = absurd (omega arith)
stage_full p x n (later {x = y} e) h k m =
    let s : y < 15 = omega arith in
    let t : n ≤ suc y = omega arith in
    let u : suc y ≡ n = omega arith in
    stage_more y n s ∙ (rw (le-ltb (suc y) n t, eq-eqb (suc y) n u))

-- after a data byte: 46h once none is left
pub expects_after : (a b p n : ℕ) → stage_of true p n ≡ Body → Expects (pick (eqb (suc a + b) 1) 0x46 p) n (a + b)
unfolding pick
expects_after a b p n e = go (eqb (suc a + b) 1) refl
  where
    go : (t : Bool) → eqb (suc a + b) 1 ≡ t → Expects (pick t 0x46 p) n (a + b)
    go true f =
        let z = eqb-true (suc a + b) 1 f in
        let y : a + b ≡ 0 = omega arith in
        late (stage_data n) y
    go false f = body e
