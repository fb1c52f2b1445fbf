-- Where the demand starts: any idle, Disconnected controller that calls have reached, with its status read.
--   Apart      what such a state comes to, part by part
--   apart      of every state reached
--   transfer_plays, phases_plays   what each host loads leads to its goal
use Rattle.std.specs.Prelude.{Option}
use mathlib.Core.Path.{◌≡◌, refl, sym, ◌∙◌, ap, subst}
use mathlib.Core.Bool.{Bool, true, false, true≢false}
use mathlib.Core.List.{List, [], ◌∷◌, ◌++◌, append_assoc, append-nil}
use Prim.Native.Nat.{ℕ, suc, ◌+◌, ◌-◌, ◌*◌, ◌/◌, ◌%◌, ◌≤◌, ◌<◌}
use native.Mathlib.Omega.{arith}
use lib.ListN.{length, set, get_or}
use lib.Seq.{set-append_seam}
use borrow.Author.Tests.{lt-ltb, ne_eqb}
use Rattle.chip.proofs.Sizes.{size_most}
use Rattle.chip.proofs.Activities.{rests}
use Rattle.chip.specs.Choice.{pick}
use Rattle.chip.specs.State.{fresh}
use Rattle.chip.specs.Lines.{bit, is_on}
use Rattle.chip.specs.Fifo.{is_empty}
use Rattle.chip.specs.Interrupts.{busy}
use Rattle.chip.specs.Calls.{Call, step, run}
use Rattle.chip.specs.Registers.{stored_in}
use Rattle.chip.specs.declared.State.{State}
use Rattle.chip.specs.declared.Registers.{Registers}
use Rattle.chip.specs.declared.Fifo.{Fifo}
use Rattle.chip.specs.declared.Connection.{Connection}
use Rattle.chip.specs.declared.Connection.TheVariants.{Disconnected}
use Rattle.chip.specs.declared.Activity.{Activity}
use Rattle.chip.specs.declared.Activity.TheVariants.{Idle}
use Rattle.chip.specs.declared.Direction.{Direction}
use Rattle.chip.specs.declared.Direction.TheVariants.{Unfixed, In, Out}
use Rattle.chip.specs.Ok.{Bytes}
use Rattle.chip.specs.Interrupts.{is_outgoing}
use Rattle.chip.specs.declared.Phase.{Phase}
use Rattle.reached.specs.Sound.{Sound, Shape, joined}
use Rattle.reached.specs.Sound as Sound
use Rattle.reached.proofs.Laws.{reached}
use Rattle.story.specs.Story.{Item, Job, loaded, Proper}
use Rattle.story.specs.Hosts.{Access, put, Note, count_puts, transfer_loads}
use Rattle.story.specs.Hosts as H
use Rattle.story.specs.Demand.{Start}
use Rattle.served.proofs.Parts.{the_registers, Plays, over, puts}
use Rattle.served.proofs.Small.{length_snoc, bytes_tail, Quiet, unfixed, drained}
use Rattle.served.proofs.PhaseFacts.{written_count, high_byte, low_byte}
use Rattle.served.proofs.TransferScenes as A
use Rattle.served.proofs.PhaseScenes as B

pub record Apart (s : State) : Type 0 where
  pub activity : s.activity ≡ Idle
  pub connection : s.wire.connection ≡ Disconnected
  pub ack : s.wire.handshake.ack ≡ false
  pub quiet : Quiet s.transfer.direction s.fifo
  pub cdb : length s.registers.descriptor.cdb ≡ 12

quiet_way : (d : Direction) {q : Fifo} → is_outgoing d ≡ false → is_empty q ≡ true → Quiet d q
quiet_way Unfixed e f = unfixed
quiet_way In e f = drained f
quiet_way Out e f = absurd (true≢false e)

-- Disconnected and idle: the FIFO is empty, the way not out, ACK not held
record Calm (d : Direction) (q : Fifo) (k : Bool) : Type 0 where
  quiet : Quiet d q
  ack : k ≡ false

calm : {single : Bool} {n : ℕ} {x : Activity} {c : Connection} {d : Direction} {q : Fifo} {atn ack : Bool} {w : Option Phase}
    → Shape single n x c d q atn ack w → x ≡ Idle → c ≡ Disconnected → Calm d q ack
calm {d = d} (Sound.idle e f g Sound.apart) h k = record { quiet = quiet_way d f g; ack = refl }
calm (Sound.idle e f g joined) h k = let z : ◌≡◌ {A = ℕ} 0 1 = cc in absurd (omega arith)
calm (Sound.selects x f g) h k = let z : ◌≡◌ {A = ℕ} 0 1 = cc in absurd (omega arith)
calm (Sound.waits x y) h k = let z : ◌≡◌ {A = ℕ} 0 1 = cc in absurd (omega arith)
calm (Sound.selects_and_transfers x y) h k = let z : ◌≡◌ {A = ℕ} 0 1 = cc in absurd (omega arith)
calm (Sound.transfers_info x y) h k = let z : ◌≡◌ {A = ℕ} 0 1 = cc in absurd (omega arith)
calm (Sound.ending x y l) h k = let z : ◌≡◌ {A = ℕ} 0 1 = cc in absurd (omega arith)
calm (Sound.read_out x y) h k = let z : ◌≡◌ {A = ℕ} 0 1 = cc in absurd (omega arith)

of_sound : (s : State) → Sound s → Start s → Apart s
unfolding busy
of_sound s g t =
    let r = rests s.activity t.read t.idle in
    let k = calm g.shape r t.apart in
    record { activity = r; connection = t.apart; ack = k.ack; quiet = k.quiet; cdb = g.ok.cdb_long }

pub apart : (l : List Call) → Start (run step l fresh) → Apart (run step l fresh)
apart l t = of_sound (run step l fresh) (reached l) t

-- ---- what the hosts load

stored_cdb : (a b : ℕ) (r : Registers) → 3 ≤ a → a < 15
    → stored_in a b r ≡ the_registers r.setup.own r.setup.control r.setup.timeout (set r.descriptor.cdb (a - 3) b) r.descriptor.lun r.descriptor.phase r.setup.synchronous r.count r.destination r.source
unfolding stored_in pick
stored_cdb a b r h k = rw (ne_eqb a 0x00 (omega arith), ne_eqb a 0x01 (omega arith), ne_eqb a 0x02 (omega arith), lt-ltb a 0x0F k)

er_bit : (b : Bool) → is_on 7 (bit b * 128) ≡ b
unfolding is_on
er_bit true = refl
er_bit false = refl

er_byte : (b : Bool) → bit b * 128 < 256
er_byte true = omega arith
er_byte false = omega arith

one_put : {k l : List Access} {G : Registers → List Note → Type 0} {r : Registers} {n : List Note} (a b : ℕ) → a < 0x17 → b < 256
    → Plays k G l (stored_in a b r) n → Plays k G (put a b ∷ l) r n
one_put a b h i p = puts h i p

module _ {s₀ : State} (j : Job) (pr : Proper s₀ j) where
  -- the command goes into 03 and the registers behind it
  command_plays : {k : List Access} {G : Registers → List Note → Type 0} (l : List Access) (a : ℕ) (had rest behind : List ℕ) (r : Registers)
      → a ≡ 3 + length had → Bytes rest → r.descriptor.cdb ≡ had ++ behind → length had + length rest ≤ 12 → length had + length behind ≡ 12
      → ((q : Registers) (b : List ℕ) → q.descriptor.cdb ≡ (had ++ rest) ++ b → Plays k G l q [])
      → Plays k G (H.puts a rest ++ l) r []
  command_plays l a had [] behind r e b c m n f = f r behind (rw (append-nil had) c)
  command_plays l a had (x ∷ rest) [] r e b c m n f = absurd (omega arith)
  command_plays {k} {G} l a had (x ∷ rest) (y ∷ behind) r e b c m n f =
      let i : a - 3 ≡ length had = omega arith in
      let w : set r.descriptor.cdb (a - 3) x ≡ (had ++ (x ∷ [])) ++ behind =
      rw (c, i) (set-append_seam had y behind x ∙ sym (append_assoc had (x ∷ []) behind)) in
      let s : length (had ++ (x ∷ [])) ≡ suc (length had) = length_snoc had x in
      one_put a x (omega arith) (b 0)
      (subst (λ (q : Registers). Plays k G (H.puts (suc a) rest ++ l) q []) (sym (stored_cdb a x r (omega arith) (omega arith)))
      (command_plays l (suc a) (had ++ (x ∷ [])) rest behind _ (omega arith) (bytes_tail x rest b) w (omega arith) (omega arith)
      (λ q z u. f q z (u ∙ ap (λ (t : List ℕ). t ++ z) (append_assoc had (x ∷ []) rest)))))

  abbrev behind_command : List Access
  behind_command =
      put 0x0F j.unit ∷ (count_puts (loaded j)
      ++ (put 0x15 j.target ∷ put 0x16 (bit j.reselects * 128) ∷ put 0x02 j.timeout ∷ put 0x18 0x08 ∷ []))

  behind_plays : (r : Registers) (b : List ℕ) → r.descriptor.cdb ≡ j.command ++ b → Plays (put 0x18 0x08 ∷ []) (A.Ready j) behind_command r []
  unfolding stored_in pick
  behind_plays r b e =
      one_put 0x0F j.unit (omega arith) (omega (arith, pr.unit_small))
      (one_put 0x12 (loaded j / 65536) (omega arith) (high_byte (loaded j) pr.count_fits)
      (one_put 0x13 (loaded j / 256 % 256) (omega arith) (low_byte (loaded j / 256))
      (one_put 0x14 (loaded j % 256) (omega arith) (low_byte (loaded j))
      (one_put 0x15 j.target (omega arith) pr.target_byte
      (one_put 0x16 (bit j.reselects * 128) (omega arith) (er_byte j.reselects)
      (one_put 0x02 j.timeout (omega arith) pr.timeout_byte
      (over
      (record {
        set = record { behind = b; cdb = e; unit = refl; er = er_bit j.reselects };
        count = written_count (loaded j) _ pr.count_fits;
        timeout = refl;
        none = refl;
      }))))))))

  size_at_most : length j.command ≤ 12
  size_at_most = omega (arith, pr.command_sized, size_most (get_or j.command 0 0))

  pub transfer_plays : (r : Registers) → length r.descriptor.cdb ≡ 12
      → Plays (put 0x18 0x08 ∷ []) (A.Ready j) (transfer_loads j ++ (put 0x18 0x08 ∷ [])) r []
  transfer_plays r h =
      subst (λ (l : List Access). Plays (put 0x18 0x08 ∷ []) (A.Ready j) l r []) (sym (append_assoc (H.puts 0x03 j.command) _ (put 0x18 0x08 ∷ [])))
      (command_plays behind_command 0x03 [] j.command r.descriptor.cdb r refl pr.command_bytes refl (omega (arith, size_at_most)) (omega (arith, h)) (λ q b e. behind_plays q b e))

  pub phases_plays : (whole : List Item) (total : List Note) (r : Registers)
      → Plays (put 0x18 0x06 ∷ []) (B.Ready j whole total) (put 0x15 j.target ∷ put 0x02 j.timeout ∷ put 0x18 0x06 ∷ []) r []
  unfolding stored_in pick
  phases_plays whole total r =
      one_put 0x15 j.target (omega arith) pr.target_byte
      (one_put 0x02 j.timeout (omega arith) pr.timeout_byte (over (record { timeout = refl; none = refl })))
