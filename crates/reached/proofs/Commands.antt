-- Every command keeps the facts.
--   commanded_kept   of every command, from every shape
--   Rest             no command runs and nothing is pending
--   refused          where two tests do not both hold and the second does, the first does not
use Rattle.std.specs.Prelude.{Option}
use mathlib.Core.Path.{◌≡◌, refl, sym, ◌∙◌}
use mathlib.Core.Bool.{Bool, true, false, not, true≢false, false≢true}
use Prim.Native.Nat.{ℕ, ◌<◌}
use native.Mathlib.Omega.{arith}
use lib.Dec.{eqb}
use borrow.Author.Tests.{eqb-true}
use Rattle.chip.specs.Choice.{pick, both, either}
use Rattle.chip.specs.Lines.{code_of, own_identity}
use Rattle.chip.specs.Fifo.{is_empty}
use Rattle.chip.specs.Count.{loaded, loaded_for_transfer_info}
use Rattle.chip.specs.Interrupts.{busy, interrupt}
use Rattle.chip.specs.Activity.{is_interrupt, is_running, goes_on}
use Rattle.chip.specs.SelectAndTransfer.{from_disconnected, resumed}
use Rattle.chip.specs.Commands.{table, entry_of, is_two, is_place, is_ready, is_valid, reset, aborted, disconnected, selecting, select_and_transfer_begun, way_of, transfer_info_begun, carried_out, accepted, is_refused_busy, commanded}
use Rattle.chip.specs.Connections.{is_connected, is_disconnected}
use Rattle.chip.specs.declared.State.{State}
use Rattle.chip.specs.declared.Fifo.{Fifo}
use Rattle.chip.specs.declared.Activity.{Activity}
use Rattle.chip.specs.declared.Command.{Command}
use Rattle.chip.specs.declared.Activity.TheVariants.{Idle}
use Rattle.chip.specs.declared.Command.TheVariants.{SelectWithAtn, SelectWithoutAtn, SelectAndTransferWithAtn, SelectAndTransferWithoutAtn}
use Rattle.chip.specs.declared.Connection.{Connection}
use Rattle.chip.specs.declared.Direction.{Direction}
use Rattle.chip.proofs.Cases.{by_pick, by_case, both_first, both_second, either_last}
use Rattle.chip.specs.Interrupts.{is_outgoing}
use Rattle.reached.specs.Sound.{Placed, unasked, told, apart, joined, unfixed, none, Shape, idle, selects, waits, selects_and_transfers, transfers_info, ending, read_out, SelectsAndTransfers, with_atn, without_atn, select_and_transfer, transfer_info, Selects, six, seven}
use Rattle.chip.specs.Fifo.{Whole}
use Rattle.chip.proofs.FifoLaws.{keeps_bytes}
use Rattle.chip.specs.Translate.{translated}
use Rattle.chip.specs.declared.Phase.{Phase}
use Rattle.chip.proofs.Translate.{by_translation}
use Rattle.reached.proofs.Shapes.{Numbered, Good, so, Fine, being, clash, empty_way, raised, ended, selects_and_transfers_run, moves_run, selects_run, transfers_selects}

-- ---- no command runs and nothing is pending

data Rest : Activity → Connection → Direction → Fifo → Bool → Bool → Type 0 where
  rest : {c : Connection} {d : Direction} {q : Fifo} {atn ack : Bool} → is_outgoing d ≡ false → is_empty q ≡ true → Placed c atn ack
      → Rest Idle c d q atn ack

resting : {single : Bool} {n : ℕ} {x : Activity} {c : Connection} {d : Direction} {q : Fifo} {atn ack : Bool} {w : Option Phase}
    → Shape single n x c d q atn ack w → is_interrupt x ≡ false → is_running x ≡ false → Rest x c d q atn ack
resting (idle unasked o h l) i b = rest o h l
resting (idle told o h l) i b = absurd (true≢false i)
resting (selects k o h) i b = clash (selects_run k) b
resting (waits k h) i b = clash (selects_and_transfers_run k) b
resting (selects_and_transfers k h) i b = clash (selects_and_transfers_run k) b
resting (transfers_info h e) i b = absurd (true≢false b)
resting (ending k h l) i b = clash (moves_run k) b
resting (read_out k h) i b = clash (selects_and_transfers_run k) b

-- ATN and held ACK may be anything when connected
lines : {single : Bool} {n : ℕ} {x : Activity} {c : Connection} {d : Direction} {q : Fifo} {atn ack : Bool} {w : Option Phase} (i j : Bool)
    → Shape single n x c d q atn ack w → is_connected c ≡ true → Shape single n x c d q i j w
lines i j (idle e o h apart) f = absurd (false≢true f)
lines i j (idle e o h joined) f = idle e o h joined
lines i j (selects k o h) f = absurd (false≢true f)
lines i j (waits k h) f = absurd (false≢true f)
lines i j (selects_and_transfers k h) f = selects_and_transfers k h
lines i j (transfers_info h e) f = transfers_info h e
lines i j (ending k h apart) f = absurd (false≢true f)
lines i j (ending k h joined) f = ending k h joined
lines i j (read_out k h) f = absurd (false≢true f)

module _ (s : State) (n : Numbered s) where
  abort : {x : Activity} {c : Connection} {d : Direction} {q : Fifo} {atn ack : Bool} {w : Option Phase}
      → Whole q → Shape s.transfer.single s.registers.count x c d q atn ack w → goes_on x ≡ true
      → Good (aborted (being x c d q atn ack w s))
  unfolding aborted
  abort u (idle unasked o h l) f = absurd (false≢true f)
  abort u (idle told o h l) f = absurd (false≢true f)
  abort u (selects k o h) f = by_case Good _ (λ e. absurd (false≢true e)) (λ e. raised 0x22 _ n u apart (none h))
  abort u (waits k h) f = by_case Good _ (λ e. absurd (false≢true e)) (λ e. raised 0x22 _ n u apart h)
  abort u (selects_and_transfers k h) f =
      by_case Good _ (λ e. ended _ _ n u joined refl (select_and_transfer k) h) (λ e. absurd (true≢false e))
  abort u (transfers_info h x) f = by_case Good _ (λ e. ended _ _ n u joined refl transfer_info h) (λ e. absurd (true≢false e))
  abort u (ending k h l) f = absurd (false≢true f)
  abort u (read_out k h) f = absurd (false≢true f)

  select : (y : Command) → Selects y
      → {x : Activity} {c : Connection} {d : Direction} {q : Fifo} {atn ack : Bool} (w : Option Phase)
      → Whole q → Rest x c d q atn ack → is_disconnected c ≡ true → Good (selecting y (being x c d q atn ack w s))
  unfolding selecting
  select x k w u (rest o h apart) e = so _ n u (selects k o h)
  select x k w u (rest o h joined) e = absurd (false≢true e)

  begin : (y : Command) → SelectsAndTransfers y
      → {x : Activity} {c : Connection} {d : Direction} {q : Fifo} {atn ack : Bool} (w : Option Phase)
      → Whole q → Rest x c d q atn ack → Good (select_and_transfer_begun y (being x c d q atn ack w s))
  unfolding select_and_transfer_begun resumed selecting from_disconnected loaded is_empty
  begin x k w u (rest o h apart) =
      by_case Good _ (λ e. absurd (false≢true e)) (λ e. so _ n keeps_bytes.begins_whole (selects (transfers_selects k) refl refl))
  begin x k w u (rest o h joined) =
      by_case Good _
      (λ e.
      by_pick Good _ (ended 0x16 _ n keeps_bytes.begins_whole joined refl (select_and_transfer k) (unfixed refl))
      (so _ n keeps_bytes.begins_whole (selects_and_transfers k (unfixed refl))))
      (λ e. absurd (true≢false e))

  inform : (single : Bool) {x : Activity} {c : Connection} {d : Direction} {q : Fifo} {atn ack : Bool} (w : Option Phase)
      → Whole q → Rest x c d q atn ack → is_connected c ≡ true → Good (transfer_info_begun single (being x c d q atn ack w s))
  unfolding transfer_info_begun loaded_for_transfer_info is_empty
  inform single w u (rest o h apart) e = absurd (false≢true e)
  inform single w u (rest o h joined) e =
      so _
      (record {
        cdb_long = n.cdb_long;
        count_below = by_pick (λ (x : ℕ). x < 16777216) _ (omega arith) n.count_below;
        identity_below = n.identity_below;
      })
      keeps_bytes.begins_whole (transfers_info (empty_way (way_of w) refl) refl)

  translate : {x : Activity} {c : Connection} {d : Direction} {q : Fifo} {atn ack : Bool} (w : Option Phase)
      → Whole q → Rest x c d q atn ack → Good (translated (being x c d q atn ack w s))
  translate w u (rest o h l) =
      by_translation Good _ λ k r long.
      raised k _
      (record { cdb_long = long ∙ n.cdb_long; count_below = n.count_below; identity_below = n.identity_below })
      u l (none h)

-- ---- the tests before a command

placed : (k j : ℕ) (a : Connection) → eqb k j ≡ true → is_place (entry_of k).place a ≡ true → is_place (entry_of j).place a ≡ true
placed k j a e h = rw (eqb-true k j e) at h

levelled : (k j : ℕ) → eqb k j ≡ true → is_two (entry_of j).level ≡ true → is_two (entry_of k).level ≡ true
levelled k j e h = rw (eqb-true k j e) h

picked : {A : Type 0} (t : Bool) (x y : A) → t ≡ true → pick t x y ≡ x
unfolding pick
picked true x y e = refl
picked false x y e = absurd (false≢true e)

pub refused : (x y : Bool) → both x y ≡ false → y ≡ true → x ≡ false
unfolding both
refused true y e h = clash h e
refused false y e h = refl

-- 40h is raised where no command runs
forty_shape : (s : State) → Numbered s → (b : ℕ)
    → {x : Activity} {c : Connection} {d : Direction} {q : Fifo} {atn ack : Bool} (w : Option Phase)
    → Whole q → Rest x c d q atn ack → Good (interrupt 0x40 (accepted b (being x c d q atn ack w s)))
unfolding accepted
forty_shape s n b w u (rest o h l) = so _ n u (idle told o h l)

module _ (s : State) (n : Numbered s) (k : ℕ) (single : Bool) where
  carried_out_lem : {x : Activity} {a : Connection} {d : Direction} {q : Fifo} {atn ack : Bool} {w : Option Phase}
      → Whole q → Shape s.transfer.single s.registers.count x a d q atn ack w → is_interrupt x ≡ false → is_place (entry_of k).place a ≡ true
      → (is_two (entry_of k).level ≡ true → is_running x ≡ false)
      → (eqb k 0x01 ≡ true → goes_on x ≡ true)
      → Good (carried_out k single (being x a d q atn ack w s))
  unfolding carried_out disconnected entry_of table is_empty
  carried_out_lem {a = a} {q = q} {atn = atn} {ack = ack} {w = w} u g i l calm ready =
      by_case Good _
      (λ e. abort s n u g (ready e))
      λ n1.
      by_case Good _ (λ e. so _ n u (lines true ack g (placed k 0x02 a e l))) λ n2.
      by_case Good _ (λ e. so _ n u (lines atn false g (placed k 0x03 a e l))) λ n3.
      by_case Good _ (λ e. so _ n keeps_bytes.begins_whole (idle unasked refl refl apart)) λ n4.
      by_case Good _
      (λ e. select s n SelectWithAtn six w u (resting g i (calm (levelled k 0x06 e refl))) (placed k 0x06 a e l))
      λ n6.
      by_case Good _
      (λ e. select s n SelectWithoutAtn seven w u (resting g i (calm (levelled k 0x07 e refl))) (placed k 0x07 a e l))
      λ n7.
      by_case Good _ (λ e. begin s n SelectAndTransferWithAtn with_atn w u (resting g i (calm (levelled k 0x08 e refl)))) λ n8.
      by_case Good _ (λ e. begin s n SelectAndTransferWithoutAtn without_atn w u (resting g i (calm (levelled k 0x09 e refl)))) λ n9.
      by_case Good _ (λ e. so _ n u g) λ n15.
      by_case Good _ (λ e. translate s n w u (resting g i (calm (levelled k 0x18 e refl)))) λ n24.
      by_case Good _
      (λ e. inform s n single w u (resting g i (calm (levelled k 0x20 e refl))) (placed k 0x20 a e l))
      λ n32. so _ n u g

module _ (b : ℕ) (s : State) (g : Good s) where
  abbrev code : ℕ
  code = code_of b

  reset_kept : Good (reset b s)
  unfolding reset own_identity is_empty
  reset_kept =
      so _ (record { cdb_long = refl; count_below = omega arith; identity_below = omega arith }) keeps_bytes.begins_whole
      (idle told refl refl apart)

  calm : is_refused_busy code s ≡ false → is_two (entry_of code).level ≡ true
      → is_running s.activity ≡ false
  unfolding is_refused_busy busy either
  calm f t = refused _ (either (is_two (entry_of code).level) (not (is_valid code s))) f (rw t)

  forty : is_interrupt s.activity ≡ false → is_refused_busy code s ≡ false → is_valid code s ≡ false
      → Good (interrupt 0x40 (accepted b s))
  unfolding is_refused_busy busy accepted
  forty i f v =
      forty_shape s g.numbers b s.wire.seen.reported g.whole
      (resting g.shape i
      (refused _ (either (is_two (entry_of code).level) (not (is_valid code s))) f (rw v (either_last (is_two (entry_of code).level)))))

  ready : is_valid code s ≡ true → eqb code 0x01 ≡ true
      → goes_on s.activity ≡ true
  unfolding is_valid is_ready
  ready v e = sym (picked _ _ _ e) ∙ both_second (is_place (entry_of code).place s.wire.connection) _ v

  pub commanded_kept : Fine (commanded b s)
  unfolding commanded accepted is_valid
  commanded_kept =
      by_case Fine _ (λ e. reset_kept) λ n0.
      by_case Fine _ (λ e. so _ g.numbers g.whole g.shape) λ i.
      by_case Fine _ (λ e. so _ g.numbers g.whole g.shape) λ f.
      by_case Fine _
      (λ v.
      carried_out_lem (accepted b s) g.numbers code _ g.whole g.shape i (both_first _ _ v) (calm f) (ready v))
      (λ v. forty i f v)
