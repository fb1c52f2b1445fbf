-- What the shapes come to, fact by fact.
--   facts           of every state that has the facts of `Sound`
--   reached_facts   of every state reached
--   on_goes         a command with P that runs is a command that runs
use Rattle.std.specs.Prelude.{Option}
use mathlib.Core.Path.{◌≡◌, refl}
use mathlib.Core.Bool.{Bool, true, false, true≢false, false≢true}
use mathlib.Core.List.{List}
use Prim.Native.Nat.{ℕ, ◌≤◌}
use Rattle.chip.specs.Fifo as F
use Rattle.chip.specs.Count.{left, dbr, dbr_by}
use Rattle.chip.specs.Choice.{pick, both}
use Rattle.chip.specs.State.{fresh}
use Rattle.chip.specs.Fifo.{is_empty}
use Rattle.chip.specs.Interrupts.{bytes_unread}
use Rattle.chip.specs.Activity.{is_ending, is_running, goes_on}
use Rattle.chip.specs.Connections.{is_connected, is_disconnected}
use Rattle.chip.specs.Calls.{Call, step, run}
use Rattle.chip.specs.declared.State.{State}
use Rattle.chip.specs.declared.Fifo.{Fifo}
use Rattle.chip.specs.declared.Activity.{Activity}
use Rattle.chip.specs.declared.Activity.TheVariants as A
use Rattle.chip.specs.declared.Command.{Command}
use Rattle.chip.specs.declared.Connection.{Connection}
use Rattle.chip.specs.declared.Connection.TheVariants.{Connected}
use Rattle.chip.specs.declared.Direction.{Direction}
use Rattle.chip.specs.declared.Direction.TheVariants.{Unfixed, In, Out}
use Rattle.chip.specs.Interrupts.{is_outgoing}
use Rattle.chip.specs.declared.Phase.{Phase}
use Rattle.reached.specs.Sound.{Way, unfixed, incoming, outgoing, is_unread, Resting, unasked, told, Placed, apart, joined, Shape, idle, selects, waits, selects_and_transfers, transfers_info, ending, read_out, with_atn, without_atn, Moves, select_and_transfer, transfer_info, Sound}
use Rattle.reached.specs.Facts.{is_read_out, is_select, GoesOn, on, Runs, Facts}
use Rattle.reached.proofs.Shapes.{clash, drained_way, selects_and_transfers_run, moves_run}
use Rattle.reached.proofs.Laws.{reached}

moves_no_select : {r : Command} → Moves r → is_select (A.Runs r) ≡ false
moves_no_select (select_and_transfer with_atn) = refl
moves_no_select (select_and_transfer without_atn) = refl
moves_no_select transfer_info = refl

pub on_goes : {P : Command → Type 0} {x : Activity} → GoesOn P x → goes_on x ≡ true
on_goes (on k) = refl

-- the facts of a shape
record Shown (x : Activity) (c : Connection) (d : Direction) (q : Fifo) (atn ack : Bool) : Type 0 where
  atn_apart : is_connected c ≡ false → atn ≡ false
  ack_apart : is_connected c ≡ false → ack ≡ false
  ending_waits : is_ending x ≡ true → is_unread d q ≡ true
  read_out_apart : is_read_out x ≡ true → is_disconnected c ≡ true
  idle_empty : is_running x ≡ false → is_empty q ≡ true
  idle_shut : is_running x ≡ false → is_outgoing d ≡ false
  runs : Runs c x

-- connected, a command that moves bytes runs
moving : {r : Command} {d : Direction} {q : Fifo} {atn ack : Bool} → Moves r → Shown (A.Runs r) Connected d q atn ack
moving k =
    record {
      atn_apart = λ f. absurd (true≢false f);
      ack_apart = λ f. absurd (true≢false f);
      ending_waits = λ f. absurd (false≢true f);
      read_out_apart = λ f. absurd (false≢true f);
      idle_empty = λ f. clash (moves_run k) f;
      idle_shut = λ f. clash (moves_run k) f;
      runs = moves_no_select k;
    }

-- no command runs
rest_no_ending : {x : Activity} → Resting x → is_ending x ≡ false
rest_no_ending unasked = refl
rest_no_ending told = refl

rest_no_read_out : {x : Activity} → Resting x → is_read_out x ≡ false
rest_no_read_out unasked = refl
rest_no_read_out told = refl

rest_stands : {x : Activity} → Resting x → goes_on x ≡ false
rest_stands unasked = refl
rest_stands told = refl

rest_no_select : {x : Activity} → Resting x → is_select x ≡ false
rest_no_select unasked = refl
rest_no_select told = refl

at_rest : {x : Activity} {c : Connection} {d : Direction} {q : Fifo} {atn ack : Bool}
    → Resting x → is_outgoing d ≡ false → is_empty q ≡ true → Placed c atn ack → Shown x c d q atn ack
at_rest e o h apart =
    record {
      atn_apart = λ f. refl;
      ack_apart = λ f. refl;
      ending_waits = λ f. clash f (rest_no_ending e);
      read_out_apart = λ f. refl;
      idle_empty = λ f. h;
      idle_shut = λ f. o;
      runs = rest_stands e;
    }
at_rest e o h joined =
    record {
      atn_apart = λ f. absurd (true≢false f);
      ack_apart = λ f. absurd (true≢false f);
      ending_waits = λ f. clash f (rest_no_ending e);
      read_out_apart = λ f. clash f (rest_no_read_out e);
      idle_empty = λ f. h;
      idle_shut = λ f. o;
      runs = rest_no_select e;
    }

shown : {single : Bool} {n : ℕ} {x : Activity} {c : Connection} {d : Direction} {q : Fifo} {atn ack : Bool} {w : Option Phase}
    → Shape single n x c d q atn ack w → Shown x c d q atn ack
shown (idle e o h l) = at_rest e o h l
shown (selects k o h) =
    record {
      atn_apart = λ f. refl;
      ack_apart = λ f. refl;
      ending_waits = λ f. absurd (false≢true f);
      read_out_apart = λ f. absurd (false≢true f);
      idle_empty = λ f. h;
      idle_shut = λ f. o;
      runs = on k;
    }
shown (waits k h) =
    record {
      atn_apart = λ f. refl;
      ack_apart = λ f. refl;
      ending_waits = λ f. absurd (false≢true f);
      read_out_apart = λ f. absurd (false≢true f);
      idle_empty = λ f. clash (selects_and_transfers_run k) f;
      idle_shut = λ f. clash (selects_and_transfers_run k) f;
      runs = on k;
    }
shown (selects_and_transfers k h) = moving (select_and_transfer k)
shown (transfers_info h e) = moving transfer_info
shown (ending k h apart) =
    record {
      atn_apart = λ f. refl;
      ack_apart = λ f. refl;
      ending_waits = λ f. h;
      read_out_apart = λ f. refl;
      idle_empty = λ f. clash (moves_run k) f;
      idle_shut = λ f. clash (moves_run k) f;
      runs = refl;
    }
shown (ending k h joined) =
    record {
      atn_apart = λ f. absurd (true≢false f);
      ack_apart = λ f. absurd (true≢false f);
      ending_waits = λ f. h;
      read_out_apart = λ f. absurd (false≢true f);
      idle_empty = λ f. clash (moves_run k) f;
      idle_shut = λ f. clash (moves_run k) f;
      runs = moves_no_select k;
    }
shown (read_out k h) =
    record {
      atn_apart = λ f. refl;
      ack_apart = λ f. refl;
      ending_waits = λ f. h;
      read_out_apart = λ f. refl;
      idle_empty = λ f. clash (selects_and_transfers_run k) f;
      idle_shut = λ f. clash (selects_and_transfers_run k) f;
      runs = refl;
    }

not_out : (d : Direction) (q : Fifo) → is_unread d q ≡ true → is_outgoing d ≡ false
unfolding both
not_out Unfixed q h = refl
not_out In q h = refl
not_out Out q h = absurd (false≢true h)

way_left : {single : Bool} {n : ℕ} {d : Direction} {q : Fifo} → Way single n d q → is_outgoing d ≡ true → F.waits q ≤ pick single 1 n
way_left (unfixed h) o = absurd (false≢true o)
way_left incoming o = absurd (false≢true o)
way_left (outgoing h) o = h

out_left : {single : Bool} {n : ℕ} {x : Activity} {c : Connection} {d : Direction} {q : Fifo} {atn ack : Bool} {w : Option Phase}
    → Shape single n x c d q atn ack w → is_outgoing d ≡ true → is_running x ≡ true → F.waits q ≤ pick single 1 n
out_left (idle e o h l) f r = clash f o
out_left (selects k o h) f r = clash f o
out_left (waits k h) f r = way_left (drained_way h) f
out_left (selects_and_transfers k h) f r = way_left h f
out_left (transfers_info h e) f r = way_left h f
out_left {d = d} {q = q} (ending k h l) f r = clash f (not_out d q h)
out_left {d = d} {q = q} (read_out k h) f r = clash f (not_out d q h)

shut : (d : Direction) (s : State) → is_empty s.fifo ≡ true → is_outgoing d ≡ false → dbr_by d s ≡ false
shut Unfixed s h o = refl
shut In s h o = rw h
shut Out s h o = absurd (true≢false o)

pub facts : {s : State} → Sound s → Facts s
unfolding bytes_unread dbr F.waits left
facts {s} x =
    let f = shown x.shape in
    record {
      atn_apart = f.atn_apart;
      ack_apart = f.ack_apart;
      ending_waits = f.ending_waits;
      read_out_apart = f.read_out_apart;
      idle_empty = f.idle_empty;
      idle_shut = λ e. shut s.transfer.direction s (f.idle_empty e) (f.idle_shut e);
      runs = f.runs;
      out_left = out_left x.shape;
    }

pub reached_facts : (l : List Call) → Facts (run step l fresh)
reached_facts l = facts (reached l)
