-- Where an ending that has a code to come leaves the connection: as it is, until Reset or Disconnect.
--   ending_placed   every call but these two keeps the connection, the read of the last byte too
--   place           the connection of a state
--   is_wait          the read-out is pending that leads to the wait for reselection
use mathlib.Core.Path.{◌≡◌, refl, ap, ◌∙◌}
use mathlib.Core.Bool.{Bool, true, false}
use mathlib.Core.List.{List, [], ◌∷◌}
use Prim.Native.Nat.{ℕ}
use borrow.Author.Tests.{eqb-true}
use Rattle.chip.specs.Choice.{pick, both, either}
use Rattle.chip.specs.Interrupts.{raise, outgoing_dropped}
use Rattle.chip.specs.Registers as R
use Rattle.chip.specs.Calls.{Call, Outcome, pointer, auxiliary, register, block, time, answer, reselection, request, free, is_set, carried, step}
use Rattle.chip.specs.declared.State.{State}
use Rattle.chip.specs.declared.Reply.{Reply}
use Rattle.chip.specs.declared.Connection.{Connection}
use Rattle.chip.specs.declared.Activity.{Activity}
use Rattle.unread.specs.Status.{Pending, Nothing, Interrupt, Ending, ReadOut, pending_in, pending, is_reset, is_disconnect}
use Rattle.unread.specs.Ending.{is_event, is_data_access}
use Rattle.chip.proofs.Cases.{by_pick, by_test}
use Rattle.unread.proofs.Choosing.{clash}
use Rattle.unread.proofs.Pendings.{end_by}
use Rattle.unread.proofs.Host.{Pops, nothing_read, one_read, ending_read, wait_read, pops, going, written_keeps, block_keeps}
use Rattle.unread.proofs.Ending.{ending_is_still, host_stays}

abbrev is_wait : Pending → Bool
is_wait Nothing = false
is_wait Interrupt = false
is_wait (Ending k) = false
is_wait ReadOut = true

-- t is placed as s is, and no wait for reselection is to come
record Placed (s t : State) : Type 0 where
  connection : t.wire.connection ≡ s.wire.connection
  calm : is_wait (pending t) ≡ false

pops_placed : {s t : State} → is_wait (pending s) ≡ false → Pops s t → Placed s t
unfolding raise outgoing_dropped
pops_placed n nothing_read = record { connection = refl; calm = n }
pops_placed n (one_read d w) = record { connection = refl; calm = n }
pops_placed n (ending_read d w e) = record { connection = refl; calm = refl }
pops_placed n (wait_read d w e) = clash (ap (λ (a : Activity). is_wait (pending_in a)) e) n

then_placed : {s t u : State} → Placed s t → Placed t u → Placed s u
then_placed x y = record { connection = y.connection ∙ x.connection; calm = y.calm }

block_placed : (l : List ℕ) (s : State) → is_wait (pending s) ≡ false → Placed s (R.block_read l s).state
unfolding R.block_read
block_placed [] s n = record { connection = refl; calm = n }
block_placed (b ∷ l) s n =
    going (λ (m : R.Moved). Placed s m.state) (R.data_read s).answer _ _
    (λ v. let h = pops_placed n (pops s) in then_placed h (block_placed l (R.data_read s).state h.calm))
    (record { connection = refl; calm = n })

abbrev pub place : State → Connection
place t = t.wire.connection

abbrev Same : State → Reply → Type 0
Same s r = r.state.wire.connection ≡ s.wire.connection

-- at 19h
at_data : (w : Bool) (b : ℕ) (s : State) → is_wait (pending s) ≡ false
    → (R.accessed_at 0x19 w b s).state.wire.connection ≡ s.wire.connection
unfolding R.accessed_at R.written_at R.read_at pick
at_data true b s n = by_pick (Same s) (R.is_blind true 0x19 s) refl (written_keeps place (λ x t. refl) b s)
at_data false b s n = by_pick (Same s) (R.is_blind false 0x19 s) refl (pops_placed n (pops s)).connection

-- an access to the Data register
data_placed : (c : Call) (s : State) → is_wait (pending s) ≡ false → is_data_access c s ≡ true
    → (step c s).state.wire.connection ≡ s.wire.connection
unfolding step carried R.accessed R.stepped R.accessed_at both either
data_placed (pointer m b) s n d = clash d refl
data_placed auxiliary s n d = clash d refl
data_placed (register m b) s n d =
    by_pick (λ (o : Outcome). o.state.wire.connection ≡ s.wire.connection) _
    (ap (λ (a : ℕ). (R.accessed_at a (is_set m) b s).state.wire.connection) (eqb-true _ _ d) ∙ at_data (is_set m) b s n) refl
data_placed (block m l) s n d =
    by_pick (λ (o : Outcome). o.state.wire.connection ≡ s.wire.connection) _
    (by_pick (λ (r : R.Moved). r.state.wire.connection ≡ s.wire.connection) _ (block_keeps place (λ x t. refl) l s) (block_placed l s n).connection)
    refl
data_placed (time k) s n d = clash d refl
data_placed answer s n d = clash d refl
data_placed (reselection lines) s n d = clash d refl
data_placed (request p b q) s n d = clash d refl
data_placed free s n d = clash d refl

pub ending_placed : (c : Call) (s : State) (k : ℕ) → pending s ≡ Ending k → is_reset c s ≡ false → is_disconnect c s ≡ false
    → (step c s).state.wire.connection ≡ s.wire.connection
ending_placed c s k p r d =
    by_test (is_event c) (λ v. ap (λ (t : State). t.wire.connection) (ending_is_still c s (end_by s p) v).same)
    (λ v. by_test (is_data_access c s) (data_placed c s (ap is_wait p)) (λ n. (host_stays s (end_by s p) c v r d n).connection))
