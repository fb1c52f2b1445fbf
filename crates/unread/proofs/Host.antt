-- The walk over what the host does: commands, the registers, the Data register, blocks.
--   commanded_tells   a command
--   accessed_tells    a register access
--   block_tells block_written_tells   a block
--   some_waits waits_some pop_less     how many bytes wait
--   Pops pops         what one read of the Data register leads to
--   written_keeps block_keeps stored_keeps   what does not look at the FIFO, or at the registers, is kept by a write of them
--   going             what holds where a block goes on and where it stops
--   Drains then block_drains          what several lead to, a block of them
--   invalid_idle select_idle abort_goes is_disconnect_lem   what a command that is not refused by a busy controller, or valid, finds
--   not_busy_runs not_busy_ends       .. no command runs, and no ending is under way
--   each_select transfer_selects      the codes of the four commands that select
--   is_command_lem own_code is_read       the call is that command, or that read
use mathlib.Core.Path.{◌≡◌, refl, sym, ap, ◌∙◌}
use mathlib.Core.Bool.{Bool, true, false, not}
use mathlib.Core.List.{List, [], ◌∷◌}
use Prim.Native.Nat.{ℕ, zero, suc, ◌<◌, ◌≤◌}
use native.Mathlib.Omega.{arith}
use lib.Dec.{eqb}
use lib.ListN.{length, get_or, drop}
use borrow.Author.Tests.{eqb-true, eq-eqb, not-true}
use Rattle.chip.specs.Choice.{pick, both, either}
use Rattle.chip.specs.Lines.{code_of}
use Rattle.chip.specs.Interrupts.{interrupted, in_ending, busy, ending_with, raise, outgoing_dropped, settled, settled_by, bytes_unread, is_incoming}
use Rattle.chip.specs.Activity.{is_interrupt, is_ending, is_running, goes_on}
use Rattle.chip.specs.Count.{loaded, loaded_for_transfer_info, dbr}
use Rattle.chip.specs.SelectAndTransfer.{resumed, from_disconnected}
use Rattle.chip.specs.Translate.{translated_by, translated}
use Rattle.chip.specs.Commands.{is_valid, is_ready, is_place, is_two, is_refused_busy, left_out, entry_of, table, reset, aborted, disconnected, selecting, select_and_transfer_begun, transfer_info_begun, carried_out, accepted, commanded}
use Rattle.chip.specs.Connections.{is_connected, is_selecting}
use Rattle.chip.specs.Calls.{Call, register, block, is_good, is_set}
use Rattle.chip.specs.State.{set_registers, set_fifo, set_activity, set_connection}
use Rattle.chip.specs.Fifo.{is_empty, pop, waits}
use Rattle.chip.specs.Registers.{Moved, go_on, data_read, data_read_by, data_written, data_written_by, block_read, block_written, stored, read_at, written_at, accessed_at, accessed, stepped}
use Rattle.chip.specs.declared.State.{State}
use Rattle.chip.specs.declared.Fifo.{Fifo}
use Rattle.chip.specs.declared.Registers.{Registers}
use Rattle.chip.specs.declared.Answer.{Answer}
use Rattle.chip.specs.declared.Answer.TheVariants.{Done, Held, OutOfPlace, BadNumber, Blind, CommandIgnored, ReselectionIgnored, NoDataNow, Reported}
use Rattle.chip.specs.declared.Activity.{Activity}
use Rattle.chip.specs.declared.Activity.TheVariants as A
use Rattle.chip.specs.declared.Command.{Command}
use Rattle.chip.specs.declared.Entry.{Entry}
use Rattle.chip.specs.declared.Connection.{Connection}
use Rattle.chip.specs.declared.Connection.TheVariants.{Disconnected, Selecting, Waiting}
use Rattle.chip.specs.declared.Direction.{Direction}
use Rattle.chip.specs.declared.Direction.TheVariants.{Unfixed, In, Out}
use Rattle.chip.specs.declared.Reply.{Reply}
use Rattle.unread.specs.Status.{pending_in, is_command, is_reset, is_select_code, is_selection, is_disconnect, is_answer, reads_at}
use Rattle.unread.specs.Because as B
use Rattle.unread.specs.Because.{Quiet, ReadsLast}
use Rattle.chip.proofs.Cases.{by_pick, by_case, by_test, both_first, both_second, either_second}
use Rattle.unread.proofs.Choosing.{clash, not_first, one_or, one_of}
use Rattle.unread.proofs.Telling.{connected_apart, Summary, summary, Tells, ToldState, so, ToldReply, disconnects, has_read_out, silent, moves, selects, settles, raises, reads, resets, gone, there, brought}
use Rattle.unread.proofs.Pendings.{is_end, quiet_of}
use Rattle.chip.proofs.Activities.{ending_runs}
use Rattle.chip.proofs.Numbers.{is_selecting_lem, is_connected_lem, is_disconnected_lem}
use Rattle.chip.proofs.FifoLaws.{some_waits, none_waits, pop_less, waits_some}

-- commands

pub not_busy_runs : (s : State) → busy s ≡ false → is_running s.activity ≡ false
unfolding busy
not_busy_runs s e = e

pub not_busy_ends : (s : State) → busy s ≡ false → in_ending s ≡ false
unfolding busy
not_busy_ends s e = by_test (in_ending s) (λ f. clash (ending_runs s.activity f) e) (λ f. f)

-- a command that is not valid and not refused by a busy controller: nothing runs
pub invalid_idle : (k : ℕ) (s : State) → is_refused_busy k s ≡ false → is_valid k s ≡ false → busy s ≡ false
unfolding is_refused_busy either
invalid_idle k s r v = not_first (busy s) _ r (by_test (is_two (entry_of k).level) (λ e. rw e) (λ e. rw (e, v)))

-- the four commands that select
pub each_select : (P : ℕ → Type 0) (k : ℕ) → is_select_code k ≡ true → P 0x06 → P 0x07 → P 0x08 → P 0x09 → P k
unfolding is_select_code
each_select P k e x y z w = one_or P 0x06 k _ e x (λ f. one_or P 0x07 k _ f y (λ g. one_of P 0x08 0x09 k g z w))

-- nor does anything run where one that selects is not refused so
pub select_idle : (k : ℕ) (s : State) → is_select_code k ≡ true → is_refused_busy k s ≡ false → busy s ≡ false
unfolding is_refused_busy either entry_of table
select_idle k s w = each_select (λ (j : ℕ). is_refused_busy j s ≡ false → busy s ≡ false) k w free_of free_of free_of free_of
  where
    free_of : both (busy s) true ≡ false → busy s ≡ false
    free_of r = not_first (busy s) _ r refl

pub transfer_selects : (k : ℕ) → either (eqb k 0x08) (eqb k 0x09) ≡ true → is_select_code k ≡ true
unfolding is_select_code either
transfer_selects k w = one_of (λ (j : ℕ). is_select_code j ≡ true) 0x08 0x09 k w refl refl

-- a valid one finds the controller Disconnected, or connected, where 08 and 09 are the resume
select_apart : (k : ℕ) (s : State) → is_select_code k ≡ true → is_valid k s ≡ true → is_connected s.wire.connection ≡ false
    → s.wire.connection ≡ Disconnected
unfolding is_valid entry_of table
select_apart k s w =
    each_select (λ (j : ℕ). is_valid j s ≡ true → is_connected s.wire.connection ≡ false → s.wire.connection ≡ Disconnected) k w
    (λ v n. is_disconnected_lem _ (both_first _ _ v)) (λ v n. is_disconnected_lem _ (both_first _ _ v))
    (λ v n. is_disconnected_lem _ (either_second (is_connected s.wire.connection) _ (both_first _ _ v) n))
    (λ v n. is_disconnected_lem _ (either_second (is_connected s.wire.connection) _ (both_first _ _ v) n))

only_apart : (k : ℕ) (s : State) → either (eqb k 0x06) (eqb k 0x07) ≡ true → is_valid k s ≡ true → s.wire.connection ≡ Disconnected
unfolding is_valid entry_of table
only_apart k s w =
    one_of (λ (j : ℕ). is_valid j s ≡ true → s.wire.connection ≡ Disconnected) 0x06 0x07 k w (λ v. is_disconnected_lem _ (both_first _ _ v))
    (λ v. is_disconnected_lem _ (both_first _ _ v))

-- no command but Reset and Abort is valid while selecting

is_barred : Entry → Bool
is_barred e = not (is_place e.place Selecting)

all_barred : List Entry → Bool
all_barred [] = true
all_barred (e ∷ l) = both (is_barred e) (all_barred l)

each_barred : (l : List Entry) → all_barred l ≡ true → (k : ℕ) → is_barred (get_or l k left_out) ≡ true
unfolding all_barred is_barred
each_barred [] e k = refl
each_barred (x ∷ l) e zero = both_first _ _ e
each_barred (x ∷ l) e (suc k) = each_barred l (both_second (is_barred x) _ e) k

pub valid_apart : (k : ℕ) (s : State) → eqb k 0x00 ≡ false → eqb k 0x01 ≡ false → is_valid k s ≡ true
    → is_selecting s.wire.connection ≡ false
unfolding is_valid entry_of table all_barred is_barred both either
valid_apart zero s n o v = clash refl n
valid_apart (suc zero) s n o v = clash refl o
valid_apart (suc (suc k)) s n o v = by_connection s.wire.connection (both_first _ _ v)
  where
    by_connection : (x : Connection) → is_place (entry_of (suc (suc k))).place x ≡ true → is_selecting x ≡ false
    by_connection x e =
        by_test (is_selecting x)
        (λ y. clash (rw (is_selecting_lem x y) at e) (not-true _ (each_barred (drop 2 table) refl k))) (λ n. n)

-- nor does anything run where any command of Level II is not refused so
two_idle : (k j : ℕ) (s : State) → eqb k j ≡ true → is_two (entry_of j).level ≡ true → is_refused_busy k s ≡ false → busy s ≡ false
unfolding is_refused_busy either
two_idle k j s e t r = not_first (busy s) _ r (rw (eqb-true k j e, t))

-- a valid Abort: a command runs, and no ending is under way
pub abort_goes : (k : ℕ) (s : State) → eqb k 0x01 ≡ true → is_valid k s ≡ true → goes_on s.activity ≡ true
unfolding is_valid is_ready pick
abort_goes k s e v = rw e at (both_second (is_place (entry_of k).place s.wire.connection) _ v)

module _
    (m b : ℕ) (s : State) (good : is_good (register m b) ≡ true) (set : is_set m ≡ true)
    (at : eqb s.status.pointer 0x18 ≡ true) where
  abbrev Told : State → Type 0
  Told t = ToldState (register m b) s t

  pub is_command_lem : (k : ℕ) → eqb (code_of b) k ≡ true → is_command k (register m b) s ≡ true
  unfolding is_command both
  is_command_lem k e = rw (good, set, at, e)

  pub own_code : is_command (code_of b) (register m b) s ≡ true
  own_code = is_command_lem (code_of b) (eq-eqb (code_of b) (code_of b) refl)

  still : Tells (register m b) s (summary s)
  still = silent (λ q. refl)

  -- a valid Disconnect finds the controller connected
  pub is_disconnect_lem : eqb (code_of b) 0x04 ≡ true → is_valid (code_of b) s ≡ true → is_disconnect (register m b) s ≡ true
  unfolding is_disconnect is_valid entry_of table both
  is_disconnect_lem e v =
      let k : code_of b ≡ 0x04 = eqb-true _ _ e in
      rw (is_command_lem 0x04 e) (both_first (is_connected s.wire.connection) _ (rw k at v))

  is_selection_lem : is_select_code (code_of b) ≡ true → is_selection (register m b) s ≡ true
  unfolding is_selection both
  is_selection_lem e = rw (good, set, at, e)

  module _ (i : interrupted s ≡ false) where
    aborted_tells : eqb (code_of b) 0x01 ≡ true → is_valid (code_of b) s ≡ true → Told (aborted (accepted b s))
    unfolding aborted accepted raise outgoing_dropped bytes_unread
    aborted_tells e v =
        let on : goes_on s.activity ≡ true = abort_goes _ s e v in
        by_case Told _
        (λ x. brought _ refl (connected_apart s.wire.connection x) refl on (B.aborts_connected (is_command_lem 0x01 e) on (is_connected_lem _ x)))
        (λ x. so (raises i (B.aborts (is_command_lem 0x01 e) on x) (gone refl)))

    select_quiet : is_select_code (code_of b) ≡ true → is_refused_busy (code_of b) s ≡ false → Quiet s
    select_quiet w f = quiet_of s i (not_busy_ends s (select_idle (code_of b) s w f))

    -- a valid Translate Address that no running command refuses
    pub translates : eqb (code_of b) 0x18 ≡ true → is_refused_busy (code_of b) s ≡ false → is_valid (code_of b) s ≡ true
        → B.Translates (register m b) s
    unfolding is_valid entry_of table
    translates e r v =
        let k : code_of b ≡ 0x18 = eqb-true _ _ e in
        let idle : busy s ≡ false = two_idle (code_of b) 0x18 s e refl r in
        record {
          command = is_command_lem 0x18 e;
          quiet = quiet_of s i (not_busy_ends s idle);
          idle = not_busy_runs s idle;
          apart = is_disconnected_lem _ (both_first _ _ (rw k at v));
        }

    transferring_tells : (r : Command) → either (eqb (code_of b) 0x08) (eqb (code_of b) 0x09) ≡ true
        → is_refused_busy (code_of b) s ≡ false → is_valid (code_of b) s ≡ true → Told (select_and_transfer_begun r (accepted b s))
    unfolding select_and_transfer_begun resumed accepted selecting from_disconnected loaded ending_with raise outgoing_dropped bytes_unread both
    transferring_tells r w f u =
        let v : is_select_code (code_of b) ≡ true = transfer_selects (code_of b) w in
        let q : Quiet s = select_quiet v f in
        by_case Told _
        (λ x. by_case Told _
        (λ h. by_case Told _ (λ z. clash z refl)
        (λ z. so
        (raises i
        (B.resumes (code_of b) own_code w q (not_busy_runs s (select_idle (code_of b) s v f)) (is_connected_lem _ x) (eqb-true _ _ h))
        (gone (connected_apart s.wire.connection x)))))
        (λ h. so (moves (connected_apart s.wire.connection x) (sym q))))
        (λ x. so (selects (is_selection_lem v) q (select_apart (code_of b) s v u x) (select_idle (code_of b) s v f)))

    translating_tells : eqb (code_of b) 0x18 ≡ true → is_refused_busy (code_of b) s ≡ false → is_valid (code_of b) s ≡ true
        → Told (translated (accepted b s))
    unfolding translated translated_by accepted raise outgoing_dropped
    translating_tells e r v =
        let h : B.Translates (register m b) s = translates e r v in
        by_case Told _ (λ x. so (raises i (B.misses h x) (there (λ q. h.idle)))) (λ x. so (raises i (B.locates h x) (there (λ q. h.idle))))

    carried_tells : (single : Bool) → eqb (code_of b) 0x00 ≡ false → is_refused_busy (code_of b) s ≡ false → is_valid (code_of b) s ≡ true
        → Told (carried_out (code_of b) single (accepted b s))
    unfolding carried_out entry_of table accepted disconnected selecting transfer_info_begun loaded_for_transfer_info is_select_code either
    carried_tells single n0 r v =
        by_case Told _ (λ e. aborted_tells e v)
        (λ n1. let z : is_selecting s.wire.connection ≡ false = valid_apart (code_of b) s n0 n1 v in
        by_case Told _ (λ e. so (moves z refl))
        (λ n2. by_case Told _ (λ e. so (moves z refl))
        (λ n3. by_case Told _ (λ e. so (settles (disconnects (is_disconnect_lem e v) i)))
        (λ n4. by_case Told _ (λ e. let w : is_select_code (code_of b) ≡ true = rw e in
        so (selects (is_selection_lem w) (select_quiet w r) (only_apart (code_of b) s (rw e) v) (select_idle (code_of b) s w r)))
        (λ n6. by_case Told _ (λ e. let w : is_select_code (code_of b) ≡ true = rw (n6, e) in
        so (selects (is_selection_lem w) (select_quiet w r) (only_apart (code_of b) s (rw (n6, e)) v) (select_idle (code_of b) s w r)))
        (λ n7. by_case Told _ (λ e. transferring_tells _ (rw e) r v)
        (λ n8. by_case Told _ (λ e. transferring_tells _ (rw (n8, e)) r v)
        (λ n9. by_case Told _ (λ e. so (moves z refl))
        (λ n15. by_case Told _ (λ e. translating_tells e r v)
        (λ n24. by_case Told _ (λ e. so (moves z (sym (quiet_of s i (not_busy_ends s (two_idle (code_of b) 0x20 s e refl r)))))) (λ n32. so (moves z refl))))))))))))

  is_reset_lem : eqb (code_of b) 0x00 ≡ true → is_reset (register m b) s ≡ true
  unfolding is_reset
  is_reset_lem e = is_command_lem 0x00 e

  pub commanded_tells : ToldReply (register m b) s (commanded b s)
  unfolding commanded reset accepted
  commanded_tells =
      by_case (ToldReply (register m b) s) _ (λ e. so (resets (is_reset_lem e) refl))
      (λ n. by_case (ToldReply (register m b) s) _ (λ i. so still)
      (λ i. by_case (ToldReply (register m b) s) _ (λ r. so still)
      (λ r. by_case (ToldReply (register m b) s) _ (carried_tells i _ n r)
      (λ v. let idle : busy s ≡ false = invalid_idle _ s r v in
      so (raises i (B.refuses (code_of b) own_code n (quiet_of s i (not_busy_ends s idle)) (not_busy_runs s idle) v)
      (there (λ q. not_busy_runs s idle)))))))

-- the Data register

-- one read of the Data register leads from s to t: nothing, one byte less, or the last byte of an ending
pub data Pops (s : State) : State → Type 0 where
  nothing_read : Pops s s
  one_read : is_incoming s.transfer.direction ≡ true → is_empty s.fifo ≡ false → Pops s (set_fifo (pop s.fifo) s)
  ending_read : {r : Command} {k : ℕ} → is_incoming s.transfer.direction ≡ true → waits s.fifo ≡ 1 → s.activity ≡ A.Ends r k
      → Pops s (raise k (set_fifo (pop s.fifo) s))
  wait_read : {r : Command} → is_incoming s.transfer.direction ≡ true → waits s.fifo ≡ 1 → s.activity ≡ A.ReadOut r
      → Pops s (set_connection Waiting (set_activity (A.Runs r) (set_fifo (pop s.fifo) s)))

-- at most n reads of the Data register, made in s, leave z
pub data Drains (n : ℕ) (s : State) : Summary → Type 0 where
  drains_nothing : Drains n s (summary s)
  drains_wait : {r : Command} → is_incoming s.transfer.direction ≡ true → 0 < waits s.fifo → waits s.fifo ≤ n
      → s.activity ≡ A.ReadOut r → Drains n s (record { code = s.status.code; activity = A.Runs r; connection = Waiting })
  drains_ending : {r : Command} {k : ℕ} → is_incoming s.transfer.direction ≡ true → 0 < waits s.fifo → waits s.fifo ≤ n
      → s.activity ≡ A.Ends r k → Drains n s (record { code = k; activity = A.Interrupt; connection = s.wire.connection })

pops_settled : (s : State) (a : Activity) → s.activity ≡ a → is_incoming s.transfer.direction ≡ true → waits s.fifo ≡ 1
    → Pops s (settled_by a (set_fifo (pop s.fifo) s))
unfolding settled_by
pops_settled s A.Idle e d w = one_read d (waits_some s.fifo (omega arith))
pops_settled s A.Interrupt e d w = one_read d (waits_some s.fifo (omega arith))
pops_settled s (A.Runs r) e d w = one_read d (waits_some s.fifo (omega arith))
pops_settled s (A.Ends r k) e d w = ending_read d w e
pops_settled s (A.ReadOut r) e d w = wait_read d w e

pops_in : (s : State) → s.transfer.direction ≡ In → Pops s (data_read_by In s).state
unfolding settled
pops_in s d =
    by_case (λ (r : Reply). Pops s r.state) (dbr s)
    (λ e. by_case (Pops s) _ (λ w. pops_settled s _ refl (rw d) (last_one e w)) (λ w. one_read (rw d) (holds e)))
    (λ e. nothing_read)
  where
    holds : dbr s ≡ true → is_empty s.fifo ≡ false
    holds e = not-true _ (unfold dbr in rw d at e)

    last_one : dbr s ≡ true → is_empty (pop s.fifo) ≡ true → waits s.fifo ≡ 1
    last_one e w = omega (arith, some_waits _ (holds e), pop_less _ (holds e), none_waits _ w)

pub pops : (s : State) → Pops s (data_read s).state
unfolding data_read
pops s = by_way _ refl
  where
    by_way : (d : Direction) → s.transfer.direction ≡ d → Pops s (data_read_by d s).state
    by_way Unfixed d = nothing_read
    by_way In d = pops_in s d
    by_way Out d = nothing_read

-- one read, and then at most n
pub then : {n : ℕ} {s t : State} {z : Summary} → Pops s t → Drains n t z → Drains (suc n) s z
unfolding raise outgoing_dropped
then nothing_read drains_nothing = drains_nothing
then nothing_read (drains_wait d w v e) = drains_wait d w (omega arith) e
then nothing_read (drains_ending d w v e) = drains_ending d w (omega arith) e
then (one_read d w) drains_nothing = drains_nothing
then {s = s} (one_read d w) (drains_wait d' w' v e) = drains_wait d (some_waits s.fifo w) (omega (arith, pop_less s.fifo w)) e
then {s = s} (one_read d w) (drains_ending d' w' v e) = drains_ending d (some_waits s.fifo w) (omega (arith, pop_less s.fifo w)) e
then (ending_read d w e) drains_nothing = drains_ending d (omega arith) (omega arith) e
then (ending_read d w e) (drains_wait d' w' v f) = clash (ap is_ending f) refl
then (ending_read d w e) (drains_ending d' w' v f) = clash (ap is_ending f) refl
then (wait_read d w e) drains_nothing = drains_wait d (omega arith) (omega arith) e
then (wait_read d w e) (drains_wait d' w' v f) = clash (ap is_ending f) refl
then (wait_read d w e) (drains_ending d' w' v f) = clash (ap is_ending f) refl

-- what holds where a block goes on and where it stops holds
pub going : (P : Moved → Type 0) (a : Answer) (on : ℕ → Moved) (stop : Moved) → ((v : ℕ) → P (on v)) → P stop → P (go_on a on stop)
going P (Done v) on stop x y = x v
going P Held on stop x y = y
going P OutOfPlace on stop x y = y
going P BadNumber on stop x y = y
going P Blind on stop x y = y
going P CommandIgnored on stop x y = y
going P ReselectionIgnored on stop x y = y
going P NoDataNow on stop x y = y
going P Reported on stop x y = y

pub block_drains : (l : List ℕ) (s : State) → Drains (length l) s (summary (block_read l s).state)
unfolding block_read
block_drains [] s = drains_nothing
block_drains (x ∷ l) s =
    going (λ (r : Moved). Drains (suc (length l)) s (summary r.state)) (data_read s).answer _ _
    (λ v. then (pops s) (block_drains l (data_read s).state))
    drains_nothing

-- a write of the Data register changes the FIFO alone, and so does a block of writes
pub written_keeps : {A : Type 0} (g : State → A) → ((x : Fifo) (t : State) → g (set_fifo x t) ≡ g t) → (b : ℕ) (s : State)
    → g (data_written b s).state ≡ g s
unfolding data_written
written_keeps g k b s = by_way s.transfer.direction
  where
    by_way : (d : Direction) → g (data_written_by d b s).state ≡ g s
    by_way Unfixed = refl
    by_way In = refl
    by_way Out = by_pick (λ (r : Reply). g r.state ≡ g s) _ (k _ _) refl

pub block_keeps : {A : Type 0} (g : State → A) → ((x : Fifo) (t : State) → g (set_fifo x t) ≡ g t) → (l : List ℕ) (s : State)
    → g (block_written l s).state ≡ g s
unfolding block_written
block_keeps g k [] s = refl
block_keeps g k (b ∷ l) s =
    going (λ (r : Moved). g r.state ≡ g s) (data_written b s).answer _ _
    (λ v. block_keeps g k l (data_written b s).state ∙ written_keeps g k b s)
    refl

-- a write to 00 to 16h changes the registers alone
pub stored_keeps : {A : Type 0} (g : State → A) → ((x : Registers) (t : State) → g (set_registers x t) ≡ g t) → (a b : ℕ) (s : State)
    → g (stored a b s) ≡ g s
unfolding stored
stored_keeps g k a b s = k _ _

drained : {c : Call} {n : ℕ} {s : State} {z : Summary} → is_answer c ≡ false
    → (is_incoming s.transfer.direction ≡ true → 0 < waits s.fifo → waits s.fifo ≤ n → ReadsLast c s)
    → Drains n s z → Tells c s z
drained a h drains_nothing = silent (λ q. a)
drained a h (drains_wait d w v e) = settles (has_read_out e (h d w v))
drained a h (drains_ending d w v e) =
    raises (ap is_interrupt e) (B.reads (record { last = h d w v; ending = ap pending_in e }))
    (there (λ q. clash refl (ap is_end (sym (ap pending_in e) ∙ q))))

-- the registers

module _ (m b : ℕ) (s : State) (good : is_good (register m b) ≡ true) where
  abbrev Says : Reply → Type 0
  Says r = ToldReply (register m b) s r

  unmoved : Tells (register m b) s (summary s)
  unmoved = silent (λ q. refl)

  pub is_read : (a : ℕ) → is_set m ≡ false → eqb s.status.pointer a ≡ true → reads_at a (register m b) s ≡ true
  unfolding reads_at both
  is_read a w e = rw (good, w, e)

  read_tells : is_set m ≡ false → Says (read_at s.status.pointer s)
  unfolding read_at
  read_tells w =
      by_case Says _ (λ e. so (reads (is_read 0x17 w e) refl))
      (λ n. by_pick Says _ (so unmoved)
      (by_case Says _
      (λ e. so (drained {n = 1} refl (λ d v u. B.byte (is_read 0x19 w e) d (omega arith)) (then (pops s) drains_nothing)))
      (λ o. so unmoved)))

  written_tells : is_set m ≡ true → Says (written_at s.status.pointer b s)
  unfolding written_at
  written_tells w =
      by_case Says _ (commanded_tells m b s good w)
      (λ n. by_pick Says _ (so (rw (written_keeps summary (λ x t. refl) b s) unmoved))
      (so (rw (stored_keeps summary (λ x t. refl) s.status.pointer b s) unmoved)))

  at_address_tells : Says (accessed_at s.status.pointer (is_set m) b s)
  unfolding accessed_at
  at_address_tells = by_pick Says _ (so unmoved) (by_case Says _ written_tells read_tells)

  pub accessed_tells : Says (accessed (is_set m) b s)
  unfolding accessed stepped
  accessed_tells = so at_address_tells.tells

pub block_tells : (m : ℕ) (l : List ℕ) (s : State) → is_good (block m l) ≡ true → is_set m ≡ false
    → ToldState (block m l) s (block_read l s).state
block_tells m l s good w = so (drained refl (λ d v u. B.slice good w d v u) (block_drains l s))

pub block_written_tells : (m : ℕ) (l : List ℕ) (s : State) → ToldState (block m l) s (block_written l s).state
block_written_tells m l s = so (rw (block_keeps summary (λ x t. refl) l s) (silent (λ q. refl)))
