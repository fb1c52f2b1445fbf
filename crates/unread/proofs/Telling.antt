-- What one call does to the code at 17h, to what is pending and to a selection, and the leaves of the walk that shows it of every call.
--   Summary summary    of a state: the code, the activity, the connection
--   Settles c s a x    the call c, made in s, settles what was pending: the activity is a then, with the connection x
--   settles_quiet settles_apart settles_plain   .. there was no INT, no selection runs, and no code is to come
--   read_out_quiet     where the read-out begins, nothing was pending
--   Tells c s z        the call c, made in s, leaves z: the eight ways
--   Leaves s x         a code raised in s leaves the connection x: a selection is over
--   ToldState so ToldReply   .. said of the state, or of the reply, that the call leads to
--   unless_int         an event that is Held with INT set
--   ended              an ending, by whether bytes are unread then
--   brought            .. with a code of the table
--   read_out           a read-out
--   is_plain            neither INT nor a code pending
--   plain_int          .. no INT then
--   connected_apart    connected, no selection runs
use mathlib.Core.Path.{◌≡◌, refl, sym, ap, ap₂, subst, ◌∙◌}
use mathlib.Core.Bool.{Bool, true, false}
use Prim.Native.Nat.{ℕ}
use Rattle.chip.specs.Interrupts.{interrupted, busy, ending_with, raise, outgoing_dropped, bytes_unread, unless_interrupt}
use Rattle.chip.specs.Activity.{is_interrupt, is_running, goes_on, ends, reads_out, without_interrupt}
use Rattle.chip.specs.Connections.{is_connected, is_selecting}
use Rattle.chip.specs.Commands.{reset_code}
use Rattle.chip.specs.Events as E
use Rattle.chip.specs.State.{set_activity}
use Rattle.chip.specs.Calls.{Call}
use Rattle.chip.specs.declared.State.{State}
use Rattle.chip.specs.declared.Reply.{Reply}
use Rattle.chip.specs.declared.Activity.{Activity}
use Rattle.chip.specs.declared.Activity.TheVariants as A
use Rattle.chip.specs.declared.Command.{Command}
use Rattle.chip.specs.declared.Connection.{Connection}
use Rattle.chip.specs.declared.Connection.TheVariants.{Disconnected, Selecting, Waiting}
use Rattle.unread.specs.Status.{Pending, Nothing, Interrupt, Ending, ReadOut, pending_in, pending, is_reset, is_selection, is_disconnect, is_answer, reads_at}
use Rattle.unread.specs.Because as B
use Rattle.unread.specs.Because.{Quiet, Brings, Begins, BeginsReadOut, ReadsLast, Because, brings_unread, brings}
use Rattle.chip.proofs.Cases.{by_case, both_second}
use Rattle.chip.proofs.Numbers.{is_connected_lem}
use Rattle.chip.proofs.Activities.{goes_on_runs}
use Rattle.unread.proofs.Choosing.{clash}
use Rattle.unread.proofs.Pendings.{is_int, int_by, going_open, going_quiet}

-- neither INT nor an ending that has a code
abbrev pub is_plain : Pending → Bool
is_plain Nothing = true
is_plain Interrupt = false
is_plain ReadOut = true
is_plain (Ending k) = false

pub record Summary : Type 0 where
  pub code : ℕ
  pub activity : Activity
  pub connection : Connection

abbrev pub summary : State → Summary
summary t = record { code = t.status.code; activity = t.activity; connection = t.wire.connection }

-- where a call that raises a code leaves a selection: it is over, or it was none
pub data Leaves (s : State) : Connection → Type 0 where
  gone : {x : Connection} → is_selecting x ≡ false → Leaves s x
  there : (Quiet s → is_running s.activity ≡ false) → Leaves s s.wire.connection

-- why nothing is pending, or a read-out with no code, where something else was: a Disconnect, a Free at 42h, the last byte after one
pub data Settles (c : Call) (s : State) : Activity → Connection → Type 0 where
  disconnects : is_disconnect c s ≡ true → interrupted s ≡ false → Settles c s A.Idle Disconnected
  reads_out_rest : {r : Command} → BeginsReadOut c s → Settles c s (A.ReadOut r) Disconnected
  has_read_out : {r : Command} → s.activity ≡ A.ReadOut r → ReadsLast c s → Settles c s (A.Runs r) Waiting

pub data Tells (c : Call) (s : State) : Summary → Type 0 where
  -- all three as they were, and no Answer to a selection that runs
  silent : (E.selects s ≡ true → is_answer c ≡ false) → Tells c s (summary s)
  -- the connection or the command moves, and no selection runs
  moves : {x : Connection} {a : Activity} → is_selecting x ≡ false → pending_in a ≡ pending s
      → Tells c s (record { code = s.status.code; activity = a; connection = x })
  -- a selection begins
  selects : {r : Command} → is_selection c s ≡ true → Quiet s → s.wire.connection ≡ Disconnected → busy s ≡ false
      → Tells c s (record { code = s.status.code; activity = A.Runs r; connection = Selecting })
  -- what was pending goes, or bytes are to be read out with no code to come
  settles : {a : Activity} {x : Connection} → Settles c s a x
      → Tells c s (record { code = s.status.code; activity = a; connection = x })
  -- an ending begins
  begins : {k : ℕ} {x : Connection} {r : Command} → Quiet s → Begins c s k → is_selecting x ≡ false
      → Tells c s (record { code = s.status.code; activity = A.Ends r k; connection = x })
  -- a code is raised
  raises : {k : ℕ} {x : Connection} → interrupted s ≡ false → Because c s k → Leaves s x
      → Tells c s (record { code = k; activity = A.Interrupt; connection = x })
  -- 17h is read
  reads : reads_at 0x17 c s ≡ true → is_answer c ≡ false
      → Tells c s
      (record { code = s.status.code; activity = without_interrupt s.activity; connection = s.wire.connection })
  -- Reset
  resets : {x : Connection} → is_reset c s ≡ true → is_selecting x ≡ false
      → Tells c s (record { code = reset_code s; activity = A.Interrupt; connection = x })

pub record ToldState (c : Call) (s t : State) : Type 0 where
  pub tells : Tells c s (summary t)

pub so : {c : Call} {s t : State} → Tells c s (summary t) → ToldState c s t
so h = record { tells = h }

abbrev pub ToldReply : Call → State → Reply → Type 0
ToldReply c s r = ToldState c s r.state

-- the read-out begins with nothing pending
pub read_out_quiet : {c : Call} {s : State} → BeginsReadOut c s → Quiet s
read_out_quiet (B.leaves_unread q x r e d u) = q

pub settles_quiet : {c : Call} {s : State} {a : Activity} {x : Connection} → Settles c s a x → interrupted s ≡ false
settles_quiet (disconnects d i) = i
settles_quiet {s = s} (reads_out_rest h) = int_by s (read_out_quiet h)
settles_quiet (has_read_out e l) = ap is_interrupt e

pub settles_apart : {c : Call} {s : State} {a : Activity} {x : Connection} → Settles c s a x → is_selecting x ≡ false
settles_apart (disconnects d i) = refl
settles_apart (reads_out_rest h) = refl
settles_apart (has_read_out e l) = refl

pub settles_plain : {c : Call} {s : State} {a : Activity} {x : Connection} → Settles c s a x → is_plain (pending_in a) ≡ true
settles_plain (disconnects d i) = refl
settles_plain (reads_out_rest h) = refl
settles_plain (has_read_out e l) = refl

pub plain_int : (q : Pending) → is_plain q ≡ true → is_int q ≡ false
plain_int Nothing e = refl
plain_int Interrupt e = clash e refl
plain_int (Ending k) e = refl
plain_int ReadOut e = refl

pub connected_apart : (x : Connection) → is_connected x ≡ true → is_selecting x ≡ false
connected_apart x e = ap is_selecting (is_connected_lem x e)

module _ {c : Call} {s : State} where
  pub unless_int : (r : Reply) → (interrupted s ≡ false → ToldReply c s r) → ToldReply c s (unless_interrupt s r)
  unfolding unless_interrupt E.selects
  unless_int r h = by_case (ToldReply c s) _ (λ i. so (silent (λ q. clash i (going_open s (both_second (is_selecting s.wire.connection) _ q))))) h

  -- t is s but for what an ending leaves alone
  pub ended : {k : ℕ} (t : State) → summary t ≡ record { code = s.status.code; activity = s.activity; connection = t.wire.connection }
      → is_selecting t.wire.connection ≡ false → goes_on s.activity ≡ true
      → (bytes_unread t ≡ true → Begins c s k) → (bytes_unread t ≡ false → Because c s k) → ToldState c s (ending_with k t)
  unfolding ending_with raise outgoing_dropped
  ended {k} t e z on x y =
      let h : (r : Command) × (s.activity ≡ A.Runs r) = goes_on_runs s.activity on in
      let a : ends k t.activity ≡ A.Ends h.0 k = ap (ends k) (ap (λ (v : Summary). v.activity) e ∙ h.1) in
      by_case (ToldState c s) _
      (λ w. so
      (subst (Tells c s)
      (sym
      (ap₂ (λ (j : ℕ) (b : Activity). record { code = j; activity = b; connection = t.wire.connection })
      (ap (λ (v : Summary). v.code) e) a))
      (begins (going_quiet s on) (x w) z)))
      (λ w. so (raises (going_open s on) (y w) (gone z)))

  -- the read-out begins: t is s with the bus free
  pub read_out : (t : State) → t.status.code ≡ s.status.code → t.wire.connection ≡ Disconnected → goes_on s.activity ≡ true
      → BeginsReadOut c s → ToldState c s (set_activity (reads_out s.activity) t)
  read_out t e x on h =
      let r : (r : Command) × (s.activity ≡ A.Runs r) = goes_on_runs s.activity on in
      so
      (rw (e, x)
      (subst (λ (a : Activity). Tells c s (record { code = s.status.code; activity = a; connection = Disconnected }))
      (sym (ap reads_out r.1)) (settles (reads_out_rest {r = r.0} h))))

  pub brought : {k : ℕ} (t : State) → summary t ≡ record { code = s.status.code; activity = s.activity; connection = t.wire.connection }
      → is_selecting t.wire.connection ≡ false → bytes_unread t ≡ bytes_unread s → goes_on s.activity ≡ true → Brings c s k
      → ToldState c s (ending_with k t)
  brought t e z u on h = ended t e z on (λ w. brings_unread h (rw (← u) w)) (λ w. brings h (rw (← u) w))
