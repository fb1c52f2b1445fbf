-- What every call tells, from every state: the walk's result, and the two calls that it singles out, computed.
--   good_step      a call whose operands are in range is carried out
--   told           what a call does to the code at 17h and to what is pending
--   Issued         a command, as the step takes it
--   issued_by issued   .. of a call that writes a command
--   reset_told     Reset raises 00
--   Reading reading   a register read, as the step takes it
--   access_step    a register access with its address and its mark known
--   disconnect_gives disconnect_told   Disconnect is taken, and drops what is pending
--   ReadTold       what a read of 17h answers and leaves: Blind, or the code
--   status_read    .. of a call that reads 17h
use mathlib.Core.Path.{◌≡◌, refl, ap, ap₂, ◌∙◌}
use mathlib.Core.Bool.{Bool, true, false, not}
use Prim.Native.Nat.{ℕ}
use lib.Dec.{eqb}
use borrow.Author.Tests.{eqb-true, not-true}
use Rattle.chip.specs.Choice.{pick, both, either}
use Rattle.chip.specs.Lines.{code_of}
use Rattle.chip.specs.Interrupts.{interrupted, busy}
use Rattle.chip.specs.Activity.{without_interrupt}
use Rattle.chip.specs.Commands.{is_ready, is_valid, entry_of, table, is_refused_busy, accepted, disconnected, carried_out, commanded, reset, reset_code}
use Rattle.chip.specs.Connections.{is_connected}
use Rattle.chip.specs.Answers.{done}
use Rattle.chip.specs.Registers as R
use Rattle.chip.specs.Calls.{Call, Outcome, pointer, auxiliary, register, block, time, answer, reselection, request, free, is_good, is_set, plain, step, carried}
use Rattle.chip.specs.declared.State.{State}
use Rattle.chip.specs.declared.Reply.{Reply}
use Rattle.chip.specs.declared.Answer.TheVariants.{Done, Blind}
use Rattle.chip.specs.declared.Activity.TheVariants.{Idle, Interrupt}
use Rattle.unread.specs.Status.{is_command, is_reset, is_disconnect, is_answer, reads_at}
use Rattle.chip.proofs.Cases.{by_pick, by_case, by_test, both_first, both_second}
use Rattle.unread.proofs.Choosing.{clash, not_first}
use Rattle.unread.proofs.Telling.{ToldState, so, ToldReply, silent}
use Rattle.unread.proofs.Host.{accessed_tells, block_tells, block_written_tells}
use Rattle.unread.proofs.Bus.{passed_tells, answered_tells, reselected_tells, requested_tells, freed_tells}

-- an Answer has no operand that could be out of range
no_answer : (c : Call) → is_good c ≡ false → is_answer c ≡ false
unfolding is_good
no_answer (pointer m b) g = refl
no_answer auxiliary g = refl
no_answer (register m b) g = refl
no_answer (block m l) g = refl
no_answer (time n) g = refl
no_answer answer g = clash refl g
no_answer (reselection lines) g = refl
no_answer (request p b q) g = refl
no_answer free g = refl

pub told : (c : Call) (s : State) → ToldState c s (step c s).state
unfolding step carried R.pointer_set R.pointer_read R.auxiliary_read
told c s = by_case (λ (o : Outcome). ToldState c s o.state) _ (by_call c) (λ g. so (silent (λ q. no_answer c g)))
  where
    by_call : (c : Call) → is_good c ≡ true → ToldState c s (carried c s).state
    by_call (pointer m b) g = by_pick (ToldReply (pointer m b) s) _ (so (silent (λ q. refl))) (so (silent (λ q. refl)))
    by_call auxiliary g = so (silent (λ q. refl))
    by_call (register m b) g = accessed_tells m b s g
    by_call (block m l) g =
        by_case (λ (r : R.Moved). ToldState (block m l) s r.state) _ (λ w. block_written_tells m l s) (block_tells m l s g)
    by_call (time n) g = passed_tells n s g
    by_call answer g = answered_tells s
    by_call (reselection lines) g = reselected_tells lines s g
    by_call (request p b q) g = requested_tells p b q s g
    by_call free g = freed_tells s

-- a call that is carried out
pub good_step : (c : Call) (s : State) → is_good c ≡ true → step c s ≡ carried c s
unfolding step pick
good_step c s g = rw g

-- a register access with its address and its mark known
pub access_step : (m b : ℕ) (s : State) (a : ℕ) (w : Bool) → is_good (register m b) ≡ true → is_set m ≡ w → eqb s.status.pointer a ≡ true
    → step (register m b) s ≡ plain (R.stepped a (R.accessed_at a w b s))
unfolding carried R.accessed
access_step m b s a w g f e =
    good_step (register m b) s g ∙ ap₂ (λ (x : ℕ) (v : Bool). plain (R.stepped x (R.accessed_at x v b s))) (eqb-true _ _ e) f

-- commands

pub record Issued (k : ℕ) (c : Call) (s : State) : Type 0 where
  pub byte : ℕ
  pub code : code_of byte ≡ k
  pub leaves : step c s ≡ plain (R.stepped 0x18 (commanded byte s))

never_blind : (b : ℕ) (s : State) → R.accessed_at 0x18 true b s ≡ commanded b s
unfolding R.accessed_at R.is_blind R.written_at both either pick
never_blind b s = by_test (busy s) (λ e. rw e) (λ e. rw e)

pub issued_by : (k m b : ℕ) (s : State) → is_command k (register m b) s ≡ true
    → (code_of b ≡ k) × (step (register m b) s ≡ plain (R.stepped 0x18 (commanded b s)))
unfolding is_command
issued_by k m b s e =
    let f : both (is_set m) (both (eqb s.status.pointer 0x18) (eqb (code_of b) k)) ≡ true = both_second (is_good (register m b)) _ e in
    let h : both (eqb s.status.pointer 0x18) (eqb (code_of b) k) ≡ true = both_second (is_set m) _ f in (
      eqb-true _ _ (both_second (eqb s.status.pointer 0x18) _ h),
      access_step m b s 0x18 true (both_first _ _ e) (both_first _ _ f) (both_first _ _ h)
          ∙ ap (λ (r : Reply). plain (R.stepped 0x18 r)) (never_blind b s),
    )

pub issued : (k : ℕ) (c : Call) (s : State) → is_command k c s ≡ true → Issued k c s
unfolding is_command
issued k (pointer m b) s e = clash e refl
issued k auxiliary s e = clash e refl
issued k (register m b) s e = record { byte = b; code = (issued_by k m b s e).0; leaves = (issued_by k m b s e).1 }
issued k (block m l) s e = clash e refl
issued k (time n) s e = clash e refl
issued k answer s e = clash e refl
issued k (reselection lines) s e = clash e refl
issued k (request p b q) s e = clash e refl
issued k free s e = clash e refl

pub reset_told : (c : Call) (s : State) → is_reset c s ≡ true
    → ((step c s).state.status.code ≡ reset_code s) × ((step c s).state.activity ≡ Interrupt)
unfolding is_reset commanded reset R.stepped pick
reset_told c s e =
    let h : Issued 0x00 c s = issued 0x00 c s e in
    rw (h.leaves, h.code) (refl, refl)

-- reads

pub record Reading (a : ℕ) (c : Call) (s : State) : Type 0 where
  pub byte : ℕ
  pub gives : step c s ≡ plain (R.stepped a (R.accessed_at a false byte s))

pub reading : (a : ℕ) (c : Call) (s : State) → reads_at a c s ≡ true → Reading a c s
unfolding reads_at
reading a (pointer m b) s e = clash e refl
reading a auxiliary s e = clash e refl
reading a (register m b) s e =
    let f : both (not (is_set m)) (eqb s.status.pointer a) ≡ true = both_second (is_good (register m b)) _ e in
    record { byte = b; gives = access_step m b s a false (both_first _ _ e) (not-true _ (both_first _ _ f)) (both_second (not (is_set m)) _ f) }
reading a (block m l) s e = clash e refl
reading a (time n) s e = clash e refl
reading a answer s e = clash e refl
reading a (reselection lines) s e = clash e refl
reading a (request p b q) s e = clash e refl
reading a free s e = clash e refl

pub data ReadTold (s : State) : Outcome → Type 0 where
  blind : {o : Outcome} → busy s ≡ true → o.answer ≡ Blind → o.state.status.code ≡ s.status.code
      → o.state.activity ≡ s.activity → ReadTold s o
  read : {o : Outcome} → busy s ≡ false → o.answer ≡ Done s.status.code → o.state.status.code ≡ s.status.code
      → o.state.activity ≡ without_interrupt s.activity → ReadTold s o

readable : (b : ℕ) (s : State) → busy s ≡ false
    → ReadTold s (plain (R.stepped 0x17 (pick false (R.written_at 0x17 b s) (R.read_at 0x17 s))))
unfolding R.stepped R.read_at pick
readable b s e = read e refl refl refl

-- 17h is not Blind only where no command runs
seen_idle : (s : State) → R.is_blind false 0x17 s ≡ false → busy s ≡ false
unfolding R.is_blind both either
seen_idle s b = not_first (busy s) true b refl

seen_busy : (s : State) → R.is_blind false 0x17 s ≡ true → busy s ≡ true
unfolding R.is_blind both either
seen_busy s b = both_first (busy s) true b

pub status_read : (c : Call) (s : State) → reads_at 0x17 c s ≡ true → ReadTold s (step c s)
unfolding R.stepped R.accessed_at
status_read c s e =
    let h : Reading 0x17 c s = reading 0x17 c s e in
    rw h.gives
    (by_case (λ (r : Reply). ReadTold s (plain (R.stepped 0x17 r))) _ (λ b. blind (seen_busy s b) refl refl refl) (λ b. readable h.byte s (seen_idle s b)))

-- a Disconnect that finds the controller connected, with no INT, is taken
pub disconnect_gives : (b : ℕ) (s : State) → code_of b ≡ 0x04 → interrupted s ≡ false → is_connected s.wire.connection ≡ true
    → commanded b s ≡ done 0 (disconnected (accepted b s))
unfolding commanded carried_out is_refused_busy is_valid is_ready entry_of table both either pick
disconnect_gives b s k i x = by_test (busy s) (λ e. rw (k, i, x, e)) (λ e. rw (k, i, x, e))

pub disconnect_told : (c : Call) (s : State) → is_disconnect c s ≡ true → interrupted s ≡ false
    → ((step c s).state.status.code ≡ s.status.code) × ((step c s).state.activity ≡ Idle)
unfolding is_disconnect disconnected accepted R.stepped
disconnect_told c s e i =
    let h : Issued 0x04 c s = issued 0x04 c s (both_first _ _ e) in
    let g = disconnect_gives h.byte s h.code i (both_second (is_command 0x04 c s) _ e) in
    rw (h.leaves, g) (refl, refl)
