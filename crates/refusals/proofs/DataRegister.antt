-- The Data register, 19h: an access moves a byte or nothing, and no byte that the host moves is counted.
--   Gives                             the reply to an access: Done, or No data now with the state as it was
--   read_gives, write_gives           of each read, and of each write
--   settled_count                     an ending that settles leaves the count
--   read_count, write_count           so does a read, and a write, of one byte
--   block_reads_by, block_writes_by   what each access to the Data register does to the state, a block does
--   block_read_count,
--   block_written_count               so a block leaves the count
use mathlib.Core.Path.{refl}
use mathlib.Core.List.{List, [], ◌∷◌}
use Prim.Native.Nat.{ℕ}
use Rattle.chip.specs.Answers.{done, no_data_now}
use Rattle.chip.specs.Interrupts.{settled_by, settled}
use Rattle.chip.specs.Registers.{Moved, go_on, data_read_by, data_read, data_written_by, data_written, block_read, block_written}
use Rattle.chip.specs.declared.State.{State}
use Rattle.chip.specs.declared.Reply.{Reply}
use Rattle.chip.specs.declared.Answer.{Answer}
use Rattle.chip.specs.declared.Answer.TheVariants.{Done, Held, OutOfPlace, BadNumber, Blind, CommandIgnored, ReselectionIgnored, NoDataNow, Reported}
use Rattle.chip.specs.declared.Activity.{Activity}
use Rattle.chip.specs.declared.Activity.TheVariants.{Idle, Interrupt, Runs, Ends, ReadOut}
use Rattle.chip.specs.declared.Direction.{Direction}
use Rattle.chip.specs.declared.Direction.TheVariants.{Unfixed, In, Out}
use Rattle.refusals.specs.Refusals.{SameCount}
use Rattle.chip.proofs.Cases.{by_pick}
use Rattle.refusals.proofs.Counts.{stands, then, raise_count}

pub data Gives (s : State) : Reply → Type 0 where
  moves : {v : ℕ} {t : State} → Gives s (done v t)
  nothing : Gives s (no_data_now s)

read_gives_by : (d : Direction) (s : State) → Gives s (data_read_by d s)
read_gives_by Unfixed s = nothing
read_gives_by In s = by_pick (Gives s) _ moves nothing
read_gives_by Out s = nothing

pub read_gives : (s : State) → Gives s (data_read s)
unfolding data_read
read_gives s = read_gives_by s.transfer.direction s

write_gives_by : (d : Direction) (b : ℕ) (s : State) → Gives s (data_written_by d b s)
write_gives_by Unfixed b s = nothing
write_gives_by In b s = nothing
write_gives_by Out b s = by_pick (Gives s) _ moves nothing

pub write_gives : (b : ℕ) (s : State) → Gives s (data_written b s)
unfolding data_written
write_gives b s = write_gives_by s.transfer.direction b s

settled_by_lem : (a : Activity) (s : State) → SameCount s (settled_by a s)
unfolding settled_by
settled_by_lem Idle s = stands refl refl
settled_by_lem Interrupt s = stands refl refl
settled_by_lem (Runs r) s = stands refl refl
settled_by_lem (Ends r k) s = raise_count k s
settled_by_lem (ReadOut r) s = stands refl refl

pub settled_count : (s : State) → SameCount s (settled s)
unfolding settled
settled_count s = by_pick (SameCount s) _ (settled_by_lem s.activity s) (stands refl refl)

abbrev Same : State → Reply → Type 0
Same s r = SameCount s r.state

read_by : (d : Direction) (s : State) → Same s (data_read_by d s)
read_by Unfixed s = stands refl refl
read_by In s = by_pick (Same s) _ (then (stands refl refl) (settled_count _)) (stands refl refl)
read_by Out s = stands refl refl

pub read_count : (s : State) → SameCount s (data_read s).state
unfolding data_read
read_count s = read_by s.transfer.direction s

write_by : (d : Direction) (b : ℕ) (s : State) → Same s (data_written_by d b s)
write_by Unfixed b s = stands refl refl
write_by In b s = stands refl refl
write_by Out b s = by_pick (Same s) _ (stands refl refl) (stands refl refl)

pub write_count : (b : ℕ) (s : State) → SameCount s (data_written b s).state
unfolding data_written
write_count b s = write_by s.transfer.direction b s

-- what holds where a block goes on, and where it stops, holds
by_answer : (P : Moved → Type 0) (a : Answer) (on : ℕ → Moved) (stop : Moved) → ((v : ℕ) → P (on v)) → P stop → P (go_on a on stop)
by_answer P (Done v) on stop x y = x v
by_answer P Held on stop x y = y
by_answer P OutOfPlace on stop x y = y
by_answer P BadNumber on stop x y = y
by_answer P Blind on stop x y = y
by_answer P CommandIgnored on stop x y = y
by_answer P ReselectionIgnored on stop x y = y
by_answer P NoDataNow on stop x y = y
by_answer P Reported on stop x y = y

module _ (R : State → State → Type 0) (none : (s : State) → R s s) (next : (s t u : State) → R s t → R t u → R s u) where
  pub block_reads_by : ((s : State) → R s (data_read s).state) → (l : List ℕ) (s : State) → R s (block_read l s).state
  unfolding block_read
  block_reads_by one [] s = none s
  block_reads_by one (b ∷ l) s =
      let h = block_reads_by one l (data_read s).state in
      by_answer (λ m. R s m.state) (data_read s).answer _ _ (λ v. next s _ _ (one s) h) (none s)

  pub block_writes_by : ((b : ℕ) (s : State) → R s (data_written b s).state) → (l : List ℕ) (s : State) → R s (block_written l s).state
  unfolding block_written
  block_writes_by one [] s = none s
  block_writes_by one (b ∷ l) s =
      let h = block_writes_by one l (data_written b s).state in
      by_answer (λ m. R s m.state) (data_written b s).answer _ _ (λ v. next s _ _ (one b s) h) (none s)

pub block_read_count : (l : List ℕ) (s : State) → SameCount s (block_read l s).state
block_read_count = block_reads_by SameCount (λ s. stands refl refl) (λ s t u. then) read_count

pub block_written_count : (l : List ℕ) (s : State) → SameCount s (block_written l s).state
block_written_count = block_writes_by SameCount (λ s. stands refl refl) (λ s t u. then) write_count
