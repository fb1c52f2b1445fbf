-- The laws refute the wrong steps of specs/Wrong.antt, each at one call and one state. A name says which step falls.
--   RefusalsKeep             blind_clears_falls, no_data_moves_falls, ignored_quietly_falls, held_counts_falls, report_takes_falls
--   KindsKept                holds_everything_falls
--   AuxiliaryIsSilent        auxiliary_clears_falls
--   CountFallsOnlyOnTheBus   nods_at_everything_falls, write_counts_falls
--   BlockIsAccesses          block_invents_falls, block_moves_one_falls
use mathlib.Core.Path.{refl, ap}
use mathlib.Core.Bool.{true, true≢false, false≢true}
use mathlib.Core.List.{[], ◌∷◌}
use lib.Dec.{eqb}
use Rattle.chip.specs.State.{fresh, set_pointer, set_activity, set_connection, set_ack, set_count, set_direction}
use Rattle.chip.specs.Answers.{value}
use Rattle.chip.specs.Interrupts.{interrupted}
use Rattle.chip.specs.Calls.{auxiliary, register, request}
use Rattle.chip.specs.declared.State.{State}
use Rattle.chip.specs.declared.Connection.TheVariants.{Connected}
use Rattle.chip.specs.declared.Activity.TheVariants.{Interrupt, Runs}
use Rattle.chip.specs.declared.Command.TheVariants.{TransferInfo}
use Rattle.chip.specs.declared.Direction.TheVariants.{Out}
use Rattle.chip.proofs.Computing.{everything}
use Rattle.refusals.specs.Refusals.{RefusalsKeep}
use Rattle.refusals.specs.Kinds.{KindsKept}
use Rattle.refusals.specs.Silence.{AuxiliaryIsSilent}
use Rattle.refusals.specs.Counting.{is_counted, CountFallsOnlyOnTheBus}
use Rattle.refusals.specs.Blocks.{reads, writes, BlockIsAccesses}
use Rattle.refusals.specs.Wrong.{blind_clears, no_data_moves, ignored_quietly, held_counts, report_takes, holds_everything, nods_at_everything, auxiliary_clears, write_counts, block_invents, block_moves_one}
use Rattle.chip.specs.Fifo.{waits}

pub blind_clears_falls : RefusalsKeep blind_clears → ⊥
unfolding everything blind_clears
blind_clears_falls h =
    let s : State = set_pointer 0x1A (set_activity Interrupt fresh) in
    false≢true (ap interrupted (h (register 0 0) s).2.1.state)

pub no_data_moves_falls : RefusalsKeep no_data_moves → ⊥
unfolding everything no_data_moves
no_data_moves_falls h =
    let s : State = set_pointer 0x19 fresh in
    false≢true (ap (λ t. eqb t.status.pointer 0x19) (h (register 0 0) s).2.state)

pub ignored_quietly_falls : RefusalsKeep ignored_quietly → ⊥
unfolding everything ignored_quietly
ignored_quietly_falls h =
    let s : State = set_pointer 0x18 (set_activity Interrupt fresh) in
    false≢true (ap (λ t. t.status.lci) (h (register 1 0x20) s).2.state)

-- connected, with five bytes left
abbrev five : State
five = set_connection Connected (set_count 5 fresh)

pub held_counts_falls : RefusalsKeep held_counts → ⊥
unfolding everything held_counts
held_counts_falls h =
    false≢true (ap (λ t. eqb t.registers.count 5) (h (request 0 0 0) (set_ack true five)).2.state)

pub report_takes_falls : RefusalsKeep report_takes → ⊥
unfolding everything report_takes
report_takes_falls h = false≢true (ap (λ n. eqb n 5) (h (request 1 0x5A 0) five).2.count.shown)

pub holds_everything_falls : KindsKept holds_everything → ⊥
unfolding holds_everything
holds_everything_falls h = false≢true (h auxiliary fresh)

pub auxiliary_clears_falls : AuxiliaryIsSilent auxiliary_clears → ⊥
unfolding everything auxiliary_clears
auxiliary_clears_falls h = false≢true (ap interrupted (h.auxiliary_read (set_activity Interrupt fresh)))

pub nods_at_everything_falls : CountFallsOnlyOnTheBus nods_at_everything → ⊥
unfolding everything nods_at_everything is_counted
nods_at_everything_falls h =
    let s : State = set_activity (Runs TransferInfo) five in
    true≢false (ap (λ n. eqb n 5) (h.counting (request 0 0 0) s))

-- the Data register takes bytes, its pointer set
abbrev taking : State
taking = set_pointer 0x19 (set_direction Out five)

pub write_counts_falls : CountFallsOnlyOnTheBus write_counts → ⊥
unfolding everything write_counts
write_counts_falls h = false≢true (ap (λ n. eqb n 5) (h.at_data 1 7 taking refl).shown)

pub block_invents_falls : BlockIsAccesses block_invents → ⊥
unfolding everything block_invents reads
block_invents_falls h = false≢true (ap (λ o. eqb (value o.answer) 0) (h.into_slice (7 ∷ []) fresh))

pub block_moves_one_falls : BlockIsAccesses block_moves_one → ⊥
unfolding everything block_moves_one writes
block_moves_one_falls h =
    false≢true (ap (λ o. eqb (waits o.state.fifo) 2) (h.out_of_slice (7 ∷ 8 ∷ []) taking refl))
