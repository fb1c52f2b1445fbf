-- The law refutes the wrong steps of specs/Wrong.antt, each at one call and one state. A name says which step falls.
use mathlib.Core.Path.{refl}
use mathlib.Core.Bool.{true, true≢false}
use Rattle.chip.specs.State.{fresh, set_ack, set_connection, set_activity, set_timeout}
use Rattle.chip.specs.Fifo.{is_empty}
use Rattle.chip.specs.Calls.{time, free}
use Rattle.chip.specs.declared.State.{State}
use Rattle.chip.specs.declared.Connection.TheVariants.{Selecting, Connected}
use Rattle.chip.specs.declared.Activity.TheVariants.{Runs}
use Rattle.chip.specs.declared.Command.TheVariants.{SelectWithAtn}
use Rattle.chip.proofs.Computing.{everything}
use Rattle.reached.specs.Sound.{unasked, joined, idle, selects, six, Sound, Kept}
use Rattle.reached.specs.Wrong.{stays_selecting, keeps_ack}
use Rattle.reached.proofs.Shapes.{so, clash}
use Rattle.reached.proofs.Laws.{by_parts, of_parts, fresh_sound}
use Rattle.reached.proofs.Facts.{facts, on_goes}

-- selecting with 06, the timeout after one unit
abbrev calling : State
calling = set_timeout 1 (set_activity (Runs SelectWithAtn) (set_connection Selecting fresh))

calling_sound : Sound calling
unfolding is_empty
calling_sound =
    let g = by_parts fresh_sound in
    of_parts (so _ g.numbers g.whole (selects six refl refl))

pub stays_selecting_falls : Kept stays_selecting → ⊥
unfolding everything stays_selecting
stays_selecting_falls h = clash (on_goes (facts (h (time 1) calling calling_sound)).runs) refl

-- connected and idle, ACK held
abbrev holding : State
holding = set_ack true (set_connection Connected fresh)

holding_sound : Sound holding
unfolding is_empty
holding_sound =
    let g = by_parts fresh_sound in
    of_parts (so _ g.numbers g.whole (idle unasked refl refl joined))

pub keeps_ack_falls : Kept keeps_ack → ⊥
unfolding everything keeps_ack
keeps_ack_falls h = true≢false ((facts (h free holding holding_sound)).ack_apart refl)
