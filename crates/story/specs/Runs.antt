-- One small command of each kind, written out, so that the demand's premises can be seen to be met.
--   small     a READ or WRITE of group 0 that moves three bytes out of a loaded count of five
--   silent    a TEST UNIT READY: no data
--   turns     a schedule in which Target and host take turns, with time passing
--   report    what a run has come to: the bus free, the host done, what crossed as phase and byte, and the host's data, status and count
use Rattle.std.specs.Prelude.{Bool, true, false, List, [], ◌∷◌, ◌++◌, ℕ, zero, suc}
use Rattle.chip.specs.Lines.{bit}
use Rattle.chip.specs.Phases.{phase_number}
use Rattle.chip.specs.Calls.{Call, Outcome}
use Rattle.chip.specs.declared.State.{State}
use Rattle.story.specs.Story.{Item, item, Way, inward, Job}
use Rattle.story.specs.Hosts.{Program}
use Rattle.story.specs.Schedule.{Place, calling, talking, away, Scene, Move, offer, pass, work, due, is_none}
use Rattle.story.specs.Demand.{data_held, status_held, count_held}

abbrev pub small : Way → Job
small w =
    record {
      way = w;
      unit = 2;
      reselects = true;
      command = 0x08 ∷ 0x40 ∷ 0x00 ∷ 0x07 ∷ 0x01 ∷ 0x00 ∷ [];
      moved = 0x11 ∷ 0x22 ∷ 0x33 ∷ [];
      beyond = 0x44 ∷ 0x55 ∷ [];
      status = 0x02;
      target = 5;
      timeout = 9;
    }

abbrev pub silent : Job
silent =
    record {
      way = inward;
      unit = 0;
      reselects = false;
      command = 0x00 ∷ 0x00 ∷ 0x00 ∷ 0x00 ∷ 0x00 ∷ 0x00 ∷ [];
      moved = [];
      beyond = [];
      status = 0x00;
      target = 5;
      timeout = 0;
    }

abbrev pub turns : ℕ → List Move
turns zero = []
turns (suc n) = offer ∷ pass 2 ∷ work ∷ turns n

abbrev pub is_away : Place → Bool
is_away calling = false
is_away talking = false
is_away away = true

abbrev pub crossed : List Item → List ℕ
crossed [] = []
crossed (item p b ∷ l) = phase_number p ∷ b ∷ crossed l

abbrev pub report : (Call → State → Outcome) → Program → Scene → List ℕ
report does g z =
    (bit (is_away z.target.place) ∷ bit (is_none (due does g z)) ∷ crossed z.target.log)
    ++ (data_held z.host ++ (status_held z.host ++ count_held z.host))
