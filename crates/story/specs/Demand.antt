-- The third demand, as a predicate of the step: what it asks of any function that moves a controller.
-- The third demand: "From an idle, Disconnected controller, reached by calls from a fresh one and with its status read .."; ".. what has crossed the
-- bus is at each moment a first part of that story, and all of it when the bus is free again; both hold the same data and status; if k
-- is at least 1, the count left by the data is n - k; and wherever the Target is held, accesses by the host are due that bring it on."
--   Start        idle, Disconnected, its status read
--   InTime       the Target answers before the timeout runs out
--   data_held, status_held, count_held   what a host holds of the data that came in, of the status, and of the count left
--   Finished     the bus is free and the host has nothing left to do
--   Promise      what is promised of one host at each moment
--   Same         what both hosts hold at the end
--   Demand       the whole: for every earlier life of the controller, every job, and every schedule of each host
use Rattle.std.specs.Prelude.{◌≡◌, false, List, [], ◌∷◌, ◌++◌, ◌⊎◌, ℕ, ◌-◌, ◌/◌, ◌%◌, ◌≤◌, eqb, length}
use Rattle.chip.specs.Choice.{pick}
use Rattle.chip.specs.State.{fresh}
use Rattle.chip.specs.Phases.{same_phase}
use Rattle.chip.specs.Interrupts.{interrupted, busy}
use Rattle.chip.specs.Calls.{Call, Outcome, run}
use Rattle.chip.specs.declared.State.{State}
use Rattle.chip.specs.declared.Phase.{Phase}
use Rattle.chip.specs.declared.Phase.TheVariants.{DataIn, StatusIn}
use Rattle.chip.specs.declared.Connection.TheVariants.{Disconnected}
use Rattle.story.specs.Story.{Item, item, Way, inward, outward, Job, loaded, story, Proper}
use Rattle.story.specs.Hosts.{Note, note, Host, Program, starting, by_transfer, by_phases}
use Rattle.story.specs.Schedule.{calling, away, Scene, Move, moves, due, Brought}

pub record Start (s : State) : Type 0 where
  pub read : interrupted s ≡ false
  pub idle : busy s ≡ false
  pub apart : s.wire.connection ≡ Disconnected

abbrev pub InTime : ℕ → ℕ → Type 0
InTime timeout patience = (timeout ≡ 0) ⊎ (patience ≤ timeout)

-- of what was read, the bytes of a phase
abbrev pub bytes_of : Phase → List Item → List ℕ
bytes_of p [] = []
bytes_of p (item q b ∷ l) = pick (same_phase q p) (b ∷ bytes_of p l) (bytes_of p l)

-- of what was noted, the values at an address
abbrev pub notes_at : ℕ → List Note → List ℕ
notes_at a [] = []
notes_at a (note x v ∷ l) = pick (eqb x a) (v ∷ notes_at a l) (notes_at a l)

abbrev pub data_held : Host → List ℕ
data_held h = bytes_of DataIn h.got

-- as a byte of the phase Status, or as the register 0Fh
abbrev pub status_held : Host → List ℕ
status_held h = bytes_of StatusIn h.got ++ notes_at 0x0F h.noted

-- the bytes read at 12h to 14h, high byte first
abbrev pub count_held : Host → List ℕ
count_held h = notes_at 0x12 h.noted ++ (notes_at 0x13 h.noted ++ notes_at 0x14 h.noted)

-- a count as its three bytes, high byte first
abbrev pub count_bytes : ℕ → List ℕ
count_bytes n = n / 65536 ∷ n / 256 % 256 ∷ n % 256 ∷ []

-- the data that come in
abbrev pub incoming_data : Way → List ℕ → List ℕ
incoming_data inward l = l
incoming_data outward l = []

module _ (does : Call → State → Outcome) where
  module _ (j : Job) where
    -- a host before a controller, and the Target at the start of its story
    abbrev pub opening : Program → ℕ → State → Scene
    opening g patience s =
        record {
          chip = s;
          host = starting g;
          target = record { place = calling; patience = patience; log = []; ahead = story j };
        }

    pub record Finished (g : Program) (z : Scene) : Type 0 where
      pub free : z.target.place ≡ away
      pub rest : due does g z ≡ []

    pub record Promise (g : Program) (z : Scene) : Type 0 where
      -- what has crossed is a first part of the story
      pub so_far : (rest : List Item) × (z.target.log ++ rest ≡ story j)
      -- all of it when the bus is free again, and the host has all data that came in
      pub all : z.target.place ≡ away → z.target.log ≡ story j
      pub data_in : z.target.place ≡ away → data_held z.host ≡ incoming_data j.way j.moved
      -- once the host has nothing left to do, it holds the status, and the count left by the data
      pub status : Finished g z → status_held z.host ≡ j.status ∷ []
      pub count : Finished g z → 1 ≤ length j.moved → count_held z.host ≡ count_bytes (loaded j - length j.moved)
      -- the Target is brought on, and with the bus free the host comes to its end
      pub on : Brought does g z

    pub record Same (a b : Host) : Type 0 where
      pub the_data : data_held a ≡ data_held b
      pub the_status : status_held a ≡ status_held b
      pub the_count : 1 ≤ length j.moved → count_held a ≡ count_held b

    -- one controller, one Target, each host under a schedule of its own
    abbrev pub scene_a : State → ℕ → List Move → Scene
    scene_a s patience l = moves does (by_transfer j) l (opening (by_transfer j) patience s)

    abbrev pub scene_b : State → ℕ → List Move → Scene
    scene_b s patience l = moves does (by_phases j) l (opening (by_phases j) patience s)

    pub record Demand3 (s : State) (patience : ℕ) (la lb : List Move) : Type 0 where
      pub for_transfer : Promise (by_transfer j) (scene_a s patience la)
      pub for_phases : Promise (by_phases j) (scene_b s patience lb)
      pub same : Finished (by_transfer j) (scene_a s patience la) → Finished (by_phases j) (scene_b s patience lb)
          → Same (scene_a s patience la).host (scene_b s patience lb).host

  abbrev pub Demand : Type 0
  Demand =
      (earlier : List Call) (j : Job) (patience : ℕ) (la lb : List Move) → Proper (run does earlier fresh) j → Start (run does earlier fresh) → InTime j.timeout patience
      → Demand3 j (run does earlier fresh) patience la lb
