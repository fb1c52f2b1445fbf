-- The scenes that a schedule can reach with the host that serves by one Select-And-Transfer, one constructor for each part of its way.
--   Set       the registers hold what the command needs
--   Hands     what the host holds at the start
--   Coming    data on their way in: what the host has, what waits in the FIFO, what is still to cross
--   Left      what is left of the data once the status has crossed
--   Reach     the scenes
use Rattle.std.specs.Prelude.{Option}
use mathlib.Core.Path.{◌≡◌}
use mathlib.Core.Bool.{Bool, true, false}
use mathlib.Core.List.{List, [], ◌∷◌, ◌++◌}
use Prim.Native.Nat.{ℕ, suc, ◌+◌, ◌/◌, ◌%◌}
use lib.ListN.{length, get_or}
use Rattle.chip.specs.Fifo.{empty}
use Rattle.chip.specs.Lines.{is_on}
use Rattle.chip.specs.SelectAndTransfer.{size_of, stage_of}
use Rattle.chip.specs.declared.Registers.{Registers}
use Rattle.chip.specs.declared.Fifo.{Fifo}
use Rattle.chip.specs.declared.Stage.TheVariants.{Body, AfterData}
use Rattle.chip.specs.declared.Connection.TheVariants.{Disconnected, Selecting, Connected}
use Rattle.chip.specs.declared.Command.TheVariants.{SelectAndTransferWithAtn}
use Rattle.chip.specs.declared.Activity.TheVariants.{Idle, Interrupt, Runs, Ends}
use Rattle.chip.specs.declared.Direction.{Direction}
use Rattle.chip.specs.declared.Direction.TheVariants.{Unfixed, In, Out}
use Rattle.chip.specs.declared.Phase.{Phase}
use Rattle.chip.specs.declared.Phase.TheVariants.{DataOut, DataIn, CommandOut, MessageOut, MessageIn}
use Rattle.chip.specs.Ok.{Bytes}
use Rattle.story.specs.Story.{Item, item, items, Way, inward, outward, way_phase, Job, loaded, identifies, close, story}
use Rattle.story.specs.Hosts.{Access, put, Note, note}
use Rattle.story.specs.Schedule.{calling, talking, away, Scene}
use Rattle.story.specs.Demand.{incoming_data}
use Rattle.served.proofs.Parts.{Kept, the_registers, the_status, the_transfer, the_wire, the_state, the_host, the_target, the_scene, Aimed, Polls, Plays, Tale}
use Rattle.served.proofs.Time.{Spared}
use Rattle.served.proofs.Going.{Going}
use Rattle.served.proofs.Queue.{Lined}
use Rattle.served.proofs.Small.{Quiet, is_some, can_send}

-- the command phases of 10h by the bytes taken
pub data CommandPhase : ℕ → ℕ → Type 0 where
  first : CommandPhase 0x20 0
  later : {x y : ℕ} → y ≡ suc x → CommandPhase (0x31 + x) y

-- data may cross, or all of it has
pub data Expects : ℕ → ℕ → ℕ → Type 0 where
  body : {p n left : ℕ} → stage_of true p n ≡ Body → Expects p n left
  late : {p n left : ℕ} → stage_of true p n ≡ AfterData → left ≡ 0 → Expects p n left

module _ (j : Job) where
  pub record Set (cd : List ℕ) (lu src : ℕ) : Type 0 where
    pub behind : List ℕ
    pub cdb : cd ≡ j.command ++ behind
    pub unit : lu ≡ j.unit
    pub er : is_on 7 src ≡ j.reselects

  -- the goal of what the host loads
  pub record Ready (r : Registers) (n : List Note) : Type 0 where
    pub set : Set r.descriptor.cdb r.descriptor.lun r.source
    pub count : r.count ≡ loaded j
    pub timeout : r.setup.timeout ≡ j.timeout
    pub none : n ≡ []

  pub data Hands : Way → List ℕ → List ℕ → Type 0 where
    reads : {d : List ℕ} → j.way ≡ inward → d ≡ j.moved → Hands inward d []
    writes : {d v : List ℕ} → j.way ≡ outward → d ≡ j.moved → v ≡ d ++ j.beyond → Hands outward d v

  pub record Coming (got : List Item) (fifo rest : List ℕ) : Type 0 where
    pub had : List ℕ
    pub read : got ≡ items DataIn had
    pub all : had ++ (fifo ++ rest) ≡ j.moved
    pub bytes : Bytes rest

  pub data Left : Bool → Direction → Fifo → List Item → Phase → Type 0 where
    some : {q : Fifo} {got : List Item} (fifo : List ℕ) → j.way ≡ inward → Lined q fifo → Coming got fifo [] → Left (is_some fifo) In q got DataIn
    none : {q : Fifo} {hp : Phase} → incoming_data j.way j.moved ≡ [] → Left false Unfixed q [] hp

  abbrev pub final_notes : List Note
  final_notes =
      note 0x0F j.status ∷ note 0x12 (length j.beyond / 65536) ∷ note 0x13 (length j.beyond / 256 % 256)
      ∷ note 0x14 (length j.beyond % 256) ∷ []

  pub record Finals (r : Registers) (n : List Note) : Type 0 where
    pub notes : n ≡ final_notes

  -- after 16h: the host reads status and count, or has read them
  pub data Closes : Bool → List Access → Bool → ℕ → Registers → List Note → Type 0 where
    reading : {i f : Bool} {x : Access} {l : List Access} {a : ℕ} {r : Registers} {n : List Note} → Plays [] Finals (x ∷ l) r n → Aimed (x ∷ l) f a
        → Closes i (x ∷ l) f a r n
    resting : {i f : Bool} {l : List Access} {a : ℕ} {r : Registers} {n : List Note} → Polls i false true l f a → Finals r n → Closes i l f a r n

  -- the story with its way by name
  abbrev pub story_of : Way → List Item
  story_of w = item MessageOut (identifies j) ∷ (items CommandOut j.command ++ (items (way_phase w) j.moved ++ close j))

  pub data Reach : Scene → Type 0 where
    loads : {c m x pa el : ℕ} {l e at o f : Bool} {q : Fifo} {d : Direction} {rp ls : Option Phase} {id : Kept} {td : List Access} {r : Registers}
        {w : Way} {v : List ℕ} {n : List Note}
        → Plays (put 0x18 0x08 ∷ []) Ready td r n
        → Aimed td f x
        → Hands w j.moved v
        → Spared j.timeout 0 pa
        → Bytes v
        → Reach
        (the_scene (the_state r (the_status x c m l e) Idle q (the_transfer d o) (the_wire Disconnected at false rp ls id el))
        (the_host td f (way_phase w) v [] n) (the_target calling pa [] (story_of w)))
    seeks : {c m x pa el ow ct tm lu sy ds sr : ℕ} {l e at f : Bool} {rp ls : Option Phase} {id : Kept} {td : List Access} {cd v : List ℕ} {w : Way}
        → Set cd lu sr
        → Polls false false false td f x
        → Hands w j.moved v
        → Spared tm el pa
        → Bytes v
        → Reach
        (the_scene
        (the_state (the_registers ow ct tm cd lu 0x00 sy (loaded j) ds sr) (the_status x c m l e) (Runs SelectAndTransferWithAtn) empty (the_transfer Unfixed false)
        (the_wire Selecting at false rp ls id el)) (the_host td f (way_phase w) v [] []) (the_target calling pa [] (story_of w)))
    greets : {c m x pa el ow ct tm lu sy ds sr : ℕ} {l e at f : Bool} {rp ls : Option Phase} {id : Kept} {td : List Access} {cd v : List ℕ} {w : Way}
        → Set cd lu sr
        → Polls false false false td f x
        → Hands w j.moved v
        → Bytes v
        → Reach
        (the_scene
        (the_state (the_registers ow ct tm cd lu 0x10 sy (loaded j) ds sr) (the_status x c m l e) (Runs SelectAndTransferWithAtn) empty (the_transfer Unfixed false)
        (the_wire Connected at false rp ls id el)) (the_host td f (way_phase w) v [] []) (the_target talking pa [] (story_of w)))
    commands : {c m x pa el ow ct tm lu sy ds sr ph : ℕ} {l e at f : Bool} {rp ls : Option Phase} {id : Kept} {td : List Access} {cd v : List ℕ} {w : Way}
        {log : List Item} (had rest d : List ℕ)
        → Set cd lu sr
        → Polls false false false td f x
        → Hands w d v
        → Bytes v
        → CommandPhase ph (length had)
        → had ++ rest ≡ j.command
        → Tale (story j) log (items CommandOut rest ++ (items (way_phase w) d ++ close j))
        → Reach
        (the_scene
        (the_state (the_registers ow ct tm cd lu ph sy (length d + length j.beyond) ds sr) (the_status x c m l e) (Runs SelectAndTransferWithAtn) empty
        (the_transfer Unfixed false) (the_wire Connected at false rp ls id el)) (the_host td f (way_phase w) v [] [])
        (the_target talking pa log (items CommandOut rest ++ (items (way_phase w) d ++ close j))))
    comes : {c m x pa el ow ct tm lu sy ds sr ph : ℕ} {l e at f : Bool} {rp ls : Option Phase} {id : Kept} {td : List Access} {cd : List ℕ}
        {log got : List Item} {q : Fifo} (fifo rest : List ℕ)
        → j.way ≡ inward
        → Set cd lu sr
        → Polls false (is_some fifo) false td f x
        → Lined q fifo
        → Coming got fifo rest
        → Expects ph (size_of (get_or cd 0 0)) (length rest + length j.beyond)
        → Tale (story j) log (items DataIn rest ++ close j)
        → Reach
        (the_scene
        (the_state (the_registers ow ct tm cd lu ph sy (length rest + length j.beyond) ds sr) (the_status x c m l e) (Runs SelectAndTransferWithAtn) q
        (the_transfer In false) (the_wire Connected at false rp ls id el)) (the_host td f DataIn [] got [])
        (the_target talking pa log (items DataIn rest ++ close j)))
    goes : {c m x pa el ow ct tm lu sy ds sr ph : ℕ} {l e at f : Bool} {rp ls : Option Phase} {id : Kept} {td : List Access} {cd : List ℕ}
        {log : List Item} {q : Fifo} (fifo rest give : List ℕ)
        → j.way ≡ outward
        → Set cd lu sr
        → Polls false false (can_send fifo give) td f x
        → Lined q fifo
        → Going fifo rest give j.beyond
        → Expects ph (size_of (get_or cd 0 0)) (length rest + length j.beyond)
        → Tale (story j) log (items DataOut rest ++ close j)
        → Reach
        (the_scene
        (the_state (the_registers ow ct tm cd lu ph sy (length rest + length j.beyond) ds sr) (the_status x c m l e) (Runs SelectAndTransferWithAtn) q
        (the_transfer Out false) (the_wire Connected at false rp ls id el)) (the_host td f DataOut give [] [])
        (the_target talking pa log (items DataOut rest ++ close j)))
    statuses : {c m x pa el ow ct tm sy ds sr n : ℕ} {l e at f wt : Bool} {rp ls : Option Phase} {id : Kept} {td : List Access} {cd v : List ℕ} {hp : Phase}
        {log got : List Item} {q : Fifo} {d : Direction}
        → Polls false wt true td f x
        → Left wt d q got hp
        → Bytes v
        → n ≡ length j.beyond
        → Tale (story j) log (item MessageIn 0x00 ∷ [])
        → Reach
        (the_scene
        (the_state (the_registers ow ct tm cd j.status 0x50 sy n ds sr) (the_status x c m l e) (Runs SelectAndTransferWithAtn) q (the_transfer d false)
        (the_wire Connected at false rp ls id el)) (the_host td f hp v got []) (the_target talking pa log (item MessageIn 0x00 ∷ [])))
    ends : {c m x pa el ow ct tm sy ds sr n b : ℕ} {l e at f : Bool} {rp ls : Option Phase} {id : Kept} {td : List Access} {cd v : List ℕ}
        {got : List Item} {q : Fifo} (fifo : List ℕ)
        → Polls false true true td f x
        → j.way ≡ inward
        → Lined q (b ∷ fifo)
        → Coming got (b ∷ fifo) []
        → Bytes v
        → n ≡ length j.beyond
        → Reach
        (the_scene
        (the_state (the_registers ow ct tm cd j.status 0x60 sy n ds sr) (the_status x c m l e) (Ends SelectAndTransferWithAtn 0x16) q (the_transfer In false)
        (the_wire Connected at false rp ls id el)) (the_host td f DataIn v got []) (the_target talking pa (story j) []))
    told : {m x pa el ow ct tm sy ds sr n : ℕ} {l e at f o : Bool} {rp ls : Option Phase} {id : Kept} {td : List Access} {cd v : List ℕ} {hp : Phase}
        {got : List Item} {q : Fifo} {d : Direction}
        → Polls true false true td f x
        → Quiet d q
        → got ≡ items DataIn (incoming_data j.way j.moved)
        → Bytes v
        → n ≡ length j.beyond
        → Reach
        (the_scene
        (the_state (the_registers ow ct tm cd j.status 0x60 sy n ds sr) (the_status x 0x16 m l e) Interrupt q (the_transfer d o)
        (the_wire Connected at false rp ls id el)) (the_host td f hp v got []) (the_target talking pa (story j) []))
    calm : {c m x pa el : ℕ} {l e at f o : Bool} {rp ls : Option Phase} {id : Kept} {td : List Access} {v : List ℕ} {hp : Phase} {got : List Item}
        {q : Fifo} {d : Direction} {r : Registers} {n : List Note}
        → Closes false td f x r n
        → Quiet d q
        → got ≡ items DataIn (incoming_data j.way j.moved)
        → Bytes v
        → Reach
        (the_scene (the_state r (the_status x c m l e) Idle q (the_transfer d o) (the_wire Connected at false rp ls id el))
        (the_host td f hp v got n) (the_target talking pa (story j) []))
    gone : {m x pa el : ℕ} {l e at f o : Bool} {rp ls : Option Phase} {id : Kept} {td : List Access} {v : List ℕ} {hp : Phase} {got : List Item}
        {q : Fifo} {d : Direction} {r : Registers} {n : List Note}
        → Closes true td f x r n
        → Quiet d q
        → got ≡ items DataIn (incoming_data j.way j.moved)
        → Bytes v
        → Reach
        (the_scene (the_state r (the_status x 0x85 m l e) Interrupt q (the_transfer d o) (the_wire Disconnected at false rp ls id el))
        (the_host td f hp v got n) (the_target away pa (story j) []))
    rests : {c m x pa el : ℕ} {l e at f o : Bool} {rp ls : Option Phase} {id : Kept} {td : List Access} {v : List ℕ} {hp : Phase} {got : List Item}
        {q : Fifo} {d : Direction} {r : Registers} {n : List Note}
        → Polls false false true td f x
        → Finals r n
        → Quiet d q
        → got ≡ items DataIn (incoming_data j.way j.moved)
        → Bytes v
        → Reach
        (the_scene (the_state r (the_status x c m l e) Idle q (the_transfer d o) (the_wire Disconnected at false rp ls id el))
        (the_host td f hp v got n) (the_target away pa (story j) []))
