-- The scenes that a schedule can reach with the host that serves phase by phase, one constructor for each part of its way.
--   Seg       one phase of the story: its bytes, and the bytes that its count allows beyond them
--   flat      what crosses in some phases; ins: of what crossed, what came in
--   notes_of   what the host notes of the count left
--   Fits, Good, After   phases that the host's counts and bytes fit, up to the last, which is one byte of Message In
--   Names     a status code that names a phase
--   Heard     the host has read what came in but for what waits
--   Begins, Sends, Takes, Closes, Drains, Ends   the scenes: before a phase moves, while one does, after the last
--   Reach     all of them
use Rattle.std.specs.Prelude.{Option, None, Some}
use mathlib.Core.Path.{◌≡◌}
use mathlib.Core.Bool.{Bool, true, false}
use mathlib.Core.List.{List, [], ◌∷◌, ◌++◌}
use Prim.Native.Nat.{ℕ, ◌+◌, ◌/◌, ◌%◌, ◌<◌}
use lib.ListN.{length}
use Rattle.chip.specs.Choice.{pick}
use Rattle.chip.specs.Phases.{phase_number, comes_in, is_message_in, same_phase}
use Rattle.chip.specs.declared.Registers.{Registers}
use Rattle.chip.specs.declared.Fifo.{Fifo}
use Rattle.chip.specs.declared.Connection.TheVariants.{Disconnected, Selecting, Connected}
use Rattle.chip.specs.declared.Command.TheVariants.{SelectWithAtn, TransferInfo}
use Rattle.chip.specs.declared.Activity.TheVariants.{Idle, Interrupt, Runs}
use Rattle.chip.specs.declared.Activity.TheVariants as Activity
use Rattle.chip.specs.declared.Direction.{Direction}
use Rattle.chip.specs.declared.Direction.TheVariants.{In, Out}
use Rattle.chip.specs.declared.Phase.{Phase}
use Rattle.chip.specs.declared.Phase.TheVariants.{DataOut, DataIn, CommandOut, StatusIn, UnspecifiedOut, UnspecifiedIn, MessageOut, MessageIn}
use Rattle.chip.specs.Ok.{Bytes}
use Rattle.story.specs.Story.{Item, item, items, Job}
use Rattle.story.specs.Hosts.{Access, put, Note, note, count_for, give_for}
use Rattle.story.specs.Schedule.{calling, talking, away, Scene}
use Rattle.served.proofs.Parts.{Kept, the_registers, the_status, the_transfer, the_wire, the_state, the_host, the_target, the_scene, Aimed, Polls, Plays, Tale}
use Rattle.served.proofs.Time.{Spared}
use Rattle.served.proofs.Going.{Going}
use Rattle.served.proofs.Queue.{Lined}
use Rattle.served.proofs.Small.{Quiet, is_some, can_send}

pub data Seg : Type 0 where
  seg : Phase → List ℕ → List ℕ → Seg

abbrev pub flat : List Seg → List Item
flat [] = []
flat (seg p bs x ∷ gs) = items p bs ++ flat gs

abbrev pub ins : List Item → List Item
ins [] = []
ins (item p b ∷ l) = pick (comes_in p) (item p b ∷ ins l) (ins l)

abbrev pub count_notes : ℕ → List Note
count_notes n = note 0x12 (n / 65536 % 256) ∷ note 0x13 (n / 256 % 256) ∷ note 0x14 (n % 256) ∷ []

abbrev pub notes_of : Phase → ℕ → List Note
notes_of DataOut n = count_notes n
notes_of DataIn n = count_notes n
notes_of CommandOut n = []
notes_of StatusIn n = []
notes_of UnspecifiedOut n = []
notes_of UnspecifiedIn n = []
notes_of MessageOut n = []
notes_of MessageIn n = []

abbrev pub notes_after : List Seg → List Note
notes_after [] = []
notes_after (seg p bs x ∷ gs) = notes_of p (length x) ++ notes_after gs

pub data Names : ℕ → Phase → Type 0 where
  asked : {p : Phase} → Names (0x88 + phase_number p) p
  over : {p : Phase} (t : Bool) → Names (pick t 0x18 0x48 + phase_number p) p

module _ (j : Job) (whole : List Item) (total : List Note) where
  pub record Fits (p : Phase) (bs x : List ℕ) : Type 0 where
    pub count : count_for j p ≡ length bs + length x
    pub small : count_for j p < 16777216
    pub hand : comes_in p ≡ false → give_for j p ≡ bs ++ x
    pub bytes : Bytes bs
    pub sent : Bytes (give_for j p)

  pub data Good : List Seg → Type 0 where
    last : {b : ℕ} → b < 256 → Good (seg MessageIn (b ∷ []) [] ∷ [])
    more : {p q : Phase} {b c : ℕ} {bs cs x y : List ℕ} {gs : List Seg}
        → Fits p (b ∷ bs) x → is_message_in p ≡ false → same_phase q p ≡ false → Good (seg q (c ∷ cs) y ∷ gs)
        → Good (seg p (b ∷ bs) x ∷ seg q (c ∷ cs) y ∷ gs)

  pub data After (p : Phase) : List Seg → Type 0 where
    next : {q : Phase} {c : ℕ} {cs y : List ℕ} {gs : List Seg} → is_message_in p ≡ false → same_phase q p ≡ false → Good (seg q (c ∷ cs) y ∷ gs)
        → After p (seg q (c ∷ cs) y ∷ gs)

  pub record Heard (log got : List Item) (p : Phase) (fifo : List ℕ) : Type 0 where
    pub same : got ++ items p fifo ≡ ins log

  pub record Noting (had rest : List Note) : Type 0 where
    pub all : had ++ rest ≡ total

  -- the goal of what the host loads before the selection
  pub record Ready (r : Registers) (n : List Note) : Type 0 where
    pub timeout : r.setup.timeout ≡ j.timeout
    pub none : n ≡ []

  -- the goal of what it reads and loads before a phase
  pub record Counted (p : Phase) (rest : List Note) (r : Registers) (n : List Note) : Type 0 where
    pub count : r.count ≡ count_for j p
    pub noting : Noting n rest

  -- the bus is free: Negate ACK comes too late, or the host looks
  pub data Late : List Access → Bool → ℕ → Type 0 where
    negates : {f : Bool} {a : ℕ} → Aimed (put 0x18 0x03 ∷ []) f a → Late (put 0x18 0x03 ∷ []) f a
    polls : {f : Bool} {l : List Access} {a : ℕ} → Polls true false true l f a → Late l f a

  -- before a phase moves
  pub data Begins : Scene → Type 0 where
    loads : {c m x pa el : ℕ} {l e at o f : Bool} {q : Fifo} {d : Direction} {rp ls : Option Phase} {id : Kept} {td : List Access} {r : Registers}
        {n : List Note} {g : List Seg}
        → Plays (put 0x18 0x06 ∷ []) Ready td r n
        → Aimed td f x
        → Quiet d q
        → Spared j.timeout 0 pa
        → Good g
        → Noting [] (notes_after g)
        → Tale whole [] (flat g)
        → Begins
        (the_scene (the_state r (the_status x c m l e) Idle q (the_transfer d o) (the_wire Disconnected at false rp ls id el))
        (the_host td f MessageOut [] [] n) (the_target calling pa [] (flat g)))
    seeks : {c m x pa el ow ct tm lu ph sy ct2 ds sr : ℕ} {l e at o f : Bool} {q : Fifo} {d : Direction} {rp ls : Option Phase} {id : Kept}
        {td : List Access} {cd : List ℕ} {g : List Seg}
        → Polls false false true td f x
        → Quiet d q
        → Spared tm el pa
        → Good g
        → Noting [] (notes_after g)
        → Tale whole [] (flat g)
        → Begins
        (the_scene
        (the_state (the_registers ow ct tm cd lu ph sy ct2 ds sr) (the_status x c m l e) (Runs SelectWithAtn) q (the_transfer d o)
        (the_wire Selecting at false rp ls id el)) (the_host td f MessageOut [] [] []) (the_target calling pa [] (flat g)))
    greets : {m x pa el : ℕ} {l e at o f : Bool} {q : Fifo} {d : Direction} {ls : Option Phase} {id : Kept} {td : List Access} {r : Registers} {g : List Seg}
        → Polls true false true td f x
        → Quiet d q
        → Good g
        → Noting [] (notes_after g)
        → Tale whole [] (flat g)
        → Begins
        (the_scene (the_state r (the_status x 0x11 m l e) Interrupt q (the_transfer d o) (the_wire Connected at false None ls id el))
        (the_host td f MessageOut [] [] []) (the_target talking pa [] (flat g)))
    waits : {c m x pa el : ℕ} {l e at o f : Bool} {q : Fifo} {d : Direction} {ls : Option Phase} {id : Kept} {td : List Access} {r : Registers} {g : List Seg}
        → Polls false false true td f x
        → Quiet d q
        → Good g
        → Noting [] (notes_after g)
        → Tale whole [] (flat g)
        → Begins
        (the_scene (the_state r (the_status x c m l e) Idle q (the_transfer d o) (the_wire Connected at false None ls id el))
        (the_host td f MessageOut [] [] []) (the_target talking pa [] (flat g)))
    named : {c m x pa el ow ct tm lu ph sy lf ds sr : ℕ} {l e at o f : Bool} {q : Fifo} {d : Direction} {ls : Option Phase} {id : Kept}
        {td : List Access} {cd v bs y : List ℕ} {g : List Seg} {p cr : Phase} {log got : List Item} {n : List Note}
        → Polls true false true td f x
        → Quiet d q
        → Names c p
        → Good (seg p bs y ∷ g)
        → Bytes v
        → Noting n (notes_of cr lf ++ notes_after (seg p bs y ∷ g))
        → Heard log got DataIn []
        → Tale whole log (flat (seg p bs y ∷ g))
        → Begins
        (the_scene
        (the_state (the_registers ow ct tm cd lu ph sy lf ds sr) (the_status x c m l e) Interrupt q (the_transfer d o)
        (the_wire Connected at false (Some p) ls id el)) (the_host td f cr v got n) (the_target talking pa log (flat (seg p bs y ∷ g))))
    coded : {c m x pa el : ℕ} {l e at o f : Bool} {q : Fifo} {d : Direction} {ls : Option Phase} {id : Kept} {td : List Access} {r : Registers}
        {bs y : List ℕ} {g : List Seg} {p : Phase} {log got : List Item} {n : List Note}
        → Plays (put 0x18 0x20 ∷ []) (Counted p (notes_after (seg p bs y ∷ g))) td r n
        → Aimed td f x
        → Quiet d q
        → Good (seg p bs y ∷ g)
        → Heard log got DataIn []
        → Tale whole log (flat (seg p bs y ∷ g))
        → Begins
        (the_scene (the_state r (the_status x c m l e) Idle q (the_transfer d o) (the_wire Connected at false (Some p) ls id el))
        (the_host td f p (give_for j p) got n) (the_target talking pa log (flat (seg p bs y ∷ g))))

  -- a phase goes out
  pub data Sends : Scene → Type 0 where
    sends : {c m x pa el ow ct tm lu ph sy ds sr : ℕ} {l e at f : Bool} {q : Fifo} {ls : Option Phase} {id : Kept} {td : List Access} {cd y : List ℕ}
        {g : List Seg} {p : Phase} {log got : List Item} {n : List Note} (fifo rest give : List ℕ)
        → Polls false false (can_send fifo give) td f x
        → comes_in p ≡ false
        → Lined q fifo
        → Going fifo rest give y
        → After p g
        → Noting n (notes_of p (length y) ++ notes_after g)
        → Heard log got DataIn []
        → Tale whole log (items p rest ++ flat g)
        → Sends
        (the_scene
        (the_state (the_registers ow ct tm cd lu ph sy (length rest + length y) ds sr) (the_status x c m l e) (Runs TransferInfo) q (the_transfer Out false)
        (the_wire Connected at false (Some p) ls id el)) (the_host td f p give got n) (the_target talking pa log (items p rest ++ flat g)))

  -- a phase comes in
  pub data Takes : Scene → Type 0 where
    takes : {c m x pa el ow ct tm lu ph sy ds sr : ℕ} {l e at f : Bool} {q : Fifo} {ls : Option Phase} {id : Kept} {td : List Access} {cd v : List ℕ}
        {g : List Seg} {p : Phase} {log got : List Item} {n : List Note} (fifo rest y : List ℕ)
        → Polls false (is_some fifo) true td f x
        → comes_in p ≡ true
        → Lined q fifo
        → Bytes rest
        → Bytes v
        → After p g
        → Noting n (notes_of p (length y) ++ notes_after g)
        → Heard log got p fifo
        → Tale whole log (items p rest ++ flat g)
        → Takes
        (the_scene
        (the_state (the_registers ow ct tm cd lu ph sy (length rest + length y) ds sr) (the_status x c m l e) (Runs TransferInfo) q (the_transfer In false)
        (the_wire Connected at false (Some p) ls id el)) (the_host td f p v got n) (the_target talking pa log (items p rest ++ flat g)))

  -- the last byte is to come
  pub data Closes : Scene → Type 0 where
    closes : {c m x pa el ow ct tm lu ph sy ds sr b : ℕ} {l e at f : Bool} {q : Fifo} {ls : Option Phase} {id : Kept} {td : List Access} {cd v : List ℕ}
        {log got : List Item} {n : List Note}
        → Polls false false true td f x
        → Lined q []
        → b < 256
        → Bytes v
        → Noting n []
        → Heard log got MessageIn []
        → Tale whole log (item MessageIn b ∷ [])
        → Closes
        (the_scene
        (the_state (the_registers ow ct tm cd lu ph sy 1 ds sr) (the_status x c m l e) (Runs TransferInfo) q (the_transfer In false)
        (the_wire Connected at false (Some MessageIn) ls id el)) (the_host td f MessageIn v got n) (the_target talking pa log (item MessageIn b ∷ [])))

  -- another phase waits until the bytes are read out
  pub data Drains : Scene → Type 0 where
    drains : {c k m x pa el ow ct tm lu ph sy lf ds sr b : ℕ} {l e at o f : Bool} {q : Fifo} {ls : Option Phase} {id : Kept} {td : List Access}
        {cd v bs y : List ℕ} {g : List Seg} {p cr : Phase} {log got : List Item} {n : List Note} (fifo : List ℕ)
        → Polls false true true td f x
        → comes_in cr ≡ true
        → Lined q (b ∷ fifo)
        → Names k p
        → Good (seg p bs y ∷ g)
        → Bytes v
        → Noting n (notes_of cr lf ++ notes_after (seg p bs y ∷ g))
        → Heard log got cr (b ∷ fifo)
        → Tale whole log (flat (seg p bs y ∷ g))
        → Drains
        (the_scene
        (the_state (the_registers ow ct tm cd lu ph sy lf ds sr) (the_status x c m l e) (Activity.Ends TransferInfo k) q (the_transfer In o)
        (the_wire Connected at false (Some p) ls id el)) (the_host td f cr v got n) (the_target talking pa log (flat (seg p bs y ∷ g))))

  -- Message In is over
  pub data Ends : Scene → Type 0 where
    pauses : {c m x pa el b : ℕ} {l e at o f : Bool} {q : Fifo} {rp ls : Option Phase} {id : Kept} {td : List Access} {r : Registers} {v : List ℕ}
        {log got : List Item} {n : List Note}
        → Polls false true true td f x
        → Lined q (b ∷ [])
        → Bytes v
        → Noting n []
        → Heard log got MessageIn (b ∷ [])
        → Tale whole log []
        → Ends
        (the_scene
        (the_state r (the_status x c m l e) (Activity.Ends TransferInfo 0x20) q (the_transfer In o) (the_wire Connected at true rp ls id el))
        (the_host td f MessageIn v got n) (the_target talking pa log []))
    paused : {m x pa el : ℕ} {l e at o f : Bool} {q : Fifo} {d : Direction} {rp ls : Option Phase} {id : Kept} {td : List Access} {r : Registers} {v : List ℕ}
        {log got : List Item} {n : List Note} {hp : Phase}
        → Polls true false true td f x
        → Quiet d q
        → Bytes v
        → Noting n []
        → Heard log got DataIn []
        → Tale whole log []
        → Ends
        (the_scene
        (the_state r (the_status x 0x20 m l e) Interrupt q (the_transfer d o) (the_wire Connected at true rp ls id el)) (the_host td f hp v got n)
        (the_target talking pa log []))
    negates : {c m x pa el : ℕ} {l e at o f : Bool} {q : Fifo} {d : Direction} {rp ls : Option Phase} {id : Kept} {r : Registers} {v : List ℕ}
        {log got : List Item} {n : List Note} {hp : Phase}
        → Aimed (put 0x18 0x03 ∷ []) f x
        → Quiet d q
        → Bytes v
        → Noting n []
        → Heard log got DataIn []
        → Tale whole log []
        → Ends
        (the_scene
        (the_state r (the_status x c m l e) Idle q (the_transfer d o) (the_wire Connected at true rp ls id el))
        (the_host (put 0x18 0x03 ∷ []) f hp v got n) (the_target talking pa log []))
    calm : {c m x pa el : ℕ} {l e at o f : Bool} {q : Fifo} {d : Direction} {rp ls : Option Phase} {id : Kept} {td : List Access} {r : Registers} {v : List ℕ}
        {log got : List Item} {n : List Note} {hp : Phase}
        → Polls false false true td f x
        → Quiet d q
        → Bytes v
        → Noting n []
        → Heard log got DataIn []
        → Tale whole log []
        → Ends
        (the_scene
        (the_state r (the_status x c m l e) Idle q (the_transfer d o) (the_wire Connected at false rp ls id el)) (the_host td f hp v got n)
        (the_target talking pa log []))
    gone : {m x pa el : ℕ} {l e at o f : Bool} {q : Fifo} {d : Direction} {rp ls : Option Phase} {id : Kept} {td : List Access} {r : Registers} {v : List ℕ}
        {log got : List Item} {n : List Note} {hp : Phase}
        → Late td f x
        → Quiet d q
        → Bytes v
        → Noting n []
        → Heard log got DataIn []
        → Tale whole log []
        → Ends
        (the_scene
        (the_state r (the_status x 0x85 m l e) Interrupt q (the_transfer d o) (the_wire Disconnected at false rp ls id el)) (the_host td f hp v got n)
        (the_target away pa log []))
    rests : {c m x pa el : ℕ} {l e at o f : Bool} {q : Fifo} {d : Direction} {rp ls : Option Phase} {id : Kept} {td : List Access} {r : Registers} {v : List ℕ}
        {log got : List Item} {n : List Note} {hp : Phase}
        → Polls false false true td f x
        → Quiet d q
        → Bytes v
        → Noting n []
        → Heard log got DataIn []
        → Tale whole log []
        → Ends
        (the_scene
        (the_state r (the_status x c m l e) Idle q (the_transfer d o) (the_wire Disconnected at false rp ls id el)) (the_host td f hp v got n)
        (the_target away pa log []))

  pub data Reach (c : Scene) : Type 0 where
    begins : Begins c → Reach c
    sending : Sends c → Reach c
    taking : Takes c → Reach c
    closing : Closes c → Reach c
    draining : Drains c → Reach c
    ends : Ends c → Reach c
