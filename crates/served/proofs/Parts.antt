-- A scene by its parts, what the host is about to do, and the lists of accesses that it goes through.
--   the_state .. the_scene   a scene by its parts; Kept, kept_of: what scenes hand on unasked
--   Aimed     where the pointer is set for the host's next access, it is that access's address
--   Polls     the host looks, or makes the access that a look asked for, which is still as good as when it looked
--   Tale, onto   the story as what has crossed and what is still to cross, and one item more crossed
--   Plays     a list of accesses to 00 to 16h that leads to a goal, and what comes after it
use Rattle.std.specs.Prelude.{Option}
use mathlib.Core.Path.{◌≡◌, refl, ◌∙◌}
use mathlib.Core.Bool.{Bool, true, false}
use mathlib.Core.List.{List, [], ◌∷◌, ◌++◌, append_assoc}
use Prim.Native.Nat.{ℕ, ◌<◌}
use Rattle.chip.specs.Registers.{register_at, stored_in, stored}
use Rattle.chip.specs.declared.State.{State}
use Rattle.chip.specs.declared.Registers.{Registers}
use Rattle.chip.specs.declared.Status.{Status}
use Rattle.chip.specs.declared.Fifo.{Fifo}
use Rattle.chip.specs.declared.Transfer.{Transfer}
use Rattle.chip.specs.declared.Wire.{Wire}
use Rattle.chip.specs.declared.Identity.{Identity}
use Rattle.chip.specs.declared.Connection.{Connection}
use Rattle.chip.specs.declared.Activity.{Activity}
use Rattle.chip.specs.declared.Direction.{Direction}
use Rattle.chip.specs.declared.Phase.{Phase}
use Rattle.story.specs.Story.{Item}
use Rattle.story.specs.Hosts.{Access, put, get, code, take, send, Note, note, Host, address_of}
use Rattle.story.specs.Schedule.{Place, Target, Scene}

abbrev pub the_registers : ℕ → ℕ → ℕ → List ℕ → ℕ → ℕ → ℕ → ℕ → ℕ → ℕ → Registers
the_registers o c t b l p y n d s =
    record {
      setup = record { own = o; control = c; timeout = t; synchronous = y };
      descriptor = record { cdb = b; lun = l; phase = p };
      count = n;
      destination = d;
      source = s;
    }

abbrev pub the_status : ℕ → ℕ → ℕ → Bool → Bool → Status
the_status a c m l e = record { pointer = a; code = c; command = m; lci = l; pe = e }

abbrev pub the_transfer : Direction → Bool → Transfer
the_transfer d o = record { direction = d; single = o }

-- what no scene asks for and no step here changes. A field more of that kind stands here, and no scene has to name it
pub record Kept : Type 0 where
  pub identity : Identity

abbrev pub kept_of : State → Kept
kept_of s = record { identity = s.wire.identity }

abbrev pub the_wire : Connection → Bool → Bool → Option Phase → Option Phase → Kept → ℕ → Wire
the_wire c a k r l i e =
    record {
      connection = c;
      handshake = record { atn = a; ack = k };
      seen = record { reported = r; last = l };
      identity = i.identity;
      elapsed = e;
    }

abbrev pub the_state : Registers → Status → Activity → Fifo → Transfer → Wire → State
the_state r s x q t w = record { registers = r; status = s; activity = x; fifo = q; transfer = t; wire = w }

abbrev pub the_host : List Access → Bool → Phase → List ℕ → List Item → List Note → Host
the_host l f p v t n = record { ahead = l; pointed = f; phase = p; give = v; got = t; noted = n }

abbrev pub the_target : Place → ℕ → List Item → List Item → Target
the_target p w l t = record { place = p; patience = w; log = l; ahead = t }

abbrev pub the_scene : State → Host → Target → Scene
the_scene s h t = record { chip = s; host = h; target = t }

pub data Aimed : List Access → Bool → ℕ → Type 0 where
  before : {l : List Access} {a : ℕ} → Aimed l false a
  aimed : {x : Access} {l : List Access} → Aimed (x ∷ l) true (address_of x)

-- an access that a look asked for. The Booleans: INT is set; a byte waits to be read; the next byte may be written, since the Data register
-- takes it or the Target no longer asks for it
pub data Polled : Bool → Bool → Bool → Access → Type 0 where
  coded : {w o : Bool} → Polled true w o code
  taken : {i w o : Bool} → w ≡ true → Polled i w o take
  sent : {i w o : Bool} → o ≡ true → Polled i w o send

pub data Polls : Bool → Bool → Bool → List Access → Bool → ℕ → Type 0 where
  look : {i w o : Bool} {a : ℕ} → Polls i w o [] false a
  seen : {i w o : Bool} {x : Access} {a : ℕ} → Polled i w o x → Polls i w o (x ∷ []) false a
  ready : {i w o : Bool} {x : Access} → Polled i w o x → Polls i w o (x ∷ []) true (address_of x)

-- a write to 00 to 16h changes the registers only
pub stored_is : (a b : ℕ) (r : Registers) (s : Status) (x : Activity) (q : Fifo) (v : Transfer) (w : Wire)
    → stored a b (the_state r s x q v w) ≡ the_state (stored_in a b r) s x q v w
unfolding stored
stored_is a b r s x q v w = refl

pub data Plays (after : List Access) (Goal : Registers → List Note → Type 0) : List Access → Registers → List Note → Type 0 where
  over : {r : Registers} {n : List Note} → Goal r n → Plays after Goal after r n
  puts : {a b : ℕ} {l : List Access} {r : Registers} {n : List Note} → a < 0x17 → b < 256 → Plays after Goal l (stored_in a b r) n
      → Plays after Goal (put a b ∷ l) r n
  gets : {a : ℕ} {l : List Access} {r : Registers} {n : List Note} → a < 0x17 → Plays after Goal l r (n ++ (note a (register_at a r) ∷ []))
      → Plays after Goal (get a ∷ l) r n

-- what has crossed and what is still to cross are the whole story
pub record Tale (whole log ahead : List Item) : Type 0 where
  pub all : log ++ ahead ≡ whole

pub onto : {whole log l : List Item} {i : Item} → Tale whole log (i ∷ l) → Tale whole (log ++ (i ∷ [])) l
onto {log = log} {l = l} {i = i} t = record { all = append_assoc log (i ∷ []) l ∙ t.all }
