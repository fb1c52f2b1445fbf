-- How the FIFO keeps its bytes: in twelve places that go round. A byte stays in its place while it waits, and the two ends travel.
-- The rules use the eight names from `empty` to `push` and nothing else of a FIFO, the image those at the end. Each of the eight is that
-- of the list of waiting bytes (Queue.antt): this is `KeepsBytes`, and proofs/FifoLaws.antt has the proof. So how the bytes are kept is this
-- file's and room fifo's alone.
use Rattle.std.specs.Prelude.{◌≡◌, Bool, true, false, List, ◌∷◌, ◌++◌, ℕ, ◌+◌, ◌-◌, ◌<◌, eqb, ltb, length, take, drop, get_or, set, replicate}
use Rattle.chip.specs.Choice.{pick, both}
use Rattle.chip.specs.Queue as Queue
use Rattle.chip.specs.declared.Fifo.{Fifo}

-- the places from the oldest byte's on, once round
abbrev pub in_order : Fifo → List ℕ
in_order q = drop q.first q.bytes ++ take q.first q.bytes

-- the bytes that wait, the oldest first
unfoldable pub waiting : Fifo → List ℕ
waiting q = take q.held (in_order q)

-- the place of a number: the twelve go round. No whole FIFO asks for one from 24 on
unfoldable pub round : ℕ → ℕ
round n = pick (ltb n 12) n (pick (ltb n 24) (n - 12) 0)

-- the place behind those that wait: the next byte's
unfoldable pub place_behind : Fifo → ℕ
place_behind q = round (q.first + q.held)

-- nothing waits
abbrev pub empty : Fifo
empty = record { bytes = replicate 12 0; first = 0; held = 0 }

-- what waited is dropped. No place changes
abbrev pub emptied : Fifo → Fifo
emptied q = record { bytes = q.bytes; first = 0; held = 0 }

unfoldable pub is_empty : Fifo → Bool
is_empty q = eqb q.held 0

unfoldable pub has_room : Fifo → Bool
has_room q = ltb q.held 12

-- how many bytes wait
unfoldable pub waits : Fifo → ℕ
waits q = q.held

-- the oldest byte
unfoldable pub front : Fifo → ℕ
front q = pick (is_empty q) 0 (get_or q.bytes q.first 0)

-- without the oldest byte: the next one is the oldest, and no place changes
unfoldable pub pop : Fifo → Fifo
pop q = pick (is_empty q) q (record { bytes = q.bytes; first = round (q.first + 1); held = q.held - 1 })

-- with one byte more, the newest, where there is room: it goes into the place behind the others, and no other place changes
unfoldable pub push : ℕ → Fifo → Fifo
push b q =
    pick (has_room q)
    (record { bytes = set q.bytes (place_behind q) b; first = q.first; held = q.held + 1 }) q

-- in the image

-- its bytes there: how many wait, the place of the oldest, and the twelve places
unfoldable pub fifo_bytes : Fifo → List ℕ
fifo_bytes q = q.held ∷ q.first ∷ q.bytes

-- the FIFO of such bytes
unfoldable pub fifo_of : List ℕ → Fifo
fifo_of l = record { bytes = take 12 (drop 2 l); first = get_or l 1 0; held = get_or l 0 0 }

-- its ends stored over such bytes l, and what it holds in the place behind those that wait in l
unfoldable pub ends_over : Fifo → List ℕ → List ℕ
ends_over q l =
    q.held ∷ q.first ∷ set (take 12 (drop 2 l)) (place_behind (fifo_of l)) (get_or q.bytes (place_behind (fifo_of l)) 0)

-- how many bytes that are
abbrev pub fifo_length : ℕ
fifo_length = 14

-- bytes are a FIFO's: at most 12 wait, and the oldest has one of the twelve places. A place may hold anything
unfoldable pub is_fifo : List ℕ → Bool
is_fifo l = both (ltb (get_or l 0 0) 13) (ltb (get_or l 1 0) 12)

-- a FIFO that the form can hold. What begins whole stays so
pub record Whole (q : Fifo) : Type 0 where
  pub long : length q.bytes ≡ 12
  pub place : q.first < 12
  pub few : q.held < 13

-- what a Request does to the FIFO: of the places it touches at most the one behind those that wait (proofs/FifoSteps.antt).
-- A byte that is put in and dropped at once: only from a state that no calls lead to
pub data Goes (q : Fifo) : Fifo → Type 0 where
  stays : Goes q q
  loses : Goes q (pop q)
  gets : (b : ℕ) → Goes q (push b q)
  drops : Goes q (emptied q)
  gets_and_drops : (b : ℕ) → Goes q (emptied (push b q))

-- the keeping, as the list of waiting bytes sees it
pub record KeepsBytes : Type 0 where
  pub none : waiting empty ≡ Queue.empty
  pub dropped : (q : Fifo) → Whole q → waiting (emptied q) ≡ Queue.empty
  pub number : (q : Fifo) → Whole q → waits q ≡ Queue.waits (waiting q)
  pub emptiness : (q : Fifo) → Whole q → is_empty q ≡ Queue.is_empty (waiting q)
  pub room : (q : Fifo) → Whole q → has_room q ≡ Queue.has_room (waiting q)
  pub oldest : (q : Fifo) → Whole q → front q ≡ Queue.front (waiting q)
  pub less : (q : Fifo) → Whole q → waiting (pop q) ≡ Queue.pop (waiting q)
  pub more : (q : Fifo) (b : ℕ) → Whole q → waiting (push b q) ≡ Queue.push b (waiting q)
  -- nothing comes off an empty FIFO, and nothing goes into a full one
  pub nothing_less : (q : Fifo) → Whole q → is_empty q ≡ true → pop q ≡ q
  pub nothing_more : (q : Fifo) (b : ℕ) → Whole q → has_room q ≡ false → push b q ≡ q
  pub begins_whole : Whole empty
  pub dropped_whole : (q : Fifo) → Whole q → Whole (emptied q)
  pub pop_whole : (q : Fifo) → Whole q → Whole (pop q)
  pub push_whole : (q : Fifo) (b : ℕ) → Whole q → Whole (push b q)
