-- What a FIFO is: the list of the bytes that wait, the oldest first. Every rule on a FIFO says one of these names.
-- Paper: "The FIFO holds 12 bytes (house)."
use Rattle.std.specs.Prelude.{Bool, List, [], ◌∷◌, ◌++◌, ℕ, eqb, ltb, length, drop, get_or}
use Rattle.chip.specs.Choice.{pick}

-- nothing waits
abbrev pub empty : List ℕ
empty = []

-- how many bytes wait
abbrev pub waits : List ℕ → ℕ
waits l = length l

abbrev pub is_empty : List ℕ → Bool
is_empty l = eqb (length l) 0

abbrev pub has_room : List ℕ → Bool
has_room l = ltb (length l) 12

-- the oldest byte; 0 where none waits, and no rule asks for it there
abbrev pub front : List ℕ → ℕ
front l = get_or l 0 0

-- without the oldest byte
abbrev pub pop : List ℕ → List ℕ
pop l = drop 1 l

-- with one byte more, the newest, where there is room
abbrev pub push : ℕ → List ℕ → List ℕ
push b l = pick (has_room l) (l ++ (b ∷ [])) l
