-- A line's words: the pieces between its blanks (32), without the empty ones.
use Rattle.std.specs.Prelude.{ℕ, Bool, List, not, length, filter, ◌==◌}
use Rattle.std.specs.List.{slice_split}

abbrev pub is_blank : ℕ → Bool
is_blank b = b == 32

-- Of some pieces those that are not empty.
abbrev pub not_empty : List (List ℕ) → List (List ℕ)
not_empty pieces = filter (λ piece. not (length piece == 0)) pieces

abbrev pub words : List ℕ → List (List ℕ)
words line = not_empty (slice_split is_blank line)
