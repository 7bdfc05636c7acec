-- How a text is cut into lines, and a line into words. A text is the list of its bytes.
use Rattle.std.specs.Prelude.{ℕ, ◌==◌, Bool, not, length, List, [], ◌∷◌, if◌then◌else◌}
use Rattle.std.specs.List.{filter, slice_split}

abbrev pub onto_first : ℕ → List (List ℕ) → List (List ℕ)
onto_first c [] = (c ∷ []) ∷ []
onto_first c (piece ∷ others) = (c ∷ piece) ∷ others

-- the pieces of a text that a mark ends; the last one may lack it
abbrev pub ended_by : ℕ → List ℕ → List (List ℕ)
ended_by mark [] = []
ended_by mark (c ∷ text) = if c == mark then [] ∷ ended_by mark text else onto_first c (ended_by mark text)

-- the lines, each ended by a newline
abbrev pub lines : List ℕ → List (List ℕ)
lines text = ended_by 10 text

abbrev pub is_some_text : List ℕ → Bool
is_some_text text = not (length text == 0)

abbrev pub parts : List ℕ → List (List ℕ)
parts line = slice_split (λ c. c == 32) line

-- the words, parted by spaces
unfoldable pub words : List ℕ → List (List ℕ)
words line = filter is_some_text (parts line)
