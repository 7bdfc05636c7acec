-- The lines that a script keeps, as they stand in its text.
use Rattle.std.specs.Prelude.{ℕ, ◌+◌, Bool, true, if◌then◌else◌, List, [], ◌∷◌}
use Rattle.script_lang.specs.Words.{words}
use Rattle.script_lang.specs.Lines.{line_words}
use Rattle.script_lang.specs.Scripts.{is_comment}
use Rattle.script_lang.specs.declared.line.NumberedLine.{NumberedLine}

-- lines without words, and comments
abbrev pub is_skipped : List (List ℕ) → Bool
is_skipped [] = true
is_skipped (first ∷ words) = is_comment first

-- the lines that aren't skipped, each with its number and its words, where the first has this number
abbrev pub numbered : ℕ → List (List ℕ) → List (ℕ × List (List ℕ))
numbered number [] = []
numbered number (line ∷ lines) =
    if is_skipped (words line) then numbered (number + 1) lines else (number, words line) ∷ numbered (number + 1) lines

-- a line of a script as its number and its words
abbrev pub seen : NumberedLine → ℕ × List (List ℕ)
seen l = (l.number, line_words l.line)
