-- A script as it is written.
use Rattle.std.specs.Prelude.{ℕ, ◌-◌, List, [], ◌∷◌, ◌++◌, replicate}
use Rattle.std.specs.List.{join_with_byte}
use Rattle.script_lang.specs.Lines.{line_words}
use Rattle.script_lang.specs.declared.line.NumberedLine.{NumberedLine}

-- words, each behind a space
abbrev pub spaced : List (List ℕ) → List ℕ
spaced [] = []
spaced (word ∷ words) = 32 ∷ (word ++ spaced words)

-- a line behind the one with this number: as many newlines as its number is greater, and its words, parted by one space
abbrev pub printed_line : ℕ → NumberedLine → List ℕ
printed_line number l = replicate (l.number - number) 10 ++ join_with_byte 32 (line_words l.line)

abbrev pub printed_behind : ℕ → List NumberedLine → List ℕ
printed_behind number [] = []
printed_behind number (l ∷ lines) = printed_line number l ++ printed_behind l.number lines

-- each line at its own number, and no newline behind the last
unfoldable pub printed : List NumberedLine → List ℕ
printed script = printed_behind 1 script
