-- A line as the list of its words.
use Rattle.std.specs.Prelude.{ℕ, Bool, false, List, ◌∷◌}
use Rattle.std.specs.Str.{bytes_eq}
use Rattle.script_lang.specs.declared.line.Row.{Row}
use Rattle.script_lang.specs.declared.line.Row.TheVariants as row
use Rattle.script_lang.specs.declared.line.Line.{Line}
use Rattle.script_lang.specs.declared.line.Line.TheVariants as line

-- the words as `print_script` writes them
abbrev pub line_words : Line → List (List ℕ)
line_words (line.Modify words) = words
line_words (line.Params words) = words
line_words (line.Elect words) = words
line_words (line.Operate words) = words
line_words (line.Close words) = words
line_words (line.Get words) = words
line_words (line.Flush words) = words
line_words (line.ExpectParamsOk words) = words
line_words (line.ExpectElected words) = words
line_words (line.ExpectResult words) = words
line_words (line.ExpectEntries words) = words
line_words (line.ExpectFlushed words) = words
line_words (line.ExpectEnd words) = words

-- the line of a row with these words
abbrev pub line_of : Row → List (List ℕ) → Line
line_of row.Modify words = line.Modify words
line_of row.Params words = line.Params words
line_of row.Elect words = line.Elect words
line_of row.Operate words = line.Operate words
line_of row.Close words = line.Close words
line_of row.Get words = line.Get words
line_of row.Flush words = line.Flush words
line_of row.ExpectParamsOk words = line.ExpectParamsOk words
line_of row.ExpectElected words = line.ExpectElected words
line_of row.ExpectResult words = line.ExpectResult words
line_of row.ExpectEntries words = line.ExpectEntries words
line_of row.ExpectFlushed words = line.ExpectFlushed words
line_of row.ExpectEnd words = line.ExpectEnd words

-- whether the second word is this name
abbrev pub names : List ℕ → List (List ℕ) → Bool
names name (first ∷ second ∷ words) = bytes_eq second name
names name other = false

-- whether a line begins a call of this name
abbrev pub begins : List ℕ → Line → Bool
begins name (line.Modify words) = names name words
begins name (line.Get words) = names name words
begins name (line.Flush words) = names name words
begins name other = false
