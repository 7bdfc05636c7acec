-- A script: the lines of a text that are not skipped, or the first fault of its lines.
use Rattle.std.specs.Prelude.{ℕ, ◌+◌, ◌==◌, nat_lt, Bool, true, false, ◌||◌, if◌then◌else◌, List, [], ◌∷◌, ◌++◌, take, length, slice_index_or, Option, Some, None, Result, Ok, Err}
use Rattle.std.specs.List.{list_any, count_by}
use Rattle.std.specs.Str.Lossy.{utf8_valid_len}
use Rattle.script_lang.specs.Words.{lines, words}
use Rattle.script_lang.specs.Forms.{row_behind}
use Rattle.script_lang.specs.Lines.{begins, line_of}
use Rattle.script_lang.specs.declared.line.NumberedLine.{NumberedLine}
use Rattle.script_lang.specs.declared.line.Row.{Row}
use Rattle.script_lang.specs.declared.line.Row.TheVariants as row
use Rattle.script_lang.specs.declared.fault.ScriptFault.{ScriptFault}
use Rattle.script_lang.specs.declared.fault.ScriptFaultKind.{ScriptFaultKind}
use Rattle.script_lang.specs.declared.fault.ScriptFaultKind.TheVariants.{TooLong, NotUtf8, NameTaken, UnknownCall}

-- The limits

-- the number of the line that holds the first byte past 1,048,576, or 0 where there is none
unfoldable pub long_line : List ℕ → ℕ
long_line text = if nat_lt 1048576 (length text) then 1 + count_by (λ c. c == 10) (take 1048576 text) else 0

-- whether a line is too long: it holds that byte, or more than 10,000 lines end with it
abbrev pub is_past : ℕ → ℕ → Bool
is_past long number = number == long || nat_lt 10000 number

abbrev pub is_utf8 : List ℕ → Bool
is_utf8 line = utf8_valid_len line == length line

-- Names of calls

abbrev pub begins_call : Row → Bool
begins_call row.Modify = true
begins_call row.Get = true
begins_call row.Flush = true
begins_call other = false

-- the name that the words behind the first one begin with
abbrev pub call_name : List (List ℕ) → List ℕ
call_name [] = []
call_name (name ∷ words) = name

-- whether one of these lines begins a call of this name
abbrev pub is_begun : List ℕ → List NumberedLine → Bool
is_begun name before = list_any (λ l. begins name l.line) before

-- a row that begins a call wants a new name, any other one a name that was begun
abbrev pub named : Bool → Result Row ScriptFaultKind → Result (Option Row) ScriptFaultKind
named begun (Err kind) = Err kind
named begun (Ok row) =
    if begins_call row then (if begun then Err NameTaken else Ok (Some row))
    else if begun then Ok (Some row) else Err UnknownCall

-- Lines

abbrev pub is_comment : List ℕ → Bool
is_comment word = slice_index_or word 0 0 == 35

-- the row of a line with these words behind the lines before it, None where it is skipped, or its fault
unfoldable pub words_row : List NumberedLine → List (List ℕ) → Result (Option Row) ScriptFaultKind
words_row before [] = Ok None
words_row before (first ∷ words) =
    if is_comment first then Ok None else named (is_begun (call_name words) before) (row_behind first words)

-- the same of a line's text and its number
unfoldable pub line_row : ℕ → List NumberedLine → ℕ → List ℕ → Result (Option Row) ScriptFaultKind
line_row long before number line =
    if is_past long number then Err TooLong
    else if is_utf8 line then words_row before (words line) else Err NotUtf8

-- Scripts

abbrev pub with_line : List NumberedLine → ℕ → Row → List (List ℕ) → List NumberedLine
with_line before number row words = before ++ record { number = number; line = line_of row words } ∷ []

-- the lines before a line with this outcome, and the line, where it isn't skipped
abbrev pub taken : List NumberedLine → ℕ → List (List ℕ) → Result (Option Row) ScriptFaultKind → Result (List NumberedLine) ScriptFaultKind
taken before number words (Err kind) = Err kind
taken before number words (Ok None) = Ok before
taken before number words (Ok (Some row)) = Ok (with_line before number row words)

abbrev pub words_taken : List NumberedLine → ℕ → List (List ℕ) → Result (List NumberedLine) ScriptFaultKind
words_taken before number words = taken before number words (words_row before words)

abbrev pub line_taken : ℕ → List NumberedLine → ℕ → List ℕ → Result (List NumberedLine) ScriptFaultKind
line_taken long before number line = taken before number (words line) (line_row long before number line)

-- the fault of the line with this number, or what the lines behind it make of what is kept so far
abbrev pub goes_on :
    ℕ → (List NumberedLine → Result (List NumberedLine) ScriptFault) → Result (List NumberedLine) ScriptFaultKind
    → Result (List NumberedLine) ScriptFault
goes_on number behind (Err kind) = Err (record { line = number; kind = kind })
goes_on number behind (Ok kept) = behind kept

-- the lines kept before, and those of the lines from this number on, or the first fault
abbrev pub from : ℕ → List NumberedLine → ℕ → List (List ℕ) → Result (List NumberedLine) ScriptFault
from long before number [] = Ok before
from long before number (line ∷ lines) =
    goes_on number (λ kept. from long kept (number + 1) lines) (line_taken long before number line)

unfoldable pub script : List ℕ → Result (List NumberedLine) ScriptFault
script text = from (long_line text) [] 1 (lines text)
