-- A script keeps the lines of its text.
use Rattle.std.proofs.Common.{◌≡◌, ℕ, ◌+◌, Bool, true, false, List, [], ◌∷◌, ◌++◌, Option, Some, None, Result, Ok, Err, refl, sym, ap, ◌∙◌, append_assoc, map}
use Rattle.std.specs.Prelude.{if◌then◌else◌}
use Rattle.script_lang.specs.Words.{lines, words}
use Rattle.script_lang.specs.Forms.{row_behind}
use Rattle.script_lang.specs.Lines.{line_of, line_words}
use Rattle.script_lang.specs.Scripts.{is_past, is_utf8, is_begun, begins_call, call_name, named, is_comment, words_row, line_row, with_line, taken, goes_on, from, long_line, script}
use Rattle.script_lang.specs.KeptLines.{is_skipped, numbered, seen}
use Rattle.script_lang.specs.declared.line.NumberedLine.{NumberedLine}
use Rattle.script_lang.specs.declared.line.Row.{Row}
use Rattle.script_lang.specs.declared.line.Row.TheVariants as row
use Rattle.script_lang.specs.declared.fault.ScriptFault.{ScriptFault}
use Rattle.script_lang.specs.declared.fault.ScriptFaultKind.{ScriptFaultKind}
use Rattle.script_lang.specs.declared.fault.ScriptFaultKind.TheVariants.{TooLong, NotUtf8, NameTaken, UnknownCall}
use Rattle.script_lang.proofs.Pieces.{append-nil}

-- an outcome is that of a skipped line, or of one that isn't
abbrev SkipsAs : Bool → Result (Option Row) ScriptFaultKind → Type 0
SkipsAs skipped (Err kind) = true ≡ true
SkipsAs skipped (Ok None) = skipped ≡ true
SkipsAs skipped (Ok (Some row)) = skipped ≡ false

by_name : (begins begun : Bool) (row : Row) → SkipsAs false (if begins then (if begun then Err NameTaken else Ok (Some row)) else if begun then Ok (Some row) else Err UnknownCall)
by_name true true row = refl
by_name true false row = refl
by_name false true row = refl
by_name false false row = refl

named_skips : (begun : Bool) (r : Result Row ScriptFaultKind) → SkipsAs false (named begun r)
named_skips begun (Err kind) = refl
named_skips begun (Ok row) = by_name (begins_call row) begun row

by_comment : (comment : Bool) (r : Result (Option Row) ScriptFaultKind) → SkipsAs false r → SkipsAs comment (if comment then Ok None else r)
by_comment true r h = refl
by_comment false r h = h

words_skip : (before : List NumberedLine) (ws : List (List ℕ)) → SkipsAs (is_skipped ws) (words_row before ws)
unfolding words_row
words_skip before [] = refl
words_skip before (first ∷ ws) = by_comment (is_comment first) (named (is_begun (call_name ws) before) (row_behind first ws)) (named_skips (is_begun (call_name ws) before) (row_behind first ws))

by_tests : (past utf8 skipped : Bool) (r : Result (Option Row) ScriptFaultKind) → SkipsAs skipped r → SkipsAs skipped (if past then Err TooLong else if utf8 then r else Err NotUtf8)
by_tests true utf8 skipped r h = refl
by_tests false true skipped r h = h
by_tests false false skipped r h = refl

line_skips : (long : ℕ) (before : List NumberedLine) (number : ℕ) (line : List ℕ) → SkipsAs (is_skipped (words line)) (line_row long before number line)
unfolding line_row
line_skips long before number line = by_tests (is_past long number) (is_utf8 line) (is_skipped (words line)) (words_row before (words line)) (words_skip before (words line))

words_of_row : (r : Row) (ws : List (List ℕ)) → line_words (line_of r ws) ≡ ws
words_of_row row.Modify ws = refl
words_of_row row.Params ws = refl
words_of_row row.Elect ws = refl
words_of_row row.Operate ws = refl
words_of_row row.Close ws = refl
words_of_row row.Get ws = refl
words_of_row row.Flush ws = refl
words_of_row row.ExpectParamsOk ws = refl
words_of_row row.ExpectElected ws = refl
words_of_row row.ExpectResult ws = refl
words_of_row row.ExpectEntries ws = refl
words_of_row row.ExpectFlushed ws = refl
words_of_row row.ExpectEnd ws = refl

seen_append : (before : List NumberedLine) (l : NumberedLine) → map seen (before ++ l ∷ []) ≡ map seen before ++ seen l ∷ []
seen_append [] l = refl
seen_append (b ∷ before) l = ap (λ ls. seen b ∷ ls) (seen_append before l)

abbrev kept_or : List NumberedLine → Result (List NumberedLine) ScriptFault → List NumberedLine
kept_or other (Ok kept) = kept
kept_or other (Err fault) = other

step : (number : ℕ) (before kept : List NumberedLine) (ws : List (List ℕ)) (more : List (ℕ × List (List ℕ))) (behind : List NumberedLine → Result (List NumberedLine) ScriptFault) (later : (b : List NumberedLine) → behind b ≡ Ok kept → map seen kept ≡ map seen b ++ more) (r : Result (Option Row) ScriptFaultKind) → SkipsAs (is_skipped ws) r → goes_on number behind (taken before number ws r) ≡ Ok kept → map seen kept ≡ map seen before ++ (if is_skipped ws then more else (number, ws) ∷ more)
step number before kept ws more behind later (Err kind) skips e = cc
step number before kept ws more behind later (Ok None) skips e = later before e ∙ ap (λ b. map seen before ++ (if b then more else (number, ws) ∷ more)) (sym skips)
step number before kept ws more behind later (Ok (Some r)) skips e =
    later (with_line before number r ws) e
    ∙ ap (λ ls. ls ++ more) (seen_append before (record { number = number; line = line_of r ws }))
    ∙ ap (λ w. (map seen before ++ (number, w) ∷ []) ++ more) (words_of_row r ws)
    ∙ append_assoc (map seen before) ((number, ws) ∷ []) more
    ∙ ap (λ b. map seen before ++ (if b then more else (number, ws) ∷ more)) (sym skips)

from_keeps : (long number : ℕ) (kept : List NumberedLine) (ls : List (List ℕ)) (before : List NumberedLine) → from long before number ls ≡ Ok kept → map seen kept ≡ map seen before ++ numbered number ls
from_keeps long number kept [] before e = ap (λ r. map seen (kept_or [] r)) (sym e) ∙ sym (append-nil (map seen before))
from_keeps long number kept (line ∷ ls) before e =
    step number before kept (words line) (numbered (number + 1) ls) (λ b. from long b (number + 1) ls) (λ b. from_keeps long (number + 1) kept ls b) (line_row long before number line) (line_skips long before number line) e

pub script_keeps : (text : List ℕ) (kept : List NumberedLine) → script text ≡ Ok kept → map seen kept ≡ numbered 1 (lines text)
unfolding script
script_keeps text kept e = from_keeps (long_line text) 1 kept (lines text) [] e
