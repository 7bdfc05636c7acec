-- The verdict of an expect line over what a call has given so far, and what remains of it for later lines.
use Rattle.std.specs.Prelude.{ℕ, Bool, false, ◌&&◌, ◌||◌, if◌then◌else◌, List, ◌∷◌, drop, Option, Some, None, codes}
use Rattle.std.specs.List.{position, find, remove}
use Rattle.std.specs.Option.{option_map}
use Rattle.std.specs.Str.{bytes_eq}
use Rattle.std.specs.Fmt.{decimal}
use Rattle.script_lang.specs.Lines.{line_words}
use Rattle.script_lang.specs.declared.line.Line.{Line}
use Rattle.script_lang.specs.declared.line.Line.TheVariants as line
use Rattle.line_verdicts.specs.declared.seen.SeenEnd.{SeenEnd}
use Rattle.line_verdicts.specs.declared.seen.Seen.{Seen}
use Rattle.line_verdicts.specs.declared.seen.Seen.TheVariants as seen
use Rattle.line_verdicts.specs.declared.seen.Judged.{Judged}
use Rattle.line_verdicts.specs.declared.seen.Judged.TheVariants.{Pass, Fail}
use Rattle.line_verdicts.specs.Seen.{seen_words, end_words, same_words}
use Rattle.line_verdicts.specs.Items.{Heard}

-- what a line expects: its words behind the call's name
abbrev pub expected : List (List ℕ) → List (List ℕ)
expected words = drop 2 words

-- an item matches where it stands on a line in these words
abbrev pub matches : List (List ℕ) → Seen → Bool
matches wanted item = same_words wanted (seen_words item)

-- whether a result of this id is expected, in the phase that has these two results
abbrev pub is_awaited : List ℕ → List ℕ → ℕ → List (List ℕ) → Bool
is_awaited done failed id (word ∷ what ∷ more) = bytes_eq word (decimal id) && (bytes_eq what done || bytes_eq what failed)
is_awaited done failed id other = false

-- a result for the expected id in the expected phase; one that doesn't match differs from what is expected
abbrev pub is_rival : List (List ℕ) → Seen → Bool
is_rival wanted (seen.RibProgrammed id) = is_awaited (codes "rib-programmed") (codes "failed") id wanted
is_rival wanted (seen.Failed id why) = is_awaited (codes "rib-programmed") (codes "failed") id wanted
is_rival wanted (seen.FibProgrammed id) = is_awaited (codes "fib-programmed") (codes "fib-failed") id wanted
is_rival wanted (seen.FibFailed id why) = is_awaited (codes "fib-programmed") (codes "fib-failed") id wanted
is_rival wanted other = false

-- the first that matches
abbrev pub match_place : List (List ℕ) → List Seen → Option ℕ
match_place wanted items = position (matches wanted) items

-- Without a match: a differing result, or the call's end.
abbrev pub unmatched : Option Seen → Option SeenEnd → Option Judged
unmatched (Some rival) ended = Some (Fail rival)
unmatched None (Some ending) = Some (Fail (seen.End ending))
unmatched None None = None

abbrev pub judged_at : Option ℕ → Option Seen → Option SeenEnd → Option Judged
judged_at (Some place) rival ended = Some Pass
judged_at None rival ended = unmatched rival ended

unfoldable pub item_judged : List (List ℕ) → Heard → Option Judged
item_judged wanted h = judged_at (match_place wanted h.unused) (find (is_rival wanted) h.unused) h.ended

-- these wait for the end
abbrev pub entries_judged : List (List ℕ) → ℕ → Judged
entries_judged wanted count = if matches wanted (seen.Entries count) then Pass else Fail (seen.Entries count)

-- a line without a reason passes on the status alone
abbrev pub end_judged : List (List ℕ) → SeenEnd → Judged
end_judged wanted ending =
    if same_words wanted (end_words ending.code) || matches wanted (seen.End ending) then Pass else Fail (seen.End ending)

-- the verdict, or None where the line still waits
abbrev pub judged : Line → Heard → Option Judged
judged (line.ExpectEntries words) h = option_map (λ ending. entries_judged (expected words) h.entries) h.ended
judged (line.ExpectEnd words) h = option_map (end_judged (expected words)) h.ended
judged other h = item_judged (expected (line_words other)) h

-- the items without the one that a line used
abbrev pub without : Option ℕ → List Seen → List Seen
without None items = items
without (Some place) items = remove items place

abbrev pub used : List (List ℕ) → Heard → Heard
used wanted h = record { unused = without (match_place wanted h.unused) h.unused; entries = h.entries; ended = h.ended }

-- what remains behind a line
abbrev pub left_by : Line → Heard → Heard
left_by (line.ExpectEntries words) h = h
left_by (line.ExpectEnd words) h = h
left_by other h = used (expected (line_words other)) h
