-- Steps of writing a script.
use Rattle.std.proofs.Common.{◌≡◌, ℕ, suc, zero, ◌-◌, ◌<◌, ◌≤◌, List, [], ◌∷◌, ◌++◌, sym, ap, ◌∙◌, append_assoc, length, drop, replicate, arith}
use Rattle.std.proofs.lemmas.List.{drop_all}
use Rattle.std.specs.List.{join_with_byte}
use Rattle.script_lang.specs.Printed.{spaced, printed_behind, printed_line}
use Rattle.script_lang.specs.declared.line.NumberedLine.{NumberedLine}
use Rattle.script_lang.proofs.Pieces.{append-nil}

pub join_spaced : (word : List ℕ) (words : List (List ℕ)) → join_with_byte 32 (word ∷ words) ≡ word ++ spaced words
join_spaced word [] = sym (append-nil word)
join_spaced word (next ∷ words) = ap (λ t. word ++ 32 ∷ t) (join_spaced next words)

pub first_step : (out word : List ℕ) (words : List (List ℕ)) → (out ++ word) ++ spaced words ≡ out ++ join_with_byte 32 (word ∷ words)
first_step out word words = append_assoc out word (spaced words) ∙ ap (λ t. out ++ t) (sym (join_spaced word words))

pub words_step : (out word : List ℕ) (words : List (List ℕ)) → ((out ++ 32 ∷ []) ++ word) ++ spaced words ≡ out ++ spaced (word ∷ words)
words_step out word words = append_assoc (out ++ 32 ∷ []) word (spaced words) ∙ append_assoc out (32 ∷ []) (word ++ spaced words)

pub words_end : (out : List ℕ) → out ++ spaced [] ≡ out
words_end out = append-nil out

pub newlines_step : (out : List ℕ) (left : ℕ) → 0 < left → (out ++ 10 ∷ []) ++ replicate (left - 1) 10 ≡ out ++ replicate left 10
newlines_step out zero some = absurd (omega arith)
newlines_step out (suc left) some = let e : suc left - 1 ≡ left = omega arith in rw e (append_assoc out (10 ∷ []) (replicate left 10))

pub newlines_end : (out : List ℕ) (left : ℕ) → left ≡ 0 → out ++ replicate left 10 ≡ out
newlines_end out left none = ap (λ n. out ++ replicate n 10) none ∙ append-nil out

pub lines_step : (out : List ℕ) (number : ℕ) (l : NumberedLine) (lines : List NumberedLine) → (out ++ printed_line number l) ++ printed_behind l.number lines ≡ out ++ printed_behind number (l ∷ lines)
lines_step out number l lines = append_assoc out (printed_line number l) (printed_behind l.number lines)

pub lines_end : (out : List ℕ) (number place : ℕ) (lines : List NumberedLine) → length lines ≤ place → out ++ printed_behind number (drop place lines) ≡ out
lines_end out number place lines past = ap (λ ls. out ++ printed_behind number ls) (drop_all place lines past) ∙ append-nil out
