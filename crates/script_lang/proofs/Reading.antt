-- Steps of reading a script.
use Rattle.std.proofs.Common.{◌≡◌, ℕ, ◌+◌, ◌<◌, true, false, List, ◌∷◌, Ok, Err, ap, length, arith}
use Rattle.std.proofs.lemmas.Bool.Decides.{nat_tests}
use Rattle.std.proofs.lemmas.Str.{utf8_valid_len-IsUtf8, utf8_valid_len-IsValidUpTo}
use Rattle.std.specs.Prelude.{◌==◌, IsUtf8}
use Rattle.std.specs.Str.{IsValidUpTo}
use Rattle.script_lang.specs.Scripts.{is_utf8, line_taken, goes_on, from}
use Rattle.script_lang.specs.declared.line.NumberedLine.{NumberedLine}
use Rattle.script_lang.specs.declared.fault.ScriptFaultKind.{ScriptFaultKind}

-- a line that is taken
pub from_taken : (long number : ℕ) (before kept : List NumberedLine) (line : List ℕ) (lines : List (List ℕ)) → line_taken long before number line ≡ Ok kept → from long before number (line ∷ lines) ≡ from long kept (number + 1) lines
from_taken long number before kept line lines e = ap (goes_on number (λ kept. from long kept (number + 1) lines)) e

pub from_fault : (long number : ℕ) (before : List NumberedLine) (kind : ScriptFaultKind) (line : List ℕ) (lines : List (List ℕ)) → line_taken long before number line ≡ Err kind → from long before number (line ∷ lines) ≡ Err (record { line = number; kind = kind })
from_fault long number before kind line lines e = ap (goes_on number (λ kept. from long kept (number + 1) lines)) e

pub utf8_true : (line : List ℕ) → IsUtf8 line → true ≡ is_utf8 line
utf8_true line utf8 = rw (utf8_valid_len-IsUtf8 line utf8) (refl_length (length line))
  where
    refl_length : (n : ℕ) → true ≡ (n == n)
    refl_length n = grind (arith, nat_tests)

pub utf8_false : (line : List ℕ) (n : ℕ) → IsValidUpTo line n → false ≡ is_utf8 line
utf8_false line n valid = rw (utf8_valid_len-IsValidUpTo line n valid) (differ n (length line) valid.short)
  where
    differ : (n m : ℕ) → n < m → false ≡ (n == m)
    differ n m less = grind (arith, nat_tests)
