-- How options are written in words, one after another.
use Rattle.std.specs.Prelude.{ℕ, true, false, ◌≡◌, ◌⊎◌, List, [], ◌∷◌, ◌++◌, codes}
use Rattle.std.specs.List.{list_any}
use Rattle.gribi_words.specs.Grammar.{is_value, is_equals}

-- an option that can be written: no equals sign in its name, and a value that isn't empty and doesn't begin with a dash
abbrev pub IsOption : List ℕ × List ℕ → Type 0
IsOption option = (list_any is_equals option.0 ≡ false) × (is_value option.1 ≡ true)

-- words that begin with `--name value` or `--name=value`, and what stands behind that
abbrev pub BeginWith : List ℕ × List ℕ → List (List ℕ) → List (List ℕ) → Type 0
BeginWith option words behind =
    (words ≡ (codes "--" ++ option.0) ∷ option.1 ∷ behind) ⊎ (words ≡ (codes "--" ++ (option.0 ++ 61 ∷ option.1)) ∷ behind)

-- words that write options, one after another
abbrev pub AreWritten : List (List ℕ × List ℕ) → List (List ℕ) → Type 0
AreWritten [] words = words ≡ []
AreWritten (option ∷ others) words = IsOption option × (behind : List (List ℕ)) × BeginWith option words behind × AreWritten others behind
