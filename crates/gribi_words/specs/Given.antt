-- How the code's options stand for those of the grammar, and the first of them.
use Rattle.std.specs.Prelude.{ℕ, List, [], ◌∷◌, Option, None, option_map, if◌then◌else◌}
use Rattle.std.specs.List.{list_any}
use Rattle.gribi_words.specs.Grammar.{option_of, joined_option, is_equals}
use Rattle.gribi_words.specs.declared.given.Given.{Given}

abbrev pub said : Given → List ℕ × List ℕ
said given = (given.name.now, given.value.now)

-- the first option of words and what stands behind it
abbrev pub first_option : List ℕ → List (List ℕ) → Option ((List ℕ × List ℕ) × List (List ℕ))
first_option word [] = if list_any is_equals word then option_map (λ option. (option, [])) (joined_option word) else None
first_option word (next ∷ words) =
    if list_any is_equals word then option_map (λ option. (option, next ∷ words)) (joined_option word)
    else option_map (λ option. (option, words)) (option_of word next)
