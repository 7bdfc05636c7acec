-- Words are the same as themselves.
use Rattle.std.proofs.Common.{◌≡◌, ℕ, true, List, [], ◌∷◌, refl}
use Rattle.std.proofs.lemmas.Slice.Eq.{bytes_eq-Decides}
use Rattle.line_verdicts.specs.Seen.{same_words}

pub same_words-refl : (words : List (List ℕ)) → same_words words words ≡ true
same_words-refl [] = refl
same_words-refl (word ∷ words) = rw ((bytes_eq-Decides word word).1 refl) (same_words-refl words)
