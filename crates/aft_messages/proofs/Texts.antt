-- Texts that are UTF-8, and those that aren't.
use Rattle.std.proofs.Common.{◌≡◌, ℕ, List, Bool, true, false, refl}
use Rattle.std.specs.Str.{IsUtf8, is_utf8}
use Rattle.std.proofs.lemmas.Str.{IsUtf8-from_is_utf8, is_utf8-from_IsUtf8}

pub utf8_test : (bytes : List ℕ) → IsUtf8 bytes → is_utf8 bytes ≡ true
utf8_test bytes h = is_utf8-from_IsUtf8 bytes h

pub utf8_fault : (bytes : List ℕ) → ¬ (IsUtf8 bytes) → is_utf8 bytes ≡ false
utf8_fault bytes bad = by_cases (is_utf8 bytes) (λ good. bad (IsUtf8-from_is_utf8 bytes good))
  where
    by_cases : (b : Bool) → (b ≡ true → ⊥) → b ≡ false
    by_cases true h = absurd (h refl)
    by_cases false h = refl

pub ruleset utf8 = (utf8_test, utf8_fault)
