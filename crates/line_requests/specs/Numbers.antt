-- The numbers of a line's words. The words of a script that was read are never past these limits.
use Rattle.std.specs.Prelude.{ℕ, ◌-◌, ◌^◌, ◌+◌, ◌==◌, List, take, drop, min, Option, Some, None}
use Rattle.std.specs.List.{position}
use Rattle.script_lang.specs.Forms.{value}

-- of 128 bits
abbrev pub wide : List ℕ → ℕ
wide word = min (value word) (2 ^ 128 - 1)

-- of 64 bits
abbrev pub narrow : List ℕ → ℕ
narrow word = min (value word) (2 ^ 64 - 1)

-- what stands before the first such byte, and what stands behind it
abbrev pub cut_at : List ℕ → Option ℕ → Option (List ℕ × List ℕ)
cut_at word None = None
cut_at word (Some place) = Some (take place word, drop (place + 1) word)

abbrev pub cut : ℕ → List ℕ → Option (List ℕ × List ℕ)
cut mark word = cut_at word (position (λ c. c == mark) word)
