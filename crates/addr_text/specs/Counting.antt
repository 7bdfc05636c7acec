-- Groups as their count and the number that they give, where they are at most eight.
use Rattle.std.specs.Prelude.{ℕ, ◌+◌, ◌*◌, ◌^◌, ◌<◌, ◌≤◌, List, length, fold, nat_le, if◌then◌else◌, Option, Some, None}

-- the same behind so many groups with this number
abbrev pub counted_from : ℕ → ℕ → Option (List ℕ) → Option (ℕ × ℕ)
counted_from count bits None = None
counted_from count bits (Some groups) =
    if nat_le (count + length groups) 8
    then Some (count + length groups, fold (λ number group. number * 65536 + group) bits groups) else None

abbrev pub counted : Option (List ℕ) → Option (ℕ × ℕ)
counted groups = counted_from 0 0 groups

abbrev pub IsSmall : ℕ × ℕ → Type 0
IsSmall groups = (groups.0 ≤ 8) × (groups.1 < 65536 ^ groups.0)
