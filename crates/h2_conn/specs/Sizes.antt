-- The table sizes among settings.
use Rattle.std.specs.Prelude.{ℕ, ◌==◌, List, fold, if◌then◌else◌}
use Rattle.hpack_tables.specs.Writing.{Encoder, limited}

abbrev pub limited_over : List (ℕ × ℕ) → Encoder → Encoder
limited_over settings e = fold (λ now s. if s.0 == 1 then limited s.1 now else now) e settings
