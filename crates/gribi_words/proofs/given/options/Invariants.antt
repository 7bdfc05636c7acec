use Rattle.std.proofs.Common.{◌≡◌, ◌++◌, map, length, string_bytes}
use Rattle.std.specs.Prelude.{option_map}
use Rattle.gribi_words.specs.Grammar as spec
use Rattle.gribi_words.specs.Given.{said}
use Rattle.gribi_words.proofs.given.options.Given as goal

-- the options so far, and what is left to read
abbrev pub invariant-words : goal.invariant-words
invariant-words l = spec.options (map string_bytes l.words) ≡ option_map (λ others. map said l.given.items ++ others) (spec.options (map string_bytes l.left))

abbrev pub decreases-words : goal.decreases-words
decreases-words l = length l.left
