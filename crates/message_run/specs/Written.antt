-- What a sink that tells its bytes was given.
use Rattle.std.specs.Prelude.{◌≡◌, ℕ, List, ◌++◌, Option}
use Rattle.std.specs.Option.{option_map}

-- it holds these behind those that it had
abbrev pub Wrote : Option (List ℕ) → List ℕ → Option (List ℕ) → Type 0
Wrote before bytes after = after ≡ option_map (λ held. held ++ bytes) before

-- it holds the first of the bytes behind those that it had
pub record WrotePart (before : Option (List ℕ)) (bytes : List ℕ) (after : Option (List ℕ)) : Type 0 where
  pub written : List ℕ
  pub others : List ℕ
  pub parts : bytes ≡ written ++ others
  pub wrote : Wrote before written after
