-- What the counts are to a contract: each key that is referred to with its counts, and for how many more there is room.
use Rattle.std.specs.Prelude.{ℕ, List}
use Rattle.ref_counts.specs.declared.places.Place.{Place}
use Rattle.ref_counts.specs.declared.places.Counts.{Counts}

pub record CountsState : Type 0 where
  pub counted : List (Place × Counts)
  pub spare : ℕ
