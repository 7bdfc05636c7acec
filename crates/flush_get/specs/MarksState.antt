-- What marks are to a contract: one for each entry, and for how many there is room.
use Rattle.std.specs.Prelude.{ℕ, Bool, List}

pub record MarksState : Type 0 where
  pub values : List Bool
  pub room : ℕ
