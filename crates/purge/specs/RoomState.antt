-- What the room for a purge is to a contract.
use Rattle.std.specs.Prelude.{ℕ}

pub record RoomState : Type 0 where
  -- for how many entries there is room
  pub room : ℕ
