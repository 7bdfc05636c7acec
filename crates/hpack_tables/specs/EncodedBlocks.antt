-- A block that is written and not sent yet.
use Rattle.std.specs.Prelude.{ℕ, List}
use Rattle.hpack_tables.specs.Writing.{Encoder}

-- its bytes, and the encoder behind it
pub record EncodedBlock : Type 0 where
  pub text : List ℕ
  pub after : Encoder
