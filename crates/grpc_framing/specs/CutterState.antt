-- What a cutter is seen as.
use Rattle.std.specs.Prelude.{ℕ, List, Option}
use Rattle.grpc_framing.specs.declared.cutter.Refusal.{Refusal}

-- the most bytes of a message, the bytes of the stream behind the messages given, and why no message is given any more
pub record CutterState : Type 0 where
  pub limit : ℕ
  pub held : List ℕ
  pub refusal : Option Refusal
