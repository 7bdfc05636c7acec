-- What a status is to a contract (gRPC over HTTP/2, "Status"): its code, its message and the reason that its details
-- give.
use Rattle.std.specs.Prelude.{ℕ, List, Option}
use Rattle.grpc_heads.specs.declared.status.ModifyReason.{ModifyReason}

pub record GrpcStatus : Type 0 where
  pub code : ℕ
  pub message : List ℕ
  pub reason : Option ModifyReason
