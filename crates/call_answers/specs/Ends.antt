-- The status that a reply ends a call with: gRPC's status codes, texts of this server, and the reasons of gRIBI's
-- ModifyRPCErrorDetails.
use Rattle.std.specs.Prelude.{ℕ, List, Bool, true, false, Option, Some, None, codes}
use Rattle.grpc_heads.specs.GrpcStatus.{GrpcStatus}
use Rattle.grpc_heads.specs.declared.status.ModifyReason.{ModifyReason}
use Rattle.grpc_heads.specs.declared.status.ModifyReason.TheVariants.{UnsupportedParams, ModifyNotAllowed, ParamsDiffer, ElectionIdInAllPrimary}
use Rattle.table_model.specs.declared.reply.Reply.{Reply}
use Rattle.table_model.specs.declared.reply.Reply.TheVariants as reply

abbrev pub ending : ℕ → List ℕ → Option ModifyReason → GrpcStatus
ending code message reason = record { code = code; message = message; reason = reason }

-- A session without parameters is one of ALL_PRIMARY to gRIBI: its operations aren't served, and it may announce no election id.
abbrev pub without_params : Bool → GrpcStatus
without_params true = ending 12 (codes "ALL_PRIMARY is not served") (Some UnsupportedParams)
without_params false = ending 9 (codes "election in ALL_PRIMARY") (Some ElectionIdInAllPrimary)

-- the end of the call, if the reply ends it; whether the command was an operation matters where the session has no parameters
abbrev pub status_by : Bool → Reply → Option GrpcStatus
status_by operate reply.ParamsUnsupported = Some (ending 12 (codes "unsupported session parameters") (Some UnsupportedParams))
status_by operate reply.ParamsNotAllowed = Some (ending 9 (codes "session parameters already set") (Some ModifyNotAllowed))
status_by operate (reply.ParamsDiffer other) = Some (ending 9 (codes "session parameters differ") (Some ParamsDiffer))
status_by operate reply.NoParams = Some (without_params operate)
status_by operate reply.ZeroId = Some (ending 3 (codes "election id is zero") None)
status_by operate (reply.FlushRefused highest) = Some (ending 9 (codes "not primary") None)
status_by operate reply.NoMemory = Some (ending 8 (codes "want of memory") None)
status_by operate reply.Stopped = Some (ending 14 (codes "server stopped") None)
status_by operate reply.Gone = Some (ending 10 (codes "session gone") None)
status_by operate _ = None
