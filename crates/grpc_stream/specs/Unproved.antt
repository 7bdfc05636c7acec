-- Statements that are not proved. No contract cites them.
use Rattle.std.specs.Prelude.{◌≡◌, ◌⊎◌, ℕ, map, List, Option, Some, Ok}
use Rattle.std.specs.List.{Contains}
use Rattle.grpc_heads.specs.CallEnd.{CallEnd, Status, Unreadable, call_end_of, status_by, unknown}
use Rattle.grpc_heads.specs.GrpcStatus.{GrpcStatus}
use Rattle.grpc_heads.specs.Trailers.{status_in_trailers}
use Rattle.grpc_heads.specs.Written.{response_fields}
use Rattle.hpack_tables.specs.declared.field.Field.{Field}
use Rattle.h2_exchange.specs.declared.limits.H2Limits.{H2Limits}
use Rattle.h2_exchange.specs.declared.role.Role.TheVariants.{Client}
use Rattle.h2_exchange.specs.Calls.{Answer, Closed, answers}
use Rattle.h2_exchange.specs.Content.{AreRead, Outcome}
use Rattle.h2_exchange.specs.Exchange.{Step, received, sent}
use Rattle.h2_exchange.specs.Outcomes.{AreKnown}
use Rattle.h2_exchange.specs.Sending.{IsPrefix, ResetsErrors}
use Rattle.h2_exchange.specs.StreamParts.{CarriesResponse}
use Rattle.h2_exchange.specs.Stops.{events}
use Rattle.schema_numbers.specs.Numbers.{Numbers}
use Rattle.grpc_stream.specs.ClientReads.{answered_on}

-- A status that closes a stream is UNKNOWN, or stands behind all messages and is the one that is spelled. Fields that say no end
-- may still have one: a status of gRPC beside another status of HTTP than 200.
abbrev pub ClosesAsSpelled : ℕ → List (Answer GrpcStatus) → List (List ℕ) → Option CallEnd → Type 0
ClosesAsSpelled id given messages end =
    (status : GrpcStatus) → Contains given (Closed id status) →
    (status ≡ unknown) ⊎ (((end ≡ Some (Status status)) ⊎ (end ≡ Some Unreadable)) × (answered_on id given ≡ messages))

-- The end that a client reads of a server's frames, of which it received the first ones, is the one that those frames spell.
abbrev pub ClientReadsEnd : Type 0
ClientReadsEnd =
    (n : Numbers) (limits : H2Limits) (x y : List Step) (heads : List (List Field)) (outcomes : List Outcome) →
    (id : ℕ) (messages : List (List ℕ)) (rest : List ℕ) (end : Option CallEnd) →
    IsPrefix (received y) (sent x) → AreRead (sent x) (map Ok heads) → AreKnown Client limits outcomes y → ResetsErrors Client limits outcomes y →
    CarriesResponse response_fields (call_end_of n) heads (sent x) id messages rest end →
    ClosesAsSpelled id (answers (λ fields. status_by (status_in_trailers n fields)) unknown (events Client limits outcomes y)) messages end
