-- What a client reads of a server's frames.
use Rattle.std.specs.Prelude.{ℕ, ◌&&◌, ◌==◌, List, [], ◌∷◌, ◌++◌, if◌then◌else◌, Option}
use Rattle.std.specs.List.{flat_map}
use Rattle.grpc_framing.specs.Framing.{messages_of}
use Rattle.grpc_heads.specs.CallEnd.{CallEnd, call_end_of, status_by, unknown}
use Rattle.grpc_heads.specs.GrpcStatus.{GrpcStatus}
use Rattle.grpc_heads.specs.Trailers.{status_in_trailers}
use Rattle.grpc_heads.specs.Written.{response_fields}
use Rattle.hpack_tables.specs.declared.field.Field.{Field}
use Rattle.h2_frames.specs.declared.frame.Frame.{Frame}
use Rattle.h2_exchange.specs.Blocks.{data_of}
use Rattle.h2_exchange.specs.Frames.{is_data, stream_of}
use Rattle.h2_exchange.specs.Calls.{Answer, Answered, answers}
use Rattle.h2_exchange.specs.Events.{Event, bytes_on}
use Rattle.h2_exchange.specs.Sending.{IsPrefix, ResetsErrors}
use Rattle.h2_exchange.specs.declared.limits.H2Limits.{H2Limits}
use Rattle.h2_exchange.specs.declared.role.Role.TheVariants.{Client}
use Rattle.h2_exchange.specs.Content.{Outcome}
use Rattle.h2_exchange.specs.Exchange.{Step, received, sent}
use Rattle.h2_exchange.specs.StreamParts.{CarriesResponse}
use Rattle.h2_exchange.specs.Stops.{events}
use Rattle.schema_numbers.specs.Numbers.{Numbers}

abbrev pub message_on : ℕ → Answer GrpcStatus → List (List ℕ)
message_on id (Answered stream message) = if stream == id then message ∷ [] else []
message_on id other = []

-- the messages that are answered on a stream
abbrev pub answered_on : ℕ → List (Answer GrpcStatus) → List (List ℕ)
answered_on id given = flat_map (message_on id) given

-- the bytes of DATA on a stream
abbrev pub data_on : ℕ → List Frame → List ℕ
data_on id fs = flat_map (λ f. if is_data f && stream_of f == id then data_of f else []) fs

-- The messages that events answer on a stream begin those of any bytes that go on from the events' bytes, whatever the limit of
-- 4,194,304 bytes refuses.
abbrev pub AnswersBeginMessages : Type 0
AnswersBeginMessages =
    (status_of : List Field → GrpcStatus) (unknown : GrpcStatus) (id : ℕ) (es : List Event) (more : List ℕ) →
    IsPrefix (answered_on id (answers status_of unknown es)) (messages_of 4294967295 (bytes_on id es ++ more)).messages

-- The messages that a client reads of a server's frames, of which it received the first ones, begin those that these frames spell.
abbrev pub ClientReadsMessages : Type 0
ClientReadsMessages =
    (n : Numbers) (limits : H2Limits) (x y : List Step) (heads : List (List Field)) (outcomes : List Outcome) →
    (id : ℕ) (messages : List (List ℕ)) (rest : List ℕ) (end : Option CallEnd) →
    IsPrefix (received y) (sent x) → ResetsErrors Client limits outcomes y →
    CarriesResponse response_fields (call_end_of n) heads (sent x) id messages rest end →
    IsPrefix (answered_on id (answers (λ fields. status_by (status_in_trailers n fields)) unknown (events Client limits outcomes y))) messages
