-- What follows where calls stand for what they were used for.
use Rattle.std.specs.Prelude.{◌≡◌, ℕ, ◌++◌, false, List, Ok}
use Rattle.grpc_heads.specs.CallEnd.{Status, call_end_of}
use Rattle.grpc_heads.specs.GrpcStatus.{GrpcStatus}
use Rattle.grpc_heads.specs.Trailers.{status_in_trailers}
use Rattle.grpc_heads.specs.Written.{response_fields, trailer_fields}
use Rattle.h2_exchange.specs.Malformed.{is_malformed_trailers}
use Rattle.h2_exchange.specs.Sending.{IsPrefix}
use Rattle.h2_exchange.specs.Streams.{is_live}
use Rattle.http_connection.specs.ConnectionTrace.{events_in}
use Rattle.grpc_stream.specs.CallTrace.{CallTrace, CarriesCallOn, waiting_in}
use Rattle.kept_calls.specs.Table.{waiting_on}
use Rattle.schema_numbers.specs.Numbers.{Numbers}
use Rattle.call_sending.specs.Spelling.{AreSuited, Speaks}
use Rattle.call_standing.specs.Standing.{Holds, IsRest, State}

-- Where it holds of each stream, the calls are sound beside their connection.
abbrev pub StandingIsSound : Type 0
StandingIsSound = (s : State) (t : CallTrace) → IsPrefix t.connection_trace.given (events_in t.connection_trace) → Holds s t → IsRest t

-- What the frames of a stream spell so far begins what was taken for it.
abbrev pub TakenIsSpelled : Type 0
TakenIsSpelled = (t : CallTrace) (id : ℕ) (left : List ℕ) → Speaks t id left → AreSuited t id → CarriesCallOn t.connection_trace.role t id

-- The bytes that kept calls hold, on live streams, are those that no frame holds yet.
abbrev pub KeptBytesWait : Type 0
KeptBytesWait = (s : State) (t : CallTrace) → Holds s t → waiting_on (is_live t.connection_trace.role t.connection_trace.frames) s.calls ≡ waiting_in t

-- Trailers that are written are well formed; and where they are read as their status, they end a call with it, behind the fields of a response too.
pub record TrailersSay : Type 0 where
  pub plain : (n : Numbers) (ending : GrpcStatus) → is_malformed_trailers (trailer_fields n ending) ≡ false
  pub say : (n : Numbers) (ending : GrpcStatus) → status_in_trailers n (trailer_fields n ending) ≡ Ok ending →
      call_end_of n (trailer_fields n ending) ≡ Status ending
  pub alone : (n : Numbers) (ending : GrpcStatus) → status_in_trailers n (trailer_fields n ending) ≡ Ok ending →
      call_end_of n (response_fields ++ trailer_fields n ending) ≡ Status ending
