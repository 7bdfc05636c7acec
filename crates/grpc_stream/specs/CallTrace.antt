-- What the calls of a connection were used for. No object stores it: each call carries it on.
use Rattle.std.specs.Prelude.{◌≡◌, ◌⊎◌, ℕ, ◌-◌, ◌==◌, ◌&&◌, Bool, true, false, not, map, filter, sum_by, List, [], ◌∷◌, ◌++◌, length, Option, Some, None}
use Rattle.std.specs.List.{All, Contains, find, flat_map, list_any}
use Rattle.grpc_framing.specs.Framing.{item}
use Rattle.grpc_heads.specs.declared.head.Method.{Method}
use Rattle.grpc_heads.specs.CallEnd.{CallEnd, Status, Http, HalfClose, call_end_of, compressed, method_by, status_by, too_long, truncated, unknown}
use Rattle.grpc_heads.specs.GrpcStatus.{GrpcStatus}
use Rattle.grpc_heads.specs.Heads.{head_of}
use Rattle.grpc_heads.specs.Trailers.{status_in_trailers}
use Rattle.grpc_heads.specs.Written.{request_fields, response_fields}
use Rattle.h2_frames.specs.declared.frame.Frame.{Frame}
use Rattle.h2_frames.specs.declared.frame.Frame.TheVariants.{Content}
use Rattle.h2_frames.specs.declared.frame.FrameBody.{FrameBody}
use Rattle.hpack_tables.specs.declared.field.Field.{Field}
use Rattle.h2_exchange.specs.declared.role.Role.{Role}
use Rattle.h2_exchange.specs.declared.role.Role.TheVariants.{Client, Server}
use Rattle.h2_exchange.specs.Calls.{Call, Begun, Answer, calls, answers}
use Rattle.h2_exchange.specs.Exchange.{Step, Sent, sent}
use Rattle.h2_exchange.specs.Frames.{stream_of, is_rst_stream, has_padding}
use Rattle.h2_exchange.specs.Outgoing.{IsErrorReset}
use Rattle.h2_exchange.specs.Requests as request
use Rattle.h2_exchange.specs.Requests.{CarriesRequest, end_if}
use Rattle.h2_exchange.specs.Sending.{IsPrefix}
use Rattle.h2_exchange.specs.StreamParts.{Item, Message, Finish, CarriesResponse, IsPrefixOf, IsMessageFirst, has_begun, parts}
use Rattle.h2_exchange.specs.Streams.{begun, is_begun, is_open, live}
use Rattle.h2_exchange.specs.Windows.{spent_on}
use Rattle.schema_numbers.specs.Numbers.{Numbers}
use Rattle.http_connection.specs.ConnectionTrace.{ConnectionTrace, IsSound, events_in, is_alive}

-- ---- what was used

-- what a client asks, or what a server answers
pub data PeerEvent : Type 0 where
  Asked : Call Method CallEnd → PeerEvent
  Answered : Answer GrpcStatus → PeerEvent

pub record CallTrace : Type 0 where
  -- the connection's, with the refusal of the calls
  pub connection_trace : ConnectionTrace
  -- the numbering of all calls on it
  pub numbers : Numbers
  -- what was told of the peer, refusals of calls included
  pub reported : List PeerEvent
  -- what was taken to be sent, each with its stream
  pub taken : List (ℕ × Item CallEnd)
  -- the calls that a client began
  pub begun : List (ℕ × Method)
  -- the streams that were reset
  pub resets : List ℕ

-- what the events of the exchange tell
abbrev pub reported_by : Role → Numbers → ConnectionTrace → List PeerEvent
reported_by Server n c = map Asked (calls (λ fields. method_by (head_of fields)) compressed too_long truncated (events_in c))
reported_by Client n c = map Answered (answers (λ fields. status_by (status_in_trailers n fields)) unknown (events_in c))

abbrev pub reported_in : CallTrace → List PeerEvent
reported_in t = reported_by t.connection_trace.role t.numbers t.connection_trace

abbrev pub changed : (ConnectionTrace → ConnectionTrace) → CallTrace → CallTrace
changed on t = record t { connection_trace = on t.connection_trace }

abbrev pub took : ℕ → Item CallEnd → CallTrace → CallTrace
took id what t = record t { taken = t.taken ++ (id, what) ∷ [] }

abbrev pub Keeps : (CallTrace → Type 0) → (CallTrace → Type 0) → Type 0
Keeps old new = (t : CallTrace) → old t → new t

abbrev pub Carries : (CallTrace → Type 0) → (CallTrace → Type 0) → (CallTrace → CallTrace) → Type 0
Carries old new on = (t : CallTrace) → old t → new (on t)

-- a new object: the connection's start, and nothing else
abbrev pub fresh : ConnectionTrace → Numbers → CallTrace
fresh c n = record { connection_trace = c; numbers = n; reported = []; taken = []; begun = []; resets = [] }

-- ---- what is owed

-- what was taken for a stream, in order
abbrev pub queued_on : CallTrace → ℕ → List (Item CallEnd)
queued_on t id = map (λ x. x.1) (filter (λ x. x.0 == id) t.taken)

abbrev pub is_end : Item CallEnd → Bool
is_end (Message message) = false
is_end (Finish close) = true

abbrev pub is_ended : CallTrace → ℕ → Bool
is_ended t id = list_any is_end (queued_on t id)

-- a client began a call on a stream
abbrev pub begins_on : ℕ → PeerEvent → Bool
begins_on id (Asked (Begun stream method)) = stream == id
begins_on id other = false

-- A server can answer a call once it was told that it began. A client's streams are its calls.
abbrev pub is_told_of : Role → List PeerEvent → ℕ → Bool
is_told_of Server reported id = list_any (begins_on id) reported
is_told_of Client reported id = true

-- More may be taken for a stream: it is open, its call was told, its end was not taken, and the connection has not refused.
abbrev pub is_taking : CallTrace → ℕ → Bool
is_taking t id = is_alive t.connection_trace && is_open t.connection_trace.role t.connection_trace.frames id
    && is_told_of t.connection_trace.role t.reported id && not (is_ended t id)

abbrev pub text_of : Item CallEnd → List ℕ
text_of (Message message) = item message
text_of (Finish close) = []

-- how many bytes of a stream no frame holds yet
abbrev pub unsent_on : CallTrace → ℕ → ℕ
unsent_on t id = length (flat_map text_of (queued_on t id)) - spent_on id (sent t.connection_trace.frames)

-- and of all streams that are live
abbrev pub waiting_in : CallTrace → ℕ
waiting_in t = sum_by (unsent_on t) (live t.connection_trace.role t.connection_trace.frames)

-- ---- what is spelled

-- a server ends with a status, and a client without
abbrev pub suits : Role → Item CallEnd → Bool
suits role (Message message) = true
suits Server (Finish (Status ending)) = true
suits Server (Finish (Http status)) = true
suits Client (Finish HalfClose) = true
suits role (Finish other) = false

-- the head of a stream's call; none where none was begun
abbrev pub head_by : Option (ℕ × Method) → List Field
head_by None = []
head_by (Some call) = request_fields call.1

-- what of an end a half-close says
abbrev pub half : Item CallEnd → Item (Unit {0})
half (Message message) = Message message
half (Finish close) = Finish tt

-- what a client is to ask on a stream
abbrev pub asked_on : CallTrace → ℕ → request.Asked
asked_on t id = record { head = head_by (find (λ call. call.0 == id) t.begun); items = map half (queued_on t id) }

-- what a client's frames spell on a stream
pub record CarriesRequestOn (t : CallTrace) (id : ℕ) : Type 0 where
  pub messages : List (List ℕ)
  pub rest : List ℕ
  pub ended : Bool
  pub asks : CarriesRequest t.connection_trace.written (sent t.connection_trace.frames) id (asked_on t id).head messages rest ended
  pub front : IsPrefixOf messages rest (end_if ended) (asked_on t id).items

-- What a server's frames spell on a stream. A head that isn't the end stands where a message is owed first.
pub record CarriesResponseOn (t : CallTrace) (id : ℕ) : Type 0 where
  pub messages : List (List ℕ)
  pub rest : List ℕ
  pub end : Option CallEnd
  pub spells : CarriesResponse response_fields (call_end_of t.numbers) t.connection_trace.written (sent t.connection_trace.frames) id messages rest end
  pub front : IsPrefixOf messages rest end (queued_on t id)
  pub begins : has_begun (parts id t.connection_trace.written (sent t.connection_trace.frames)) ≡ true → IsMessageFirst (queued_on t id)

-- the frames of a side spell on a stream a first part of what it is owed
abbrev pub CarriesCallOn : Role → CallTrace → ℕ → Type 0
CarriesCallOn Server t id = CarriesResponseOn t id
CarriesCallOn Client t id = CarriesRequestOn t id

-- ---- what holds

pub record IsSoundCallTrace (t : CallTrace) (output : List ℕ) : Type 0 where
  pub connection_trace : IsSound t.connection_trace output
  -- what was told is the first of what the events tell
  pub reported : IsPrefix t.reported (reported_in t)
  -- RST_STREAM is sent at a stream error, or where the reset of its stream was asked for
  pub only : (past behind : List Step) (f : Frame) → t.connection_trace.frames ≡ past ++ Sent f ∷ behind → is_rst_stream f ≡ true →
      IsErrorReset t.connection_trace.role t.connection_trace.limits t.connection_trace.heads past f ⊎ Contains t.resets (stream_of f)
  pub spelled : (id : ℕ) → All (λ what. suits t.connection_trace.role what ≡ true) (queued_on t id) → CarriesCallOn t.connection_trace.role t id
  -- no DATA is padded, so the bytes that DATA counts are those of messages
  pub unpadded : (past behind : List Step) (b : FrameBody) → t.connection_trace.frames ≡ past ++ Sent (Content b) ∷ behind →
      has_padding (Content b) ≡ false
  -- what was taken is for streams that were begun, and a client's calls are those
  pub begun_first : (id : ℕ) → is_begun t.connection_trace.role t.connection_trace.frames id ≡ false → queued_on t id ≡ []
  pub calls : t.connection_trace.role ≡ Client → map (λ (call : ℕ × Method). call.0) t.begun ≡ begun Client t.connection_trace.frames
