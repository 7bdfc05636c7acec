-- What the lines of a script ask on the streams of their calls, and which resets a client asks for.
use Rattle.std.specs.Prelude.{◌≡◌, ℕ, ◌==◌, true, map, filter, if◌then◌else◌, List, [], ◌∷◌, ◌++◌, Option, Some, None, IfSome}
use Rattle.schema_numbers.specs.Numbers.{Numbers}
use Rattle.grpc_heads.specs.declared.head.Method.{Method}
use Rattle.grpc_heads.specs.declared.head.Method.TheVariants.{Modify, Get, Flush}
use Rattle.grpc_heads.specs.CallEnd.{CallEnd, HalfClose}
use Rattle.grpc_heads.specs.GrpcStatus.{GrpcStatus}
use Rattle.std.specs.List.{find}
use Rattle.h2_exchange.specs.Calls.{Answer}
use Rattle.h2_exchange.specs.Requests as request
use Rattle.h2_exchange.specs.StreamParts.{Item, Message, Finish}
use Rattle.grpc_stream.specs.CallTrace.{half, head_by}
use Rattle.gribi_messages.specs.RequestEncoding.{request_bytes}
use Rattle.gribi_messages.specs.GetAndFlush.{flush_bytes, get_bytes}
use Rattle.line_requests.specs.declared.ask.LineAsk.{LineAsk}
use Rattle.line_requests.specs.declared.ask.LineAsk.TheVariants as asks
use Rattle.compliance_client.specs.Deeds.{CallView, Deed, Sends, Hears, Judges, ask_of, call_of, calls_in, is_refused, stream_in}

-- the messages that a line asks for, and the end of the client's side
abbrev pub items_of : Numbers → LineAsk → List (Item CallEnd)
items_of n (asks.Send request) = Message (request_bytes n request) ∷ []
items_of n asks.Finish = Finish HalfClose ∷ []
items_of n (asks.Get request) = Message (get_bytes n request) ∷ Finish HalfClose ∷ []
items_of n (asks.Flush request) = Message (flush_bytes n request) ∷ Finish HalfClose ∷ []
items_of n other = []

-- the method of the call that a line begins
abbrev pub begun_by : LineAsk → Option Method
begun_by asks.Modify = Some Modify
begun_by (asks.Get request) = Some Get
begun_by (asks.Flush request) = Some Flush
begun_by other = None

-- ---- on all streams

abbrev pub on_stream : ℕ → Item CallEnd → ℕ × Item CallEnd
on_stream stream what = (stream, what)

-- what the lines ask, in their order
abbrev pub taken_in : Numbers → List Deed → List (ℕ × Item CallEnd)
taken_in n [] = []
taken_in n (Sends line stream ∷ earlier) = taken_in n earlier ++ map (on_stream stream) (items_of n (ask_of n (calls_in n earlier) line))
taken_in n (other ∷ earlier) = taken_in n earlier

abbrev pub beginning : ℕ → Option Method → List (ℕ × Method)
beginning stream None = []
beginning stream (Some method) = (stream, method) ∷ []

-- the calls that lines began, in their order
abbrev pub begun_in : Numbers → List Deed → List (ℕ × Method)
begun_in n [] = []
begun_in n (Sends line stream ∷ earlier) = begun_in n earlier ++ beginning stream (begun_by (ask_of n (calls_in n earlier) line))
begun_in n (other ∷ earlier) = begun_in n earlier

abbrev pub reset_by : LineAsk → ℕ → List ℕ
reset_by asks.Reset stream = stream ∷ []
reset_by other stream = []

-- the streams that were reset: of the calls that lines drop, and of those whose messages are refused
abbrev pub resets_in : Numbers → List Deed → List ℕ
resets_in n [] = []
resets_in n (Sends line stream ∷ earlier) = resets_in n earlier ++ reset_by (ask_of n (calls_in n earlier) line) stream
resets_in n (Hears answer is_reset ∷ earlier) = resets_in n earlier ++ (if is_reset then stream_in answer ∷ [] else [])
resets_in n (Judges line ∷ earlier) = resets_in n earlier

-- the answers that were heard, in their order
abbrev pub heard_in : List Deed → List (Answer GrpcStatus)
heard_in [] = []
heard_in (Hears answer is_reset ∷ earlier) = heard_in earlier ++ answer ∷ []
heard_in (other ∷ earlier) = heard_in earlier

-- what a client is to ask on a stream: the head of the call that a line began there, then what the lines of that call ask
abbrev pub asked_in : Numbers → List Deed → ℕ → request.Asked
asked_in n deeds id = record {
  head = head_by (find (λ call. call.0 == id) (begun_in n deeds));
  items = map half (map (λ x. x.1) (filter (λ x. x.0 == id) (taken_in n deeds)));
}

-- ---- which deeds there are

-- a line that begins no call goes to the stream of the one that it names
abbrev pub IsOwn : LineAsk → ℕ → Option CallView → Type 0
IsOwn (asks.Send request) stream c = IfSome c (λ x. x.stream ≡ stream)
IsOwn asks.Finish stream c = IfSome c (λ x. x.stream ≡ stream)
IsOwn asks.Reset stream c = IfSome c (λ x. x.stream ≡ stream)
IsOwn other stream c = Unit {0}

-- Lines go to their own calls, and a call is reset for an answer only where that is refused.
abbrev pub AreOwn : Numbers → List Deed → Type 0
AreOwn n [] = Unit {0}
AreOwn n (Sends line stream ∷ earlier) =
    IsOwn (ask_of n (calls_in n earlier) line) stream (call_of line (calls_in n earlier)) × AreOwn n earlier
AreOwn n (Hears answer is_reset ∷ earlier) = (is_reset ≡ true → is_refused n answer (calls_in n earlier) ≡ true) × AreOwn n earlier
AreOwn n (Judges line ∷ earlier) = AreOwn n earlier
