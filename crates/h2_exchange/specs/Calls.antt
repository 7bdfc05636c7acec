-- The spelled calls of an exchange, from its events (gRPC over HTTP/2, "Requests" and "Responses").
use Rattle.std.specs.Prelude.{ℕ, ◌==◌, ◌&&◌, Bool, true, false, not, map, List, [], ◌∷◌, ◌++◌, length, drop, Result, Ok, Err, is_ok, if◌then◌else◌}
use Rattle.std.specs.List.{list_any}
use Rattle.grpc_framing.specs.declared.front.Front.{Front}
use Rattle.grpc_framing.specs.declared.front.Front.TheVariants.{Compressed, TooLong}
use Rattle.grpc_framing.specs.Framing.{Messages, messages_of}
use Rattle.hpack_tables.specs.declared.field.Field.{Field}
use Rattle.h2_exchange.specs.Events.{Event, Head, Data, Ended, Reset, GoneAway, bytes_on}
use Rattle.h2_exchange.specs.Exchange.{collect, some_step}

-- the messages of a stream's bytes, each of at most 4,194,304 bytes
abbrev pub cut : List ℕ → Messages
cut bytes = messages_of 4194304 bytes

-- the bytes of a stream are refused: a flag, a length, or an end inside a message
abbrev pub is_refused : Bool → Front → List ℕ → Bool
is_refused ended Compressed rest = true
is_refused ended TooLong rest = true
is_refused ended other [] = false
is_refused ended other (b ∷ rest) = ended

abbrev pub is_refused_cut : Bool → Messages → Bool
is_refused_cut ended m = is_refused ended m.ending m.rest

abbrev pub is_ended_on : ℕ → Event → Bool
is_ended_on id (Ended stream) = stream == id
is_ended_on id other = false

-- the messages that come with further bytes
abbrev pub further : List ℕ → List ℕ → List (List ℕ)
further old more = drop (length (cut old).messages) (cut (old ++ more)).messages

-- ---- what a client asks, as a server reads it

pub data Call (M E : Type 0) : Type 0 where
  Begun : (stream : ℕ) (method : M) → Call M E
  Request : (stream : ℕ) (message : List ℕ) → Call M E
  Finished : (stream : ℕ) → Call M E
  Dropped : (stream : ℕ) → Call M E
  Declined : (stream : ℕ) (answer : E) → Call M E

-- ---- what the layer above is shown

abbrev pub is_begun_call : {M E : Type 0} → ℕ → Call M E → Bool
is_begun_call id (Begun stream method) = stream == id
is_begun_call id other = false

-- A refusal is shown as a drop where the call had begun, and else not at all.
abbrev pub shown_of : {M E : Type 0} → List (Call M E) → Call M E → List (Call M E)
shown_of past (Declined id answer) = if list_any (is_begun_call id) past then Dropped id ∷ [] else []
shown_of past other = other ∷ []

abbrev pub shown : {M E : Type 0} → List (Call M E) → List (Call M E)
shown cs = collect shown_of [] cs

-- ---- the order of calls

abbrev pub stream_in : {M E : Type 0} → Call M E → ℕ
stream_in (Begun id method) = id
stream_in (Request id message) = id
stream_in (Finished id) = id
stream_in (Dropped id) = id
stream_in (Declined id answer) = id

-- the client ended its side of a call, or the call is over
abbrev pub ends_asking : {M E : Type 0} → ℕ → Call M E → Bool
ends_asking id (Begun stream method) = false
ends_asking id (Request stream message) = false
ends_asking id other = stream_in other == id

abbrev pub ends_call : {M E : Type 0} → ℕ → Call M E → Bool
ends_call id (Dropped stream) = stream == id
ends_call id (Declined stream answer) = stream == id
ends_call id other = false

-- A call begins first of all on its stream, its client asks until it ends its side, and behind its drop or refusal stands nothing.
abbrev pub is_in_place : {M E : Type 0} → List (Call M E) → Call M E → Bool
is_in_place past (Begun id method) = not (list_any (λ c. stream_in c == id) past)
is_in_place past (Request id message) = list_any (is_begun_call id) past && not (list_any (ends_asking id) past)
is_in_place past (Finished id) = list_any (is_begun_call id) past && not (list_any (ends_asking id) past)
is_in_place past (Dropped id) = list_any (is_begun_call id) past && not (list_any (ends_call id) past)
is_in_place past (Declined id answer) = not (list_any (ends_asking id) past)

abbrev pub are_in_place : {M E : Type 0} → List (Call M E) → Bool
are_in_place cs = not (some_step (λ past c. not (is_in_place past c)) [] cs)

-- ---- how events spell calls

-- What heads and framing decide: the method of a head or its refusal, and the refusals of a stream's bytes.
module _ {M E : Type 0} (method_of : List Field → Result M E) (compressed too_long truncated : E) where
  abbrev pub is_begun_on : ℕ → Event → Bool
  is_begun_on id (Head stream fields last) = stream == id && is_ok (method_of fields)
  is_begun_on id other = false

  -- the call began, and was not declined
  abbrev pub is_going : ℕ → List Event → Bool
  is_going id past = list_any (is_begun_on id) past && not (is_refused_cut (list_any (is_ended_on id) past) (cut (bytes_on id past)))

  abbrev pub head_calls : ℕ → Bool → Result M E → List (Call M E)
  head_calls id last (Err answer) = Declined id answer ∷ []
  head_calls id last (Ok method) = Begun id method ∷ (if last then Finished id ∷ [] else [])

  abbrev pub refusals : ℕ → Front → List (Call M E)
  refusals id Compressed = Declined id compressed ∷ []
  refusals id TooLong = Declined id too_long ∷ []
  refusals id other = []

  abbrev pub end_calls : ℕ → List ℕ → List (Call M E)
  end_calls id [] = Finished id ∷ []
  end_calls id (b ∷ rest) = Declined id truncated ∷ []

  -- what an event gives, in the light of those before it
  abbrev pub calls_of : List Event → Event → List (Call M E)
  calls_of past (Head id fields last) = head_calls id last (method_of fields)
  calls_of past (Data id bytes) =
      if is_going id past then map (Request id) (further (bytes_on id past) bytes) ++ refusals id (cut (bytes_on id past ++ bytes)).ending else []
  calls_of past (Ended id) = if is_going id past then end_calls id (cut (bytes_on id past)).rest else []
  calls_of past (Reset id why) = if is_going id past then Dropped id ∷ [] else []
  calls_of past (GoneAway id why) = []

  -- the calls that events spell, each at the event that completes it
  abbrev pub calls : List Event → List (Call M E)
  calls es = collect calls_of [] es

-- ---- what a server answers, as a client reads it

pub data Answer (E : Type 0) : Type 0 where
  Answered : (stream : ℕ) (message : List ℕ) → Answer E
  Closed : (stream : ℕ) (status : E) → Answer E
  -- a message is refused: the call is over, and its client resets it
  Broken : (stream : ℕ) → Answer E

-- The status that trailers say, and the one of a call that ends without.
module _ {E : Type 0} (status_of : List Field → E) (unknown : E) where
  abbrev ends_on : ℕ → Event → Bool
  ends_on id (Head stream fields last) = last && stream == id
  ends_on id (Ended stream) = stream == id
  ends_on id (Reset stream why) = stream == id
  ends_on id other = false

  -- the call has not ended, and no message was refused
  abbrev pub is_answering : ℕ → List Event → Bool
  is_answering id past = not (list_any (ends_on id) past) && not (is_refused_cut false (cut (bytes_on id past)))

  abbrev pub closes : ℕ → Front → List (Answer E)
  closes id Compressed = Broken id ∷ []
  closes id TooLong = Broken id ∷ []
  closes id other = []

  -- what an event gives that ends the call
  abbrev pub ending_answers : Event → List (Answer E)
  ending_answers (Head id fields last) = if last then Closed id (status_of fields) ∷ [] else []
  ending_answers (Ended id) = Closed id unknown ∷ []
  ending_answers (Reset id why) = Closed id unknown ∷ []
  ending_answers other = []

  abbrev pub stream_at : Event → ℕ
  stream_at (Head id fields last) = id
  stream_at (Data id bytes) = id
  stream_at (Ended id) = id
  stream_at (Reset id why) = id
  stream_at (GoneAway id why) = 0

  abbrev pub answers_with : List Event → Event → List (Answer E)
  answers_with past (Data id bytes) =
      map (Answered id) (further (bytes_on id past) bytes) ++ closes id (cut (bytes_on id past ++ bytes)).ending
  answers_with past other = ending_answers other

  -- what an event gives, in the light of those before it
  abbrev pub answers_of : List Event → Event → List (Answer E)
  answers_of past e = if is_answering (stream_at e) past then answers_with past e else []

  -- the answers that events spell, each at the event that completes it
  abbrev pub answers : List Event → List (Answer E)
  answers es = collect answers_of [] es
