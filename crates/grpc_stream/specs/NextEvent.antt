-- What is told next of the calls of a connection.
use Rattle.std.specs.Prelude.{◌≡◌, ℕ, ◌⊎◌, Bool, true, false, map, List, [], ◌∷◌, ◌++◌, Some, None, if◌then◌else◌}
use Rattle.std.specs.List.{flat_map}
use Rattle.grpc_heads.specs.declared.head.Method.{Method}
use Rattle.h2_exchange.specs.Calls as call
use Rattle.h2_exchange.specs.Calls.{Call, shown_of}
use Rattle.h2_exchange.specs.Events.{Event}
use Rattle.h2_exchange.specs.Exchange.{collect}
use Rattle.h2_exchange.specs.StreamParts.{Item, Finish}
use Rattle.h2_exchange.specs.Stops.{Stop, Error, Calm}
use Rattle.http_connection.specs.ConnectionTrace.{ConnectionTrace, IsSound, Refusal, Stopped, NoMemory}
use Rattle.http_connection.specs.Answers as conn
use Rattle.grpc_stream.specs.declared.event.CallEvent.{CallEvent}
use Rattle.grpc_stream.specs.declared.event.CallEvent.TheVariants as says
use Rattle.grpc_heads.specs.CallEnd.{CallEnd}
use Rattle.grpc_stream.specs.CallTrace.{CallTrace, PeerEvent, Asked, Answered, reported_in, is_ended}

-- ---- what is shown

-- a call, where it is one
abbrev pub asked_of : PeerEvent → List (Call Method CallEnd)
asked_of (Asked c) = c ∷ []
asked_of (Answered a) = []

-- a refusal is shown as a drop where the call had begun, and else not at all
abbrev pub shown_events_of : List PeerEvent → PeerEvent → List PeerEvent
shown_events_of past (Asked c) = map Asked (shown_of (flat_map asked_of past) c)
shown_events_of past (Answered a) = Answered a ∷ []

-- none of these is shown
abbrev pub AreHidden : List PeerEvent → List PeerEvent → Type 0
AreHidden past reported = collect shown_events_of past reported ≡ []

abbrev pub IsShownAs : PeerEvent → CallEvent → Type 0
IsShownAs (Asked (call.Begun id method)) (says.Begun stream m) = (stream ≡ id) × (m ≡ method)
IsShownAs (Asked (call.Request id message)) (says.Request stream bytes) = (stream ≡ id) × (bytes ≡ message)
IsShownAs (Asked (call.Finished id)) (says.Finished stream) = stream ≡ id
IsShownAs (Asked (call.Dropped id)) (says.Dropped stream) = stream ≡ id
IsShownAs (Answered (call.Answered id message)) (says.Answered stream bytes) = (stream ≡ id) × (bytes ≡ message)
IsShownAs (Answered (call.Closed id status)) (says.Closed stream s) = (stream ≡ id) × (s ≡ status)
IsShownAs (Answered (call.Broken id)) (says.Dropped stream) = stream ≡ id
IsShownAs reported other = ⊥

-- ---- how calls go on

-- a refusal is answered by its end, unless the call has an end
abbrev pub answer_to : CallTrace → PeerEvent → List (ℕ × Item CallEnd)
answer_to t (Asked (call.Declined id answer)) = if is_ended t id then [] else (id, Finish answer) ∷ []
answer_to t other = []

-- what was told, one after another, with what answers it
pub data AppendsPeerEvents : CallTrace → List PeerEvent → CallTrace → Type 0 where
  none : (t : CallTrace) → AppendsPeerEvents t [] t
  one : (t u : CallTrace) (reported : PeerEvent) (more : List PeerEvent) →
      AppendsPeerEvents (record t { reported = t.reported ++ reported ∷ []; taken = t.taken ++ answer_to t reported }) more u →
      AppendsPeerEvents t (reported ∷ more) u

-- The connection gave events, one after another, and was sound behind each. The frames that it sends by that are all that is sent.
pub data GoesOn : ConnectionTrace → ConnectionTrace → Type 0 where
  stays : (c : ConnectionTrace) → GoesOn c c
  goes : (c d e : ConnectionTrace) (es : List Event) (output : List ℕ) → conn.GivesEvents c es d → IsSound d output → GoesOn d e → GoesOn c e

-- the connection went on to this course, and so much was told
pub record ReportsPeerEvents (t : CallTrace) (reported : List PeerEvent) (c : ConnectionTrace) (u : CallTrace) : Type 0 where
  pub alive : t.connection_trace.refusal ≡ None
  pub goes_on : GoesOn t.connection_trace c
  pub takes : AppendsPeerEvents (record t { connection_trace = u.connection_trace }) reported u

-- the next that is shown
pub record GivesCallEvent (t : CallTrace) (event : CallEvent) (u : CallTrace) : Type 0 where
  pub hidden : List PeerEvent
  pub last : PeerEvent
  pub shown : PeerEvent
  pub quiet : AreHidden t.reported hidden
  pub visible : shown_events_of (t.reported ++ hidden) last ≡ shown ∷ []
  pub tells : ReportsPeerEvents t (hidden ++ last ∷ []) u.connection_trace u
  pub event_is : IsShownAs shown event

-- every whole frame was received, and all was told
pub record NeedsMore (t u : CallTrace) : Type 0 where
  pub before : ConnectionTrace
  pub hidden : List PeerEvent
  pub quiet : AreHidden t.reported hidden
  pub tells : ReportsPeerEvents t hidden before u
  pub reported : u.reported ≡ reported_in u
  pub waits : conn.NeedsMore before u.connection_trace

-- all was told before the connection refused
pub record Stops (t : CallTrace) (stop : Stop) (u : CallTrace) : Type 0 where
  pub before : ConnectionTrace
  pub hidden : List PeerEvent
  pub quiet : AreHidden t.reported hidden
  pub tells : ReportsPeerEvents t hidden before u
  pub reported : u.reported ≡ reported_in u
  pub stops : conn.Stops before stop u.connection_trace

-- the connection or the calls had no memory
pub record RunsOutOfMemory (t u : CallTrace) : Type 0 where
  pub before : ConnectionTrace
  pub hidden : List PeerEvent
  pub quiet : AreHidden t.reported hidden
  pub tells : ReportsPeerEvents t hidden before u
  pub out : conn.RunsOutOfMemory before u.connection_trace ⊎ (u.connection_trace ≡ record before { refusal = Some NoMemory })

-- the refusal that was given before
abbrev pub RepeatsRefusal : CallTrace → Refusal → CallTrace → Type 0
RepeatsRefusal t why u = (t.connection_trace.refusal ≡ Some why) × (u ≡ t)

-- What is told next leads from one talk to the other. After a refusal it is the same one, and nothing changes.
abbrev pub NextEvent : CallTrace → CallEvent → CallTrace → Type 0
NextEvent t says.NeedMore u = NeedsMore t u
NextEvent t (says.Refused why place) u = RepeatsRefusal t (Stopped (Error why place)) u ⊎ Stops t (Error why place) u
NextEvent t (says.Calm cause) u = RepeatsRefusal t (Stopped (Calm cause)) u ⊎ Stops t (Calm cause) u
NextEvent t says.NoMemory u = RepeatsRefusal t NoMemory u ⊎ RunsOutOfMemory t u
NextEvent t event u = GivesCallEvent t event u

abbrev pub is_event : CallEvent → Bool
is_event says.NeedMore = false
is_event (says.Refused why place) = false
is_event (says.Calm cause) = false
is_event says.NoMemory = false
is_event other = true
