-- How calls stand for what they were used for.
use Rattle.std.specs.Prelude.{◌≡◌, ◌⊎◌, ℕ, ◌-◌, ◌^◌, ◌≤◌, Bool, true, false, map, min, take, List, [], ◌∷◌, ◌++◌, length, Option, Some, None, if◌then◌else◌, not, ◌==◌}
use Rattle.std.specs.List.{Contains, list_any}
use Rattle.grpc_heads.specs.declared.head.Method.{Method}
use Rattle.h2_frames.specs.declared.frame.Frame.{Frame}
use Rattle.h2_frames.specs.declared.frame.Frame.TheVariants.{Content}
use Rattle.h2_frames.specs.declared.frame.FrameBody.{FrameBody}
use Rattle.h2_exchange.specs.declared.role.Role.{Role}
use Rattle.h2_exchange.specs.declared.role.Role.TheVariants.{Client, Server}
use Rattle.h2_exchange.specs.Calls.{is_ended_on}
use Rattle.h2_exchange.specs.Events.{Event, bytes_on}
use Rattle.h2_exchange.specs.Exchange.{Step, Sent, received}
use Rattle.h2_exchange.specs.Frames.{stream_of, is_rst_stream, has_padding}
use Rattle.h2_exchange.specs.Outgoing.{IsErrorReset}
use Rattle.h2_exchange.specs.Sending.{IsPrefix}
use Rattle.h2_exchange.specs.Streams.{begun, is_begun, is_open, is_over}
use Rattle.http_connection.specs.ConnectionTrace.{ConnectionTrace, IsSound, NoMemory, events_in, is_alive}
use Rattle.grpc_stream.specs.CallTrace.{CallTrace, CarriesCallOn, IsSoundCallTrace, PeerEvent, begins_on, is_told_of, queued_on, reported_by, reported_in, waiting_in}
use Rattle.call_standing.specs.declared.fate.Fate.{Fate}
use Rattle.call_standing.specs.declared.fate.Fate.TheVariants.{Going, Refused, Starved, Dead}
use Rattle.call_hearing.specs.declared.pending.Pending.{Pending}
use Rattle.schema_numbers.specs.Numbers.{Numbers}
use Rattle.kept_calls.specs.CallState.{CallState, call_on, ended}
use Rattle.call_hearing.specs.Listening.{Hears, has_event, heads_on, still_told, told_by}
use Rattle.call_sending.specs.Spelling.{AreSuited, Sends, Speaks, parts_on}

-- what contracts see of calls, beside their connection
pub record State : Type 0 where
  pub role : Role
  pub calls : List CallState
  pub pending : Pending

-- ---- each stream

pub record Stands (t : CallTrace) (pending : Pending) (c : CallState) : Type 0 where
  pub sends : Sends t c
  pub hears : Hears t.connection_trace.role t.connection_trace.given t.reported pending c c.receiving
  -- a call that more may be taken for was told
  pub told : ended c.ending ≡ false → is_told_of t.connection_trace.role t.reported c.stream ≡ true

-- no event of a stream is still to come
abbrev pub IsSilent : ConnectionTrace → ℕ → Type 0
IsSilent c id = (later : List Event) × (events_in c ≡ c.given ++ later) × (has_event later id ≡ false)

-- a stream that is over, of which nothing is kept
pub record IsGone (t : CallTrace) (id : ℕ) : Type 0 where
  pub begun : is_begun t.connection_trace.role t.connection_trace.frames id ≡ true
  pub over : is_over t.connection_trace.frames id ≡ true
  pub rest : List ℕ
  pub speaks : Speaks t id rest
  pub silent : IsSilent t.connection_trace id

-- no head of a stream was given
pub record IsUnheard (t : CallTrace) (id : ℕ) : Type 0 where
  pub no_head : list_any (heads_on id) t.connection_trace.given ≡ false
  pub no_bytes : bytes_on id t.connection_trace.given ≡ []
  pub no_end : list_any (is_ended_on id) t.connection_trace.given ≡ false
  pub untold : list_any (begins_on id) t.reported ≡ false
  pub nothing : queued_on t id ≡ []
  pub speaks : Speaks t id []
  pub ahead : is_open t.connection_trace.role t.connection_trace.frames id ≡ true → parts_on t id ≡ []

-- a stream was not begun
pub record IsUnbegun (t : CallTrace) (id : ℕ) : Type 0 where
  pub unbegun : is_begun Client t.connection_trace.frames id ≡ false
  pub no_event : has_event t.connection_trace.given id ≡ false
  pub speaks : Speaks t id []

-- nothing is kept of a stream: at a server no head of it was given, at a client it was not begun
abbrev pub IsUnkept : Role → CallTrace → ℕ → Type 0
IsUnkept Server t id = IsUnheard t id
IsUnkept Client t id = IsUnbegun t id

abbrev pub StandsOn : CallTrace → Pending → ℕ → Option CallState → Type 0
StandsOn t pending id None = IsUnkept t.connection_trace.role t id ⊎ IsGone t id
StandsOn t pending id (Some c) = (c.stream ≡ id) × (is_begun t.connection_trace.role t.connection_trace.frames id ≡ true) × Stands t pending c

-- ---- all

-- RST_STREAM is sent at a stream error, or where the reset of its stream was asked for
abbrev pub OnlyTheseReset : CallTrace → Type 0
OnlyTheseReset t =
    (past behind : List Step) (f : Frame) → t.connection_trace.frames ≡ past ++ Sent f ∷ behind → is_rst_stream f ≡ true →
    IsErrorReset t.connection_trace.role t.connection_trace.limits t.connection_trace.heads past f ⊎ Contains t.resets (stream_of f)

-- no DATA is padded
abbrev pub AreUnpadded : CallTrace → Type 0
AreUnpadded t = (past behind : List Step) (b : FrameBody) → t.connection_trace.frames ≡ past ++ Sent (Content b) ∷ behind → has_padding (Content b) ≡ false

-- a client's calls are the streams that it began
abbrev pub CallsAreBegun : CallTrace → Type 0
CallsAreBegun t = t.connection_trace.role ≡ Client → map (λ (call : ℕ × Method). call.0) t.begun ≡ begun Client t.connection_trace.frames

-- what holds of sound calls beside their connection
pub record IsRest (t : CallTrace) : Type 0 where
  pub reported : IsPrefix t.reported (reported_in t)
  pub only : OnlyTheseReset t
  pub spelled : (id : ℕ) → AreSuited t id → CarriesCallOn t.connection_trace.role t id
  pub unpadded : AreUnpadded t
  pub begun_first : (id : ℕ) → is_begun t.connection_trace.role t.connection_trace.frames id ≡ false → queued_on t id ≡ []
  pub calls : CallsAreBegun t

-- What was fed, dropped, held and refused is beside the point for calls.
abbrev pub bare : CallTrace → CallTrace
bare t = record t { connection_trace = record t.connection_trace { fed = []; dropped = []; is_holding = false; refusal = None } }

abbrev pub carried : (role : Role) (t : CallTrace) (id : ℕ) → CarriesCallOn role (bare t) id → CarriesCallOn role t id
carried Server t id h = record { messages = h.messages; rest = h.rest; end = h.end; spells = h.spells; front = h.front; begins = h.begins }
carried Client t id h = record { messages = h.messages; rest = h.rest; ended = h.ended; asks = h.asks; front = h.front }

abbrev pub told_so : (role : Role) (n : Numbers) (c : ConnectionTrace) (told : List PeerEvent) →
    IsPrefix told (reported_by role n (record c { fed = []; dropped = []; is_holding = false; refusal = None })) → IsPrefix told (reported_by role n c)
told_so Server n c told h = h
told_so Client n c told h = h

abbrev pub sound_with : (t : CallTrace) (output : List ℕ) → IsRest (bare t) → IsSound t.connection_trace output → IsSoundCallTrace t output
sound_with t output h sound = record {
  connection_trace = sound;
  reported = told_so t.connection_trace.role t.numbers t.connection_trace t.reported h.reported;
  only = h.only;
  spelled = λ id suited. carried t.connection_trace.role t id (h.spelled id suited);
  unpadded = h.unpadded;
  begun_first = h.begun_first;
  calls = h.calls;
}

-- an id stands in a list at most once
abbrev pub is_once : ℕ → List ℕ → Bool
is_once k [] = true
is_once k (id ∷ ids) = if id == k then not (list_any (λ i. i == k) ids) else is_once k ids

pub record Holds (s : State) (t : CallTrace) : Type 0 where
  pub role_is : t.connection_trace.role ≡ s.role
  pub told : told_by t.connection_trace.role t.numbers t.connection_trace.given ≡ t.reported ++ still_told t.connection_trace.role s.calls s.pending
  pub each : (id : ℕ) → StandsOn t s.pending id (call_on id s.calls)
  pub once : (id : ℕ) → is_once id (map (λ (c : CallState). c.stream) s.calls) ≡ true
  pub only : OnlyTheseReset t
  pub unpadded : AreUnpadded t
  pub calls : CallsAreBegun t

-- Where memory ran out, the connection went on unseen: it only sent.
pub record Hides (c hidden : ConnectionTrace) : Type 0 where
  pub role_is : hidden.role ≡ c.role
  pub fed_is : hidden.fed ≡ c.fed
  pub dropped_is : hidden.dropped ≡ c.dropped
  pub received_is : received hidden.frames ≡ received c.frames
  pub alive : hidden.refusal ≡ None

-- what is shown of an output
abbrev pub shown_by : Fate → List ℕ → List ℕ
shown_by Going bytes = bytes
shown_by Refused bytes = bytes
shown_by (Starved shown waiting) bytes = take shown bytes
shown_by (Dead shown) bytes = take shown bytes

-- so many bytes of it were dropped
abbrev pub shifted : ℕ → Fate → Fate
shifted n (Starved shown waiting) = Starved (shown - n) waiting
shifted n (Dead shown) = Dead (shown - n)
shifted n other = other

-- a connection, how it stands for its trace, and its output
module _ {C : Type 0} (stands : C → ConnectionTrace → Type 0) (output : C → List ℕ) where
  pub record IsGoing (conn : C) (s : State) (t : CallTrace) : Type 0 where
    pub connected : stands conn t.connection_trace
    pub alive : t.connection_trace.refusal ≡ None
    pub holds : Holds s (bare t)
    pub rest : IsRest (bare t)

  pub record IsRefused (conn : C) (t : CallTrace) : Type 0 where
    pub connected : stands conn t.connection_trace
    pub refused : is_alive t.connection_trace ≡ false
    pub rest : IsRest (bare t)

  pub record IsHiding (conn : C) (shown : ℕ) (t : CallTrace) : Type 0 where
    pub hidden : ConnectionTrace
    pub connected : stands conn hidden
    pub hides : Hides t.connection_trace hidden
    pub within : shown ≤ length (output conn)
    pub sound : IsSound t.connection_trace (take shown (output conn))
    pub rest : IsRest (bare t)

  abbrev pub StandsFor : Fate → C → State → CallTrace → Type 0
  StandsFor Going conn s t = IsGoing conn s t
  StandsFor Refused conn s t = IsRefused conn t
  StandsFor (Starved shown waiting) conn s t = IsHiding conn shown t × (t.connection_trace.refusal ≡ None) × (waiting ≡ min (waiting_in t) (2 ^ 64 - 1))
  StandsFor (Dead shown) conn s t = IsHiding conn shown t × (t.connection_trace.refusal ≡ Some NoMemory)

  abbrev pub sound_by : ((conn : C) (c : ConnectionTrace) → stands conn c → IsSound c (output conn)) →
      (fate : Fate) (conn : C) (s : State) (t : CallTrace) → StandsFor fate conn s t → IsSoundCallTrace t (shown_by fate (output conn))
  sound_by law Going conn s t h = sound_with t (output conn) h.rest (law conn t.connection_trace h.connected)
  sound_by law Refused conn s t h = sound_with t (output conn) h.rest (law conn t.connection_trace h.connected)
  sound_by law (Starved shown waiting) conn s t h = sound_with t (take shown (output conn)) h.0.rest h.0.sound
  sound_by law (Dead shown) conn s t h = sound_with t (take shown (output conn)) h.0.rest h.0.sound
