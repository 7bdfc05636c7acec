-- What the frames of calls spell, on all streams together.
use Rattle.std.specs.Prelude.{◌≡◌, ℕ, Bool, true, false, map, List, [], ◌++◌, None}
use Rattle.std.specs.List.{All}
use Rattle.grpc_heads.specs.declared.head.Method.{Method}
use Rattle.grpc_heads.specs.Written.{response_fields}
use Rattle.h2_frames.specs.declared.code.ErrorCode.{ErrorCode}
use Rattle.h2_exchange.specs.declared.limits.H2Limits.{H2Limits}
use Rattle.h2_exchange.specs.declared.role.Role.{Role}
use Rattle.h2_exchange.specs.declared.role.Role.TheVariants.{Client, Server}
use Rattle.h2_exchange.specs.Calls.{Call, shown}
use Rattle.h2_exchange.specs.Content.{Outcome}
use Rattle.h2_exchange.specs.Exchange.{Step, collect, received, sent}
use Rattle.h2_exchange.specs.Order.{AreFrames, peer_preface}
use Rattle.h2_exchange.specs.Stops.{Stop}
use Rattle.h2_exchange.specs.Outcomes.{AreEnough}
use Rattle.h2_exchange.specs.Outgoing.{SendsOnly}
use Rattle.h2_exchange.specs.Streams.{is_begun, is_ended_by, is_live, is_reset}
use Rattle.h2_exchange.specs.Requests.{RequestsBegin, RequestIs}
use Rattle.h2_exchange.specs.StreamParts.{AnswersBegin, AnswersAre}
use Rattle.h2_frames.specs.declared.frame.Frame.{Frame}
use Rattle.http_connection.specs.ConnectionTrace.{ConnectionTrace, IsSound, is_alive, stop_in, wrote}
use Rattle.http_connection.specs.Laws.{SendsIn}
use Rattle.http_connection.specs.Answers.{RunsOutOfMemory, Stops}
use Rattle.http_connection.specs.Sends.{CarryReset}
use Rattle.grpc_stream.specs.NextEvent.{shown_events_of}
use Rattle.grpc_stream.specs.Sends.{Pumps}
use Rattle.grpc_heads.specs.CallEnd.{CallEnd, call_end_of}
use Rattle.grpc_stream.specs.CallTrace.{CallTrace, Asked, IsSoundCallTrace, asked_on, is_ended, unsent_on, queued_on, suits, waiting_in}

-- each end that was taken is one of its side
abbrev pub AreSuited : CallTrace → Type 0
AreSuited t = (id : ℕ) → All (λ what. suits t.connection_trace.role what ≡ true) (queued_on t id)

-- a server's frames spell on each stream a first part of what it is owed
abbrev pub ServersAnswer : Type 0
ServersAnswer =
    (t : CallTrace) (output : List ℕ) → IsSoundCallTrace t output → AreSuited t → t.connection_trace.role ≡ Server →
    AnswersBegin response_fields (call_end_of t.numbers) t.connection_trace.frames (queued_on t)

-- a client's frames spell on each stream a first part of what it is to ask
abbrev pub ClientsAsk : Type 0
ClientsAsk =
    (t : CallTrace) (output : List ℕ) → IsSoundCallTrace t output → AreSuited t → t.connection_trace.role ≡ Client →
    RequestsBegin t.connection_trace.frames (asked_on t)

-- what is shown of a server's calls, one after another, is what is shown of all of them
abbrev pub ServersShow : Type 0
ServersShow = (cs : List (Call Method CallEnd)) → collect shown_events_of [] (map Asked cs) ≡ map Asked (shown cs)

-- On a stream of which no bytes wait, and whose end is sent if it was taken, a server's frames spell all that it is owed.
abbrev pub AllIsAnswered : Type 0
AllIsAnswered =
    (t : CallTrace) (output : List ℕ) → IsSoundCallTrace t output → AreSuited t → t.connection_trace.role ≡ Server →
    (id : ℕ) → unsent_on t id ≡ 0 → (is_ended t id ≡ true → is_ended_by (sent t.connection_trace.frames) id ≡ true) →
    AnswersAre response_fields (call_end_of t.numbers) t.connection_trace.frames id (queued_on t id)

-- and a client's all that it is to ask
abbrev pub AllIsAsked : Type 0
AllIsAsked =
    (t : CallTrace) (output : List ℕ) → IsSoundCallTrace t output → AreSuited t → t.connection_trace.role ≡ Client →
    (id : ℕ) → is_begun Client t.connection_trace.frames id ≡ true → unsent_on t id ≡ 0 →
    (is_ended t id ≡ true → is_ended_by (sent t.connection_trace.frames) id ≡ true) → RequestIs t.connection_trace.frames id (asked_on t id)

-- Where a pump leaves nothing waiting, a server's frames spell on each stream that no side reset all that it is owed.
abbrev pub PumpedIsAnswered : Type 0
PumpedIsAnswered =
    (t u : CallTrace) (output : List ℕ) → IsSoundCallTrace u output → AreSuited u → u.connection_trace.role ≡ Server →
    is_alive t.connection_trace ≡ true → Pumps t u → waiting_in u ≡ 0 → (id : ℕ) → is_reset u.connection_trace.frames id ≡ false →
    AnswersAre response_fields (call_end_of u.numbers) u.connection_trace.frames id (queued_on u id)

-- and a client's on each call that no side reset
abbrev pub PumpedIsAsked : Type 0
PumpedIsAsked =
    (t u : CallTrace) (output : List ℕ) → IsSoundCallTrace u output → AreSuited u → u.connection_trace.role ≡ Client →
    is_alive t.connection_trace ≡ true → Pumps t u → waiting_in u ≡ 0 → (id : ℕ) → is_begun Client u.connection_trace.frames id ≡ true →
    is_reset u.connection_trace.frames id ≡ false → RequestIs u.connection_trace.frames id (asked_on u id)

-- What becomes known of further header blocks takes nothing from what may be sent, where each block that was looked at has
-- its outcome.
abbrev pub SendingIsKept : Type 0
SendingIsKept =
    (role : Role) (limits : H2Limits) (heads more : List Outcome) (is_asked : List Step → ℕ → ErrorCode → Bool) (bytes rest : List ℕ) →
    (x : List Step) → AreEnough role limits heads x → SendsOnly role limits heads is_asked bytes rest x →
    SendsOnly role limits (heads ++ more) is_asked bytes rest x

-- what a pump sends may be sent
abbrev pub PumpsSend : Type 0
PumpsSend =
    (is_asked : List Step → ℕ → ErrorCode → Bool) (rest : List ℕ) (t u : CallTrace) (output : List ℕ) →
    IsSoundCallTrace u output → Pumps t u → SendsIn is_asked rest t.connection_trace → SendsIn is_asked rest u.connection_trace

-- and the reset of a live stream, where it is asked for
abbrev pub ResetsSend : Type 0
ResetsSend =
    (is_asked : List Step → ℕ → ErrorCode → Bool) (rest : List ℕ) (c : ConnectionTrace) (id : ℕ) (why : ErrorCode) (fs : List Frame)
    (output : List ℕ) → CarryReset id why fs → IsSound (wrote fs [] c) output → is_live c.role c.frames id ≡ true → is_asked c.frames id why ≡ true →
    SendsIn is_asked rest c → SendsIn is_asked rest (wrote fs [] c)

-- and the GOAWAY of a refusal, where what was sent before it may be, and this is what is left behind the received frames
abbrev pub GoawaysSend : Type 0
GoawaysSend =
    (is_asked : List Step → ℕ → ErrorCode → Bool) (rest : List ℕ) (c d : ConnectionTrace) (stop : Stop) (output : List ℕ) →
    IsSound d output → (refusal : Stops c stop d) →
    (stop_in refusal.at ≡ None → AreFrames (peer_preface refusal.at.role) refusal.at.fed (received refusal.at.frames) rest) →
    SendsIn is_asked rest refusal.at → SendsIn is_asked rest d

-- and what is sent before memory runs out
abbrev pub OutOfMemorySends : Type 0
OutOfMemorySends =
    (is_asked : List Step → ℕ → ErrorCode → Bool) (rest : List ℕ) (c d : ConnectionTrace) (output later : List ℕ) → IsSound c output → IsSound d later →
    RunsOutOfMemory c d → SendsIn is_asked rest c → SendsIn is_asked rest d
