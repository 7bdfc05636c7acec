-- What calls make of an event that their connection gave.
use Rattle.std.specs.Prelude.{◌≡◌, ℕ, Bool, true, false, List, [], ◌∷◌, ◌++◌, Option, Some, None}
use Rattle.grpc_heads.specs.CallEnd.{CallEnd}
use Rattle.h2_exchange.specs.Events.{Event}
use Rattle.h2_exchange.specs.StreamParts.{Item}
use Rattle.http_connection.specs.Answers.{GivesEvents}
use Rattle.http_connection.specs.ConnectionTrace.{ConnectionTrace, events_in}
use Rattle.grpc_stream.specs.CallTrace.{CallTrace, PeerEvent}
use Rattle.kept_calls.specs.declared.call.Receiving.{Receiving}
use Rattle.kept_calls.specs.declared.call.Receiving.TheVariants.{Open, Closed}
use Rattle.kept_calls.specs.CallState.{CallState}
use Rattle.call_hearing.specs.Laws.{ComesIn}
use Rattle.call_standing.specs.Standing.{Holds, State, bare}

-- the connection went on so, and what it gave is not taken in
abbrev pub untaken : CallTrace → ConnectionTrace → CallTrace
untaken t d = record t { connection_trace = record d { given = t.connection_trace.given } }

-- The connection gave an event, which the calls have not taken in: what holds of them holds behind the frames that it received and answered.
pub record HasGiven {C : Type 0} (stands : C → ConnectionTrace → Type 0) (conn : C) (s : State) (t : CallTrace) (e : Event) : Type 0 where
  pub at : ConnectionTrace
  pub connected : stands conn at
  pub gives : GivesEvents t.connection_trace (e ∷ []) at
  pub alive : t.connection_trace.refusal ≡ None
  pub holds : Holds s (bare (untaken t at))

abbrev pub is_listening : Receiving → Bool
is_listening Open = true
is_listening Closed = false

-- more is heard of the call on a stream
abbrev pub listens : Option CallState → Bool
listens None = false
listens (Some c) = is_listening c.receiving

-- the event was given, so much was told of it, and so much was taken by then
abbrev pub took_in : CallTrace → Event → List PeerEvent → List (ℕ × Item CallEnd) → CallTrace
took_in t e ps taken =
    record t { connection_trace = record t.connection_trace { given = t.connection_trace.given ++ e ∷ [] }; reported = t.reported ++ ps; taken = taken }

-- no event was given, so much more was told, and so much was taken by then
abbrev pub told_more : CallTrace → List PeerEvent → List (ℕ × Item CallEnd) → CallTrace
told_more t ps taken = record t { reported = t.reported ++ ps; taken = taken }

-- this event is the next one that comes
abbrev pub IsNext : CallTrace → Event → Type 0
IsNext t e =
    (later : List Event) × (events_in t.connection_trace ≡ (t.connection_trace.given ++ e ∷ []) ++ later)
    × ComesIn t.connection_trace.role t.connection_trace.given e
