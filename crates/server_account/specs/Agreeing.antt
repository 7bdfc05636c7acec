-- How the parts of a server's connection agree with an account of it: the calls, by what they were used for; the calls that the engine
-- has open; the bytes of the link; and the entries that the connection made.
use Rattle.std.specs.Prelude.{◌≡◌, ◌⊎◌, ℕ, ◌==◌, false, true, map, List, [], ◌∷◌, ◌++◌, Some, None, if◌then◌else◌}
use Rattle.grpc_heads.specs.CallEnd.{CallEnd}
use Rattle.grpc_heads.specs.declared.head.Method.{Method}
use Rattle.h2_frames.specs.Stream.{Frames}
use Rattle.h2_exchange.specs.declared.role.Role.TheVariants.{Server}
use Rattle.h2_exchange.specs.Calls.{Call}
use Rattle.h2_exchange.specs.Exchange.{Step, received, sent}
use Rattle.h2_exchange.specs.Order.{AreFrames, InOrder, Piece, peer_preface, received_bytes, sent_bytes}
use Rattle.h2_exchange.specs.Outgoing.{BeginsFirst}
use Rattle.h2_exchange.specs.StreamParts.{Item, Finish}
use Rattle.h2_exchange.specs.Stops.{Stop}
use Rattle.h2_exchange.specs.Streams.{is_ended_by, is_reset}
use Rattle.http_connection.specs.ConnectionTrace.{ConnectionTrace, Stopped, stop_in}
use Rattle.http_connection.specs.Laws.{SendsIn}
use Rattle.grpc_stream.specs.CallTrace.{CallTrace, IsSoundCallTrace, Asked, queued_on, reported_in}
use Rattle.grpc_stream.specs.Laws.{AreSuited}
use Rattle.grpc_stream.specs.NextEvent.{answer_to}
use Rattle.table_model.specs.Event.{Event}
use Rattle.call_answers.specs.declared.orders.Setting.{Setting}
use Rattle.call_orders.specs.Owed.{has_end}
use Rattle.call_orders.specs.Calls.{Action, standing}
use Rattle.call_orders.specs.Actions.{calls_in, events_in}
use Rattle.call_orders.specs.Orders.{IsRunning}
use Rattle.session_engine.specs.Laws.{AreOpen}
use Rattle.session_engine.specs.Queries.{OpenCallsView}
use Rattle.server_turns.specs.Serving.{Account, IsServerLimits, none_asked}

-- the account of a connection whose calls were used so: these bytes are no whole frame yet, and these wait to be written
abbrev pub account_of : CallTrace → List ℕ → List ℕ → List Action → Account
account_of t output rest actions = record {
  limits = t.connection_trace.limits;
  heads = t.connection_trace.heads;
  frames = t.connection_trace.frames;
  rest = rest;
  output = output;
  actions = actions;
}

-- These bytes may be the rest: where the connection was stopped, and not by its frames, they stand behind all of its whole frames.
abbrev pub MayBeRest : ConnectionTrace → List ℕ → Type 0
MayBeRest c rest = (stop : Stop) → c.refusal ≡ Some (Stopped stop) → stop_in c ≡ None → AreFrames (peer_preface c.role) c.fed (received c.frames) rest

-- The calls are those of a server with this setting, which sends what it may and nothing else.
pub record IsServer (s : Setting) (t : CallTrace) (output : List ℕ) : Type 0 where
  pub sound : IsSoundCallTrace t output
  pub role : t.connection_trace.role ≡ Server
  pub numbers : t.numbers ≡ s.numbering
  pub limits : IsServerLimits t.connection_trace.limits
  pub first : BeginsFirst Server t.connection_trace.limits t.connection_trace.frames
  pub sends : (rest : List ℕ) → MayBeRest t.connection_trace rest → SendsIn none_asked rest t.connection_trace
  pub suited : AreSuited t

-- The link told what the calls were fed, and what was dropped of their output, in an order that their frames may have.
pub record IsTold (t : CallTrace) (pieces : List Piece) : Type 0 where
  pub fed : t.connection_trace.fed ≡ received_bytes pieces
  pub dropped : t.connection_trace.dropped ≡ sent_bytes pieces
  pub order : InOrder Server pieces t.connection_trace.frames

-- ---- what was taken to be sent

-- A stream was reset before all that its call is owed was taken: the first items were, and behind them maybe the answer to its refusal.
pub record IsCutOff (t : CallTrace) (id : ℕ) (items : List (Item CallEnd)) : Type 0 where
  pub taken : List (Item CallEnd)
  pub missing : List (Item CallEnd)
  pub items_are : items ≡ taken ++ missing
  pub unended : has_end taken ≡ false
  pub queued : (queued_on t id ≡ taken) ⊎ ((answer : CallEnd) × (queued_on t id ≡ taken ++ Finish answer ∷ []))
  -- it was reset within these frames, and this side had not ended it
  pub early : List Step
  pub later : List Step
  pub frames_are : t.connection_trace.frames ≡ early ++ later
  pub reset : is_reset early id ≡ true
  pub unclosed : is_ended_by (sent early) id ≡ false

-- What was taken for a stream is what its call is owed, but for these last items; or the stream was reset before.
abbrev pub IsTaken : CallTrace → ℕ → List (Item CallEnd) → List (Item CallEnd) → Type 0
IsTaken t id items left = (queued_on t id ++ left ≡ items) ⊎ IsCutOff t id items

-- The answer to a refusal was taken behind what the call is owed, and its end is in no frame yet: what is declined isn't handled.
pub record IsAhead (t : CallTrace) (id : ℕ) (items : List (Item CallEnd)) : Type 0 where
  pub answer : CallEnd
  pub queued : queued_on t id ≡ items ++ Finish answer ∷ []
  pub unended : has_end items ≡ false
  pub unclosed : is_ended_by (sent t.connection_trace.frames) id ≡ false

-- nothing is left to be taken
abbrev pub none_left : ℕ → List (Item CallEnd)
none_left id = []

-- these items are left for one stream
abbrev pub left_on : ℕ → List (Item CallEnd) → ℕ → List (Item CallEnd)
left_on stream items id = if stream == id then items else []

-- one more of what a client did was told, and what answers it was taken
abbrev pub told_more : CallTrace → Call Method CallEnd → CallTrace
told_more t c = record t { reported = t.reported ++ Asked c ∷ []; taken = t.taken ++ answer_to t (Asked c) }

-- ---- what was done

-- Of all that was told of the clients something was done: the open calls stand as these actions leave them, which made these entries, and
-- what the calls are owed was taken, but for what is left of it on each stream.
pub record AreBrought (s : Setting) (t : CallTrace) (calls : OpenCallsView) (actions : List Action) (own : List Event) (left : ℕ
    → List (Item CallEnd)) : Type 0 where
  pub open_now : AreOpen s calls actions
  pub reported : t.reported ≡ map Asked (calls_in actions)
  pub did : own ≡ events_in actions
  pub taken : (id : ℕ) → IsTaken t id (standing s actions id).items (left id)

-- And it was handled: no command was answered Stopped.
pub record AreHandled (s : Setting) (t : CallTrace) (calls : OpenCallsView) (actions : List Action) (own : List Event) (left : ℕ
    → List (Item CallEnd)) : Type 0 where
  pub open_now : AreOpen s calls actions
  pub reported : t.reported ≡ map Asked (calls_in actions)
  pub did : own ≡ events_in actions
  pub running : IsRunning actions
  pub taken : (id : ℕ) → IsTaken t id (standing s actions id).items (left id)

-- Every whole frame was received, and all that was told of the clients was reported.
pub record IsSettled (t : CallTrace) (rest : List ℕ) : Type 0 where
  pub all : t.reported ≡ reported_in t
  pub alive : t.connection_trace.refusal ≡ None
  pub unstopped : stop_in t.connection_trace ≡ None
  pub whole : Frames (peer_preface Server) t.connection_trace.fed (received t.connection_trace.frames) rest

-- The parts of a connection agree with an account of it, but for what is left to be taken on each stream.
pub record Agrees (s : Setting) (t : CallTrace) (output : List ℕ) (calls : OpenCallsView) (actions : List Action) (pieces : List Piece)
    (own : List Event) (left : ℕ → List (Item CallEnd)) : Type 0 where
  pub server : IsServer s t output
  pub told : IsTold t pieces
  pub handled : AreHandled s t calls actions own left
