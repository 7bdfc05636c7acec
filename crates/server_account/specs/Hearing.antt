-- What the next event of a server's calls is, beside what was done for its clients.
use Rattle.std.specs.Prelude.{◌≡◌, ℕ, false, true, List}
use Rattle.grpc_heads.specs.CallEnd.{CallEnd}
use Rattle.grpc_heads.specs.declared.head.Method.{Method}
use Rattle.h2_exchange.specs.Calls as call
use Rattle.h2_exchange.specs.Calls.{Call, is_in_place, stream_in}
use Rattle.h2_exchange.specs.Exchange.{sent}
use Rattle.h2_exchange.specs.StreamParts.{Finish}
use Rattle.h2_exchange.specs.Streams.{is_ended_by}
use Rattle.grpc_stream.specs.declared.event.CallEvent.{CallEvent}
use Rattle.grpc_stream.specs.declared.event.CallEvent.TheVariants as says
use Rattle.grpc_stream.specs.CallTrace.{CallTrace, is_ended}
use Rattle.table_model.specs.Event.{Event}
use Rattle.call_answers.specs.declared.orders.Setting.{Setting}
use Rattle.call_orders.specs.Calls.{Action}
use Rattle.call_orders.specs.Actions.{calls_in}
use Rattle.session_engine.specs.Queries.{OpenCallsView}
use Rattle.session_engine.specs.Stands.{IsDropOf}
use Rattle.server_turns.specs.Serving.{is_want_of_memory, refused_in}
use Rattle.server_account.specs.Agreeing.{AreHandled, none_left, told_more}

-- what a client did that an event shows: a drop shows a call that is declined too
abbrev pub Shows : CallEvent → Call Method CallEnd → Type 0
Shows (says.Begun stream method) c = c ≡ call.Begun stream method
Shows (says.Request stream message) c = c ≡ call.Request stream message
Shows (says.Finished stream) c = c ≡ call.Finished stream
Shows (says.Dropped stream) c = IsDropOf stream c
Shows other c = ⊥

-- What is declined without being shown was handled behind these actions, which ended no call for want of memory, and what the event
-- shows is the next that a client did.
pub record ComesNext (s : Setting) (u : CallTrace) (event : CallEvent) (calls : OpenCallsView) (actions : List Action) (own : List Event) : Type 0 where
  pub before : CallTrace
  pub earlier : List Action
  pub handled : AreHandled s before calls earlier own none_left
  pub count : refused_in s earlier ≡ refused_in s actions
  pub client_call : Call Method CallEnd
  pub told : u ≡ told_more before client_call
  pub shows : Shows event client_call
  pub place : is_in_place (calls_in earlier) client_call ≡ true
  -- no call is declined for want of memory
  pub declined : (id : ℕ) (answer : CallEnd) → client_call ≡ call.Declined id answer → is_want_of_memory (Finish answer) ≡ false
  -- no frame ends a stream for which no end was taken before
  pub unclosed : is_ended before (stream_in client_call) ≡ false → is_ended_by (sent u.connection_trace.frames) (stream_in client_call) ≡ false
