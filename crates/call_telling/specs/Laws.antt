-- What holds of calls where their connection gives an event.
use Rattle.std.specs.Prelude.{◌≡◌, ℕ, Bool, true, false, List, [], ◌∷◌, ◌++◌, Some, None, Ok, filter, if◌then◌else◌}
use Rattle.grpc_framing.specs.CutterState.{CutterState}
use Rattle.grpc_framing.specs.NextMessage.{NextMessage}
use Rattle.grpc_framing.specs.declared.cutter.Cut.TheVariants as answer
use Rattle.grpc_heads.specs.CallEnd.{method_by, status_by}
use Rattle.grpc_heads.specs.Heads.{head_of}
use Rattle.grpc_heads.specs.Trailers.{status_in_trailers}
use Rattle.grpc_heads.specs.declared.head.Method.{Method}
use Rattle.h2_frames.specs.declared.code.ErrorCode.{ErrorCode}
use Rattle.hpack_tables.specs.declared.field.Field.{Field}
use Rattle.h2_exchange.specs.declared.role.Role.TheVariants.{Client, Server}
use Rattle.h2_exchange.specs.Blocks.{open_block}
use Rattle.h2_exchange.specs.Calls.{Begun, Closed, Dropped, Finished}
use Rattle.h2_exchange.specs.Events.{Event, Data, Ended, Head, Reset}
use Rattle.h2_exchange.specs.Exchange.{sent}
use Rattle.h2_exchange.specs.Outcomes.{AreEnough}
use Rattle.h2_exchange.specs.Streams.{is_live}
use Rattle.http_connection.specs.Answers.{GivesEvents}
use Rattle.http_connection.specs.ConnectionTrace.{ConnectionTrace, events_in}
use Rattle.grpc_stream.specs.CallTrace as trace
use Rattle.grpc_stream.specs.CallTrace.{CallTrace, Asked}
use Rattle.kept_calls.specs.declared.call.Receiving.TheVariants as was
use Rattle.kept_calls.specs.CallState.{CallState, began, call_on, stopped, with_piece}
use Rattle.kept_calls.specs.Table.{changed_on}
use Rattle.call_hearing.specs.declared.pending.Pending.TheVariants.{Nothing, Cut, End}
use Rattle.call_hearing.specs.Laws.{message_told}
use Rattle.call_standing.specs.Standing.{Holds, State, bare}
use Rattle.call_telling.specs.Giving.{IsNext, listens, told_more, took_in, untaken}

-- The frames that a connection receives and answers before it gives events change nothing of its calls: what holds of them holds behind those frames too.
abbrev pub ReceivedFramesKeepCalls : Type 0
ReceivedFramesKeepCalls =
    (s : State) (t : CallTrace) (es : List Event) (d : ConnectionTrace) →
    AreEnough t.connection_trace.role t.connection_trace.limits t.connection_trace.heads t.connection_trace.frames →
    open_block (sent t.connection_trace.frames) ≡ None →
    GivesEvents t.connection_trace es d → Holds s (bare t) → Holds s (bare (untaken t d))

-- the call that stands on its stream is open, and nothing is still to be told
pub record IsHeard (s : State) (c : CallState) : Type 0 where
  pub quiet : s.pending ≡ Nothing
  pub here : call_on c.stream s.calls ≡ Some c
  pub opened : c.receiving ≡ was.Open

-- DATA of an open call are kept, and are to be cut. At a server its end behind whole messages is told, and its reset as its drop. At a client the status of
-- its trailers is told, and nothing more is heard. A head that asks for a method begins a call, whose client's side may end with it.
pub record EventsAreTaken : Type 0 where
  pub fed : (s : State) (t : CallTrace) (c : CallState) (bytes : List ℕ) → IsHeard s c → IsNext t (Data c.stream bytes) → Holds s t →
      Holds (record s { calls = changed_on c.stream (with_piece bytes) s.calls; pending = Cut c.stream }) (took_in t (Data c.stream bytes) [] t.taken)
  pub finished : (s : State) (t : CallTrace) (c : CallState) → IsHeard s c → c.cutter.held ≡ [] → t.connection_trace.role ≡ Server →
      IsNext t (Ended c.stream) → Holds s t → Holds s (took_in t (Ended c.stream) (Asked (Finished c.stream) ∷ []) t.taken)
  pub dropped : (s : State) (t : CallTrace) (c : CallState) (why : ErrorCode) → IsHeard s c → t.connection_trace.role ≡ Server →
      IsNext t (Reset c.stream why) → Holds s t → Holds s (took_in t (Reset c.stream why) (Asked (Dropped c.stream) ∷ []) t.taken)
  pub closed : (s : State) (t : CallTrace) (c : CallState) (fields : List Field) → IsHeard s c → t.connection_trace.role ≡ Client →
      IsNext t (Head c.stream fields true) → Holds s t →
      Holds (record s { calls = changed_on c.stream stopped s.calls })
      (took_in t (Head c.stream fields true) (trace.Answered (Closed c.stream (status_by (status_in_trailers t.numbers fields))) ∷ []) t.taken)
  pub begun : (s : State) (t : CallTrace) (id : ℕ) (fields : List Field) (last : Bool) (method : Method) →
      s.pending ≡ Nothing → method_by (head_of fields) ≡ Ok method → t.connection_trace.role ≡ Server → IsNext t (Head id fields last) → Holds s t →
      Holds (record s { calls = s.calls ++ began id was.Open false ∷ []; pending = if last then End id else Nothing })
      (took_in t (Head id fields last) (Asked (Begun id method) ∷ []) t.taken)

-- Where the bytes of an open call are cut, each message is told and the others stay to be told; where none is left nothing is.
pub record CutsAreTold : Type 0 where
  pub message : (s : State) (t : CallTrace) (c : CallState) (m : List ℕ) (new : CutterState) →
      s.pending ≡ Cut c.stream → call_on c.stream s.calls ≡ Some c → c.receiving ≡ was.Open → NextMessage c.cutter (answer.Message m) new → Holds s t →
      Holds (record s { calls = changed_on c.stream (λ (x : CallState). record x { cutter = new }) s.calls })
      (told_more t (message_told t.connection_trace.role c.stream m ∷ []) t.taken)
  pub unheard : (s : State) (t : CallTrace) (id : ℕ) → s.pending ≡ Cut id → listens (call_on id s.calls) ≡ false → Holds s t →
      Holds (record s { pending = Nothing }) t

-- Where all events were given and told, calls whose streams do not live can be forgotten.
abbrev pub OverCallsAreForgotten : Type 0
OverCallsAreForgotten =
    (s : State) (t : CallTrace) → t.connection_trace.given ≡ events_in t.connection_trace → s.pending ≡ Nothing → Holds s t →
    Holds (record s { calls = filter (λ (c : CallState). is_live t.connection_trace.role t.connection_trace.frames c.stream) s.calls }) t
