-- What a part of a turn comes to.
use Rattle.std.specs.Prelude.{◌≡◌, ◌⊎◌, ◌↔◌, ℕ, ◌+◌, ◌-◌, ◌^◌, ◌<◌, ◌≤◌, min, Bool, true, false, length, map, List, [], ◌∷◌, ◌++◌, Option, Some, None, Result, Ok, Err}
use Rattle.std.specs.List.{flat_map, list_any}
use Rattle.std.specs.Option.{option_map}
use Rattle.rig_io.specs.Fault.{HasRisen}
use Rattle.rig_io.specs.Link.{Piece, received, sent, sent_bytes}
use Rattle.h2_frames.specs.declared.frame.Frame.{Frame}
use Rattle.grpc_heads.specs.CallEnd.{CallEnd}
use Rattle.h2_exchange.specs.Exchange as exchange
use Rattle.h2_exchange.specs.StreamParts.{Item}
use Rattle.h2_exchange.specs.Sending.{IsPrefix}
use Rattle.http_connection.specs.ConnectionTrace.{dropped_more, held, is_alive, wrote}
use Rattle.http_connection.specs.Sends.{CarryCredit}
use Rattle.grpc_stream.specs.declared.event.CallEvent.{CallEvent}
use Rattle.grpc_stream.specs.CallTrace.{CallTrace, Carries, begins_on, changed, waiting_in}
use Rattle.grpc_stream.specs.Sends.{Pumps}
use Rattle.table_lock.specs.Passes.{PassView}
use Rattle.table_model.specs.declared.command.Command.{Command}
use Rattle.table_model.specs.declared.command.Config.{Config}
use Rattle.table_model.specs.declared.reply.Reply.{Reply}
use Rattle.table_model.specs.Event.{Event}
use Rattle.call_answers.specs.declared.orders.Setting.{Setting}
use Rattle.call_orders.specs.Calls.{Action, Collects, standing, stream_of}
use Rattle.call_orders.specs.Orders.{HasStopped, IsRunning}
use Rattle.call_orders.specs.Owed.{has_end}
use Rattle.session_engine.specs.declared.step.Step.{Step}
use Rattle.session_engine.specs.Stands.{items_in}
use Rattle.session_engine.specs.declared.open_calls.OpenCall.{OpenCall}
use Rattle.session_engine.specs.Queries.{is_asking}
use Rattle.session_engine.specs.Queries.{OpenCallsView, call_on, is_responding, session_in}
use Rattle.server_turns.specs.Making.{Makes}
use Rattle.server_turns.specs.declared.outcome.Outcome.TheVariants as over
use Rattle.server_turns.specs.Past.{Past, collects, is_progress, leaves_some}
use Rattle.server_turns.specs.Serving.{Account, EndsWhole, NoneOpen}
use Rattle.server_turns.specs.Turning.{Counts, written}
use Rattle.server_account.specs.Agreeing.{AreBrought, IsServer, IsSettled, IsTold, left_on}
use Rattle.server_account.specs.Hearing.{ComesNext}
use Rattle.server_conn.specs.declared.conn.Cause.{Cause}
use Rattle.server_conn.specs.declared.hearing.Heard.{Heard}
use Rattle.server_conn.specs.declared.hearing.Heard.TheVariants as heard
use Rattle.server_conn.specs.declared.conn.Cause.TheVariants.{Ends}
use Rattle.server_conn.specs.Standing.{AreCounted, EndsBy, NoneWaits, Works, is_spent_by, past_of}

-- much is written or waits
abbrev pub MUCH : ℕ
MUCH = 1048576

-- the piece that a read got, if it got any
abbrev pub got : List ℕ → List Piece
got [] = []
got (byte ∷ bytes) = received (byte ∷ bytes) ∷ []

abbrev pub has_items : List (Item CallEnd) → Bool
has_items [] = false
has_items (item ∷ items) = true

-- A call is as it was, over, or asked no more, and has begun no session.
abbrev pub IsNoMore : Option OpenCall → Option OpenCall → Type 0
IsNoMore was now =
    (is_asking now ≡ true → is_asking was ≡ true)
    × ((session : ℕ) (is_finished : Bool) → session_in now ≡ Some (session, is_finished) → session_in was ≡ Some (session, is_finished))

-- Reading or writing failed.
abbrev pub is_fault_by : Cause → Bool
is_fault_by (Ends over.ReadFault) = true
is_fault_by (Ends over.WriteFault) = true
is_fault_by other = false

abbrev pub IsFaultBy : {X : Type 0} → Result X Cause → Type 0
IsFaultBy (Err cause) = is_fault_by cause ≡ true
IsFaultBy (Ok x) = ⊥

-- The whole is received where the input has ended, and no call is open.
abbrev pub IsWholeIfEnded : Setting → Past → Account → Type 0
IsWholeIfEnded s past a = past.is_ended ≡ true → EndsWhole s past a × NoneOpen s past a

-- No frame and no header block is taken back.
pub record Grows (t u : CallTrace) : Type 0 where
  pub limits : u.connection_trace.limits ≡ t.connection_trace.limits
  pub heads : IsPrefix t.connection_trace.heads u.connection_trace.heads
  pub frames : IsPrefix t.connection_trace.frames u.connection_trace.frames

-- What windows allow was sent, and so many bytes wait.
pub record IsPumped (t : CallTrace) (waiting : ℕ) : Type 0 where
  pub before : CallTrace
  pub alive : is_alive before.connection_trace ≡ true
  pub pumps : Pumps before t
  pub waits : waiting ≡ min (waiting_in t) (2 ^ 64 - 1)

module _ {K : Type 0} (uses : K → CallTrace → Type 0) (output : K → List ℕ) where
  -- These pieces of the output were written and dropped.
  pub record Puts (before calls : K) (told now : Option (List Piece)) (texts : List (List ℕ)) : Type 0 where
    pub output_is : output before ≡ flat_map sent_bytes (map sent texts) ++ output calls
    pub carries : Carries (uses before) (uses calls) (changed (dropped_more (flat_map sent_bytes (map sent texts))))
    pub pieces : now ≡ option_map (λ pieces. pieces ++ map sent texts) told

-- Every Get was given its responses, or so many bytes are much.
abbrev pub IsEnough : OpenCallsView → ℕ → Type 0
IsEnough open_calls bytes = ((id : ℕ) → is_responding (call_on open_calls id) ≡ false) ⊎ (MUCH ≤ bytes)

module _ {K : Type 0} (uses : K → CallTrace → Type 0) (output : K → List ℕ) (s : Setting) where
  -- ---- hearing

  -- The calls told an event: it shows the next that a client did, and all before it is handled.
  pub record Hears (calls : K) (open_calls : OpenCallsView) (refused : ℕ) (event : CallEvent) (t : CallTrace) (actions : List Action)
      (pieces : List Piece) (own : List Event) : Type 0 where
    pub used : uses calls t
    pub alive : t.connection_trace.refusal ≡ None
    pub server : IsServer s t (output calls)
    pub told : IsTold t pieces
    pub next : ComesNext s t event open_calls actions own
    pub count : AreCounted s actions refused

  -- The engine did one more action for a call, and its step is to be given: its items are left to be taken for the stream. The ends for
  -- want of memory are counted but for its own.
  pub record Owes (calls : K) (open_calls : OpenCallsView) (refused : ℕ) (stream : ℕ) (step : Step) (t : CallTrace) (actions : List Action)
      (pieces : List Piece) (own : List Event) : Type 0 where
    pub used : uses calls t
    pub alive : t.connection_trace.refusal ≡ None
    pub server : IsServer s t (output calls)
    pub told : IsTold t pieces
    pub brought : AreBrought s t open_calls actions own (left_on stream (items_in step))
    pub begun : list_any (begins_on stream) t.reported ≡ true
    pub action : Action
    pub earlier : List Action
    pub actions_are : actions ≡ action ∷ earlier
    -- results are collected where all that was told is handled
    pub rest : List ℕ
    pub settled : (id : ℕ) (did : List Event) (cut : Option ℕ) → action ≡ Collects id did cut → IsSettled t rest
    pub on : stream_of action ≡ stream
    pub going : (standing s actions stream).items ≡ (standing s earlier stream).items ++ items_in step
    pub unended : has_end (standing s earlier stream).items ≡ false ⊎ (items_in step ≡ [])
    pub running : step.halted ≡ false → IsRunning actions
    pub stopped : step.halted ≡ true → HasStopped actions
    pub count : AreCounted s earlier refused

  -- ---- responding

  -- Gets were given responses, and then what windows allow was sent.
  pub record RespondsSome (calls : K) (before open_calls : OpenCallsView) (refused waiting : ℕ) (t : CallTrace) (pieces : List Piece)
      (own : List Event) (rest : List ℕ) : Type 0 where
    pub trace : CallTrace
    pub actions : List Action
    pub works : Works uses output s calls open_calls refused trace actions pieces own
    pub settled : IsSettled trace rest
    pub grows : Grows t trace
    pub pumped : IsPumped trace waiting
    pub received : exchange.received trace.connection_trace.frames ≡ exchange.received t.connection_trace.frames
    pub fewer : (id : ℕ) → IsNoMore (call_on before id) (call_on open_calls id)

  -- Gets were given their responses until much waits or is written, or none is left, and then what windows allow was sent.
  pub record Responds (calls : K) (before open_calls : OpenCallsView) (refused waiting : ℕ) (t : CallTrace) (pieces : List Piece)
      (own : List Event) (rest : List ℕ) : Type 0 where
    pub trace : CallTrace
    pub actions : List Action
    pub works : Works uses output s calls open_calls refused trace actions pieces own
    pub settled : IsSettled trace rest
    pub grows : Grows t trace
    pub pumped : IsPumped trace waiting
    pub received : exchange.received trace.connection_trace.frames ≡ exchange.received t.connection_trace.frames
    pub enough : ((id : ℕ) → is_responding (call_on open_calls id) ≡ false) ⊎ (MUCH ≤ waiting + length (output calls))
    pub fewer : (id : ℕ) → IsNoMore (call_on before id) (call_on open_calls id)

  -- ---- holding

  -- Credit is held where so much waits, and else what is owed was sent.
  pub record Holds (calls : K) (open_calls : OpenCallsView) (refused : ℕ) (hold : Bool) (t : CallTrace) (actions : List Action)
      (pieces : List Piece) (own : List Event) (rest : List ℕ) : Type 0 where
    pub credit : List Frame
    pub carried : CarryCredit hold t.connection_trace credit
    pub works : Works uses output s calls open_calls refused (changed (λ c. held hold (wrote credit [] c)) t) actions pieces own
    pub settled : IsSettled (changed (λ c. held hold (wrote credit [] c)) t) rest

  -- ---- writing

  -- The output was written until nothing waits or the link takes no more: these bytes, in these pieces.
  pub record Writes (before calls : K) (open_calls : OpenCallsView) (refused : ℕ) (t : CallTrace) (actions : List Action) (pieces put : List Piece)
      (own : List Event) (rest : List ℕ) (has_moved : Bool) (writes_before writes_now : ℕ) : Type 0 where
    pub bytes : List ℕ
    pub sent : flat_map sent_bytes put ≡ bytes
    pub size : written put ≡ length bytes
    pub output_is : output before ≡ bytes ++ output calls
    pub works : Works uses output s calls open_calls refused (changed (dropped_more bytes) t) actions (pieces ++ put) own
    pub settled : IsSettled (changed (dropped_more bytes) t) rest
    pub moved : has_moved ≡ true ↔ 0 < length bytes
    pub until : (output calls ≡ []) ⊎ HasRisen writes_before writes_now

  -- ---- reading

  -- A piece was read and fed, or the end was given, or nothing: because nothing was there, the input has ended, or much is written.
  pub record Reads (before calls : K) (open_calls : OpenCallsView) (refused : ℕ) (t : CallTrace) (actions : List Action) (pieces : List Piece)
      (own : List Event) (bytes : List ℕ) (was_ended is_ended has_moved : Bool) (from to : Counts) : Type 0 where
    pub trace : CallTrace
    pub works : Works uses output s calls open_calls refused trace actions (pieces ++ got bytes) own
    pub same : bytes ≡ [] → (trace ≡ t) × (calls ≡ before)
    pub grows : Grows t trace
    pub moved : has_moved ≡ true ↔ ((0 < length bytes) ⊎ ((was_ended ≡ false) × (is_ended ≡ true)))
    pub why : (0 < length bytes) ⊎ (is_ended ≡ true) ⊎ HasRisen from.reads to.reads ⊎ (MUCH ≤ length (output before))

-- Each session is collected once where that must be. Behind it some session may wait unless `is_left` is false.
pub record CollectsDue (must is_left : Bool) (before open_calls : OpenCallsView) (own did : List Event) : Type 0 where
  pub all : must ≡ true → (id session : ℕ) (is_finished : Bool) → session_in (call_on before id) ≡ Some (session, is_finished) →
      list_any (collects session) did ≡ true
  -- a session whose client has ended its side stays where results are outstanding
  pub stays : must ≡ true → (id session : ℕ) → session_in (call_on open_calls id) ≡ Some (session, true) → list_any leaves_some did ≡ true
  pub idle : (must ≡ false → NoneWaits before own) → is_left ≡ false → NoneWaits open_calls (own ++ did)

-- ---- with entries in the history

module _ {K : Type 0} (uses : K → CallTrace → Type 0) (output : K → List ℕ) (s : Setting) (config : Config) where
  -- From this trace on it made these entries, and all that was told of the clients is handled again.
  pub record GoesTo (p q : PassView Command Reply Config) (calls : K) (open_calls : OpenCallsView) (refused : ℕ) (t : CallTrace)
      (pieces : List Piece) (own : List Event) : Type 0 where
    pub trace : CallTrace
    pub grows : Grows t trace
    pub actions : List Action
    pub did : List Event
    pub made : Makes config false p q did
    pub works : Works uses output s calls open_calls refused trace actions pieces (own ++ did)

  -- It made these entries, and the turn is the last.
  pub record StopsBy (p q : PassView Command Reply Config) (calls : K) (open_calls : OpenCallsView) (refused : ℕ) (t : CallTrace) (pieces : List Piece)
      (own : List Event) (is_ended : Bool) (cause : Cause) : Type 0 where
    pub did : List Event
    pub made : Makes config (is_spent_by cause) p q did
    pub ends : EndsBy s t (output calls) open_calls refused (past_of pieces (own ++ did) is_ended) cause

  -- every whole frame was received, and all that was told is handled
  pub record HearsAll (p q : PassView Command Reply Config) (calls : K) (open_calls : OpenCallsView) (refused : ℕ) (t : CallTrace)
      (pieces : List Piece) (own : List Event) : Type 0 where
    pub goes : GoesTo p q calls open_calls refused t pieces own
    pub rest : List ℕ
    pub settled : IsSettled goes.trace rest

  -- an event was handled, or all were
  abbrev pub IsHeard : PassView Command Reply Config → PassView Command Reply Config → K → OpenCallsView → ℕ → CallTrace → List Piece → List Event
      → Heard → Type 0
  IsHeard p q calls open_calls refused t pieces own heard.Event = GoesTo p q calls open_calls refused t pieces own
  IsHeard p q calls open_calls refused t pieces own heard.All = HearsAll p q calls open_calls refused t pieces own

  -- ---- collecting

  -- Sessions were collected, and what came of it was given.
  pub record CollectsAll (p q : PassView Command Reply Config) (calls : K) (before open_calls : OpenCallsView) (refused : ℕ) (t : CallTrace)
      (pieces : List Piece) (own : List Event) (has_moved : Bool) : Type 0 where
    pub goes : GoesTo p q calls open_calls refused t pieces own
    pub connection : goes.trace.connection_trace ≡ t.connection_trace
    pub reported : goes.trace.reported ≡ t.reported
    pub moved : has_moved ≡ list_any is_progress goes.did
    -- no call begins, and none is asked more
    pub fewer : (id : ℕ) → IsNoMore (call_on before id) (call_on open_calls id)
