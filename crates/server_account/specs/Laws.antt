-- What follows where the parts of a connection agree with an account of it, and how the agreement goes on.
use Rattle.std.specs.Prelude.{◌≡◌, ◌⊎◌, ℕ, ◌≤◌, ◌<◌, Bool, false, true, map, length, List, [], ◌∷◌, ◌++◌, Some, None}
use Rattle.std.specs.List.{flat_map, list_any}
use Rattle.rig_io.specs.Link as link
use Rattle.grpc_heads.specs.CallEnd.{CallEnd}
use Rattle.grpc_heads.specs.declared.head.Method.{Method}
use Rattle.h2_frames.specs.declared.code.ErrorCode.{ErrorCode}
use Rattle.h2_frames.specs.declared.frame.Frame.{Frame}
use Rattle.h2_frames.specs.Layout.{frame_text}
use Rattle.h2_exchange.specs.declared.limits.H2Limits.{H2Limits}
use Rattle.h2_exchange.specs.Sending.{first_text}
use Rattle.h2_exchange.specs.declared.limits.CalmCause.{CalmCause}
use Rattle.h2_exchange.specs.declared.role.Role.TheVariants.{Server}
use Rattle.h2_exchange.specs.Calls.{Call, Begun, Dropped, Declined, is_in_place, stream_in}
use Rattle.h2_exchange.specs.Exchange.{Sent}
use Rattle.h2_exchange.specs.Order.{Piece, sent_bytes}
use Rattle.h2_exchange.specs.StreamParts.{Item}
use Rattle.h2_exchange.specs.Stops.{Stop, Calm, Error}
use Rattle.h2_exchange.specs.Streams.{is_live, is_reset}
use Rattle.h2_exchange.specs.Windows.{may_send}
use Rattle.http_connection.specs.ConnectionTrace.{begun, dropped_more, fed_more, held, is_alive, wrote}
use Rattle.http_connection.specs.Sends.{CarryCredit}
use Rattle.grpc_stream.specs.declared.event.CallEvent.{CallEvent}
use Rattle.grpc_stream.specs.CallTrace.{CallTrace, Asked, IsSoundCallTrace, begins_on, changed, fresh, is_taking, queued_on, suits, took, unsent_on, waiting_in}
use Rattle.grpc_stream.specs.NextEvent.{GivesCallEvent, NeedsMore, RunsOutOfMemory, Stops, answer_to}
use Rattle.grpc_stream.specs.Sends.{Pumps}
use Rattle.table_model.specs.Event.{Event}
use Rattle.call_answers.specs.declared.orders.Setting.{Setting}
use Rattle.call_orders.specs.Owed.{has_end}
use Rattle.call_orders.specs.Calls as call
use Rattle.call_orders.specs.Calls.{Action, Handles, Collects, Continues, Over, refusal_for, standing}
use Rattle.call_orders.specs.Actions.{AreActions, calls_in, events_in}
use Rattle.call_orders.specs.Orders.{AllHandled, IsOver, cuts, is_stopped}
use Rattle.session_engine.specs.Laws.{FollowsBy}
use Rattle.session_engine.specs.Queries.{OpenCallsView, call_on}
use Rattle.session_engine.specs.Stands.{IsNotBegun, IsUnended}
use Rattle.server_turns.specs.declared.outcome.Outcome.{Outcome}
use Rattle.server_turns.specs.declared.outcome.Outcome.TheVariants as over
use Rattle.server_turns.specs.Past.{Past}
use Rattle.server_turns.specs.Serving.{Account, EndsWhole, HasCause, IsAnswered, IsServerLimits, NoneOpen, Serves, end_of, reads_all, refused_in}
use Rattle.server_turns.specs.Turning.{unsent}
use Rattle.server_account.specs.Agreeing.{Agrees, AreBrought, AreHandled, IsAhead, IsServer, IsSettled, IsTaken, IsTold, MayBeRest, account_of, left_on, none_left, told_more}
use Rattle.server_account.specs.Ending.{AreClosed}
use Rattle.server_account.specs.Hearing.{ComesNext}

-- A connection whose parts agree with an account, and that has received every whole frame, keeps the promise to its client.
abbrev pub AgreementServes : Type 0
AgreementServes = (s : Setting) (t : CallTrace) (output rest : List ℕ) (calls : OpenCallsView) (past : Past) (actions : List Action) →
    Agrees s t output calls actions past.pieces past.own none_left → IsSettled t rest →
    (past.is_ended ≡ true → EndsWhole s past (account_of t output rest actions) × NoneOpen s past (account_of t output rest actions)) →
    Serves s past (account_of t output rest actions) None

-- A new connection of a server's agrees with an account in which nothing was done.
abbrev pub ConnectionStarts : Type 0
ConnectionStarts = (s : Setting) (limits : H2Limits) (first : List Frame) (output : List ℕ) (calls : OpenCallsView) →
    IsServerLimits limits → flat_map frame_text first ≡ first_text Server limits → IsSoundCallTrace (fresh (begun Server limits first) s.numbering) output →
    ((id : ℕ) → call_on calls id ≡ None) →
    Agrees s (fresh (begun Server limits first) s.numbering) output calls [] [] [] none_left × IsSettled (fresh (begun Server limits first) s.numbering) []

module _ (s : Setting) (t : CallTrace) (output later : List ℕ) (calls : OpenCallsView) (actions : List Action) (pieces : List Piece) (own : List Event) where
  -- ---- bytes

  -- A piece that was read is fed, where every whole frame before it was received; a piece of output that was written is dropped; and
  -- what windows allow is sent, and credit where a hold ends.
  pub record BytesGoOn (left : ℕ → List (Item CallEnd)) (rest : List ℕ) : Type 0 where
    pub reads : (piece : List ℕ) → Agrees s t output calls actions pieces own left → IsSettled t rest → IsSoundCallTrace (changed (fed_more piece) t) later →
        Agrees s (changed (fed_more piece) t) later calls actions (pieces ++ link.received piece ∷ []) own left
    pub writes : (piece : List ℕ) → Agrees s t output calls actions pieces own left → IsSettled t rest →
        IsSoundCallTrace (changed (dropped_more piece) t) later →
        Agrees s (changed (dropped_more piece) t) later calls actions (pieces ++ link.sent piece ∷ []) own left
        × IsSettled (changed (dropped_more piece) t) rest
    pub pumps : (u : CallTrace) → Agrees s t output calls actions pieces own left → IsSettled t rest → IsSoundCallTrace u later → Pumps t u →
        Agrees s u later calls actions pieces own left × IsSettled u rest
    pub credits : (hold : Bool) (fs : List Frame) → Agrees s t output calls actions pieces own left → IsSettled t rest →
        CarryCredit hold t.connection_trace fs →
        IsSoundCallTrace (changed (λ c. held hold (wrote fs [] c)) t) later →
        Agrees s (changed (λ c. held hold (wrote fs [] c)) t) later calls actions pieces own left × IsSettled (changed (λ c. held hold (wrote fs [] c)) t) rest

  -- ---- items

  -- What a call is owed is taken to be sent, one item after another. Where its stream takes no more it was reset, and nothing is left
  -- to be taken for it.
  pub record ItemsAreTaken (stream : ℕ) : Type 0 where
    pub takes : (what : Item CallEnd) (more : List (Item CallEnd)) → Agrees s t output calls actions pieces own (left_on stream (what ∷ more)) →
        is_taking t stream ≡ true → suits Server what ≡ true → IsSoundCallTrace (took stream what t) later →
        Agrees s (took stream what t) later calls actions pieces own (left_on stream more)
    pub refuses : (left : List (Item CallEnd)) → Agrees s t output calls actions pieces own (left_on stream left) → is_taking t stream ≡ false →
        is_alive t.connection_trace ≡ true → list_any (begins_on stream) t.reported ≡ true → has_end (queued_on t stream) ≡ false →
        Agrees s t output calls actions pieces own (left_on stream [])

  -- ---- events

  -- What the calls of a server tell next: an event shows the next that a client did; or nothing is left to be told, for want of bytes,
  -- behind a stop or for want of memory. What is declined ends no call for want of memory.
  pub record EventsComeNext (u : CallTrace) : Type 0 where
    pub shows : (event : CallEvent) → Agrees s t output calls actions pieces own none_left → GivesCallEvent t event u → IsSoundCallTrace u later →
        IsServer s u later × IsTold u pieces × ComesNext s u event calls actions own
    pub none : Agrees s t output calls actions pieces own none_left → NeedsMore t u → IsSoundCallTrace u later →
        (now : List Action) × (refused_in s now ≡ refused_in s actions) × Agrees s u later calls now pieces own none_left
        × (rest : List ℕ) × IsSettled u rest
    pub stops : (stop : Stop) → Agrees s t output calls actions pieces own none_left → Stops t stop u → IsSoundCallTrace u later →
        (now : List Action) × (refused_in s now ≡ refused_in s actions) × Agrees s u later calls now pieces own none_left
        × (rest : List ℕ) × MayBeRest u.connection_trace rest
    pub starves : Agrees s t output calls actions pieces own none_left → RunsOutOfMemory t u → IsSoundCallTrace u later →
        (now : List Action) × (refused_in s now ≡ refused_in s actions) × Agrees s u later calls now pieces own none_left

  -- ---- the end of a turn

  -- Behind a pump a call that waits for no more is answered, unless a window is used up or a side reset its stream; no more bytes wait
  -- than streams are owed; and credit that is sent changes nothing of that.
  pub record PumpsKeepUp (left : ℕ → List (Item CallEnd)) (past : Past) (rest : List ℕ) : Type 0 where
    pub answered : (u : CallTrace) (id : ℕ) → Agrees s u later calls actions pieces own none_left → Pumps t u → is_alive t.connection_trace ≡ true →
        call.waiting_in (standing s actions id).state ≡ [] → is_reset u.connection_trace.frames id ≡ false →
        IsAnswered s past (account_of u later rest actions) id
        ⊎ ((is_live Server u.connection_trace.frames id ≡ true) × (may_send u.connection_trace.frames id ≡ 0) × (0 < unsent_on u id))
    pub waits : Agrees s t output calls actions pieces own left → waiting_in t ≤ unsent s (account_of t output rest actions)
    pub credits : (hold : Bool) (fs : List Frame) (id : ℕ) → CarryCredit hold t.connection_trace fs →
        (is_reset (t.connection_trace.frames ++ map Sent fs) id ≡ is_reset t.connection_trace.frames id)
        × (is_live Server (t.connection_trace.frames ++ map Sent fs) id ≡ is_live Server t.connection_trace.frames id)
        × (may_send (t.connection_trace.frames ++ map Sent fs) id ≡ may_send t.connection_trace.frames id)
        × (IsAnswered s past (account_of t output rest actions) id →
        IsAnswered s past (account_of (changed (λ c. held hold (wrote fs [] c)) t) later rest actions) id)
        × (waiting_in (changed (λ c. held hold (wrote fs [] c)) t) ≡ waiting_in t)

-- ---- actions

-- A call that begins was not heard of before, and the engine has none open on its stream.
abbrev pub CallsBegin : Type 0
CallsBegin = (s : Setting) (t : CallTrace) (calls : OpenCallsView) (actions : List Action) (own : List Event)
    (left : ℕ → List (Item CallEnd)) (id : ℕ) (method : Method) →
    AreHandled s t calls actions own left → is_in_place (calls_in actions) (Begun id method) ≡ true →
    (call_on calls id ≡ None) × IsNotBegun (standing s actions id).state

-- One more action of the engine is done, and what it brings is left to be taken; where none of its commands was answered Stopped it is
-- handled. What is declined is answered by the calls.
pub record ActionsAreHandled (s : Setting) (t : CallTrace) (calls new : OpenCallsView) (actions : List Action) (own did : List Event)
    (stream : ℕ) : Type 0 where
  pub brings : (c : Call Method CallEnd) (items : List (Item CallEnd)) → AreHandled s t calls actions own none_left →
      (k : FollowsBy s new actions stream (Handles c did) (λ _. items)) → stream_in c ≡ stream → answer_to t (Asked c) ≡ [] →
      AreBrought s (told_more t c) new (Handles c did k.cut ∷ actions) (own ++ did) (left_on stream items)
  pub gathers : (items : List (Item CallEnd)) → AreHandled s t calls actions own none_left →
      (k : FollowsBy s new actions stream (Collects stream did) (λ _. items)) →
      AreBrought s t new (Collects stream did k.cut ∷ actions) (own ++ did) (left_on stream items)
  pub hears : (c : Call Method CallEnd) (items : List (Item CallEnd)) → AreHandled s t calls actions own none_left →
      (k : FollowsBy s new actions stream (Handles c did) (λ _. items)) → stream_in c ≡ stream → answer_to t (Asked c) ≡ [] → list_any is_stopped did ≡ false →
      AreHandled s (told_more t c) new (Handles c did k.cut ∷ actions) (own ++ did) (left_on stream items)
  pub collects : (items : List (Item CallEnd)) → AreHandled s t calls actions own none_left →
      (k : FollowsBy s new actions stream (Collects stream did) (λ _. items)) → list_any is_stopped did ≡ false →
      AreHandled s t new (Collects stream did k.cut ∷ actions) (own ++ did) (left_on stream items)
  pub continues : (items : List (Item CallEnd)) → AreHandled s t calls actions own none_left →
      (k : FollowsBy s new actions stream (Continues stream) (λ _. items)) → AreHandled s t new (Continues stream k.cut ∷ actions) own (left_on stream items)
  pub drops : AreHandled s t calls actions own none_left →
      (k : FollowsBy s new actions stream (Handles (Dropped stream) did) (λ state. refusal_for s state (Dropped stream))) → list_any is_stopped did ≡ false →
      AreHandled s (told_more t (Dropped stream)) new (Handles (Dropped stream) did k.cut ∷ actions) (own ++ did) none_left
  pub declines : (answer : CallEnd) → AreHandled s t calls actions own none_left →
      (k : FollowsBy s new actions stream (Handles (Declined stream answer) did) (λ state. refusal_for s state (Declined stream answer))) →
      list_any is_stopped did ≡ false → ((standing s actions stream).state ≡ Over → has_end (standing s actions stream).items ≡ true) →
      AreHandled s (told_more t (Declined stream answer)) new (Handles (Declined stream answer) did k.cut ∷ actions) (own ++ did) none_left

-- Each call that was cut for want of memory is among those that were ended so.
abbrev pub CutsAreCounted : Type 0
CutsAreCounted = (s : Setting) (actions : List Action) → AreActions s actions → length (cuts actions) ≤ refused_in s actions

-- ---- ends

-- Where the sessions that stayed have left the promise is kept with its cause: behind the last whole frame, and behind a stop.
pub record EndsServe (s : Setting) (output : List ℕ) (calls : OpenCallsView) (actions : List Action) (past : Past) (last : List Event) : Type 0 where
  pub settled : (t : CallTrace) (rest : List ℕ) (outcome : Outcome) → Agrees s t output calls actions past.pieces (events_in actions) none_left →
      IsSettled t rest →
      AreClosed actions past.own last → end_of (Some outcome) ≡ AllHandled → HasCause s past (account_of t output rest actions) (Some outcome) →
      Serves s past (account_of t output rest actions) (Some outcome)
  pub refused : (t u : CallTrace) (why : ErrorCode) (place : ℕ) → Agrees s u output calls actions past.pieces (events_in actions) none_left →
      Stops t (Error why place) u →
      AreClosed actions past.own last → (rest : List ℕ) × Serves s past (account_of u output rest actions) (Some (over.Protocol why place))
  pub calm : (t u : CallTrace) (rest : List ℕ) (cause : CalmCause) → Agrees s u output calls actions past.pieces (events_in actions) none_left →
      Stops t (Calm cause) u →
      AreClosed actions past.own last → Serves s past (account_of u output rest actions) (Some (over.Calm cause))
  -- One that halts, is Spent or has no memory leaves the calls behind these unread: a next one of which part was done, or none. The
  -- last piece that was read may not have been fed. What was taken for a stream is what its call is owed, but for what is left of it, or
  -- the answer to a refusal that was not handled is ahead of it.
  pub unread : (t : CallTrace) (told late : List link.Piece) (rest : List ℕ) (next : List (Call Method CallEnd)) (left : ℕ
      → List (Item CallEnd)) (outcome : Outcome) →
      IsServer s t output → MayBeRest t.connection_trace rest →
      IsTold t told → past.pieces ≡ told ++ late → sent_bytes late ≡ [] →
      AreActions s actions → ((id : ℕ) → IsUnended (standing s actions id)) →
      t.reported ≡ map Asked (calls_in actions ++ next) →
      ((id : ℕ) → IsTaken t id (standing s actions id).items (left id) ⊎ IsAhead t id (standing s actions id).items) →
      ((id : ℕ) → (left id ≡ []) ⊎ (has_end (queued_on t id) ≡ false)) → past.own ≡ events_in actions ++ last →
      ((others : List (Call Method CallEnd)) → IsOver s (end_of (Some outcome)) actions (next ++ others) last) → reads_all (Some outcome) ≡ false →
      HasCause s past (account_of t output rest actions) (Some outcome) → Serves s past (account_of t output rest actions) (Some outcome)

-- What a connection that is over still writes is taken off its output, and its promise is kept.
abbrev pub WritesKeep : Type 0
WritesKeep = (s : Setting) (past : Past) (a : Account) (outcome : Outcome) (piece left : List ℕ) → Serves s past a (Some outcome) → a.output ≡ piece ++ left →
    Serves s (record past { pieces = past.pieces ++ link.sent piece ∷ [] }) (record a { output = left }) (Some outcome)
