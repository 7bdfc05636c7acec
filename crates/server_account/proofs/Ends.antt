-- How a connection ends: the sessions that stayed have left, and the promise holds with its cause.
use Rattle.std.proofs.Common.{◌⊎◌, append_assoc, map, ◌≡◌, inl, inr, ℕ, Bool, ◌||◌, true, false, List, [], ◌∷◌, ◌++◌, Option, Some, None, refl, sym, ap, subst, ◌∙◌, append-nil, get_or, arith, ◌<◌}
use Rattle.std.proofs.lemmas.List.Concat.{flat_map-append}
use Rattle.std.specs.List.{flat_map, list_any}
use Rattle.std.proofs.lemmas.List.Folds.{list_any-append}
use Rattle.h2_frames.specs.declared.code.ErrorCode.{ErrorCode}
use Rattle.h2_frames.specs.declared.frame.Frame.{Frame}
use Rattle.h2_frames.specs.declared.frame.Frame.TheVariants.{Content, Headers, Priority, RstStream, Settings, PushPromise, Ping, GoAway, WindowUpdate, Continuation, Unknown}
use Rattle.h2_frames.specs.Layout.{type_of}
use Rattle.h2_exchange.specs.declared.limits.CalmCause.{CalmCause}
use Rattle.h2_exchange.specs.declared.limits.H2Limits.{H2Limits}
use Rattle.h2_exchange.specs.declared.role.Role.{Role}
use Rattle.h2_exchange.specs.declared.role.Role.TheVariants.{Server}
use Rattle.h2_exchange.specs.Content.{Outcome as BlockOutcome}
use Rattle.h2_exchange.specs.Exchange.{Step, Sent, received, sent}
use Rattle.h2_exchange.specs.Frames.{is_goaway, is_rst_stream}
use Rattle.h2_exchange.specs.Order.{AreFrames, Piece, RestBreaks, peer_preface, received_bytes, sent_bytes}
use Rattle.h2_exchange.specs.Outcomes.{IsReadExchange}
use Rattle.h2_exchange.specs.Outgoing.{SendsOnly}
use Rattle.h2_exchange.specs.Stops.{Calm, Error, IsBroken, IsCalm, Stop, stop_of}
use Rattle.h2_exchange.proofs.Places.{second_true}
use Rattle.h2_exchange.proofs.Staying.{stops_stay}
use Rattle.h2_exchange.proofs.Steps.{received_sent, sent_push}
use Rattle.http_connection.specs.Answers as conn
use Rattle.http_connection.specs.ConnectionTrace.{ConnectionTrace, stop_in}
use Rattle.grpc_stream.specs.CallTrace.{CallTrace, Asked, queued_on, reported_in}
use Rattle.grpc_stream.specs.NextEvent.{asked_of, Stops}
use Rattle.table_model.specs.Event.{Event}
use Rattle.grpc_heads.specs.CallEnd.{CallEnd}
use Rattle.h2_exchange.specs.Calls.{Call}
use Rattle.grpc_heads.specs.declared.head.Method.{Method}
use Rattle.h2_exchange.specs.StreamParts.{Item}
use Rattle.call_answers.specs.declared.orders.Setting.{Setting}
use Rattle.call_orders.specs.Calls.{Action, standing}
use Rattle.call_orders.specs.Owed.{has_end}
use Rattle.call_orders.specs.Actions.{AreActions, calls_in, events_in}
use Rattle.call_orders.specs.Orders.{AllHandled, AreOrders, IsOver}
use Rattle.session_engine.specs.Queries.{OpenCallsView}
use Rattle.session_engine.specs.Stands.{IsUnended}
use Rattle.server_turns.specs.declared.outcome.Outcome.{Outcome}
use Rattle.server_turns.specs.declared.outcome.Outcome.TheVariants as over
use Rattle.server_turns.specs.Past.{Past}
use Rattle.server_turns.specs.Serving.{HasCause, Serves, calls_spelled, end_of, none_asked, reads_all}
use Rattle.server_account.specs.Agreeing.{AreHandled, IsAhead, IsServer, IsSettled, IsTaken, IsTold, MayBeRest, account_of, none_left}
use Rattle.server_account.specs.Ending.{AreClosed}
use Rattle.server_account.proofs.Quiet.{stays_clear}
use Rattle.server_account.proofs.Late.{late_exchange, late_sends}
use Rattle.server_account.proofs.Rests.{alive_rest, never_some, stopped_rest}
use Rattle.server_account.proofs.Serves.{all_handled, answers_begin, asked_back, frames_are, reported_as, serves_by, serves_with}

-- ---- all that clients did was handled

module _ (s : Setting) (t : CallTrace) (output rest : List ℕ) (h : IsServer s t output) (open_calls : OpenCallsView) (actions : List Action) (past : Past) where
  -- and the sessions that stayed have left
  pub orders_close : (last : List Event) → AreHandled s t open_calls actions (events_in actions) none_left → t.reported ≡ reported_in t → AreClosed actions past.own last →
      AreOrders s (calls_spelled (account_of t output rest actions)) past.own AllHandled actions
  orders_close last served all closed = record {
    each = served.open_now.each;
    rest = [];
    last = last;
    handled = all_handled s t output rest h open_calls actions (record { pieces = past.pieces; own = events_in actions; is_ended = past.is_ended }) none_left served all ∙ sym (append-nil (calls_in actions));
    did = closed.did;
    over = (served.running, refl, closed.left);
  }

  ends_handled : (outcome : Outcome) → end_of (Some outcome) ≡ AllHandled → AreOrders s (calls_spelled (account_of t output rest actions)) past.own AllHandled actions →
      AreOrders s (calls_spelled (account_of t output rest actions)) past.own (end_of (Some outcome)) actions
  ends_handled outcome is orders = subst (λ e. AreOrders s (calls_spelled (account_of t output rest actions)) past.own e actions) (sym is) orders

-- ---- behind the last frame

pub settled_serves : (s : Setting) (t : CallTrace) (output rest : List ℕ) (open_calls : OpenCallsView) (actions : List Action) (past : Past) (last : List Event) (outcome : Outcome) → IsServer s t output → IsTold t past.pieces →
    AreHandled s t open_calls actions (events_in actions) none_left → IsSettled t rest → AreClosed actions past.own last → end_of (Some outcome) ≡ AllHandled →
    HasCause s past (account_of t output rest actions) (Some outcome) → Serves s past (account_of t output rest actions) (Some outcome)
settled_serves s t output rest open_calls actions past last outcome h told served settled closed is cause =
    let may = alive_rest t.connection_trace rest settled.alive in
    serves_with s t output h past told rest may actions (Some outcome) (λ _ _. frames_are s t output rest h past told settled)
    (answers_begin s t output h rest may actions none_left (λ id. inl (served.taken id)) (λ id. inl refl) served.open_now.unended)
    (ends_handled s t output rest h open_calls actions past outcome is (orders_close s t output rest h open_calls actions past last served settled.all closed)) cause

-- ---- a connection that stops

goaway_by : (f : Frame) → type_of f ≡ 7 → is_goaway f ≡ true
goaway_by (GoAway b) e = refl
goaway_by (Content b) e = absurd cc
goaway_by (Headers b) e = absurd cc
goaway_by (Priority b) e = absurd cc
goaway_by (RstStream b) e = absurd cc
goaway_by (Settings b) e = absurd cc
goaway_by (PushPromise b) e = absurd cc
goaway_by (Ping b) e = absurd cc
goaway_by (WindowUpdate b) e = absurd cc
goaway_by (Continuation b) e = absurd cc
goaway_by (Unknown number b) e = let above : 9 < number.number = number.is_other in absurd (omega (arith, e, above))

no_rst : (f : Frame) → is_goaway f ≡ true → is_rst_stream f ≡ false
no_rst (GoAway b) e = refl
no_rst (RstStream b) e = absurd cc
no_rst other e = refl

module _ (s : Setting) (u : CallTrace) (output : List ℕ) (h : IsServer s u output) (c : ConnectionTrace) (stop : Stop) (stops : conn.Stops c stop u.connection_trace) where
  abbrev at : ConnectionTrace
  at = stops.at

  frames_then : u.connection_trace.frames ≡ at.frames ++ Sent stops.goaway ∷ []
  frames_then = ap (λ (x : ConnectionTrace). x.frames) stops.ends

  is_away : is_goaway stops.goaway ≡ true
  is_away = goaway_by stops.goaway (ap (λ (l : List ℕ). get_or l 3 0) stops.text)

  pub goes_away : list_any is_goaway (sent u.connection_trace.frames) ≡ true
  goes_away =
      ap (λ (x : List Step). list_any is_goaway (sent x)) frames_then ∙ ap (list_any is_goaway) (sent_push at.frames stops.goaway)
      ∙ list_any-append is_goaway (sent at.frames) (stops.goaway ∷ []) ∙ second_true (list_any is_goaway (sent at.frames)) (is_goaway stops.goaway || false) (ap (λ (b : Bool). b || false) is_away)

  -- what stops the frames before it stops all, and where nothing does nothing stops them with it
  at_role : at.role ≡ Server
  at_role = sym (ap (λ (x : ConnectionTrace). x.role) stops.ends) ∙ h.role

  heads_then : u.connection_trace.heads ≡ at.heads
  heads_then = ap (λ (x : ConnectionTrace). x.heads) stops.ends ∙ append-nil at.heads

  limits_then : u.connection_trace.limits ≡ at.limits
  limits_then = ap (λ (x : ConnectionTrace). x.limits) stops.ends

  fed_then : u.connection_trace.fed ≡ at.fed
  fed_then = ap (λ (x : ConnectionTrace). x.fed) stops.ends

  abbrev stop_then : Option Stop
  stop_then = stop_of Server u.connection_trace.limits u.connection_trace.heads u.connection_trace.frames

  stop_is : (o : Option Stop) → stop_in at ≡ o → stop_then ≡ o
  stop_is o e =
      ap (λ (l : H2Limits). stop_of Server l u.connection_trace.heads u.connection_trace.frames) limits_then ∙ ap (λ (l : List BlockOutcome). stop_of Server at.limits l u.connection_trace.frames) heads_then
      ∙ ap (stop_of Server at.limits at.heads) frames_then ∙ by o (ap (λ (r : Role). stop_of r at.limits at.heads at.frames) (sym at_role) ∙ e)
    where
      by : (o : Option Stop) → stop_of Server at.limits at.heads at.frames ≡ o → stop_of Server at.limits at.heads (at.frames ++ Sent stops.goaway ∷ []) ≡ o
      by None clear = stays_clear Server at.limits at.heads at.frames (stops.goaway ∷ []) (no_rst stops.goaway is_away, tt) clear
      by (Some why) is = (stops_stay Server at.limits at.heads at.frames (Sent stops.goaway ∷ []) why is).0

  received_then : received u.connection_trace.frames ≡ received at.frames
  received_then = ap received frames_then ∙ received_sent at.frames stops.goaway

  unstopped_at : stop_then ≡ None → stop_in at ≡ None
  unstopped_at e = by (stop_in at) refl
    where
      by : (o : Option Stop) → stop_in at ≡ o → o ≡ None
      by None is = refl
      by (Some why) is = sym (stop_is (Some why) is) ∙ e

  pub calm_cause : (cause : CalmCause) → stop ≡ Calm cause → IsCalm Server u.connection_trace.limits u.connection_trace.heads u.connection_trace.frames cause
  calm_cause cause is = stop_is (Some (Calm cause)) (subst (conn.IsCause at) is stops.cause)

  as_own : {o : Option Stop} → stop_in u.connection_trace ≡ o → stop_then ≡ o
  as_own e = ap (λ (r : Role). stop_of r u.connection_trace.limits u.connection_trace.heads u.connection_trace.frames) (sym h.role) ∙ e

  pub calm_rest : (cause : CalmCause) → stop ≡ Calm cause → (rest : List ℕ) → MayBeRest u.connection_trace rest
  calm_rest cause is rest =
      stopped_rest u.connection_trace rest (Calm cause) (ap (λ (r : Role). stop_of r u.connection_trace.limits u.connection_trace.heads u.connection_trace.frames) h.role ∙ calm_cause cause is)

  module _ (why : ErrorCode) (place : ℕ) (is : stop ≡ Error why place) where
    pub breaks : conn.Breaks at why place
    breaks = subst (conn.IsCause at) is stops.cause

    rest_breaks : (rest : List ℕ) → RestBreaks (peer_preface at.role) at.fed (received at.frames) rest why place → RestBreaks (peer_preface Server) u.connection_trace.fed (received u.connection_trace.frames) rest why place
    rest_breaks rest b =
        subst (λ (fs : List Frame). RestBreaks (peer_preface Server) u.connection_trace.fed fs rest why place) (sym received_then)
        (subst (λ (bytes : List ℕ). RestBreaks (peer_preface Server) bytes (received at.frames) rest why place) (sym fed_then)
        (subst (λ (r : Role). RestBreaks (peer_preface r) at.fed (received at.frames) rest why place) at_role b))

    pub broken_cause : IsBroken Server u.connection_trace.limits u.connection_trace.heads u.connection_trace.fed u.connection_trace.frames breaks.0 why place
    broken_cause = elim breaks.1 [
      | inl stopped ↦ inl (stop_is (Some (Error why place)) stopped)
      | inr rest ↦ inr (stop_is None rest.0, rest_breaks breaks.0 rest.1)
    ]

    pub broken_frames : stop_then ≡ None → AreFrames (peer_preface Server) u.connection_trace.fed (received u.connection_trace.frames) breaks.0
    broken_frames e =
        subst (λ (fs : List Frame). AreFrames (peer_preface Server) u.connection_trace.fed fs breaks.0) (sym received_then)
        (subst (λ (bytes : List ℕ). AreFrames (peer_preface Server) bytes (received at.frames) breaks.0) (sym fed_then)
        (subst (λ (r : Role). AreFrames (peer_preface r) at.fed (received at.frames) breaks.0) at_role (breaks.2 (unstopped_at e))))

    pub broken_rest : MayBeRest u.connection_trace breaks.0
    broken_rest other stopped clear =
        subst (λ (r : Role). AreFrames (peer_preface r) u.connection_trace.fed (received u.connection_trace.frames) breaks.0) (sym h.role) (broken_frames (as_own clear))

-- what a stop leaves behind the whole frames
pub stop_leaves : (s : Setting) (u : CallTrace) (output : List ℕ) → IsServer s u output → (c : ConnectionTrace) (stop : Stop) → conn.Stops c stop u.connection_trace → (rest : List ℕ) × MayBeRest u.connection_trace rest
stop_leaves s u output h c (Error why place) stops = ((breaks s u output h c (Error why place) stops why place refl).0, broken_rest s u output h c (Error why place) stops why place refl)
stop_leaves s u output h c (Calm cause) stops = ([], calm_rest s u output h c (Calm cause) stops cause refl [])

pub refused_serves : (s : Setting) (t u : CallTrace) (output : List ℕ) (why : ErrorCode) (place : ℕ) (open_calls : OpenCallsView) (actions : List Action) (past : Past) (last : List Event) → IsServer s u output → IsTold u past.pieces →
    Stops t (Error why place) u → AreHandled s u open_calls actions (events_in actions) none_left → AreClosed actions past.own last →
    (rest : List ℕ) × Serves s past (account_of u output rest actions) (Some (over.Protocol why place))
refused_serves s t u output why place open_calls actions past last h told stops served closed =
    let c = stops.before in
    let cause = broken_cause s u output h c (Error why place) stops.stops why place refl in
    let whole = broken_frames s u output h c (Error why place) stops.stops why place refl in
    let may = broken_rest s u output h c (Error why place) stops.stops why place refl in
    let rest = (breaks s u output h c (Error why place) stops.stops why place refl).0 in (
      rest,
      serves_with s u output h past told rest may actions (Some (over.Protocol why place))
          (λ _ e. subst (λ (bytes : List ℕ). AreFrames (peer_preface Server) bytes (received u.connection_trace.frames) rest) told.fed (whole e))
          (answers_begin s u output h rest may actions none_left (λ id. inl (served.taken id)) (λ id. inl refl) served.open_now.unended)
          (orders_close s u output rest h open_calls actions past last served stops.reported closed)
          (subst (λ (bytes : List ℕ). IsBroken Server u.connection_trace.limits u.connection_trace.heads bytes u.connection_trace.frames rest why place) told.fed cause, goes_away s u output h c (Error why place) stops.stops),
    )

pub calm_serves : (s : Setting) (t u : CallTrace) (output rest : List ℕ) (cause : CalmCause) (open_calls : OpenCallsView) (actions : List Action) (past : Past) (last : List Event) → IsServer s u output → IsTold u past.pieces →
    Stops t (Calm cause) u → AreHandled s u open_calls actions (events_in actions) none_left → AreClosed actions past.own last →
    Serves s past (account_of u output rest actions) (Some (over.Calm cause))
calm_serves s t u output rest cause open_calls actions past last h told stops served closed =
    let c = stops.before in
    let calm = calm_cause s u output h c (Calm cause) stops.stops cause refl in
    let may = calm_rest s u output h c (Calm cause) stops.stops cause refl rest in
    serves_with s u output h past told rest may actions (Some (over.Calm cause)) (λ _ e. never_some _ (Calm cause) e calm)
    (answers_begin s u output h rest may actions none_left (λ id. inl (served.taken id)) (λ id. inl refl) served.open_now.unended)
    (orders_close s u output rest h open_calls actions past last served stops.reported closed)
    (calm, goes_away s u output h c (Calm cause) stops.stops)

-- ---- a connection that leaves something unread

pub unread_serves : (s : Setting) (t : CallTrace) (output : List ℕ) (told late : List Piece) (rest : List ℕ) (actions : List Action) (past : Past) (next : List (Call Method CallEnd)) (last : List Event) (left : ℕ → List (Item CallEnd)) (outcome : Outcome) →
    IsServer s t output → MayBeRest t.connection_trace rest → IsTold t told → past.pieces ≡ told ++ late → sent_bytes late ≡ [] →
    AreActions s actions → ((id : ℕ) → IsUnended (standing s actions id)) → t.reported ≡ map Asked (calls_in actions ++ next) →
    ((id : ℕ) → IsTaken t id (standing s actions id).items (left id) ⊎ IsAhead t id (standing s actions id).items) → ((id : ℕ) → (left id ≡ []) ⊎ (has_end (queued_on t id) ≡ false)) → past.own ≡ events_in actions ++ last →
    ((others : List (Call Method CallEnd)) → IsOver s (end_of (Some outcome)) actions (next ++ others) last) → reads_all (Some outcome) ≡ false → HasCause s past (account_of t output rest actions) (Some outcome) →
    Serves s past (account_of t output rest actions) (Some outcome)
unread_serves s t output told late rest actions past next last left outcome h may is pieces quiet each unended reported taken behind did over unread cause =
    let others : List (Call Method CallEnd) = flat_map asked_of h.sound.reported.0 in
    let limits = t.connection_trace.limits in
    let heads = t.connection_trace.heads in
    let frames = t.connection_trace.frames in
    serves_by s t output h past rest actions (Some outcome)
    (subst (λ (ps : List Piece). IsReadExchange Server limits heads ps output frames (reads_all (Some outcome)) rest) (sym pieces)
    (late_exchange s t output h told late is quiet (reads_all (Some outcome)) rest unread))
    (subst (λ (ps : List Piece). SendsOnly Server limits heads none_asked (received_bytes ps) rest frames) (sym pieces) (late_sends s t output h told late is rest may))
    (answers_begin s t output h rest may actions left taken behind unended)
    (record {
      each = each;
      rest = next ++ others;
      last = last;
      handled = sym (asked_back (calls_spelled (account_of t output rest actions))) ∙ ap (flat_map asked_of) (sym (reported_as t h.role) ∙ h.sound.reported.1)
          ∙ flat_map-append asked_of t.reported h.sound.reported.0 ∙ ap (λ (l : List (Call Method CallEnd)). l ++ others) (ap (flat_map asked_of) reported ∙ asked_back (calls_in actions ++ next))
          ∙ append_assoc (calls_in actions) next others;
      did = did;
      over = over others;
    }) cause
