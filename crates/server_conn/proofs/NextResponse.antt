-- One more response of a Get, and what windows allow.
use Rattle.std.proofs.Common.{◌≡◌, ◌⊎◌, ℕ, ◌+◌, ◌-◌, ◌^◌, ◌==◌, min, length, eqb-true, ◌++◌, Bool, true, false, not, is_some, if◌then◌else◌, List, [], ◌∷◌, Option, Some, None, refl, sym, ap, ◌∙◌, subst, inl, inr}
use Rattle.std.specs.List.{list_any}
use Rattle.rig_io.specs.Link.{Piece}
use Rattle.grpc_heads.specs.CallEnd.{CallEnd}
use Rattle.h2_exchange.specs.Exchange.{received}
use Rattle.h2_exchange.specs.StreamParts.{Item}
use Rattle.h2_exchange.specs.Order.{peer_preface}
use Rattle.h2_exchange.specs.declared.role.Role.TheVariants.{Server}
use Rattle.h2_frames.specs.Stream.{Frames}
use Rattle.http_connection.specs.ConnectionTrace.{ConnectionTrace, stop_in}
use Rattle.grpc_stream.specs.CallTrace.{CallTrace, begins_on, reported_by, waiting_in}
use Rattle.grpc_stream.specs.Sends.{Pumps}
use Rattle.call_answers.specs.declared.orders.Setting.{Setting}
use Rattle.call_orders.specs.Owed.{has_end, selected_items}
use Rattle.call_orders.specs.Calls.{CallState, NotBegun, Responds, Over, Standing, Action, Continues, continued, cut_by, standing}
use Rattle.session_engine.specs.declared.open_calls.OpenCall.{OpenCall}
use Rattle.session_engine.specs.declared.open_calls.OpenCall.TheVariants as opened
use Rattle.session_engine.specs.declared.step.Step.{Step}
use Rattle.session_engine.specs.Laws.{FollowsBy}
use Rattle.session_engine.specs.Queries.{OpenCallsView, call_on, is_responding}
use Rattle.session_engine.specs.Stands.{ContinuesCall, Stands, items_in}
use Rattle.session_engine.proofs.Follows.{actions_follow}
use Rattle.server_account.specs.Agreeing.{IsSettled}
use Rattle.server_account.proofs.Hears.{handled_continues}
use Rattle.server_account.proofs.Uses.{received_same}
use Rattle.server_conn.specs.Standing.{Works}
use Rattle.server_conn.specs.Steps.{Grows, IsEnough, IsNoMore, IsPumped, Owes, RespondsSome}
use Rattle.server_conn.specs.Steps as steps
use Rattle.server_conn.proofs.Grown.{grows_refl, grows_then, prefix_more, prefix_refl}
use Rattle.server_conn.proofs.Handed.{grows_beside}
use Rattle.server_conn.proofs.HeardOf.{told_begun}
use Rattle.server_conn.proofs.Served.{false_true}
use Rattle.table_model.specs.Event.{Event}

-- ---- the same connection

module _ (t u : CallTrace) (same : u.connection_trace ≡ t.connection_trace) where
  pub settled_same : (rest : List ℕ) → u.reported ≡ t.reported → u.numbers ≡ t.numbers → IsSettled t rest → IsSettled u rest
  settled_same rest reported numbers k = record {
    all = reported ∙ (k.all ∙ (ap (λ (c : ConnectionTrace). reported_by c.role t.numbers c) (sym same)
        ∙ ap (λ n. reported_by u.connection_trace.role n u.connection_trace) (sym numbers)));
    alive = ap (λ (c : ConnectionTrace). c.refusal) same ∙ k.alive;
    unstopped = ap (λ (c : ConnectionTrace). stop_in c) same ∙ k.unstopped;
    whole = subst (λ (c : ConnectionTrace). Frames (peer_preface Server) c.fed (received c.frames) rest) (sym same) k.whole;
  }

-- ---- a pump

module _ (t u : CallTrace) (pumps : Pumps t u) where
  pub grows_pumps : Grows t u
  grows_pumps = subst (λ (v : CallTrace). Grows t v) (sym pumps.goes_on) (record {
    limits = refl;
    heads = prefix_refl t.connection_trace.heads;
    frames = prefix_more t.connection_trace.frames _;
  })

  pub received_pumps : received u.connection_trace.frames ≡ received t.connection_trace.frames
  received_pumps = ap (λ (v : CallTrace). received v.connection_trace.frames) pumps.goes_on ∙ received_same t.connection_trace.frames pumps.fs

pub is_pumped : (t u : CallTrace) (rest : List ℕ) (waiting : ℕ) → IsSettled t rest → Pumps t u → waiting ≡ min (waiting_in u) (2 ^ 64 - 1) →
    IsPumped u waiting
is_pumped t u rest waiting settled pumps waits = record {
  before = t;
  alive = ap (λ o. not (is_some o)) settled.alive;
  pumps = pumps;
  waits = waits;
}

-- ---- what is asked of a call

pub no_more_then : (a b c : Option OpenCall) → IsNoMore a b → IsNoMore b c → IsNoMore a c
no_more_then a b c h k = (λ e. h.0 (k.0 e), λ session is_finished e. h.1 session is_finished (k.1 session is_finished e))

pub no_more_same : (a b : Option OpenCall) → b ≡ a → IsNoMore a b
no_more_same a b e = subst (λ (x : Option OpenCall). IsNoMore a x) (sym e) (λ f. f, λ session is_finished f. f)

-- behind a response a Get has others to come, or is over
no_more_behind : (s : Setting) (was now : Option OpenCall) (over : Bool) (waiting : List (Item CallEnd)) →
    Stands s now (if over then Over else Responds waiting) → IsNoMore was now
no_more_behind s was None over waiting h = (λ e. false_true e, λ session is_finished e. absurd cc)
no_more_behind s was (Some (opened.Responds rows)) over waiting h = (λ e. false_true e, λ session is_finished e. absurd cc)
no_more_behind s was (Some (opened.Modifies session is_finished)) true waiting h = absurd cc
no_more_behind s was (Some (opened.Modifies session is_finished)) false waiting h = absurd cc
no_more_behind s was (Some (opened.Receives method first is_more)) true waiting h = absurd cc
no_more_behind s was (Some (opened.Receives method first is_more)) false waiting h = absurd cc

no_more_cut : (s : Setting) (was now : Option OpenCall) (cut : Option ℕ) (st : Standing) → Stands s now (cut_by cut (continued st)).state → IsNoMore was now
no_more_cut s was now None st h = no_more_behind s was now _ _ h
no_more_cut s was now (Some made) st h = no_more_behind s was now true [] h

module _ (s : Setting) (old new : OpenCallsView) (stream : ℕ) (step : Step) (k : ContinuesCall s old new stream step) where
  here : (was : Option OpenCall) → is_responding was ≡ true → call_on old stream ≡ was → IsNoMore was (call_on new stream)
  here None responds is = false_true responds
  here (Some (opened.Modifies session is_finished)) responds is = false_true responds
  here (Some (opened.Receives method first is_more)) responds is = false_true responds
  here (Some (opened.Responds rows)) responds is =
      (let st : Standing = record { state = Responds (selected_items s rows); items = [] } in
      let taken = k.takes st (subst (λ (x : Option OpenCall). Stands s x st.state) (sym is) refl) (inr refl) in
      no_more_cut s (Some (opened.Responds rows)) (call_on new stream) taken.cut st taken.stands)

  pub asked_no_more : is_responding (call_on old stream) ≡ true → (id : ℕ) → IsNoMore (call_on old id) (call_on new id)
  asked_no_more responds id = by (stream == id) refl
    where
      by : (b : Bool) → (stream == id) ≡ b → IsNoMore (call_on old id) (call_on new id)
      by true e = subst (λ (n : ℕ). IsNoMore (call_on old n) (call_on new n)) (eqb-true stream id e) (here (call_on old stream) responds refl)
      by false e = no_more_same (call_on old id) (call_on new id) (k.others id e)

-- ---- a response

ended_not : (s : Setting) (call : Option OpenCall) (state : CallState) → is_responding call ≡ true → Stands s call state → state ≡ Over → ⊥
ended_not s None state e stands over = false_true e
ended_not s (Some (opened.Responds rows)) state e stands over = absurd (cc (sym stands ∙ over))
ended_not s (Some (opened.Modifies session is_finished)) state e stands over = false_true e
ended_not s (Some (opened.Receives method first is_more)) state e stands over = false_true e

-- The next response of a Get is owed to it.
module _ {K : Type 0} (uses : K → CallTrace → Type 0) (output : K → List ℕ) (s : Setting) (calls : K) (old new : OpenCallsView) (refused stream : ℕ)
    (step : Step) (t : CallTrace) (actions : List Action) (pieces : List Piece) (own : List Event)
    (h : Works uses output s calls old refused t actions pieces own)
    (responds : is_responding (call_on old stream) ≡ true) (k : ContinuesCall s old new stream step)
    (begun : list_any (begins_on stream) t.reported ≡ true) where
  abbrev follows : FollowsBy s new actions stream (Continues stream) (λ _. items_in step)
  follows = actions_follow s old new actions stream (Continues stream) (λ _. items_in step) h.agrees.handled.open_now k.takes k.others (λ cut. refl)

  unended : (standing s actions stream).state ≡ Over ⊎ (has_end (standing s actions stream).items ≡ false) → has_end (standing s actions stream).items ≡ false
  unended (inl over) = absurd (ended_not s (call_on old stream) _ responds (h.agrees.handled.open_now.stands stream) over)
  unended (inr none) = none

  pub owes_response : Owes uses output s calls new refused stream step t (Continues stream follows.cut ∷ actions) pieces own
  owes_response = let here_now = handled_continues s t old new actions own h.agrees.handled stream (items_in step) follows in record {
    used = h.used;
    alive = h.alive;
    server = h.agrees.server;
    told = h.agrees.told;
    brought = record { open_now = here_now.open_now; reported = here_now.reported; did = here_now.did; taken = here_now.taken };
    begun = begun;
    rest = [];
    settled = λ id did cut e. absurd cc;
    action = Continues stream follows.cut;
    earlier = actions;
    actions_are = refl;
    on = refl;
    going = follows.items_are;
    unended = inl (unended (h.agrees.handled.open_now.unended stream));
    running = λ none. here_now.running;
    stopped = λ halted. absurd (cc (sym k.quiet ∙ halted));
    count = h.count;
  }

-- ---- responses, one after another

module _ {K : Type 0} (uses : K → CallTrace → Type 0) (output : K → List ℕ) (s : Setting) (pieces : List Piece) (own : List Event) (rest : List ℕ) where
  -- nothing more was given
  pub responds_none : (calls : K) (open_calls : OpenCallsView) (refused waiting : ℕ) (t : CallTrace) (actions : List Action) →
      Works uses output s calls open_calls refused t actions pieces own → IsSettled t rest → IsPumped t waiting →
      RespondsSome uses output s calls open_calls open_calls refused waiting t pieces own rest
  responds_none calls open_calls refused waiting t actions h settled pumped = record {
    trace = t;
    actions = actions;
    works = h;
    settled = settled;
    grows = grows_refl t;
    pumped = pumped;
    received = refl;
    fewer = λ id. no_more_same (call_on open_calls id) (call_on open_calls id) refl;
  }

  -- one response, which was given, and then a pump
  pub responds_one : (later : K) (before now : OpenCallsView) (refused waiting : ℕ) (t u v : CallTrace) (actions : List Action) →
      u.connection_trace ≡ t.connection_trace → IsSettled u rest → Pumps u v →
      Works uses output s later now refused v actions pieces own → IsSettled v rest → waiting ≡ min (waiting_in v) (2 ^ 64 - 1) →
      ((id : ℕ) → IsNoMore (call_on before id) (call_on now id)) → RespondsSome uses output s later before now refused waiting t pieces own rest
  responds_one later before now refused waiting t u v actions same settled_u pumps h settled_v waits fewer = record {
    trace = v;
    actions = actions;
    works = h;
    settled = settled_v;
    grows = grows_then t u v (grows_beside t u same) (grows_pumps u v pumps);
    pumped = is_pumped u v rest waiting settled_u pumps waits;
    received = received_pumps u v pumps ∙ ap (λ (c : ConnectionTrace). received c.frames) same;
    fewer = fewer;
  }

  pub responds_then : (middle later : K) (before between now : OpenCallsView) (refused_between refused waiting_between waiting : ℕ) (t : CallTrace) →
      (h : RespondsSome uses output s middle before between refused_between waiting_between t pieces own rest) →
      RespondsSome uses output s later between now refused waiting h.trace pieces own rest →
      RespondsSome uses output s later before now refused waiting t pieces own rest
  responds_then middle later before between now refused_between refused waiting_between waiting t h k = record {
    trace = k.trace;
    actions = k.actions;
    works = k.works;
    settled = k.settled;
    grows = grows_then t h.trace k.trace h.grows k.grows;
    pumped = k.pumped;
    received = k.received ∙ h.received;
    fewer = λ id. no_more_then (call_on before id) (call_on between id) (call_on now id) (h.fewer id) (k.fewer id);
  }

  -- until it is enough
  pub responds_all : (calls : K) (before open_calls : OpenCallsView) (refused waiting : ℕ) (t : CallTrace) →
      RespondsSome uses output s calls before open_calls refused waiting t pieces own rest → IsEnough open_calls (waiting + length (output calls)) →
      steps.Responds uses output s calls before open_calls refused waiting t pieces own rest
  responds_all calls before open_calls refused waiting t h enough = record {
    trace = h.trace;
    actions = h.actions;
    works = h.works;
    settled = h.settled;
    grows = h.grows;
    pumped = h.pumped;
    received = h.received;
    enough = enough;
    fewer = h.fewer;
  }

  -- behind a pump
  pub responds_from : (calls : K) (before open_calls : OpenCallsView) (refused waiting : ℕ) (t u : CallTrace) → Pumps t u →
      steps.Responds uses output s calls before open_calls refused waiting u pieces own rest →
      steps.Responds uses output s calls before open_calls refused waiting t pieces own rest
  responds_from calls before open_calls refused waiting t u pumps h = record {
    trace = h.trace;
    actions = h.actions;
    works = h.works;
    settled = h.settled;
    grows = grows_then t u h.trace (grows_pumps t u pumps) h.grows;
    pumped = h.pumped;
    received = h.received ∙ received_pumps t u pumps;
    enough = h.enough;
    fewer = h.fewer;
  }

-- a call that responds was begun, and isn't over
responds_on : (s : Setting) (call : Option OpenCall) (state : CallState) → is_responding call ≡ true → Stands s call state → state ≡ NotBegun → ⊥
responds_on s None state e stands none = false_true e
responds_on s (Some (opened.Responds rows)) state e stands none = absurd (cc (sym stands ∙ none))
responds_on s (Some (opened.Modifies session is_finished)) state e stands none = false_true e
responds_on s (Some (opened.Receives method first is_more)) state e stands none = false_true e

-- What a response is given to was told to have begun.
pub begun_before : {K : Type 0} (uses : K → CallTrace → Type 0) (output : K → List ℕ) (s : Setting) (calls : K) (old : OpenCallsView) (refused stream : ℕ)
    (t : CallTrace) (actions : List Action) (pieces : List Piece) (own : List Event) → Works uses output s calls old refused t actions pieces own →
    is_responding (call_on old stream) ≡ true → list_any (begins_on stream) t.reported ≡ true
begun_before uses output s calls old refused stream t actions pieces own h responds =
    (let at = h.agrees.handled.open_now in
    told_begun s stream actions t.reported at.each h.agrees.handled.reported (responds_on s (call_on old stream) _ responds (at.stands stream))
    (ended_not s (call_on old stream) _ responds (at.stands stream)))

-- So it is owed to it by one more action.
pub owes_next : {K : Type 0} (uses : K → CallTrace → Type 0) (output : K → List ℕ) (s : Setting) (calls : K) (old new : OpenCallsView)
    (refused stream : ℕ) (step : Step) (t : CallTrace) (actions : List Action) (pieces : List Piece) (own : List Event) →
    Works uses output s calls old refused t actions pieces own → is_responding (call_on old stream) ≡ true → ContinuesCall s old new stream step →
    (now : List Action) × Owes uses output s calls new refused stream step t now pieces own
owes_next uses output s calls old new refused stream step t actions pieces own h responds k = (
  _,
  owes_response uses output s calls old new refused stream step t actions pieces own h responds k
      (begun_before uses output s calls old refused stream t actions pieces own h responds),
)
