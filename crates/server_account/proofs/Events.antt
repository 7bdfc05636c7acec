-- The next event of a server's calls: what is told without being shown is declined, and then comes what is shown.
use Rattle.std.proofs.Common.{◌⊎◌, ◌≡◌, inl, inr, ℕ, ◌+◌, ◌==◌, ◌&&◌, ◌||◌, arith, Bool, true, false, not, List, [], ◌∷◌, ◌++◌, map, Option, Some, None, refl, sym, ap, subst, ◌∙◌, append_assoc, append-nil, eqb-true}
use Rattle.std.specs.Prelude.{if◌then◌else◌}
use Rattle.std.specs.List.{flat_map, list_any}
use Rattle.std.proofs.lemmas.List.Concat.{flat_map-append}
use Rattle.std.proofs.lemmas.List.Folds.{list_any-append}
use Rattle.grpc_heads.specs.CallEnd.{CallEnd, compressed, method_by, too_long, truncated}
use Rattle.grpc_heads.specs.Heads.{head_of}
use Rattle.grpc_heads.specs.declared.head.Method.{Method}
use Rattle.h2_frames.specs.Stream.{Frames}
use Rattle.h2_exchange.specs.declared.role.Role.{Role}
use Rattle.h2_exchange.specs.declared.role.Role.TheVariants.{Server}
use Rattle.h2_exchange.specs.Calls.{Call, Begun, Request, Finished, Dropped, Declined, are_in_place, calls, ends_asking, is_begun_call, shown_of, stream_in}
use Rattle.h2_exchange.specs.Events as happened
use Rattle.h2_exchange.specs.Exchange.{Step, Sent, collect, received, sent}
use Rattle.h2_exchange.specs.Order.{peer_preface}
use Rattle.h2_exchange.specs.Sending.{IsPrefix, ResetsErrors}
use Rattle.h2_exchange.specs.StreamParts.{Item, Finish}
use Rattle.h2_exchange.specs.Streams.{is_ended_by}
use Rattle.h2_exchange.specs.Stops.{Stop, events}
use Rattle.h2_exchange.proofs.Answered.{calls_are_in_place}
use Rattle.h2_exchange.proofs.Places.{clash, first_true, same_self}
use Rattle.http_connection.specs.Answers as conn
use Rattle.http_connection.specs.ConnectionTrace.{ConnectionTrace, NoMemory}
use Rattle.grpc_stream.specs.declared.event.CallEvent.{CallEvent}
use Rattle.grpc_stream.specs.declared.event.CallEvent.TheVariants as says
use Rattle.grpc_stream.specs.CallTrace.{CallTrace, Answered, Asked, IsSoundCallTrace, PeerEvent, is_ended, queued_on, reported_by, reported_in}
use Rattle.grpc_stream.specs.CallTrace as trace
use Rattle.grpc_stream.specs.NextEvent.{AppendsPeerEvents, none, one, AreHidden, GivesCallEvent, GoesOn, stays, goes, IsShownAs, NeedsMore, RunsOutOfMemory, Stops, answer_to, asked_of, shown_events_of}
use Rattle.table_model.specs.Event.{Event}
use Rattle.call_answers.specs.declared.orders.Setting.{Setting}
use Rattle.call_orders.specs.Calls.{Action, Handles, NotBegun, Over, Standing, after, not_begun, refusal_for, standing}
use Rattle.call_orders.specs.Actions.{AreActions, IsAction, calls_in}
use Rattle.call_orders.proofs.Counts.{standing_here, standing_other}
use Rattle.session_engine.specs.declared.open_calls.OpenCall.{OpenCall}
use Rattle.session_engine.specs.declared.open_calls.OpenCall.TheVariants as opened
use Rattle.session_engine.specs.Laws.{AreOpen, FollowsBy}
use Rattle.session_engine.specs.Queries.{OpenCallsView, call_on}
use Rattle.session_engine.specs.Stands.{IsDropOf, dropped_is, declined_is, IsUnended, Stands, state_of}
use Rattle.server_turns.specs.Serving.{is_want_of_memory, refused_in, wants_memory}
use Rattle.server_account.specs.Agreeing.{AreHandled, IsServer, IsSettled, none_left, told_more}
use Rattle.server_account.specs.Hearing.{ComesNext, Shows}
use Rattle.server_account.proofs.Hears.{handled_declines}
use Rattle.server_account.proofs.Places.{front_in_place, place_of, unheard, unheard_standing}
use Rattle.server_account.proofs.Serves.{asked_back}
use Rattle.server_account.proofs.Suits.{Each, IsSuited, each_behind, reported_each}
use Rattle.server_account.proofs.Takes.{queued_more, unclosed_unless_taken}
use Rattle.server_account.proofs.Going.{going_ends_none}
use Rattle.server_account.proofs.Prefixes.{same_ends}
use Rattle.server_account.proofs.Uses.{handled_on}

-- ---- what a connection that gives events keeps

pub record Went (c d : ConnectionTrace) : Type 0 where
  pub role : d.role ≡ c.role
  pub limits : d.limits ≡ c.limits
  pub fed : d.fed ≡ c.fed
  pub dropped : d.dropped ≡ c.dropped
  pub frames : IsPrefix c.frames d.frames

pub went_then : (c d e : ConnectionTrace) → Went c d → Went d e → Went c e
went_then c d e p q = record {
  role = q.role ∙ p.role;
  limits = q.limits ∙ p.limits;
  fed = q.fed ∙ p.fed;
  dropped = q.dropped ∙ p.dropped;
  frames = (p.frames.0 ++ q.frames.0, q.frames.1 ∙ ap (λ (x : List Step). x ++ q.frames.0) p.frames.1 ∙ append_assoc c.frames p.frames.0 q.frames.0);
}

went_now : (c d : ConnectionTrace) (es : List happened.Event) → conn.GivesEvents c es d → Went c d
went_now c d es now = record {
  role = ap (λ (x : ConnectionTrace). x.role) now.goes_on;
  limits = ap (λ (x : ConnectionTrace). x.limits) now.goes_on;
  fed = ap (λ (x : ConnectionTrace). x.fed) now.goes_on;
  dropped = ap (λ (x : ConnectionTrace). x.dropped) now.goes_on;
  frames = (now.more, ap (λ (x : ConnectionTrace). x.frames) now.goes_on);
}

pub went : (c d : ConnectionTrace) → GoesOn c d → Went c d
went c d (stays _) = record { role = refl; limits = refl; fed = refl; dropped = refl; frames = ([], sym (append-nil c.frames)) }
went c e (goes _ d _ es output now sound later) = went_then c d e (went_now c d es now) (went d e later)

-- ---- a call that is declined unseen

module _ (s : Setting) where
  pub not_open_call : (c : OpenCall) → NotBegun ≡ state_of s c → ⊥
  not_open_call (opened.Modifies session is_finished) e = cc
  not_open_call (opened.Receives method first is_more) e = cc
  not_open_call (opened.Responds rows) e = cc

module _ (s : Setting) (calls : OpenCallsView) (actions : List Action) (id : ℕ) (answer : CallEnd) (open_now : AreOpen s calls actions) (at : standing s actions id ≡ not_begun) where
  abbrev declines : Action
  declines = Handles (Declined id answer) [] None

  may_decline : (st : Standing) → st ≡ not_begun → IsAction s st declines
  may_decline st is = subst (λ (x : Standing). IsAction s x declines) (sym is) (record { last = []; did_is = refl; made = refl; leaves = refl })

  over_then : (st : Standing) → st ≡ not_begun → (after s st declines).state ≡ Over
  over_then st is = ap (λ (x : Standing). (after s x declines).state) is

  nothing_open : call_on calls id ≡ None
  nothing_open = by (call_on calls id) (subst (λ (st : Standing). Stands s (call_on calls id) st.state) at (open_now.stands id))
    where
      by : (o : Option OpenCall) → Stands s o NotBegun → o ≡ None
      by None h = refl
      by (Some c) h = absurd (not_open_call s c h)

  opens_here : Stands s (call_on calls id) (standing s (declines ∷ actions) id).state
  opens_here = subst (λ (o : Option OpenCall). Stands s o (standing s (declines ∷ actions) id).state) (sym nothing_open) (inr state_is)
    where
      state_is : (standing s (declines ∷ actions) id).state ≡ Over
      state_is = ap (λ (st : Standing). st.state) (standing_here s declines actions id (same_self id)) ∙ over_then (standing s actions id) at

  opens_by : (k : ℕ) (b : Bool) → (id == k) ≡ b → Stands s (call_on calls k) (standing s (declines ∷ actions) k).state
  opens_by k true e = subst (λ (n : ℕ). Stands s (call_on calls n) (standing s (declines ∷ actions) n).state) (eqb-true id k e) opens_here
  opens_by k false e = subst (λ (st : Standing). Stands s (call_on calls k) st.state) (sym (standing_other s declines actions k e)) (open_now.stands k)

  unended_by : (k : ℕ) (b : Bool) → (id == k) ≡ b → IsUnended (standing s (declines ∷ actions) k)
  unended_by k true e =
      subst (λ (n : ℕ). IsUnended (standing s (declines ∷ actions) n)) (eqb-true id k e)
      (inl (ap (λ (st : Standing). st.state) (standing_here s declines actions id (same_self id)) ∙ over_then (standing s actions id) at))
  unended_by k false e = subst IsUnended (sym (standing_other s declines actions k e)) (open_now.unended k)

  open_then : AreOpen s calls (declines ∷ actions)
  unfolding AreActions
  open_then = record {
    stands = λ k. opens_by k (id == k) refl;
    unended = λ k. unended_by k (id == k) refl;
    each = (may_decline (standing s actions id) at, open_now.each);
  }

  ends_for_memory : is_want_of_memory (Finish answer) ≡ false → (st : Standing) → st ≡ not_begun → wants_memory (after s st declines) ≡ false
  ends_for_memory spared st is = ap (λ (x : Standing). wants_memory (after s x declines)) is ∙ ap (λ (b : Bool). b || false) spared

  pub none_more_refused : is_want_of_memory (Finish answer) ≡ false → refused_in s (declines ∷ actions) ≡ refused_in s actions
  unfolding refused_in
  none_more_refused spared =
      ap (λ (b : Bool). refused_in s actions + (if b && not (wants_memory (standing s actions id)) then 1 else 0))
      (ap wants_memory (standing_here s declines actions id (same_self id)) ∙ ends_for_memory spared (standing s actions id) at) ∙ plus_zero (refused_in s actions)
    where
      plus_zero : (n : ℕ) → n + 0 ≡ n
      plus_zero n = omega arith

  items_then : (st : Standing) → st ≡ not_begun → (after s st declines).items ≡ st.items ++ refusal_for s st.state (Declined id answer)
  items_then st is = subst (λ (x : Standing). (after s x declines).items ≡ x.items ++ refusal_for s x.state (Declined id answer)) (sym is) refl

  abbrev declines_follow : FollowsBy s calls actions id (Handles (Declined id answer) []) (λ state. refusal_for s state (Declined id answer))
  declines_follow = record {
    cut = None;
    open_now = open_then;
    items_are = ap (λ (st : Standing). st.items) (standing_here s declines actions id (same_self id)) ∙ items_then (standing s actions id) at;
  }

pub declined_unseen : (s : Setting) (t : CallTrace) (calls : OpenCallsView) (actions : List Action) (own : List Event) (id : ℕ) (answer : CallEnd) → AreHandled s t calls actions own none_left → standing s actions id ≡ not_begun →
    AreHandled s (told_more t (Declined id answer)) calls (Handles (Declined id answer) [] None ∷ actions) own none_left
declined_unseen s t calls actions own id answer h at =
    subst (λ (l : List Event). AreHandled s (told_more t (Declined id answer)) calls (Handles (Declined id answer) [] None ∷ actions) l none_left) (append-nil own)
    (handled_declines s t calls calls actions own [] id answer h (declines_follow s calls actions id answer h.open_now at) refl
    (λ over. absurd (never (sym (ap (λ (st : Standing). st.state) at) ∙ over))))
  where
    never : NotBegun ≡ Over → ⊥
    never e = cc

-- ---- what is hidden

pub appended : (more : List PeerEvent) (t u : CallTrace) → AppendsPeerEvents t more u → u.reported ≡ t.reported ++ more
appended [] t u (none _) = sym (append-nil t.reported)
appended (p ∷ more) t u (one _ _ _ _ h) = appended more (record t { reported = t.reported ++ p ∷ []; taken = t.taken ++ answer_to t p }) u h ∙ append_assoc t.reported (p ∷ []) more

nothing_appended : (t u : CallTrace) → AppendsPeerEvents t [] u → u ≡ t
nothing_appended t u (none _) = refl

one_appended : (t u : CallTrace) (p : PeerEvent) → AppendsPeerEvents t (p ∷ []) u → u ≡ record t { reported = t.reported ++ p ∷ []; taken = t.taken ++ answer_to t p }
one_appended t u p (one _ _ _ _ h) = nothing_appended _ u h

both_nil : {A : Type 0} (xs ys : List A) → xs ++ ys ≡ [] → (xs ≡ []) × (ys ≡ [])
both_nil [] ys e = (refl, e)
both_nil (x ∷ xs) ys e = absurd cc

unseen : (b : Bool) (id : ℕ) → map Asked (if b then Dropped id ∷ [] else []) ≡ [] → b ≡ false
unseen true id e = absurd cc
unseen false id e = refl

not_true : (b : Bool) → not b ≡ true → b ≡ false
not_true true e = absurd cc
not_true false e = refl

-- a stream whose end was taken stays so
ended_on : (t : CallTrace) (p : PeerEvent) (id : ℕ) → is_ended t id ≡ true → is_ended (record t { reported = t.reported ++ p ∷ []; taken = t.taken ++ answer_to t p }) id ≡ true
ended_on t (Asked (Declined k answer)) id e = by (is_ended t k)
  where
    by : (b : Bool) → is_ended (record t { taken = t.taken ++ (if b then [] else (k, Finish answer) ∷ []) }) id ≡ true
    by true = ap (λ (l : List (ℕ × Item CallEnd)). is_ended (record t { taken = l }) id) (append-nil t.taken) ∙ e
    by false =
        ap (list_any trace.is_end) (queued_more t k id (Finish answer)) ∙ list_any-append trace.is_end (queued_on t id) (if k == id then Finish answer ∷ [] else [])
        ∙ first_true (is_ended t id) (list_any trace.is_end (if k == id then Finish answer ∷ [] else [])) e
ended_on t (Asked (Begun k m)) id e = ap (λ (l : List (ℕ × Item CallEnd)). is_ended (record t { taken = l }) id) (append-nil t.taken) ∙ e
ended_on t (Asked (Request k m)) id e = ap (λ (l : List (ℕ × Item CallEnd)). is_ended (record t { taken = l }) id) (append-nil t.taken) ∙ e
ended_on t (Asked (Finished k)) id e = ap (λ (l : List (ℕ × Item CallEnd)). is_ended (record t { taken = l }) id) (append-nil t.taken) ∙ e
ended_on t (Asked (Dropped k)) id e = ap (λ (l : List (ℕ × Item CallEnd)). is_ended (record t { taken = l }) id) (append-nil t.taken) ∙ e
ended_on t (Answered a) id e = ap (λ (l : List (ℕ × Item CallEnd)). is_ended (record t { taken = l }) id) (append-nil t.taken) ∙ e

module _ (s : Setting) (calls : OpenCallsView) (own : List Event) (u : CallTrace) (places : are_in_place (flat_map asked_of u.reported) ≡ true) (suited : Each (flat_map asked_of u.reported)) where
  handled_calls : (t : CallTrace) (actions : List Action) (left : ℕ → List (Item CallEnd)) → AreHandled s t calls actions own left → flat_map asked_of t.reported ≡ calls_in actions
  handled_calls t actions left h = ap (flat_map asked_of) h.reported ∙ asked_back (calls_in actions)

  calls_then : (t : CallTrace) (actions : List Action) (left : ℕ → List (Item CallEnd)) (c : Call Method CallEnd) (more : List PeerEvent) → AreHandled s t calls actions own left → u.reported ≡ t.reported ++ Asked c ∷ more →
      are_in_place (calls_in actions ++ c ∷ flat_map asked_of more) ≡ true
  calls_then t actions left c more h is =
      ap are_in_place (ap (λ (l : List (Call Method CallEnd)). l ++ c ∷ flat_map asked_of more) (sym (handled_calls t actions left h)) ∙ sym (flat_map-append asked_of t.reported (Asked c ∷ more)) ∙ sym (ap (flat_map asked_of) is)) ∙ places

  -- what is told next suits a server, and isn't declined for want of memory
  suited_next : (t : CallTrace) (c : Call Method CallEnd) (more : List PeerEvent) → u.reported ≡ t.reported ++ Asked c ∷ more → IsSuited c
  suited_next t c more is = (each_behind (flat_map asked_of t.reported) (c ∷ flat_map asked_of more) (subst Each (ap (flat_map asked_of) is ∙ flat_map-append asked_of t.reported (Asked c ∷ more)) suited)).0

  -- What is hidden was handled: no call was ended for want of memory by it, and each end that was taken is.
  record Hidden (more : List PeerEvent) (t : CallTrace) (actions : List Action) : Type 0 where
    pub now : CallTrace
    pub done : List Action
    pub appends : AppendsPeerEvents now more u
    pub served : AreHandled s now calls done own none_left
    pub count : refused_in s done ≡ refused_in s actions
    pub ended : (id : ℕ) → is_ended t id ≡ true → is_ended now id ≡ true

  hide : (hidden more : List PeerEvent) (t : CallTrace) (actions : List Action) → AppendsPeerEvents t (hidden ++ more) u → AreHidden t.reported hidden → AreHandled s t calls actions own none_left → Hidden more t actions
  hide [] more t actions appends quiet h = record { now = t; done = actions; appends = appends; served = h; count = refl; ended = λ id e. e }
  hide (Asked (Declined id answer) ∷ hidden) more t actions (one _ _ _ _ rest) quiet h =
      let parts = both_nil (shown_events_of t.reported (Asked (Declined id answer))) (collect shown_events_of (t.reported ++ Asked (Declined id answer) ∷ []) hidden) quiet in
      let unbegun : list_any (is_begun_call id) (calls_in actions) ≡ false = sym (ap (list_any (is_begun_call id)) (handled_calls t actions none_left h)) ∙ unseen (list_any (is_begun_call id) (flat_map asked_of t.reported)) id parts.0 in
      let at_u : u.reported ≡ t.reported ++ Asked (Declined id answer) ∷ (hidden ++ more) = appended (hidden ++ more) (told_more t (Declined id answer)) u rest ∙ append_assoc t.reported (Asked (Declined id answer) ∷ []) (hidden ++ more) in
      let placed = calls_then t actions none_left (Declined id answer) (hidden ++ more) h at_u in
      let asks : list_any (ends_asking id) (calls_in actions) ≡ false = not_true (list_any (ends_asking id) (calls_in actions)) (place_of (calls_in actions) (flat_map asked_of (hidden ++ more)) (Declined id answer) placed) in
      let quiet_there = unheard id (calls_in actions) (front_in_place (calls_in actions) (Declined id answer ∷ flat_map asked_of (hidden ++ more)) placed) unbegun asks in
      let at : standing s actions id ≡ not_begun = unheard_standing s actions id h.open_now.each quiet_there in
      let k : Hidden more (told_more t (Declined id answer)) (Handles (Declined id answer) [] None ∷ actions) =
      hide hidden more (told_more t (Declined id answer)) (Handles (Declined id answer) [] None ∷ actions) rest parts.1 (declined_unseen s t calls actions own id answer h at) in
      record {
        now = k.now;
        done = k.done;
        appends = k.appends;
        served = k.served;
        count = k.count ∙ none_more_refused s calls actions id answer h.open_now at (suited_next t (Declined id answer) (hidden ++ more) at_u).1;
        ended = λ n e. k.ended n (ended_on t (Asked (Declined id answer)) n e);
      }
  hide (Asked (Begun id m) ∷ hidden) more t actions appends quiet h = absurd cc
  hide (Asked (Request id m) ∷ hidden) more t actions appends quiet h = absurd cc
  hide (Asked (Finished id) ∷ hidden) more t actions appends quiet h = absurd cc
  hide (Asked (Dropped id) ∷ hidden) more t actions appends quiet h = absurd cc
  hide (Answered a ∷ hidden) more t actions appends quiet h = absurd cc

-- ---- what is shown

first_of : (p q : PeerEvent) → p ∷ [] ≡ q ∷ [] → q ≡ p
first_of p q e = cc

begun_shows : (id : ℕ) (m : Method) (event : CallEvent) → IsShownAs (Asked (Begun id m)) event → Shows event (Begun id m)
begun_shows id m (says.Begun stream method) (on, same) = ap (λ (k : ℕ). (let c : Call Method CallEnd = Begun k m in c)) (sym on) ∙ ap (λ (x : Method). (let c : Call Method CallEnd = Begun stream x in c)) (sym same)
begun_shows id m other h = absurd h

request_shows : (id : ℕ) (m : List ℕ) (event : CallEvent) → IsShownAs (Asked (Request id m)) event → Shows event (Request id m)
request_shows id m (says.Request stream bytes) (on, same) = ap (λ (k : ℕ). (let c : Call Method CallEnd = Request k m in c)) (sym on) ∙ ap (λ (x : List ℕ). (let c : Call Method CallEnd = Request stream x in c)) (sym same)
request_shows id m other h = absurd h

finished_shows : (id : ℕ) (event : CallEvent) → IsShownAs (Asked (Finished id)) event → Shows event (Finished id)
finished_shows id (says.Finished stream) on = ap (λ (k : ℕ). (let c : Call Method CallEnd = Finished k in c)) (sym on)
finished_shows id other h = absurd h

dropped_shows : (id : ℕ) (event : CallEvent) → IsShownAs (Asked (Dropped id)) event → Shows event (Dropped id)
dropped_shows id (says.Dropped stream) on = subst (λ (k : ℕ). IsDropOf k (Dropped id)) (sym on) dropped_is
dropped_shows id other h = absurd h

declined_shows : (id : ℕ) (answer : CallEnd) (event : CallEvent) → IsShownAs (Asked (Dropped id)) event → Shows event (Declined id answer)
declined_shows id answer (says.Dropped stream) on = subst (λ (k : ℕ). IsDropOf k (Declined id answer)) (sym on) (declined_is answer)
declined_shows id answer other h = absurd h

shows_of : (past : List (Call Method CallEnd)) (c : Call Method CallEnd) (shown : PeerEvent) (event : CallEvent) → map Asked (shown_of past c) ≡ shown ∷ [] → IsShownAs shown event → Shows event c
shows_of past (Begun id m) shown event e h = begun_shows id m event (subst (λ (p : PeerEvent). IsShownAs p event) (first_of (Asked (Begun id m)) shown e) h)
shows_of past (Request id m) shown event e h = request_shows id m event (subst (λ (p : PeerEvent). IsShownAs p event) (first_of (Asked (Request id m)) shown e) h)
shows_of past (Finished id) shown event e h = finished_shows id event (subst (λ (p : PeerEvent). IsShownAs p event) (first_of (Asked (Finished id)) shown e) h)
shows_of past (Dropped id) shown event e h = dropped_shows id event (subst (λ (p : PeerEvent). IsShownAs p event) (first_of (Asked (Dropped id)) shown e) h)
shows_of past (Declined id answer) shown event e h = by (list_any (is_begun_call id) past) e
  where
    by : (b : Bool) → map Asked (if b then Dropped id ∷ [] else []) ≡ shown ∷ [] → Shows event (Declined id answer)
    by true e = declined_shows id answer event (subst (λ (p : PeerEvent). IsShownAs p event) (first_of (Asked (Dropped id)) shown e) h)
    by false e = absurd cc

not_answered : (cs : List (Call Method CallEnd)) (xs ys : List PeerEvent) (a : _) → map Asked cs ≡ xs ++ Answered a ∷ ys → ⊥
not_answered [] [] ys a e = cc
not_answered [] (x ∷ xs) ys a e = cc
not_answered (c ∷ cs) [] ys a e = cc
not_answered (c ∷ cs) (x ∷ xs) ys a e = not_answered cs xs ys a (tails e)
  where
    tails : {v w : PeerEvent} {l r : List PeerEvent} → v ∷ l ≡ w ∷ r → l ≡ r
    tails e = cc

-- ---- the calls of a server

module _ (u : CallTrace) (later : List ℕ) (sound : IsSoundCallTrace u later) (is : u.connection_trace.role ≡ Server) where
  abbrev spelled : List (Call Method CallEnd)
  spelled = calls (λ fields. method_by (head_of fields)) compressed too_long truncated (events Server u.connection_trace.limits u.connection_trace.heads u.connection_trace.frames)

  all_asked : reported_in u ≡ map Asked spelled
  all_asked = ap (λ (r : Role). reported_by r u.numbers (record u.connection_trace { role = r })) is

  reported_first : map Asked spelled ≡ u.reported ++ sound.reported.0
  reported_first = sym all_asked ∙ sound.reported.1

  are_placed : are_in_place (flat_map asked_of u.reported) ≡ true
  are_placed =
      let resets : ResetsErrors Server u.connection_trace.limits u.connection_trace.heads u.connection_trace.frames =
      subst (λ (r : Role). ResetsErrors r u.connection_trace.limits u.connection_trace.heads u.connection_trace.frames) is sound.connection_trace.resets in
      let split : spelled ≡ flat_map asked_of u.reported ++ flat_map asked_of sound.reported.0 = sym (asked_back spelled) ∙ ap (flat_map asked_of) reported_first ∙ flat_map-append asked_of u.reported sound.reported.0 in
      front_in_place (flat_map asked_of u.reported) (flat_map asked_of sound.reported.0) (sym (ap are_in_place split)
      ∙ calls_are_in_place u.connection_trace.limits u.connection_trace.heads u.connection_trace.frames (λ fields. method_by (head_of fields)) compressed too_long truncated resets)

-- no frame ends a stream for which no end was taken
still_unclosed : (s : Setting) (t u : CallTrace) (output : List ℕ) (event : CallEvent) (id : ℕ) → IsServer s t output → GivesCallEvent t event u → is_ended t id ≡ false → is_ended_by (sent u.connection_trace.frames) id ≡ false
still_unclosed s t u output event id h gives unended =
    going_ends_none id t.connection_trace u.connection_trace gives.tells.goes_on ∙ unclosed_unless_taken t output id h.sound h.suited h.role (sym (same_ends (queued_on t id)) ∙ unended)

no_longer : (a b : Bool) → (a ≡ true → b ≡ true) → b ≡ false → a ≡ false
no_longer true b on e = absurd (clash b (on refl) e)
no_longer false b on e = refl

pub comes_next : (s : Setting) (t u : CallTrace) (output later : List ℕ) (event : CallEvent) (calls : OpenCallsView) (actions : List Action) (own : List Event) → IsServer s t output → IsSoundCallTrace u later →
    AreHandled s t calls actions own none_left → GivesCallEvent t event u → ComesNext s u event calls actions own
comes_next s t u output later event calls actions own at sound h gives =
    let gone : Went t.connection_trace u.connection_trace = went t.connection_trace u.connection_trace gives.tells.goes_on in
    let server : u.connection_trace.role ≡ Server = gone.role ∙ at.role in
    let there : AreHandled s (record t { connection_trace = u.connection_trace }) calls actions own none_left =
    handled_on s t (record t { connection_trace = u.connection_trace }) calls actions own none_left refl refl gone.frames.0 gone.frames.1 h in
    let places = are_placed u later sound server in
    let suited = reported_each u later sound server in
    let k = hide s calls own u places suited gives.hidden (gives.last ∷ []) (record t { connection_trace = u.connection_trace }) actions gives.tells.takes gives.quiet there in
    by server places suited k gives.last (one_appended k.now u gives.last k.appends) gives.visible
  where
    by : u.connection_trace.role ≡ Server → (places : are_in_place (flat_map asked_of u.reported) ≡ true) (suited : Each (flat_map asked_of u.reported))
        (k : Hidden s calls own u places suited (gives.last ∷ []) (record t { connection_trace = u.connection_trace }) actions) (p : PeerEvent) →
        u ≡ record k.now { reported = k.now.reported ++ p ∷ []; taken = k.now.taken ++ answer_to k.now p } → shown_events_of (t.reported ++ gives.hidden) p ≡ gives.shown ∷ [] →
        ComesNext s u event calls actions own
    by server places suited k (Asked c) told visible =
        let reported : u.reported ≡ k.now.reported ++ Asked c ∷ [] = ap (λ (v : CallTrace). v.reported) told in
        record {
          before = k.now;
          earlier = k.done;
          handled = k.served;
          count = k.count;
          client_call = c;
          told = told;
          shows = shows_of (flat_map asked_of (t.reported ++ gives.hidden)) c gives.shown event visible gives.event_is;
          place = place_of (calls_in k.done) [] c (calls_then s calls own u places suited k.now k.done none_left c [] k.served reported);
          declined = λ id answer same. spared c id answer same (suited_next s calls own u places suited k.now c [] reported);
          unclosed = λ unended. still_unclosed s t u output event (stream_in c) at gives (no_longer (is_ended t (stream_in c)) (is_ended k.now (stream_in c)) (k.ended (stream_in c)) unended);
        }
      where
        spared : (c : Call Method CallEnd) (id : ℕ) (answer : CallEnd) → c ≡ Declined id answer → IsSuited c → is_want_of_memory (Finish answer) ≡ false
        spared c id answer same fits = (subst IsSuited same fits).1
    by server places suited k (Answered a) told visible =
        absurd (not_answered (spelled u later sound server) k.now.reported sound.reported.0 a
        (reported_first u later sound server ∙ ap (λ (v : CallTrace). v.reported ++ sound.reported.0) told ∙ append_assoc k.now.reported (Answered a ∷ []) sound.reported.0))

-- ---- nothing more is told

-- all that is told is hidden, and the connection has gone on to where it is now
all_hidden : (s : Setting) (t u : CallTrace) (later : List ℕ) (calls : OpenCallsView) (actions : List Action) (own : List Event) (hidden : List PeerEvent) → u.connection_trace.role ≡ Server → IsSoundCallTrace u later →
    AreHandled s t calls actions own none_left → IsPrefix t.connection_trace.frames u.connection_trace.frames → AreHidden t.reported hidden → AppendsPeerEvents (record t { connection_trace = u.connection_trace }) hidden u →
    (now : List Action) × (refused_in s now ≡ refused_in s actions) × AreHandled s u calls now own none_left
all_hidden s t u later calls actions own hidden is sound h frames quiet takes =
    let there : AreHandled s (record t { connection_trace = u.connection_trace }) calls actions own none_left =
    handled_on s t (record t { connection_trace = u.connection_trace }) calls actions own none_left refl refl frames.0 frames.1 h in
    let takes_on : AppendsPeerEvents (record t { connection_trace = u.connection_trace }) (hidden ++ []) u =
    subst (λ (l : List PeerEvent). AppendsPeerEvents (record t { connection_trace = u.connection_trace }) l u) (sym (append-nil hidden)) takes in
    let k = hide s calls own u (are_placed u later sound is) (reported_each u later sound is) hidden [] (record t { connection_trace = u.connection_trace }) actions takes_on quiet there in
    (k.done, k.count, subst (λ (v : CallTrace). AreHandled s v calls k.done own none_left) (sym (nothing_appended k.now u k.appends)) k.served)

gives_none : (c d : ConnectionTrace) → conn.GivesEvents c [] d → Went c d
gives_none c d h = went_now c d [] h

pub went_needs : (t u : CallTrace) → NeedsMore t u → Went t.connection_trace u.connection_trace
went_needs t u needs = went_then t.connection_trace needs.before u.connection_trace (went t.connection_trace needs.before needs.tells.goes_on) (gives_none needs.before u.connection_trace needs.waits.goes)

pub comes_none : (s : Setting) (t u : CallTrace) (later : List ℕ) (calls : OpenCallsView) (actions : List Action) (own : List Event) → t.connection_trace.role ≡ Server → IsSoundCallTrace u later →
    AreHandled s t calls actions own none_left → NeedsMore t u → (now : List Action) × (refused_in s now ≡ refused_in s actions) × AreHandled s u calls now own none_left × (rest : List ℕ) × IsSettled u rest
comes_none s t u later calls actions own is sound h needs =
    let gone : Went t.connection_trace u.connection_trace =
    went_then t.connection_trace needs.before u.connection_trace (went t.connection_trace needs.before needs.tells.goes_on) (gives_none needs.before u.connection_trace needs.waits.goes) in
    let server : u.connection_trace.role ≡ Server = gone.role ∙ is in
    let k = all_hidden s t u later calls actions own needs.hidden server sound h gone.frames needs.quiet needs.tells.takes in (
      k.0,
      k.1,
      k.2,
      needs.waits.rest,
      record {
        all = needs.reported;
        alive = ap (λ (c : ConnectionTrace). c.refusal) needs.waits.goes.goes_on;
        unstopped = needs.waits.unstopped;
        whole = subst (λ (r : Role). Frames (peer_preface r) u.connection_trace.fed (received u.connection_trace.frames) needs.waits.rest) server needs.waits.whole;
      },
    )

-- ---- the connection stops

pub went_stop : (c d : ConnectionTrace) (stop : Stop) → conn.Stops c stop d → Went c d
went_stop c d stop h =
    went_then c h.at d (gives_none c h.at h.goes) (record {
      role = ap (λ (x : ConnectionTrace). x.role) h.ends;
      limits = ap (λ (x : ConnectionTrace). x.limits) h.ends;
      fed = ap (λ (x : ConnectionTrace). x.fed) h.ends;
      dropped = ap (λ (x : ConnectionTrace). x.dropped) h.ends;
      frames = (Sent h.goaway ∷ [], ap (λ (x : ConnectionTrace). x.frames) h.ends);
    })

pub went_stops : (t u : CallTrace) (stop : Stop) → Stops t stop u → Went t.connection_trace u.connection_trace
went_stops t u stop stops = went_then t.connection_trace stops.before u.connection_trace (went t.connection_trace stops.before stops.tells.goes_on) (went_stop stops.before u.connection_trace stop stops.stops)

pub comes_stop : (s : Setting) (t u : CallTrace) (later : List ℕ) (stop : Stop) (calls : OpenCallsView) (actions : List Action) (own : List Event) → t.connection_trace.role ≡ Server → IsSoundCallTrace u later →
    AreHandled s t calls actions own none_left → Stops t stop u → (now : List Action) × (refused_in s now ≡ refused_in s actions) × AreHandled s u calls now own none_left
comes_stop s t u later stop calls actions own is sound h stops =
    let gone : Went t.connection_trace u.connection_trace =
    went_then t.connection_trace stops.before u.connection_trace (went t.connection_trace stops.before stops.tells.goes_on) (went_stop stops.before u.connection_trace stop stops.stops) in
    all_hidden s t u later calls actions own stops.hidden (gone.role ∙ is) sound h gone.frames stops.quiet stops.tells.takes

-- ---- memory is wanting

went_out : (c d : ConnectionTrace) → conn.RunsOutOfMemory c d ⊎ (d ≡ record c { refusal = Some NoMemory }) → Went c d
went_out c d (inl h) = record {
  role = ap (λ (x : ConnectionTrace). x.role) h.ends;
  limits = ap (λ (x : ConnectionTrace). x.limits) h.ends;
  fed = ap (λ (x : ConnectionTrace). x.fed) h.ends;
  dropped = ap (λ (x : ConnectionTrace). x.dropped) h.ends;
  frames = (h.more, ap (λ (x : ConnectionTrace). x.frames) h.ends);
}
went_out c d (inr same) = record {
  role = ap (λ (x : ConnectionTrace). x.role) same;
  limits = ap (λ (x : ConnectionTrace). x.limits) same;
  fed = ap (λ (x : ConnectionTrace). x.fed) same;
  dropped = ap (λ (x : ConnectionTrace). x.dropped) same;
  frames = ([], ap (λ (x : ConnectionTrace). x.frames) same ∙ sym (append-nil c.frames));
}

pub went_starves : (t u : CallTrace) → RunsOutOfMemory t u → Went t.connection_trace u.connection_trace
went_starves t u out = went_then t.connection_trace out.before u.connection_trace (went t.connection_trace out.before out.tells.goes_on) (went_out out.before u.connection_trace out.out)

pub comes_no_memory : (s : Setting) (t u : CallTrace) (later : List ℕ) (calls : OpenCallsView) (actions : List Action) (own : List Event) → t.connection_trace.role ≡ Server → IsSoundCallTrace u later →
    AreHandled s t calls actions own none_left → RunsOutOfMemory t u → (now : List Action) × (refused_in s now ≡ refused_in s actions) × AreHandled s u calls now own none_left
comes_no_memory s t u later calls actions own is sound h out =
    let gone : Went t.connection_trace u.connection_trace =
    went_then t.connection_trace out.before u.connection_trace (went t.connection_trace out.before out.tells.goes_on) (went_out out.before u.connection_trace out.out) in
    all_hidden s t u later calls actions own out.hidden (gone.role ∙ is) sound h gone.frames out.quiet out.tells.takes
