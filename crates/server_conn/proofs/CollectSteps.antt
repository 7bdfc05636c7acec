-- A session is collected, and then the next one, until each was.
use Rattle.std.proofs.Common.{◌≡◌, ◌⊎◌, inl, inr, ℕ, ◌+◌, ◌<◌, ◌≤◌, ◌==◌, Bool, ◌||◌, true, false, List, [], ◌∷◌, ◌++◌, Option, Some, None, Result, Ok, Err, IfOk, IfErr, is_some, map, refl, sym, ap, subst, ◌∙◌, append-nil, append_assoc, arith, eqb-true, if◌then◌else◌}
use Rattle.std.specs.List.{list_any}
use Rattle.std.specs.Prelude.{nat_lt}
use Rattle.std.proofs.lemmas.Bool.{ltb-false, ltb-true}
use Rattle.std.proofs.lemmas.Bool.Decides.{nat_tests}
use Rattle.std.proofs.lemmas.List.Folds.{list_any-append}
use Rattle.rig_io.specs.Link.{Piece}
use Rattle.grpc_heads.specs.CallEnd.{CallEnd}
use Rattle.grpc_heads.specs.declared.head.Method.{Method}
use Rattle.h2_exchange.specs.Calls.{Call}
use Rattle.h2_exchange.proofs.Places.{first_true, or_parts, same_self, second_true}
use Rattle.grpc_stream.specs.CallTrace.{CallTrace, Asked, begins_on}
use Rattle.table_lock.specs.Passes.{IsSound, PassView}
use Rattle.table_lock.proofs.Extends.{extended_none}
use Rattle.rib_core.specs.Recorded.{IsLawful}
use Rattle.table_model.specs.declared.command.Command.{Command}
use Rattle.table_model.specs.declared.command.Config.{Config}
use Rattle.table_model.specs.declared.reply.Reply.{Reply}
use Rattle.table_model.specs.Event.{Event}
use Rattle.call_answers.specs.declared.orders.Setting.{Setting}
use Rattle.call_orders.specs.Actions.{IsCollected, calls_in}
use Rattle.call_orders.specs.Calls.{Action, CallState, Collects, Modifies, Over, Standing, after, standing, without_leaves}
use Rattle.call_orders.specs.Owed.{has_end}
use Rattle.call_orders.proofs.Counts.{standing_here}
use Rattle.call_orders.proofs.Doing.{Each}
use Rattle.call_orders.proofs.Standing.{actions_parts}
use Rattle.session_engine.specs.declared.open_calls.OpenCall.{OpenCall}
use Rattle.session_engine.specs.declared.open_calls.OpenCall.TheVariants as opened
use Rattle.session_engine.specs.declared.step.Step.{Step}
use Rattle.session_engine.specs.Laws.{FollowsBy}
use Rattle.session_engine.specs.Queries.{OpenCallsView, call_on, session_in}
use Rattle.session_engine.specs.Stands.{DoesAction, IsSpentIn, Stands, items_in, leaves_by}
use Rattle.session_engine.proofs.Follows.{actions_follow, spent_follows}
use Rattle.server_turns.specs.declared.outcome.Outcome.TheVariants as over
use Rattle.server_turns.specs.Making.{MadeLast, Makes}
use Rattle.server_turns.specs.Past.{awaits_from, collects, is_progress, leaves_some}
use Rattle.server_turns.proofs.Runs.{makes_then}
use Rattle.server_account.specs.Agreeing.{IsSettled}
use Rattle.server_conn.specs.declared.conn.Cause.{Cause}
use Rattle.server_conn.specs.declared.conn.Cause.TheVariants.{Ends, Spent}
use Rattle.server_conn.specs.Gathering.{CollectsBelow, CollectsOne, IsCleared}
use Rattle.server_conn.specs.Standing.{EndsBy, NoneWaits, Works, is_spent_by, past_of}
use Rattle.server_conn.specs.Steps.{CollectsAll, CollectsDue, IsNoMore, Owes, StopsBy, has_items}
use Rattle.server_conn.proofs.Gathered.{owes_collect}
use Rattle.server_conn.proofs.Grown.{grows_refl, grows_then, made_more, may_end_from}
use Rattle.server_conn.proofs.Handed.{grows_beside}
use Rattle.server_conn.proofs.HeardOf.{told_begun}
use Rattle.server_conn.proofs.MayEnd.{no_memory_settled}
use Rattle.server_conn.proofs.NextResponse.{no_more_same, no_more_then, settled_same}
use Rattle.server_conn.proofs.OneCollect.{Shows, collect_clears, collect_quiet, collect_shows}
use Rattle.server_conn.proofs.PartDone.{spent_kept}
use Rattle.server_conn.proofs.Replies.{IsAnswered, answered, each_behind}
use Rattle.server_conn.proofs.Tellings.{stops_then}

-- ---- how a call with a session stands

abbrev session_by : CallState → Option (ℕ × Bool)
session_by (Modifies session is_finished) = Some (session, is_finished)
session_by other = None

abbrev call_by : Option (ℕ × Bool) → Option OpenCall
call_by (Some p) = Some (opened.Modifies p.0 p.1)
call_by None = None

abbrev number : Option (ℕ × Bool) → ℕ
number (Some p) = p.0
number None = 0

abbrev flag : Option (ℕ × Bool) → Bool
flag (Some p) = p.1
flag None = false

-- as the call says
in_state : (s : Setting) (call : Option OpenCall) (state : CallState) → is_some (session_in call) ≡ true → Stands s call state →
    session_by state ≡ session_in call
in_state s None state has h = absurd cc
in_state s (Some (opened.Modifies session is_finished)) state has h = ap session_by h
in_state s (Some (opened.Receives method first is_more)) state has h = absurd cc
in_state s (Some (opened.Responds rows)) state has h = absurd cc

-- a call that stands as one with a session is that one
same_call : (s : Setting) (was now : Option OpenCall) (session : ℕ) (is_finished : Bool) → Some (session, is_finished) ≡ session_in was →
    Stands s now (Modifies session is_finished) → now ≡ was
same_call s None now session is_finished e h = absurd cc
same_call s (Some (opened.Receives method first is_more)) now session is_finished e h = absurd cc
same_call s (Some (opened.Responds rows)) now session is_finished e h = absurd cc
same_call s (Some (opened.Modifies n b)) None session is_finished e (inl none) = absurd cc
same_call s (Some (opened.Modifies n b)) None session is_finished e (inr ended) = absurd cc
same_call s (Some (opened.Modifies n b)) (Some (opened.Receives method first is_more)) session is_finished e h = absurd cc
same_call s (Some (opened.Modifies n b)) (Some (opened.Responds rows)) session is_finished e h = absurd cc
same_call s (Some (opened.Modifies n b)) (Some (opened.Modifies m c)) session is_finished e h =
    ap (λ (x : CallState). call_by (session_by x)) (sym h) ∙ ap call_by e

no_session : (s : Setting) (call : Option OpenCall) → Stands s call Over → call ≡ None
no_session s None h = refl
no_session s (Some (opened.Modifies session is_finished)) h = absurd cc
no_session s (Some (opened.Receives method first is_more)) h = absurd cc
no_session s (Some (opened.Responds rows)) h = absurd cc

module _ (s : Setting) (was now : Option OpenCall) (session : ℕ) (is_finished : Bool) (is : Some (session, is_finished) ≡ session_in was) where
  gone_less : (other : Option OpenCall) → other ≡ None → IsNoMore was other
  gone_less None e = (λ f. absurd cc, λ n b f. absurd cc)
  gone_less (Some call) e = absurd cc

  -- behind a Collect a call is as it was, or over
  less : (b : Bool) (state : CallState) → state ≡ (if b then Over else Modifies session is_finished) → Stands s now state → IsNoMore was now
  less true state e h = gone_less now (no_session s now (subst (λ (x : CallState). Stands s now x) e h))
  less false state e h = no_more_same was now (same_call s was now session is_finished is (subst (λ (x : CallState). Stands s now x) e h))

  -- one that stays with its client's side ended stands so
  stays_so : (b : Bool) (state : CallState) (n : ℕ) → state ≡ (if b then Over else Modifies session is_finished) → Stands s now state →
      session_in now ≡ Some (n, true) → state ≡ Modifies session true
  stays_so true state n e h f = by now (no_session s now (subst (λ (x : CallState). Stands s now x) e h)) f
    where
      by : (call : Option OpenCall) → call ≡ None → session_in call ≡ Some (n, true) → state ≡ Modifies session true
      by None e f = absurd cc
      by (Some call) e f = absurd cc
  stays_so false state n e h f =
      e ∙ ap (λ (b : Bool). Modifies session b) (ap flag
      (is ∙ (ap session_in (sym (same_call s was now session is_finished is (subst (λ (x : CallState). Stands s now x) e h))) ∙ f)))

  -- one that stays stands as it did
  stays_as : (b f : Bool) (state : CallState) (n : ℕ) → state ≡ (if b then Over else Modifies session is_finished) → Stands s now state →
      session_in now ≡ Some (n, f) → (state ≡ Modifies session f) × (session ≡ n)
  stays_as true f state n e h g = by now (no_session s now (subst (λ (x : CallState). Stands s now x) e h)) g
    where
      by : (call : Option OpenCall) → call ≡ None → session_in call ≡ Some (n, f) → (state ≡ Modifies session f) × (session ≡ n)
      by None e g = absurd cc
      by (Some call) e g = absurd cc
  stays_as false f state n e h g = (e ∙ ap (λ (b : Bool). Modifies session b) (ap flag same), ap number same)
    where
      same : ◌≡◌ {A = Option (ℕ × Bool)} (Some (session, is_finished)) (Some (n, f))
      same = is ∙ (ap session_in (sym (same_call s was now session is_finished is (subst (λ (x : CallState). Stands s now x) e h))) ∙ g)

-- ---- one session

some_at : {A : Type 0} (o : Option A) → is_some o ≡ true → (x : A) × (o ≡ Some x)
some_at None e = absurd cc
some_at (Some x) e = (x, refl)

module _ {K : Type 0} (uses : K → CallTrace → Type 0) (output : K → List ℕ) (s : Setting) (config : Config) (p q : PassView Command Reply Config)
    (calls : K) (old new : OpenCallsView) (refused stream : ℕ) (step : Step) (t : CallTrace) (actions : List Action) (pieces : List Piece)
    (own : List Event) (rest : List ℕ) (h : Works uses output s calls old refused t actions pieces own) (settled : IsSettled t rest)
    (last : MadeLast p own) (has : is_some (session_in (call_on old stream)) ≡ true)
    (k : DoesAction IsLawful config s old new p q stream (Stands s (call_on old stream)) (Collects stream) step)
    (was_left has_left is_left : Bool) (left_is : has_left ≡ list_any (λ e. leaves_by e.reply) (without_leaves k.did))
    (noted : is_left ≡ (was_left || has_left)) where
  abbrev follows : FollowsBy s new actions stream (Collects stream k.did) (λ _. items_in step)
  follows = actions_follow s old new actions stream (Collects stream k.did) (λ _. items_in step) h.agrees.handled.open_now k.takes k.others (λ cut. refl)

  abbrev st : Standing
  st = standing s actions stream

  abbrev action : Action
  action = Collects stream k.did follows.cut

  right : IsCollected s st k.did follows.cut
  right = (actions_parts s action actions follows.open_now.each).0

  behind : standing s (action ∷ actions) stream ≡ after s st action
  behind = standing_here s action actions stream (same_self stream)

  in_session : Some (right.session, right.is_finished) ≡ session_in (call_on old stream)
  in_session = ap session_by (sym right.state_is) ∙ in_state s (call_on old stream) st.state has (h.agrees.handled.open_now.stands stream)

  going : st.state ≡ Over ⊎ (has_end st.items ≡ false) → has_end st.items ≡ false
  going (inl ended) = absurd (cc (sym ended ∙ right.state_is))
  going (inr none) = none

  unended : has_end st.items ≡ false
  unended = going (h.agrees.handled.open_now.unended stream)

  fair : Each (IsAnswered config) k.did
  fair = each_behind (IsAnswered config) own k.did (answered config q (own ++ k.did) k.entries.sound (made_more config p q own k.did last k.entries))

  shown : Shows right.session right.is_finished k.did (items_in step) (after s st action).state
  shown = collect_shows s config stream st unended k.did follows.cut right fair (items_in step)
      (ap (λ (x : Standing). x.items) (sym behind) ∙ follows.items_are)

  now_stands : Stands s (call_on new stream) (after s st action).state
  now_stands = subst (λ (x : Standing). Stands s (call_on new stream) x.state) behind (follows.open_now.stands stream)

  begun : list_any (begins_on stream) t.reported ≡ true
  begun = told_begun s stream actions t.reported h.agrees.handled.open_now.each h.agrees.handled.reported (λ none. absurd (cc (sym none ∙ right.state_is)))
      (λ ended. absurd (cc (sym ended ∙ right.state_is)))

  pub collect_owes : Owes uses output s calls new refused stream step t (action ∷ actions) pieces (own ++ k.did)
  collect_owes = owes_collect uses output s calls old new refused stream step t actions pieces own k.did rest h settled k.takes k.others
      (k.halted ∙ collect_quiet s config stream st unended k.did follows.cut right fair) unended begun

  collects_it : (n : ℕ) (b : Bool) → session_in (call_on old stream) ≡ Some (n, b) → list_any (collects n) k.did ≡ true
  collects_it n b e = subst (λ (m : ℕ). list_any (collects m) k.did ≡ true) (ap number (in_session ∙ e)) shown.done

  clears_it : is_left ≡ false → (n : ℕ) (f : Bool) → session_in (call_on new stream) ≡ Some (n, f) → IsCleared n f k.did
  clears_it none n f e =
      (let x = stays_as s (call_on old stream) (call_on new stream) right.session right.is_finished in_session shown.is_over f
      (after s st action).state n shown.state_is now_stands e in
      subst (λ (m : ℕ). IsCleared m f k.did) x.1 (collect_clears s config stream st unended k.did follows.cut right fair
      (sym left_is ∙ (or_parts was_left has_left (sym noted ∙ none)).1) f x.0))

  pub collects_one : (later : K) (refused_now : ℕ) (u : CallTrace) (has_any : Bool) → u.connection_trace ≡ t.connection_trace → u.reported ≡ t.reported →
      Works uses output s later new refused_now u (action ∷ actions) pieces (own ++ k.did) → has_any ≡ has_items (items_in step) →
      CollectsOne uses output s config p q later old new refused_now stream was_left is_left t pieces own has_any
  collects_one later refused_now u has_any same reported works any = record {
    goes = record {
      trace = u;
      grows = grows_beside t u same;
      actions = action ∷ actions;
      did = k.did;
      made = k.entries;
      works = works;
    };
    connection = same;
    reported = reported;
    moved = any ∙ shown.moved;
    done = collects_it;
    stays = λ n e. shown.stays (stays_so s (call_on old stream) (call_on new stream) right.session right.is_finished in_session shown.is_over
        (after s st action).state n shown.state_is now_stands e);
    quiet = shown.quiet;
    kept = λ none. (or_parts was_left has_left (sym noted ∙ none)).0;
    clear = clears_it;
    fewer = less s (call_on old stream) (call_on new stream) right.session right.is_finished in_session shown.is_over (after s st action).state
        shown.state_is now_stands;
    others = k.others;
  }

  pub collect_stops : (later : K) (refused_now : ℕ) (is_ended : Bool) (cause : Cause) → is_spent_by cause ≡ false →
      EndsBy s t (output later) new refused_now (past_of pieces (own ++ k.did) is_ended) cause →
      StopsBy uses output s config p q later new refused_now t pieces own is_ended cause
  collect_stops later refused_now is_ended cause unspent ends = record {
    did = k.did;
    made = subst (λ (b : Bool). Makes config b p q k.did) (sym unspent) k.entries;
    ends = ends;
  }

  abbrev Given : OpenCallsView → K → ℕ → Bool → Result Bool Cause → Type 0
  Given now later refused_now is_ended result =
      IfOk result (λ has_any. (u : CallTrace) × (u.connection_trace ≡ t.connection_trace) × (u.reported ≡ t.reported)
      × Works uses output s later now refused_now u (action ∷ actions) pieces (own ++ k.did) × (has_any ≡ has_items (items_in step)) × (step.halted ≡ false))
      × IfErr result (λ cause. EndsBy s t (output later) now refused_now (past_of pieces (own ++ k.did) is_ended) cause)

  abbrev Comes : OpenCallsView → K → ℕ → Bool → Result Bool Cause → Type 0
  Comes now later refused_now is_ended result =
      IfOk result (λ has_any. CollectsOne uses output s config p q later old now refused_now stream was_left is_left t pieces own has_any)
      × IfErr result (λ cause. StopsBy uses output s config p q later now refused_now t pieces own is_ended cause)

  given_by : (later : K) (refused_now : ℕ) (is_ended : Bool) (result : Result Bool Cause) → IfErr result (λ cause. is_spent_by cause ≡ false) →
      Given new later refused_now is_ended result → Comes new later refused_now is_ended result
  given_by later refused_now is_ended (Ok has_any) unspent given =
      (collects_one later refused_now given.0.0 has_any given.0.1 given.0.2 given.0.3 given.0.4, tt)
  given_by later refused_now is_ended (Err cause) unspent given = (tt, collect_stops later refused_now is_ended cause unspent given.1)

  -- what came of it was given, or that stops the connection
  pub collect_given : (now : OpenCallsView) → now ≡ new → (later : K) (refused_now : ℕ) (is_ended : Bool) (result : Result Bool Cause) →
      IfErr result (λ cause. is_spent_by cause ≡ false) → Given now later refused_now is_ended result → Comes now later refused_now is_ended result
  collect_given now same later refused_now is_ended result unspent =
      subst (λ (x : OpenCallsView). Given x later refused_now is_ended result → Comes x later refused_now is_ended result) (sym same)
      (given_by later refused_now is_ended result unspent)

-- a call under the lock was Spent in it
pub collect_spent : {K : Type 0} (uses : K → CallTrace → Type 0) (output : K → List ℕ) (s : Setting) (config : Config) (p q : PassView Command Reply Config)
    (calls : K) (old new : OpenCallsView) (refused stream : ℕ) (t : CallTrace) (actions : List Action) (pieces : List Piece) (own : List Event) →
    Works uses output s calls old refused t actions pieces own → IsSpentIn IsLawful config s p q stream (Stands s (call_on old stream)) [] →
    (is_ended : Bool) → StopsBy uses output s config p q calls new refused t pieces own is_ended Spent
collect_spent uses output s config p q calls old new refused stream t actions pieces own h k is_ended = record {
  did = k.did;
  made = k.spent;
  ends = spent_kept s t (output calls) old refused actions [] pieces own k.did is_ended h.agrees.server h.agrees.told h.alive h.agrees.handled.open_now
      (h.agrees.handled.reported ∙ ap (λ (cs : List (Call Method CallEnd)). map Asked cs) (sym (append-nil (calls_in actions))))
      (λ id. inl (h.agrees.handled.taken id)) h.agrees.handled.did
      (λ others. spent_follows s old actions stream [] others k.did h.agrees.handled.open_now k.stops h.agrees.handled.running) h.count;
}

-- ---- one after another

pub awaits_then : (awaits : Bool) (session : ℕ) (did more : List Event) →
    awaits_from awaits session (did ++ more) ≡ awaits_from (awaits_from awaits session did) session more
awaits_then awaits session [] more = refl
awaits_then awaits session (e ∷ es) more = awaits_then (awaits_from awaits session (e ∷ [])) session es more

abbrev or_zero : Option ℕ → ℕ
or_zero (Some n) = n
or_zero None = 0

never_some : (k : ℕ) → None ≡ Some k → ⊥
never_some k e = cc

pub none_by : (calls : OpenCallsView) (from : ℕ) →
    ((id : ℕ) → from ≤ id → is_some (session_in (call_on calls id)) ≡ true → (k : ℕ) × (None ≡ Some k) × (k ≤ id)) →
    (id : ℕ) → from ≤ id → is_some (session_in (call_on calls id)) ≡ true → ⊥
none_by calls from first id more has = let x = first id more has in never_some x.0 x.1

pub least_by : (calls : OpenCallsView) (from stream : ℕ) →
    ((id : ℕ) → from ≤ id → is_some (session_in (call_on calls id)) ≡ true → (k : ℕ) × (Some stream ≡ Some k) × (k ≤ id)) →
    (id : ℕ) → from ≤ id → is_some (session_in (call_on calls id)) ≡ true → stream ≤ id
least_by calls from stream first id more has = let x = first id more has in subst (λ (k : ℕ). k ≤ id) (sym (ap or_zero x.1)) x.2

module _ {K : Type 0} (uses : K → CallTrace → Type 0) (output : K → List ℕ) (s : Setting) (config : Config) where
  pub none_below : (p : PassView Command Reply Config) (calls : K) (open_calls : OpenCallsView) (refused : ℕ) (is_left : Bool) (t : CallTrace)
      (actions : List Action) (pieces : List Piece) (own : List Event) → IsSound IsLawful config p → Works uses output s calls open_calls refused t actions pieces own →
      CollectsBelow uses output s config 0 p p calls open_calls open_calls refused is_left t pieces own false
  none_below p calls open_calls refused is_left t actions pieces own sound h = record {
    goes = record {
      trace = t;
      grows = grows_refl t;
      actions = actions;
      did = [];
      made = extended_none IsLawful config p sound;
      works = subst (λ (es : List Event). Works uses output s calls open_calls refused t actions pieces es) (sym (append-nil own)) h;
    };
    connection = refl;
    reported = refl;
    moved = refl;
    done = λ id session is_finished below e. absurd (below_none id below);
    stays = λ id session below e. absurd (below_none id below);
    quiet = λ session. refl;
    clear = λ none id session is_finished below e. absurd (below_none id below);
    to_come = λ id within. refl;
    fewer = λ id. no_more_same (call_on open_calls id) (call_on open_calls id) refl;
  }
    where
      below_none : (id : ℕ) → id < 0 → ⊥
      below_none id below = omega (below, arith)

  -- what is settled stays so
  pub settled_below : (p q : PassView Command Reply Config) (first calls : K) (before open_calls : OpenCallsView) (refused_first refused from : ℕ)
      (is_left : Bool) (t : CallTrace) (actions : List Action) (pieces : List Piece) (own : List Event) (rest : List ℕ) (moved : Bool) →
      Works uses output s first before refused_first t actions pieces own → IsSettled t rest →
      (k : CollectsBelow uses output s config from p q calls before open_calls refused is_left t pieces own moved) → IsSettled k.goes.trace rest
  settled_below p q first calls before open_calls refused_first refused from is_left t actions pieces own rest moved h settled k =
      settled_same t k.goes.trace k.connection rest k.reported (k.goes.works.agrees.server.numbers ∙ sym h.agrees.server.numbers) settled

  module _ (p q r : PassView Command Reply Config) (mid calls : K) (before between open_calls : OpenCallsView) (refused_mid refused from stream : ℕ)
      (t : CallTrace) (pieces : List Piece) (own : List Event) (moved has_any was_left is_left : Bool)
      (h : CollectsBelow uses output s config from p q mid before between refused_mid was_left t pieces own moved)
      (k : CollectsOne uses output s config q r calls between open_calls refused stream was_left is_left h.goes.trace pieces (own ++ h.goes.did) has_any)
      (within : from ≤ stream)
      (least : (id : ℕ) → from ≤ id → is_some (session_in (call_on between id)) ≡ true → stream ≤ id) where
    abbrev both : List Event
    both = h.goes.did ++ k.goes.did

    any_first : (test : Event → Bool) → list_any test h.goes.did ≡ true → list_any test both ≡ true
    any_first test e = list_any-append test h.goes.did k.goes.did ∙ first_true (list_any test h.goes.did) (list_any test k.goes.did) e

    any_second : (test : Event → Bool) → list_any test k.goes.did ≡ true → list_any test both ≡ true
    any_second test e = list_any-append test h.goes.did k.goes.did ∙ second_true (list_any test h.goes.did) (list_any test k.goes.did) e

    never : (a b : ℕ) → a < b → b ≤ a → ⊥
    never a b less more = omega (arith, less, more)

    -- below them, at it, or between
    where_is : (id : ℕ) → id < stream + 1 → (id < from) ⊎ (stream ≡ id) ⊎ ((from ≤ id) × (id < stream))
    where_is id below = by (nat_lt id from) refl (nat_lt id stream) refl
      where
        by : (b : Bool) → nat_lt id from ≡ b → (c : Bool) → nat_lt id stream ≡ c → (id < from) ⊎ (stream ≡ id) ⊎ ((from ≤ id) × (id < stream))
        by true e c f = inl (ltb-true id from e)
        by false e true f = inr (inr (ltb-false id from e, ltb-true id stream f))
        by false e false f = let more : stream ≤ id = ltb-false id stream f in inr (inl (omega (arith, more, below)))

    apart_below : (id : ℕ) → id < stream → (stream == id) ≡ false
    apart_below id less = grind (arith, nat_tests)

    apart_above : (id : ℕ) → stream + 1 ≤ id → (stream == id) ≡ false
    apart_above id more = grind (arith, nat_tests)

    -- no session is between
    none_between : {A : Type 0} (id n : ℕ) (b : Bool) → from ≤ id → id < stream → session_in (call_on between id) ≡ Some (n, b) → A
    none_between id n b more less e = absurd (never id stream less (least id more (ap is_some e)))

    done_both : (id n : ℕ) (b : Bool) → id < stream + 1 → session_in (call_on before id) ≡ Some (n, b) → list_any (collects n) both ≡ true
    done_both id n b below e = by (where_is id below)
      where
        by : (id < from) ⊎ (stream ≡ id) ⊎ ((from ≤ id) × (id < stream)) → list_any (collects n) both ≡ true
        by (inl less) = any_first (collects n) (h.done id n b less e)
        by (inr (inl is)) =
            any_second (collects n) (k.done n b (subst (λ (i : ℕ). session_in (call_on between i) ≡ Some (n, b)) (sym is)
            (ap session_in (h.to_come id (subst (λ (i : ℕ). from ≤ i) is within)) ∙ e)))
        by (inr (inr (more, less))) = none_between id n b more less (ap session_in (h.to_come id more) ∙ e)

    stays_both : (id n : ℕ) → id < stream + 1 → session_in (call_on open_calls id) ≡ Some (n, true) → list_any leaves_some both ≡ true
    stays_both id n below e = by (where_is id below)
      where
        was : (stream == id) ≡ false → session_in (call_on between id) ≡ Some (n, true)
        was apart = ap session_in (sym (k.others id apart)) ∙ e

        by : (id < from) ⊎ (stream ≡ id) ⊎ ((from ≤ id) × (id < stream)) → list_any leaves_some both ≡ true
        by (inl less) = let before_it : id < stream = omega (arith, less, within) in any_first leaves_some (h.stays id n less (was (apart_below id before_it)))
        by (inr (inl is)) = any_second leaves_some (k.stays n (subst (λ (i : ℕ). session_in (call_on open_calls i) ≡ Some (n, true)) (sym is) e))
        by (inr (inr (more, less))) = none_between id n true more less (was (apart_below id less))

    quiet_both : (n : ℕ) → awaits_from false n both ≡ false
    quiet_both n = awaits_then false n h.goes.did k.goes.did ∙ (ap (λ (b : Bool). awaits_from b n k.goes.did) (h.quiet n) ∙ k.quiet n)

    clear_both : is_left ≡ false → (id n : ℕ) (f : Bool) → id < stream + 1 → session_in (call_on open_calls id) ≡ Some (n, f) → IsCleared n f both
    clear_both none id n f below e = by (where_is id below)
      where
        was : (stream == id) ≡ false → session_in (call_on between id) ≡ Some (n, f)
        was apart = ap session_in (sym (k.others id apart)) ∙ e

        before_it : IsCleared n f h.goes.did → IsCleared n f both
        before_it x = (
          x.0,
          λ awaits. awaits_then awaits n h.goes.did k.goes.did
              ∙ (ap (λ (b : Bool). awaits_from b n k.goes.did) (x.1 awaits) ∙ k.quiet n),
        )

        at_it : IsCleared n f k.goes.did → IsCleared n f both
        at_it x = (x.0, λ awaits. awaits_then awaits n h.goes.did k.goes.did ∙ x.1 (awaits_from awaits n h.goes.did))

        by : (id < from) ⊎ (stream ≡ id) ⊎ ((from ≤ id) × (id < stream)) → IsCleared n f both
        by (inl less) =
            let earlier : id < stream = omega (arith, less, within) in before_it (h.clear (k.kept none) id n f less (was (apart_below id earlier)))
        by (inr (inl is)) = at_it (k.clear none n f (subst (λ (i : ℕ). session_in (call_on open_calls i) ≡ Some (n, f)) (sym is) e))
        by (inr (inr (more, less))) = none_between id n f more less (was (apart_below id less))

    fewer_both : (id : ℕ) → IsNoMore (call_on before id) (call_on open_calls id)
    fewer_both id = no_more_then (call_on before id) (call_on between id) (call_on open_calls id) (h.fewer id) (by (stream == id) refl)
      where
        by : (b : Bool) → (stream == id) ≡ b → IsNoMore (call_on between id) (call_on open_calls id)
        by true e = subst (λ (i : ℕ). IsNoMore (call_on between i) (call_on open_calls i)) (eqb-true stream id e) k.fewer
        by false e = no_more_same (call_on between id) (call_on open_calls id) (k.others id e)

    -- one more
    pub below_then : CollectsBelow uses output s config (stream + 1) p r calls before open_calls refused is_left t pieces own (moved || has_any)
    below_then = record {
      goes = record {
        trace = k.goes.trace;
        grows = grows_then t h.goes.trace k.goes.trace h.goes.grows k.goes.grows;
        actions = k.goes.actions;
        did = both;
        made = makes_then config false p q r h.goes.did k.goes.did h.goes.made k.goes.made;
        works = subst (λ (es : List Event). Works uses output s calls open_calls refused k.goes.trace k.goes.actions pieces es)
            (append_assoc own h.goes.did k.goes.did) k.goes.works;
      };
      connection = k.connection ∙ h.connection;
      reported = k.reported ∙ h.reported;
      moved = ap (λ (b : Bool). b || has_any) h.moved ∙ (ap (λ (b : Bool). list_any is_progress h.goes.did || b) k.moved
          ∙ sym (list_any-append is_progress h.goes.did k.goes.did));
      done = done_both;
      stays = stays_both;
      quiet = quiet_both;
      clear = clear_both;
      to_come = λ id more. let within_it : from ≤ id = omega (arith, more, within) in k.others id (apart_above id more) ∙ h.to_come id within_it;
      fewer = fewer_both;
    }

    pub below_next : (next : ℕ) (now : Bool) → next ≡ stream + 1 → now ≡ (moved || has_any) →
        CollectsBelow uses output s config next p r calls before open_calls refused is_left t pieces own now
    below_next next now e f =
        subst (λ (n : ℕ). CollectsBelow uses output s config n p r calls before open_calls refused is_left t pieces own now) (sym e)
        (subst (λ (b : Bool). CollectsBelow uses output s config (stream + 1) p r calls before open_calls refused is_left t pieces own b) (sym f) below_then)

  -- no session is left
  pub below_all : (p q : PassView Command Reply Config) (calls : K) (before open_calls : OpenCallsView) (refused from : ℕ) (is_left : Bool) (t : CallTrace)
      (pieces : List Piece) (own : List Event) (moved : Bool) →
      CollectsBelow uses output s config from p q calls before open_calls refused is_left t pieces own moved →
      ((id : ℕ) → from ≤ id → is_some (session_in (call_on open_calls id)) ≡ true → ⊥) →
      (k : CollectsAll uses output s config p q calls before open_calls refused t pieces own moved)
      × CollectsDue true is_left before open_calls own k.goes.did
  below_all p q calls before open_calls refused from is_left t pieces own moved h none = (
    record {
      goes = h.goes;
      connection = h.connection;
      reported = h.reported;
      moved = h.moved;
      fewer = h.fewer;
    },
    record {
      all = λ must id n b e. h.done id n b (by id (nat_lt id from) refl (λ more. none id more (ap is_some (ap session_in (h.to_come id more) ∙ e)))) e;
      stays = λ must id n e. h.stays id n (by id (nat_lt id from) refl (λ more. none id more (ap is_some e))) e;
      idle = λ was clear id n b e.
          (let x = h.clear clear id n b (by id (nat_lt id from) refl (λ more. none id more (ap is_some e))) e in
          (x.0, awaits_then false n own h.goes.did ∙ x.1 (awaits_from false n own)));
    },
  )
    where
      by : (id : ℕ) (b : Bool) → nat_lt id from ≡ b → (from ≤ id → ⊥) → id < from
      by id true e out = ltb-true id from e
      by id false e out = absurd (out (ltb-false id from e))

  -- the next one stops the connection
  pub below_stops : (p q r : PassView Command Reply Config) (mid calls : K) (before between open_calls : OpenCallsView) (refused_mid refused from : ℕ)
      (is_left : Bool) (t : CallTrace) (pieces : List Piece) (own : List Event) (moved is_ended : Bool) (cause : Cause) →
      (h : CollectsBelow uses output s config from p q mid before between refused_mid is_left t pieces own moved) →
      StopsBy uses output s config q r calls open_calls refused h.goes.trace pieces (own ++ h.goes.did) is_ended cause →
      StopsBy uses output s config p r calls open_calls refused t pieces own is_ended cause
  below_stops p q r mid calls before between open_calls refused_mid refused from is_left t pieces own moved is_ended cause h k =
      stops_then uses output s config p q r mid calls between open_calls refused_mid refused t pieces own h.goes is_ended cause k

  -- memory was wanting behind it
  pub below_starved : (p q : PassView Command Reply Config) (first calls : K) (before open_calls : OpenCallsView) (refused_first refused from : ℕ)
      (is_left : Bool) (t : CallTrace) (actions : List Action) (pieces : List Piece) (own : List Event) (rest : List ℕ) (moved is_ended : Bool) →
      Works uses output s first before refused_first t actions pieces own → IsSettled t rest →
      CollectsBelow uses output s config from p q calls before open_calls refused is_left t pieces own moved →
      StopsBy uses output s config p q calls open_calls refused t pieces own is_ended (Ends over.NoMemory)
  below_starved p q first calls before open_calls refused_first refused from is_left t actions pieces own rest moved is_ended h settled k = record {
    did = k.goes.did;
    made = k.goes.made;
    ends = may_end_from s t k.goes.trace k.goes.grows (output calls) open_calls refused (past_of pieces (own ++ k.goes.did) is_ended) over.NoMemory
        (no_memory_settled uses output s calls open_calls refused k.goes.trace k.goes.actions pieces (own ++ k.goes.did) k.goes.works rest
        (settled_below p q first calls before open_calls refused_first refused from is_left t actions pieces own rest moved h settled k) is_ended);
  }

  -- no session may have to wait: none is collected
  pub none_due : (p : PassView Command Reply Config) (calls : K) (open_calls : OpenCallsView) (refused : ℕ) (t : CallTrace) (actions : List Action)
      (pieces : List Piece) (own : List Event) (must is_left : Bool) → must ≡ false → IsSound IsLawful config p →
      Works uses output s calls open_calls refused t actions pieces own →
      (k : CollectsAll uses output s config p p calls open_calls open_calls refused t pieces own false)
      × CollectsDue must is_left open_calls open_calls own k.goes.did
  none_due p calls open_calls refused t actions pieces own must is_left off sound h = (
    record {
      goes = record {
        trace = t;
        grows = grows_refl t;
        actions = actions;
        did = [];
        made = extended_none IsLawful config p sound;
        works = subst (λ (es : List Event). Works uses output s calls open_calls refused t actions pieces es) (sym (append-nil own)) h;
      };
      connection = refl;
      reported = refl;
      moved = refl;
      fewer = λ id. no_more_same (call_on open_calls id) (call_on open_calls id) refl;
    },
    record {
      all = λ on id session is_finished e. clash must on off;
      stays = λ on id session e. clash must on off;
      idle = λ idle clear. subst (λ (es : List Event). NoneWaits open_calls es) (sym (append-nil own)) (idle off);
    },
  )
    where
      clash : {A : Type 0} (b : Bool) → b ≡ true → b ≡ false → A
      clash true e f = absurd (cc f)
      clash false e f = absurd (cc e)

  -- each is where that must be
  pub due_when : {E : Type 0} (p q : PassView Command Reply Config) (calls : K) (before open_calls : OpenCallsView) (refused : ℕ) (t : CallTrace)
      (pieces : List Piece) (own : List Event) (must is_left : Bool) (result : Result Bool Cause) → must ≡ true →
      IfOk result (λ moved. (k : CollectsAll uses output s config p q calls before open_calls refused t pieces own moved)
      × CollectsDue true is_left before open_calls own k.goes.did) × E →
      IfOk result (λ moved. (k : CollectsAll uses output s config p q calls before open_calls refused t pieces own moved)
      × CollectsDue must is_left before open_calls own k.goes.did) × E
  due_when {E} p q calls before open_calls refused t pieces own must is_left result e =
      subst (λ (b : Bool). IfOk result (λ moved. (k : CollectsAll uses output s config p q calls before open_calls refused t pieces own moved)
      × CollectsDue b is_left before open_calls own k.goes.did) × E) (sym e)
