-- What the calls of a connection tell next, and what the connection comes to by it.
use Rattle.std.proofs.Common.{◌≡◌, ◌⊎◌, inl, inr, ℕ, ◌-◌, ◌^◌, min, Bool, false, List, [], ◌∷◌, ◌++◌, Option, Some, None, refl, sym, ap, subst, ◌∙◌, append-nil, append_assoc}
use Rattle.rig_io.specs.Link.{Piece}
use Rattle.h2_frames.specs.declared.code.ErrorCode.{ErrorCode}
use Rattle.h2_exchange.specs.declared.limits.CalmCause.{CalmCause}
use Rattle.h2_exchange.specs.Content.{Outcome as BlockOutcome}
use Rattle.h2_exchange.specs.Events as happened
use Rattle.h2_exchange.specs.Exchange.{Step, Sent}
use Rattle.h2_exchange.specs.Sending.{IsPrefix}
use Rattle.h2_exchange.specs.Stops.{Calm, Error, Stop}
use Rattle.http_connection.specs.Answers as conn
use Rattle.http_connection.specs.ConnectionTrace.{ConnectionTrace, NoMemory, Refusal, Stopped}
use Rattle.grpc_stream.specs.declared.event.CallEvent.{CallEvent}
use Rattle.grpc_stream.specs.CallTrace.{CallTrace, IsSoundCallTrace}
use Rattle.grpc_stream.specs.NextEvent.{GivesCallEvent, GoesOn, NeedsMore, RepeatsRefusal, RunsOutOfMemory, Stops, goes, stays}
use Rattle.table_lock.specs.Passes.{IsSound, PassView}
use Rattle.table_lock.proofs.Extends.{extended_none}
use Rattle.rib_core.specs.Recorded.{IsLawful}
use Rattle.table_model.specs.declared.command.Command.{Command}
use Rattle.table_model.specs.declared.command.Config.{Config}
use Rattle.table_model.specs.declared.reply.Reply.{Reply}
use Rattle.table_model.specs.Event.{Event}
use Rattle.call_answers.specs.declared.orders.Setting.{Setting}
use Rattle.call_orders.specs.Calls.{Action}
use Rattle.call_orders.specs.Actions.{events_in}
use Rattle.call_orders.specs.Orders.{AllLeave, staying}
use Rattle.session_engine.specs.Queries.{OpenCallsView}
use Rattle.server_turns.specs.declared.outcome.Outcome.{Outcome}
use Rattle.server_turns.specs.declared.outcome.Outcome.TheVariants as over
use Rattle.server_turns.specs.Serving.{refused_in}
use Rattle.server_turns.proofs.Runs.{makes_then}
use Rattle.server_turns.specs.Turning.{is_spent}
use Rattle.server_account.specs.Agreeing.{Agrees, AreHandled, MayBeRest, account_of, none_left}
use Rattle.server_account.specs.Ending.{AreClosed}
use Rattle.server_account.specs.Laws.{EventsComeNext}
use Rattle.server_account.proofs.Ends.{calm_serves, refused_serves, stop_leaves}
use Rattle.server_account.proofs.Events.{comes_next, comes_no_memory, comes_none, comes_stop, went, went_needs, went_starves, went_stops}
use Rattle.server_account.proofs.Going.{event_sends, needs_sends, starves_sends, stops_sends}
use Rattle.server_account.proofs.Rests.{alive_rest, never_some}
use Rattle.server_account.proofs.Tells.{server_tells, told_tells}
use Rattle.server_conn.specs.declared.conn.Cause.{Cause}
use Rattle.server_conn.specs.declared.conn.Cause.TheVariants.{Ends}
use Rattle.server_conn.specs.Standing.{AreCounted, EndsBy, KeptBy, MayEnd, Works, is_spent_by, past_of}
use Rattle.server_conn.specs.Steps.{GoesTo, Grows, Hears, HearsAll, StopsBy}
use Rattle.server_conn.proofs.Grown.{ends_from, grows_refl, grows_then, grows_to_itself, may_end_from, prefix_refl, prefix_then}
use Rattle.server_conn.proofs.MayEnd.{IsUnread, unread_no_memory}
use Rattle.server_conn.proofs.Turning.{stops_none}

-- ---- no frame and no header block is taken back

record Grew (c d : ConnectionTrace) : Type 0 where
  pub limits : d.limits ≡ c.limits
  pub heads : IsPrefix c.heads d.heads
  pub frames : IsPrefix c.frames d.frames

grew_then : (c d e : ConnectionTrace) → Grew c d → Grew d e → Grew c e
grew_then c d e h k = record {
  limits = k.limits ∙ h.limits;
  heads = prefix_then c.heads d.heads e.heads h.heads k.heads;
  frames = prefix_then c.frames d.frames e.frames h.frames k.frames;
}

grew_by : (c d : ConnectionTrace) (more : List Step) (outcomes : List BlockOutcome) (es : List happened.Event) (refusal : Option Refusal) →
    d ≡ conn.after more outcomes es refusal c → Grew c d
grew_by c d more outcomes es refusal is = record {
  limits = ap (λ (x : ConnectionTrace). x.limits) is;
  heads = (outcomes, ap (λ (x : ConnectionTrace). x.heads) is);
  frames = (more, ap (λ (x : ConnectionTrace). x.frames) is);
}

grew_on : (c e : ConnectionTrace) → GoesOn c e → Grew c e
grew_on c e (stays _) = record { limits = refl; heads = prefix_refl c.heads; frames = prefix_refl c.frames }
grew_on c e (goes _ d _ es output now sound later) = grew_then c d e (grew_by c d now.more now.outcomes es None now.goes_on) (grew_on d e later)

alive_on : (c e : ConnectionTrace) → GoesOn c e → c.refusal ≡ None → e.refusal ≡ None
alive_on c e (stays _) alive = alive
alive_on c e (goes _ d _ es output now sound later) alive = alive_on d e later (ap (λ (x : ConnectionTrace). x.refusal) now.goes_on)

module _ (t u : CallTrace) where
  grows_by : Grew t.connection_trace u.connection_trace → Grows t u
  grows_by h = record { limits = h.limits; heads = h.heads; frames = h.frames }

  pub gives_grows : (event : CallEvent) → GivesCallEvent t event u → Grows t u
  gives_grows event gives = grows_by (grew_on t.connection_trace u.connection_trace gives.tells.goes_on)

  needs_grows : NeedsMore t u → Grows t u
  needs_grows needs =
      let last = needs.waits.goes in
      grows_by (grew_then t.connection_trace needs.before u.connection_trace (grew_on t.connection_trace needs.before needs.tells.goes_on)
      (grew_by needs.before u.connection_trace last.more last.outcomes [] None last.goes_on))

  stops_grows : (stop : Stop) → Stops t stop u → Grows t u
  stops_grows stop stops =
      let last = stops.stops in
      grows_by (grew_then t.connection_trace stops.before u.connection_trace (grew_on t.connection_trace stops.before stops.tells.goes_on)
      (grew_then stops.before last.at u.connection_trace (grew_by stops.before last.at last.goes.more last.goes.outcomes [] None last.goes.goes_on)
      (grew_by last.at u.connection_trace (Sent last.goaway ∷ []) [] [] (Some (Stopped stop)) last.ends)))

  starved_by : (c d : ConnectionTrace) → conn.RunsOutOfMemory c d ⊎ (d ≡ record c { refusal = Some NoMemory }) → Grew c d × (d.refusal ≡ Some NoMemory)
  starved_by c d (inl out) = (grew_by c d out.more out.outcomes [] (Some NoMemory) out.ends, ap (λ (x : ConnectionTrace). x.refusal) out.ends)
  starved_by c d (inr same) = (
    record {
      limits = ap (λ (x : ConnectionTrace). x.limits) same;
      heads = ([], ap (λ (x : ConnectionTrace). x.heads) same ∙ sym (append-nil c.heads));
      frames = ([], ap (λ (x : ConnectionTrace). x.frames) same ∙ sym (append-nil c.frames));
    },
    ap (λ (x : ConnectionTrace). x.refusal) same,
  )

  -- any bytes may be the rest of a connection that had no memory
  starved_rest : (c : ConnectionTrace) (rest : List ℕ) → c.refusal ≡ Some NoMemory → MayBeRest c rest
  starved_rest c rest is stop stopped clear = absurd (differ (sym is ∙ stopped))
    where
      differ : Some NoMemory ≡ Some (Stopped stop) → ⊥
      differ e = cc

  starves_grows : RunsOutOfMemory t u → Grows t u
  starves_grows out =
      grows_by (grew_then t.connection_trace out.before u.connection_trace (grew_on t.connection_trace out.before out.tells.goes_on)
      (starved_by out.before u.connection_trace out.out).0)

-- ---- the law of events

events_come_next : (s : Setting) (t : CallTrace) (output later : List ℕ) (calls : OpenCallsView) (actions : List Action) (pieces : List Piece)
    (own : List Event) (u : CallTrace) → EventsComeNext s t output later calls actions pieces own u
events_come_next s t output later calls actions pieces own u = record {
  shows = λ event h gives sound. (
    server_tells s t u output later h.server (went t.connection_trace u.connection_trace gives.tells.goes_on) (gives.hidden ++ gives.last ∷ [])
        gives.tells.takes sound
        (λ rest _. event_sends t u output later h.server.sound.connection_trace
        (λ left alive. h.server.sends left (alive_rest t.connection_trace left alive)) sound.connection_trace gives rest),
    told_tells s t u output later h.server (went t.connection_trace u.connection_trace gives.tells.goes_on) pieces h.told,
    comes_next s t u output later event calls actions own h.server sound h.handled gives,
  );
  none = λ h needs sound.
      let k = comes_none s t u later calls actions own h.server.role sound h.handled needs in
      let gone = went_needs t u needs in
      let sends = needs_sends t u output later h.server.sound.connection_trace
      (λ left alive. h.server.sends left (alive_rest t.connection_trace left alive)) sound.connection_trace needs in (
        k.0,
        k.1,
        record {
          server = server_tells s t u output later h.server gone needs.hidden needs.tells.takes sound (λ rest _. sends rest);
          told = told_tells s t u output later h.server gone pieces h.told;
          handled = k.2;
        },
        k.3,
        k.4,
      );
  stops = λ stop h stops sound.
      let k = comes_stop s t u later stop calls actions own h.server.role sound h.handled stops in
      let gone = went_stops t u stop stops in
      let sends = stops_sends t u output later h.server.sound.connection_trace
      (λ left alive. h.server.sends left (alive_rest t.connection_trace left alive)) sound.connection_trace stop stops in
      let server = server_tells s t u output later h.server gone stops.hidden stops.tells.takes sound sends in
      let rest = stop_leaves s u later server stops.before stop stops.stops in
      (k.0, k.1, record { server = server; told = told_tells s t u output later h.server gone pieces h.told; handled = k.2 }, rest.0, rest.1);
  starves = λ h out sound.
      let k = comes_no_memory s t u later calls actions own h.server.role sound h.handled out in
      let gone = went_starves t u out in
      let sends = starves_sends t u output later h.server.sound.connection_trace
      (λ left alive. h.server.sends left (alive_rest t.connection_trace left alive)) sound.connection_trace out in (
        k.0,
        k.1,
        record {
          server = server_tells s t u output later h.server gone out.hidden out.tells.takes sound (λ rest _. sends rest);
          told = told_tells s t u output later h.server gone pieces h.told;
          handled = k.2;
        },
      );
}

-- ---- a connection that ends by what is told

module _ (s : Setting) (u : CallTrace) (output : List ℕ) (open_calls : OpenCallsView) (refused : ℕ) (now : List Action) (pieces : List Piece) (own : List Event)
    (h : Agrees s u output open_calls now pieces own none_left) (count : AreCounted s now refused) (is_ended : Bool) where
  starved : (rest : List ℕ) → MayBeRest u.connection_trace rest → MayEnd s u output open_calls refused (past_of pieces own is_ended) over.NoMemory
  starved rest may =
      subst (λ (ps : List Piece). MayEnd s u output open_calls refused (past_of ps own is_ended) over.NoMemory) (append-nil pieces)
      (unread_no_memory s u output open_calls refused now pieces [] own rest is_ended unread h.handled.running)
    where
      unread : IsUnread s u output open_calls refused now pieces [] own rest
      unread = record {
        left = none_left;
        server = h.server;
        told = h.told;
        quiet = refl;
        may = may;
        brought = record { open_now = h.handled.open_now; reported = h.handled.reported; did = h.handled.did; taken = h.handled.taken };
        behind = λ id. inl refl;
        count = count;
      }

  whole : AreHandled s u open_calls now (events_in now) none_left
  whole = record {
    open_now = h.handled.open_now;
    reported = h.handled.reported;
    did = refl;
    running = h.handled.running;
    taken = h.handled.taken;
  }

  closed : (last : List Event) → AllLeave (staying own) last → AreClosed now (own ++ last) last
  closed last all = record {
    did = ap (λ (es : List Event). es ++ last) h.handled.did;
    left = subst (λ (es : List Event). AllLeave (staying es) last) h.handled.did all;
  }

  -- it ends so where each way to leave keeps the promise
  ends_with : (outcome : Outcome) → is_spent (Some outcome) ≡ false → (rest : List ℕ) → MayBeRest u.connection_trace rest →
      ((last : List Event) → AllLeave (staying own) last → KeptBy s u output refused (past_of pieces (own ++ last) is_ended) outcome) →
      MayEnd s u output open_calls refused (past_of pieces own is_ended) outcome
  ends_with outcome unspent rest may kept = record {
    unspent = unspent;
    actions = now;
    open_now = h.handled.open_now;
    did = h.handled.did;
    leaves = kept;
    spent = (starved rest may).spent;
  }

  protocol : (t : CallTrace) (why : ErrorCode) (place : ℕ) → Stops t (Error why place) u → (rest : List ℕ) → MayBeRest u.connection_trace rest →
      MayEnd s u output open_calls refused (past_of pieces own is_ended) (over.Protocol why place)
  protocol t why place stops rest may = ends_with (over.Protocol why place) refl rest may (λ last all.
      (let k = refused_serves s t u output why place open_calls now (past_of pieces (own ++ last) is_ended) last h.server h.told stops whole
      (closed last all) in record {
        account = account_of u output k.0 now;
        grows = grows_to_itself u output k.0 now;
        output_is = refl;
        over = record { serves = k.1; count = count };
      }))

  calm : (t : CallTrace) (cause : CalmCause) → Stops t (Calm cause) u → (rest : List ℕ) → MayBeRest u.connection_trace rest →
      MayEnd s u output open_calls refused (past_of pieces own is_ended) (over.Calm cause)
  calm t cause stops rest may = ends_with (over.Calm cause) refl rest may (λ last all. record {
    account = account_of u output rest now;
    grows = grows_to_itself u output rest now;
    output_is = refl;
    over = record {
      serves = calm_serves s t u output rest cause open_calls now (past_of pieces (own ++ last) is_ended) last h.server h.told stops whole (closed last all);
      count = count;
    };
  })

-- ---- what is told

module _ {K : Type 0} (uses : K → CallTrace → Type 0) (output : K → List ℕ) (s : Setting) (config : Config) (before calls : K) (open_calls : OpenCallsView)
    (refused : ℕ) (t u : CallTrace) (actions : List Action) (pieces : List Piece) (own : List Event)
    (h : Works uses output s before open_calls refused t actions pieces own) (used : uses calls u) (sound : IsSoundCallTrace u (output calls)) where
  abbrev law : EventsComeNext s t (output before) (output calls) open_calls actions pieces own u
  law = events_come_next s t (output before) (output calls) open_calls actions pieces own u

  counted : (now : List Action) → refused_in s now ≡ refused_in s actions → AreCounted s now refused
  counted now same = h.count ∙ ap (λ (n : ℕ). min n (2 ^ 64 - 1)) (sym same)

  -- an event
  pub event_heard : (event : CallEvent) → GivesCallEvent t event u → Hears uses output s calls open_calls refused event u actions pieces own
  event_heard event gives =
      (let k = law.shows event h.agrees gives sound in record {
        used = used;
        alive = alive_on t.connection_trace u.connection_trace gives.tells.goes_on gives.tells.alive;
        server = k.0;
        told = k.1;
        next = k.2;
        count = h.count;
      })

  module _ (p : PassView Command Reply Config) (legal : IsSound IsLawful config p) where
    -- nothing more, for want of bytes
    pub all_told : NeedsMore t u → HearsAll uses output s config p p calls open_calls refused t pieces own
    all_told needs =
        (let k = law.none h.agrees needs sound in record {
          goes = record {
            trace = u;
            grows = needs_grows t u needs;
            actions = k.0;
            did = [];
            made = extended_none IsLawful config p legal;
            works = subst (λ (es : List Event). Works uses output s calls open_calls refused u k.0 pieces es) (sym (append-nil own))
                (record { used = used; alive = k.4.alive; agrees = k.2; count = counted k.0 k.1 });
          };
          rest = k.3;
          settled = k.4;
        })

    abbrev StopsWith : Outcome → Bool → Type 0
    StopsWith outcome is_ended = StopsBy uses output s config p p calls open_calls refused t pieces own is_ended (Ends outcome)

    stops_with : (outcome : Outcome) (is_ended : Bool) → Grows t u →
        MayEnd s u (output calls) open_calls refused (past_of pieces own is_ended) outcome → StopsWith outcome is_ended
    stops_with outcome is_ended grows ends =
        stops_none uses output s config p calls open_calls refused t pieces own is_ended (Ends outcome) legal refl
        (may_end_from s t u grows (output calls) open_calls refused (past_of pieces own is_ended) outcome ends)

    -- a rule was broken
    pub told_refused : (why : ErrorCode) (place : ℕ) (is_ended : Bool) → RepeatsRefusal t (Stopped (Error why place)) u ⊎ Stops t (Error why place) u →
        StopsWith (over.Protocol why place) is_ended
    told_refused why place is_ended (inl again) = never_some t.connection_trace.refusal (Stopped (Error why place)) h.alive again.0
    told_refused why place is_ended (inr stops) =
        (let k = law.stops (Error why place) h.agrees stops sound in
        stops_with (over.Protocol why place) is_ended (stops_grows t u (Error why place) stops)
        (protocol s u (output calls) open_calls refused k.0 pieces own k.2 (counted k.0 k.1) is_ended t why place stops k.3 k.4))

    -- a counted limit was passed
    pub told_calm : (cause : CalmCause) (is_ended : Bool) → RepeatsRefusal t (Stopped (Calm cause)) u ⊎ Stops t (Calm cause) u →
        StopsWith (over.Calm cause) is_ended
    told_calm cause is_ended (inl again) = never_some t.connection_trace.refusal (Stopped (Calm cause)) h.alive again.0
    told_calm cause is_ended (inr stops) =
        (let k = law.stops (Calm cause) h.agrees stops sound in
        stops_with (over.Calm cause) is_ended (stops_grows t u (Calm cause) stops)
        (calm s u (output calls) open_calls refused k.0 pieces own k.2 (counted k.0 k.1) is_ended t cause stops k.3 k.4))

    -- there was no memory
    pub told_starved : (is_ended : Bool) → RepeatsRefusal t NoMemory u ⊎ RunsOutOfMemory t u → StopsWith over.NoMemory is_ended
    told_starved is_ended (inl again) = never_some t.connection_trace.refusal NoMemory h.alive again.0
    told_starved is_ended (inr out) =
        (let k = law.starves h.agrees out sound in
        stops_with over.NoMemory is_ended (starves_grows t u out)
        (starved s u (output calls) open_calls refused k.0 pieces own k.2 (counted k.0 k.1) is_ended []
        (starved_rest t u u.connection_trace [] (starved_by t u out.before u.connection_trace out.out).1)))

-- ---- one behind another

module _ {K : Type 0} (uses : K → CallTrace → Type 0) (output : K → List ℕ) (s : Setting) (config : Config) (p q : PassView Command Reply Config) (calls : K)
    (open_calls : OpenCallsView) (refused : ℕ) (t u : CallTrace) (pieces : List Piece) (own : List Event) (grows : Grows t u) where
  pub goes_from : GoesTo uses output s config p q calls open_calls refused u pieces own → GoesTo uses output s config p q calls open_calls refused t pieces own
  goes_from h = record {
    trace = h.trace;
    grows = grows_then t u h.trace grows h.grows;
    actions = h.actions;
    did = h.did;
    made = h.made;
    works = h.works;
  }

module _ {K : Type 0} (uses : K → CallTrace → Type 0) (output : K → List ℕ) (s : Setting) (config : Config) where
  abbrev Goes : PassView Command Reply Config → PassView Command Reply Config → K → OpenCallsView → ℕ → CallTrace → List Piece → List Event → Type 0
  Goes = GoesTo uses output s config

  pub goes_none : (p : PassView Command Reply Config) (calls : K) (open_calls : OpenCallsView) (refused : ℕ) (t : CallTrace) (actions : List Action)
      (pieces : List Piece) (own : List Event) → IsSound IsLawful config p → Works uses output s calls open_calls refused t actions pieces own →
      Goes p p calls open_calls refused t pieces own
  goes_none p calls open_calls refused t actions pieces own legal h = record {
    trace = t;
    grows = grows_refl t;
    actions = actions;
    did = [];
    made = extended_none IsLawful config p legal;
    works = subst (λ (es : List Event). Works uses output s calls open_calls refused t actions pieces es) (sym (append-nil own)) h;
  }

  module _ (p q r : PassView Command Reply Config) (mid calls : K) (open_mid open_calls : OpenCallsView) (refused_mid refused : ℕ) (t : CallTrace)
      (pieces : List Piece) (own : List Event) (h : Goes p q mid open_mid refused_mid t pieces own) where
    pub goes_then : Goes q r calls open_calls refused h.trace pieces (own ++ h.did) → Goes p r calls open_calls refused t pieces own
    goes_then k = record {
      trace = k.trace;
      grows = grows_then t h.trace k.trace h.grows k.grows;
      actions = k.actions;
      did = h.did ++ k.did;
      made = makes_then config false p q r h.did k.did h.made k.made;
      works = subst (λ (es : List Event). Works uses output s calls open_calls refused k.trace k.actions pieces es) (append_assoc own h.did k.did) k.works;
    }

    pub heard_then : HearsAll uses output s config q r calls open_calls refused h.trace pieces (own ++ h.did) →
        HearsAll uses output s config p r calls open_calls refused t pieces own
    unfolding goes_then
    heard_then k = record { goes = goes_then k.goes; rest = k.rest; settled = k.settled }

    pub stops_then : (is_ended : Bool) (cause : Cause) →
        StopsBy uses output s config q r calls open_calls refused h.trace pieces (own ++ h.did) is_ended cause →
        StopsBy uses output s config p r calls open_calls refused t pieces own is_ended cause
    stops_then is_ended cause k = record {
      did = h.did ++ k.did;
      made = makes_then config (is_spent_by cause) p q r h.did k.did h.made k.made;
      ends = ends_from s t h.trace h.grows (output calls) open_calls refused (past_of pieces (own ++ (h.did ++ k.did)) is_ended) cause
          (subst (λ (es : List Event). EndsBy s h.trace (output calls) open_calls refused (past_of pieces es is_ended) cause)
          (append_assoc own h.did k.did) k.ends);
    }
