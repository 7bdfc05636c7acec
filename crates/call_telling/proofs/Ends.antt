-- What the connection says that is no event of a stream: GOAWAY, that it needs more, and why it gives no more.
use Rattle.std.proofs.Common.{◌≡◌, ℕ, ◌==◌, Bool, true, false, ◌&&◌, List, [], ◌∷◌, ◌++◌, length, take, map, filter, cond, Option, Some, None, refl, sym, ap, subst, ◌∙◌, inl, inr, arith}
use Rattle.std.specs.Prelude.{not, if◌then◌else◌}
use Rattle.std.specs.List.{list_any}
use Rattle.std.specs.Int.{w32, to_be_bytes}
use Rattle.std.proofs.lemmas.Bool.{eqb-true}
use Rattle.std.proofs.lemmas.List.{append-nil, take_all}
use Rattle.h2_frames.specs.declared.code.ErrorCode.{ErrorCode}
use Rattle.h2_frames.specs.declared.frame.Frame.TheVariants.{GoAway}
use Rattle.h2_exchange.specs.declared.role.Role.{Role}
use Rattle.h2_exchange.specs.declared.role.Role.TheVariants.{Client, Server}
use Rattle.h2_exchange.specs.Content.{Outcome}
use Rattle.h2_exchange.specs.Events.{Event}
use Rattle.h2_exchange.specs.Events as event
use Rattle.h2_exchange.specs.Exchange.{Sent}
use Rattle.h2_exchange.specs.Sending.{last_begun}
use Rattle.h2_exchange.specs.Stops.{Stop, before_stop}
use Rattle.h2_exchange.specs.Streams.{is_begun, is_live, is_over}
use Rattle.h2_exchange.proofs.Places.{clash, neither, not_true, or_parts}
use Rattle.http_connection.specs.Answers as conn
use Rattle.http_connection.specs.Answers.{after}
use Rattle.http_connection.specs.ConnectionTrace.{ConnectionTrace, IsSound, NoMemory, Stopped, events_in, is_alive}
use Rattle.grpc_stream.proofs.Granted.{body, one_frame}
use Rattle.grpc_stream.specs.CallTrace.{CallTrace, PeerEvent, reported_by, reported_in}
use Rattle.grpc_stream.specs.NextEvent as next
use Rattle.grpc_stream.specs.NextEvent.{GoesOn, NeedsMore, RunsOutOfMemory, Stops}
use Rattle.kept_calls.specs.CallState.{CallState, call_on}
use Rattle.call_hearing.specs.declared.pending.Pending.{Pending}
use Rattle.call_hearing.specs.declared.pending.Pending.TheVariants.{Nothing}
use Rattle.call_hearing.specs.Listening.{still_told, told_by}
use Rattle.call_hearing.proofs.Telling.{others_tell_nothing}
use Rattle.call_sending.specs.Spelling.{Speaks}
use Rattle.call_standing.specs.Standing.{Holds, IsGoing, IsHiding, IsRefused, IsRest, StandsOn, State, bare, is_once}
use Rattle.call_standing.proofs.Pushed.{control_holds}
use Rattle.call_standing.proofs.Rest.{rest_of}
use Rattle.call_sending.specs.Moves.{is_control}
use Rattle.call_standing.proofs.Sent.{events_kept}
use Rattle.call_telling.specs.Giving.{HasGiven, untaken}
use Rattle.call_telling.proofs.Given.{Quietly, further, quietly, split_is}
use Rattle.call_telling.proofs.Receives.{receives_hold, still_closed_at}
use Rattle.call_telling.proofs.TakesIn.{takes_in}

-- what all events tell is what is reported of them
all_told : (role : Role) (t : CallTrace) → t.connection_trace.role ≡ role → told_by t.connection_trace.role t.numbers (events_in t.connection_trace) ≡ reported_in t
all_told Server t e = subst (λ (r : Role). told_by r t.numbers (events_in t.connection_trace) ≡ reported_by r t.numbers t.connection_trace) (sym e) refl
all_told Client t e = subst (λ (r : Role). told_by r t.numbers (events_in t.connection_trace) ≡ reported_by r t.numbers t.connection_trace) (sym e) refl

-- where nothing is still to be told and all events were given, all was told
pub reported_all : (s : State) (t : CallTrace) → s.pending ≡ Nothing → t.connection_trace.given ≡ events_in t.connection_trace → Holds s (bare t) → t.reported ≡ reported_in t
reported_all s t quiet given h =
    sym (h.told ∙ ap (λ (p : Pending). t.reported ++ still_told t.connection_trace.role s.calls p) quiet ∙ append-nil t.reported)
    ∙ ap (told_by t.connection_trace.role t.numbers) given ∙ all_told t.connection_trace.role t refl

-- ---- calls whose streams are over are forgotten

module _ (p : ℕ → Bool) where
  abbrev passes : CallState → Bool
  passes c = p c.stream

  kept_on : (id : ℕ) (cs : List CallState) → p id ≡ true → call_on id (filter passes cs) ≡ call_on id cs
  kept_on id [] live = refl
  kept_on id (c ∷ cs) live = by (c.stream == id) (p c.stream) refl refl (kept_on id cs live)
    where
      by : (here q : Bool) → (c.stream == id) ≡ here → p c.stream ≡ q → call_on id (filter passes cs) ≡ call_on id cs →
          call_on id (cond q (c ∷ filter passes cs) (filter passes cs)) ≡ (if here then Some c else call_on id cs)
      by here true e f later = ap (λ (b : Bool). if b then Some c else call_on id (filter passes cs)) e ∙ ap (λ (o : Option CallState). if here then Some c else o) later
      by true false e f later = absurd (clash (p id) live (subst (λ (k : ℕ). p k ≡ false) (eqb-true c.stream id e) f))
      by false false e f later = later

  gone_on_it : (id : ℕ) (cs : List CallState) → p id ≡ false → call_on id (filter passes cs) ≡ None
  gone_on_it id [] dead = refl
  gone_on_it id (c ∷ cs) dead = by (c.stream == id) (p c.stream) refl refl (gone_on_it id cs dead)
    where
      by : (here q : Bool) → (c.stream == id) ≡ here → p c.stream ≡ q → call_on id (filter passes cs) ≡ None → call_on id (cond q (c ∷ filter passes cs) (filter passes cs)) ≡ None
      by here false e f later = later
      by true true e f later = absurd (clash (p id) (subst (λ (k : ℕ). p k ≡ true) (eqb-true c.stream id e) f) dead)
      by false true e f later = ap (λ (b : Bool). if b then Some c else call_on id (filter passes cs)) e ∙ later

  abbrev ids : List CallState → List ℕ
  ids cs = map (λ (c : CallState). c.stream) cs

  none_there : (id : ℕ) (cs : List CallState) → list_any (λ i. i == id) (ids cs) ≡ false → list_any (λ i. i == id) (ids (filter passes cs)) ≡ false
  none_there id [] e = refl
  none_there id (c ∷ cs) e = let both = or_parts (c.stream == id) (list_any (λ i. i == id) (ids cs)) e in by (p c.stream) both.0 (none_there id cs both.1)
    where
      by : (q : Bool) → (c.stream == id) ≡ false → list_any (λ i. i == id) (ids (filter passes cs)) ≡ false → list_any (λ i. i == id) (ids (cond q (c ∷ filter passes cs) (filter passes cs))) ≡ false
      by true off rest = neither (c.stream == id) (list_any (λ i. i == id) (ids (filter passes cs))) off rest
      by false off rest = rest

  never_once : (id : ℕ) (ks : List ℕ) → list_any (λ i. i == id) ks ≡ false → is_once id ks ≡ true
  never_once id [] e = refl
  never_once id (k ∷ ks) e =
      let both = or_parts (k == id) (list_any (λ i. i == id) ks) e in
      ap (λ (b : Bool). if b then not (list_any (λ i. i == id) ks) else is_once id ks) both.0 ∙ never_once id ks both.1

  once_still : (id : ℕ) (cs : List CallState) → is_once id (ids cs) ≡ true → is_once id (ids (filter passes cs)) ≡ true
  once_still id [] e = refl
  once_still id (c ∷ cs) e = by (p c.stream) (c.stream == id) refl e (once_still id cs)
    where
      by : (q here : Bool) → (c.stream == id) ≡ here → (if here then not (list_any (λ i. i == id) (ids cs)) else is_once id (ids cs)) ≡ true →
          (is_once id (ids cs) ≡ true → is_once id (ids (filter passes cs)) ≡ true) → is_once id (ids (cond q (c ∷ filter passes cs) (filter passes cs))) ≡ true
      by true true f h later =
          ap (λ (b : Bool). if b then not (list_any (λ i. i == id) (ids (filter passes cs))) else is_once id (ids (filter passes cs))) f
          ∙ ap not (none_there id cs (not_true (list_any (λ i. i == id) (ids cs)) h))
      by true false f h later = ap (λ (b : Bool). if b then not (list_any (λ i. i == id) (ids (filter passes cs))) else is_once id (ids (filter passes cs))) f ∙ later h
      by false true f h later = never_once id (ids (filter passes cs)) (none_there id cs (not_true (list_any (λ i. i == id) (ids cs)) h))
      by false false f h later = later h

dead_over : (b o : Bool) → b ≡ true → (b && not o) ≡ false → o ≡ true
dead_over true true e f = refl
dead_over true false e f = absurd cc
dead_over false o e f = absurd cc

-- all events were given, so nothing more comes on a stream that is over
pub forgets : (s : State) (t : CallTrace) → t.connection_trace.given ≡ events_in t.connection_trace → s.pending ≡ Nothing → Holds s t →
    Holds (record s { calls = filter (λ (c : CallState). is_live t.connection_trace.role t.connection_trace.frames c.stream) s.calls }) t
forgets s t given quiet h = record {
  role_is = h.role_is;
  told = h.told ∙ ap (λ (l : List PeerEvent). t.reported ++ l) (nothing_told s.pending quiet);
  each = λ id. each_kept id (is_live t.connection_trace.role t.connection_trace.frames id) refl (call_on id s.calls) refl;
  once = λ id. once_still (is_live t.connection_trace.role t.connection_trace.frames) id s.calls (h.once id);
  only = h.only;
  unpadded = h.unpadded;
  calls = h.calls;
}
  where
    left : List CallState
    left = filter (λ (c : CallState). is_live t.connection_trace.role t.connection_trace.frames c.stream) s.calls

    nothing_told : (p : Pending) → p ≡ Nothing → still_told t.connection_trace.role s.calls p ≡ still_told t.connection_trace.role left p
    nothing_told p e = ap (still_told t.connection_trace.role s.calls) e ∙ sym (ap (still_told t.connection_trace.role left) e)

    each_kept : (id : ℕ) (b : Bool) → is_live t.connection_trace.role t.connection_trace.frames id ≡ b → (o : Option CallState) → call_on id s.calls ≡ o → StandsOn t s.pending id (call_on id left)
    each_kept id true live o e = subst (StandsOn t s.pending id) (sym (kept_on (is_live t.connection_trace.role t.connection_trace.frames) id s.calls live)) (h.each id)
    each_kept id false dead None e =
        subst (StandsOn t s.pending id) (sym (gone_on_it (is_live t.connection_trace.role t.connection_trace.frames) id s.calls dead)) (subst (StandsOn t s.pending id) e (h.each id))
    each_kept id false dead (Some c) e =
        let stood : StandsOn t s.pending id (Some c) = subst (StandsOn t s.pending id) e (h.each id) in
        subst (StandsOn t s.pending id) (sym (gone_on_it (is_live t.connection_trace.role t.connection_trace.frames) id s.calls dead)) (inr (record {
          begun = stood.1;
          over = dead_over (is_begun t.connection_trace.role t.connection_trace.frames id) (is_over t.connection_trace.frames id) stood.1 dead;
          rest = c.unsent;
          speaks = subst (λ (k : ℕ). Speaks t k c.unsent) stood.0 stood.2.sends.speaks;
          silent = ([], sym given ∙ sym (append-nil t.connection_trace.given), refl);
        }))

-- what is sound stays so behind a refusal, where credit is no longer owed
refused_sound : (c : ConnectionTrace) (bytes : List ℕ) → IsSound c bytes → IsSound (record c { refusal = Some NoMemory }) bytes
refused_sound c bytes sound = record {
  front = sound.front;
  within = sound.within;
  text = sound.text;
  read = sound.read;
  last = sound.last;
  spelled = sound.spelled;
  writable = sound.writable;
  closed = sound.closed;
  given = sound.given;
  placed = sound.placed;
  acknowledged = sound.acknowledged;
  windows = sound.windows;
  credited = λ none. absurd cc;
  resets = sound.resets;
}

-- the calls gave up for want of memory, where their connection stood so
abbrev pub died : CallTrace → ConnectionTrace → CallTrace
died t d = record t { connection_trace = record d { refusal = Some NoMemory } }

module _ {C : Type 0} (stands : C → ConnectionTrace → Type 0) (output : C → List ℕ) (law : (conn : C) (c : ConnectionTrace) → stands conn c → IsSound c (output conn)) where
  -- ---- GOAWAY

  pub goaway_step : (conn : C) (s : State) (t : CallTrace) (last : ℕ) (why : ErrorCode) (g : HasGiven stands conn s t (event.GoneAway last why)) → s.pending ≡ Nothing →
      Quietly stands output law conn s t (event.GoneAway last why) g s
  goaway_step conn s t last why g quiet =
      quietly stands output law conn s t (event.GoneAway last why) g quiet
      (takes_in (bare (untaken t g.at)) (event.GoneAway last why) [] t.taken (further stands output law conn s t (event.GoneAway last why) g) (split_is stands output law conn s t (event.GoneAway last why) g) s s.calls Nothing quiet
      (others_tell_nothing.goaway g.at.role t.numbers t.connection_trace.given last why) (λ n off. record { same = refl; none_begins = refl; none_queued = refl }) (λ n on st. absurd cc) g.holds.once g.holds)

  module _ (old new : C) (s : State) (t : CallTrace) (d : ConnectionTrace) (connected : stands new d) (h : IsGoing stands output old s t) where
    abbrev pub now_at : CallTrace
    now_at = record t { connection_trace = d }

    -- ---- every whole frame was received

    module _ (needs : conn.NeedsMore t.connection_trace d) where
      given_same : t.connection_trace.given ≡ d.given
      given_same = sym (ap (λ (c : ConnectionTrace). c.given) needs.goes.goes_on ∙ append-nil t.connection_trace.given)

      needs_hold : Holds s (bare now_at)
      needs_hold =
          let sound = law old t.connection_trace h.connected in
          subst (λ (es : List Event). Holds s (record (bare now_at) { connection_trace = record (bare now_at).connection_trace { given = es } })) given_same
          (receives_hold s t [] d sound.read.enough sound.closed needs.goes h.holds)

      needs_going : (now : State) → Holds now (bare now_at) → IsGoing stands output new now now_at
      needs_going now holds = record { connected = connected; alive = ap (λ (c : ConnectionTrace). c.refusal) needs.goes.goes_on; holds = holds; rest = rest_of now (bare now_at) (law new d connected).given holds }

      pub needs_more : s.pending ≡ Nothing → NeedsMore t now_at
      needs_more quiet = record {
        before = t.connection_trace;
        hidden = [];
        quiet = refl;
        tells = record { alive = h.alive; goes_on = next.stays t.connection_trace; takes = next.none now_at };
        reported = reported_all s now_at quiet needs.given needs_hold;
        waits = needs;
      }

      pub waits_going : IsGoing stands output new s now_at
      waits_going = needs_going s needs_hold

      pub forgets_going : s.pending ≡ Nothing → IsGoing stands output new (record s { calls = filter (λ (c : CallState). is_live d.role d.frames c.stream) s.calls }) now_at
      forgets_going quiet =
          needs_going (record s { calls = filter (λ (c : CallState). is_live d.role d.frames c.stream) s.calls }) (forgets s (bare now_at) needs.given quiet needs_hold)

    -- ---- a rule was broken

    module _ (stop : Stop) (stops : conn.Stops t.connection_trace stop d) where
      at_given : stops.at.given ≡ t.connection_trace.given
      at_given = ap (λ (c : ConnectionTrace). c.given) stops.goes.goes_on ∙ append-nil t.connection_trace.given

      goaway_is : is_control stops.goaway ≡ true
      goaway_is =
          ap is_control (one_frame stops.goaway (GoAway (body 0 0 (to_be_bytes w32 (last_begun stops.at.role (before_stop stops.at.role stops.at.limits stops.at.heads stops.at.frames)) ++ to_be_bytes w32 (conn.code_of stop).0) (omega arith) (omega arith)))
          stops.text)

      stopped_hold : Holds s (bare now_at)
      stopped_hold =
          let sound = law old t.connection_trace h.connected in
          let pushed_one = control_holds (bare (untaken t stops.at)) stops.goaway s (still_closed_at s t [] stops.at sound.read.enough sound.closed stops.goes h.holds) goaway_is
          (receives_hold s t [] stops.at sound.read.enough sound.closed stops.goes h.holds) in
          let heads_now : Holds s (bare (record t { connection_trace = record (after (Sent stops.goaway ∷ []) [] [] (Some (Stopped stop)) stops.at) { given = t.connection_trace.given } })) =
          subst (λ (hs : List Outcome). Holds s (bare (record t { connection_trace = record (after (Sent stops.goaway ∷ []) [] [] (Some (Stopped stop)) stops.at) { given = t.connection_trace.given; heads = hs } })))
          (sym (append-nil stops.at.heads)) pushed_one in
          let all_now : Holds s (bare (record t { connection_trace = after (Sent stops.goaway ∷ []) [] [] (Some (Stopped stop)) stops.at })) =
          subst (λ (es : List Event). Holds s (bare (record t { connection_trace = record (after (Sent stops.goaway ∷ []) [] [] (Some (Stopped stop)) stops.at) { given = es } })))
          (sym (append-nil stops.at.given ∙ at_given)) heads_now in
          subst (λ (c : ConnectionTrace). Holds s (bare (record t { connection_trace = c }))) (sym stops.ends) all_now

      all_given : d.given ≡ events_in d
      all_given =
          let same : d.given ≡ stops.at.given = ap (λ (c : ConnectionTrace). c.given) stops.ends ∙ append-nil stops.at.given in
          let quiet : events_in d ≡ events_in stops.at =
          ap events_in stops.ends
          ∙ ap (λ (hs : List Outcome). events_in (record (after (Sent stops.goaway ∷ []) [] [] (Some (Stopped stop)) stops.at) { heads = hs })) (append-nil stops.at.heads)
          ∙ events_kept stops.at.role stops.at.limits stops.at.heads stops.at.frames (stops.goaway ∷ []) in
          same ∙ stops.given ∙ sym quiet

      pub stops_so : s.pending ≡ Nothing → Stops t stop now_at
      stops_so quiet = record {
        before = t.connection_trace;
        hidden = [];
        quiet = refl;
        tells = record { alive = h.alive; goes_on = next.stays t.connection_trace; takes = next.none now_at };
        reported = reported_all s now_at quiet all_given stopped_hold;
        stops = stops;
      }

      pub refused_going : IsRefused stands output new now_at
      refused_going = record {
        connected = connected;
        refused = ap is_alive stops.ends;
        rest = rest_of s (bare now_at) (law new d connected).given stopped_hold;
      }

    -- ---- the connection had no memory

    module _ (out : conn.RunsOutOfMemory t.connection_trace d) where
      spent_hold : Holds s (bare now_at)
      spent_hold =
          let sound = law old t.connection_trace h.connected in
          let holds : Holds s (bare (untaken t (after out.more out.outcomes [] None t.connection_trace))) =
          receives_hold s t [] (after out.more out.outcomes [] None t.connection_trace) sound.read.enough sound.closed
          (record { alive = out.alive; more = out.more; outcomes = out.outcomes; receives = out.receives; goes_on = refl }) h.holds in
          let all_now : Holds s (bare (record t { connection_trace = after out.more out.outcomes [] (Some NoMemory) t.connection_trace })) =
          subst (λ (es : List Event). Holds s (bare (record t { connection_trace = record (after out.more out.outcomes [] (Some NoMemory) t.connection_trace) { given = es } })))
          (sym (append-nil t.connection_trace.given)) holds in
          subst (λ (c : ConnectionTrace). Holds s (bare (record t { connection_trace = c }))) (sym out.ends) all_now

      pub runs_out_so : RunsOutOfMemory t now_at
      runs_out_so = record {
        before = t.connection_trace;
        hidden = [];
        quiet = refl;
        tells = record { alive = h.alive; goes_on = next.stays t.connection_trace; takes = next.none now_at };
        out = inl out;
      }

      pub spent_going : IsRefused stands output new now_at
      spent_going = record {
        connected = connected;
        refused = ap is_alive out.ends;
        rest = rest_of s (bare now_at) (law new d connected).given spent_hold;
      }

  -- ---- the calls had no memory

  module _ (conn : C) (t : CallTrace) (d : ConnectionTrace) (connected : stands conn d) (was : t.connection_trace.refusal ≡ None) (alive : d.refusal ≡ None) (goes_on : GoesOn t.connection_trace d) where
    pub dies_so : RunsOutOfMemory t (died t d)
    dies_so = record { before = d; hidden = []; quiet = refl; tells = record { alive = was; goes_on = goes_on; takes = next.none (died t d) }; out = inr refl }

    dead_sound : (shown : ℕ) → shown ≡ length (output conn) → IsSound (record d { refusal = Some NoMemory }) (take shown (output conn))
    dead_sound shown e =
        refused_sound d (take shown (output conn)) (subst (IsSound d) (sym (take_all shown (output conn) (omega (arith, e)))) (law conn d connected))

    pub dead_going : (shown : ℕ) → shown ≡ length (output conn) → IsRest (bare (record t { connection_trace = d })) → IsHiding stands output conn shown (died t d)
    dead_going shown e rest = record {
      hidden = d;
      connected = connected;
      hides = record { role_is = refl; fed_is = refl; dropped_is = refl; received_is = refl; alive = alive };
      within = omega (arith, e);
      sound = dead_sound shown e;
      rest = rest;
    }

module _ {C : Type 0} (stands : C → ConnectionTrace → Type 0) (output : C → List ℕ) where
  -- memory ran out while the calls sent, and it is told now
  pub starved_going : (conn : C) (shown : ℕ) (t : CallTrace) → IsHiding stands output conn shown t → IsHiding stands output conn shown (died t t.connection_trace)
  starved_going conn shown t h = record {
    hidden = h.hidden;
    connected = h.connected;
    hides = record { role_is = h.hides.role_is; fed_is = h.hides.fed_is; dropped_is = h.hides.dropped_is; received_is = h.hides.received_is; alive = h.hides.alive };
    within = h.within;
    sound = refused_sound t.connection_trace (take shown (output conn)) h.sound;
    rest = h.rest;
  }
