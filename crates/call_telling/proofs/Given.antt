-- What an event that the connection gave comes to, as a step of the calls.
use Rattle.std.proofs.Common.{◌≡◌, ℕ, ◌==◌, false, List, [], ◌∷◌, ◌++◌, None, refl, sym, ap, subst, ◌∙◌, append_assoc}
use Rattle.std.proofs.lemmas.Bool.{eqb-true}
use Rattle.std.proofs.lemmas.List.{append-nil}
use Rattle.grpc_heads.specs.CallEnd.{CallEnd}
use Rattle.h2_exchange.specs.declared.role.Role.{Role}
use Rattle.h2_exchange.specs.declared.role.Role.TheVariants.{Client, Server}
use Rattle.h2_exchange.specs.Events.{Event}
use Rattle.h2_exchange.specs.Sending.{IsPrefix}
use Rattle.h2_exchange.specs.StreamParts.{Item}
use Rattle.h2_exchange.proofs.Places.{same_self}
use Rattle.http_connection.specs.Answers as conn
use Rattle.http_connection.specs.ConnectionTrace.{ConnectionTrace, IsSound, events_in}
use Rattle.grpc_stream.specs.declared.event.CallEvent.{CallEvent}
use Rattle.grpc_stream.specs.CallTrace.{CallTrace, CarriesCallOn, PeerEvent, reported_by}
use Rattle.grpc_stream.specs.NextEvent as next
use Rattle.grpc_stream.specs.NextEvent.{GivesCallEvent, IsShownAs, answer_to, shown_events_of}
use Rattle.kept_calls.specs.CallState.{call_on}
use Rattle.call_hearing.specs.declared.pending.Pending.{Pending}
use Rattle.call_hearing.specs.declared.pending.Pending.TheVariants.{Nothing}
use Rattle.call_hearing.specs.Laws.{ComesIn}
use Rattle.call_hearing.specs.Listening.{is_on}
use Rattle.call_standing.specs.Standing.{Holds, IsGoing, IsRest, StandsOn, State, bare}
use Rattle.call_standing.specs.Steps.{GoesQuietly}
use Rattle.call_standing.proofs.Quiet.{gave}
use Rattle.call_standing.proofs.Rest.{rest_of}
use Rattle.call_standing.proofs.Told.{appends_one}
use Rattle.call_telling.specs.Giving.{HasGiven, listens, took_in, untaken}
use Rattle.call_telling.proofs.Receives.{receives_hold}
use Rattle.call_telling.proofs.TakesIn.{takes_in}
use Rattle.call_telling.proofs.Unheard.{IsLater, TellsNothing, client_unheard, unheard}

-- the rest of what holds does not speak of the events that were given
pub rest_at : (t : CallTrace) (es : List Event) → IsRest t → IsRest (record t { connection_trace = record t.connection_trace { given = es } })
rest_at t es h = record {
  reported = told_by t.connection_trace.role refl;
  only = h.only;
  spelled = λ id suited. spelled_by t.connection_trace.role id (h.spelled id suited);
  unpadded = h.unpadded;
  begun_first = h.begun_first;
  calls = h.calls;
}
  where
    now : CallTrace
    now = record t { connection_trace = record t.connection_trace { given = es } }

    told_by : (role : Role) → t.connection_trace.role ≡ role → IsPrefix t.reported (reported_by role t.numbers (record t.connection_trace { given = es }))
    told_by Server e = subst (λ (r : Role). IsPrefix t.reported (reported_by r t.numbers t.connection_trace)) e h.reported
    told_by Client e = subst (λ (r : Role). IsPrefix t.reported (reported_by r t.numbers t.connection_trace)) e h.reported

    spelled_by : (role : Role) (id : ℕ) → CarriesCallOn role t id → CarriesCallOn role now id
    spelled_by Server id h = record { messages = h.messages; rest = h.rest; end = h.end; spells = h.spells; front = h.front; begins = h.begins }
    spelled_by Client id h = record { messages = h.messages; rest = h.rest; ended = h.ended; asks = h.asks; front = h.front }

module _ {C : Type 0} (stands : C → ConnectionTrace → Type 0) (output : C → List ℕ) (law : (conn : C) (c : ConnectionTrace) → stands conn c → IsSound c (output conn)) where
  -- what holds of calls that go on holds behind the frames that brought an event
  pub has_given : (old new : C) (s : State) (t : CallTrace) (e : Event) → IsGoing stands output old s t → ((d : ConnectionTrace) × stands new d × conn.GivesEvents t.connection_trace (e ∷ []) d) → HasGiven stands new s t e
  has_given old new s t e h (d, connected, gives) =
      let sound = law old t.connection_trace h.connected in
      record { at = d; connected = connected; gives = gives; alive = h.alive; holds = receives_hold s t (e ∷ []) d sound.read.enough sound.closed gives h.holds }

  module _ (conn : C) (s : State) (t : CallTrace) (e : Event) (g : HasGiven stands conn s t e) where
    abbrev pub before : CallTrace
    before = bare (untaken t g.at)

    -- so much was told of the event
    abbrev pub heard_as : List PeerEvent → List (ℕ × Item CallEnd) → CallTrace
    heard_as ps taken = record t { connection_trace = g.at; reported = t.reported ++ ps; taken = taken }

    given_is : g.at.given ≡ t.connection_trace.given ++ e ∷ []
    given_is = ap (λ (c : ConnectionTrace). c.given) g.gives.goes_on

    alive_at : g.at.refusal ≡ None
    alive_at = ap (λ (c : ConnectionTrace). c.refusal) g.gives.goes_on

    sound_at : IsSound g.at (output conn)
    sound_at = law conn g.at g.connected

    pub further : List Event
    further = sound_at.given.0

    pub split_is : events_in g.at ≡ (t.connection_trace.given ++ e ∷ []) ++ further
    unfolding sound_at further
    split_is = sound_at.given.1 ∙ ap (λ (es : List Event). es ++ further) given_is

    pub comes_in : ComesIn g.at.role t.connection_trace.given e
    comes_in = (g.at.limits, g.at.heads, g.at.frames, further, sound_at.read, sound_at.resets, split_is ∙ append_assoc t.connection_trace.given (e ∷ []) further)

    pub going_so : (now : State) (ps : List PeerEvent) (taken : List (ℕ × Item CallEnd)) → Holds now (took_in before e ps taken) → IsGoing stands output conn now (heard_as ps taken)
    going_so now ps taken h =
        let holds : Holds now (bare (heard_as ps taken)) =
        subst (λ (es : List Event). Holds now (record (bare (heard_as ps taken)) { connection_trace = record (bare (heard_as ps taken)).connection_trace { given = es } })) (sym given_is) h in
        record { connected = g.connected; alive = alive_at; holds = holds; rest = rest_of now (bare (heard_as ps taken)) sound_at.given holds }

    pub tells_so : (p : PeerEvent) (event : CallEvent) → answer_to t p ≡ [] → shown_events_of t.reported p ≡ p ∷ [] → IsShownAs p event → GivesCallEvent t event (heard_as (p ∷ []) t.taken)
    tells_so p event none visible is = record {
      hidden = [];
      last = p;
      shown = p;
      quiet = refl;
      visible = ap (λ (l : List PeerEvent). shown_events_of l p) (append-nil t.reported) ∙ visible;
      tells = record { alive = g.alive; goes_on = gave t.connection_trace g.at (e ∷ []) (output conn) g.gives (law conn g.at g.connected); takes = appends_one (record t { connection_trace = g.at }) p none };
      event_is = is;
    }

    -- nothing was told
    abbrev pub silent_at : CallTrace
    silent_at = record t { connection_trace = g.at }

    pub going_quietly : (now : State) → Holds now (took_in before e [] t.taken) → IsGoing stands output conn now silent_at × GoesQuietly t silent_at
    going_quietly now h = (
      subst (λ (l : List PeerEvent). IsGoing stands output conn now (record t { connection_trace = g.at; reported = l })) (append-nil t.reported) (going_so now [] t.taken h),
      record { hidden = []; quiet = refl; tells = record { alive = g.alive; goes_on = gave t.connection_trace g.at (e ∷ []) (output conn) g.gives (law conn g.at g.connected); takes = next.none silent_at } },
    )

    -- ---- an event that tells nothing

    abbrev pub Quietly : State → Type 0
    Quietly now = (u : CallTrace) × IsGoing stands output conn now u × GoesQuietly t u

    module _ (quiet : s.pending ≡ Nothing) where
      still_so : IsGoing stands output conn (record { role = s.role; calls = s.calls; pending = Nothing }) silent_at → IsGoing stands output conn s silent_at
      still_so h = subst (λ (p : Pending). IsGoing stands output conn (record { role = s.role; calls = s.calls; pending = p }) silent_at) (sym quiet) h

      pub quietly : Holds (record { role = s.role; calls = s.calls; pending = Nothing }) (took_in before e [] t.taken) → Quietly s
      quietly h = let both = going_quietly (record { role = s.role; calls = s.calls; pending = Nothing }) h in (silent_at, still_so both.0, both.1)

      silent_so : (id : ℕ) (on_is : (n : ℕ) → is_on n e ≡ (id == n)) → TellsNothing before e further split_is comes_in id (on_is id ∙ same_self id) (call_on id s.calls) → Quietly s
      silent_so id on_is r =
          quietly
          (takes_in before e [] t.taken further split_is s s.calls Nothing quiet r.nothing (λ n off. record { same = refl; none_begins = refl; none_queued = refl })
          (λ n on st.
          let same : id ≡ n = eqb-true id n (sym (on_is n) ∙ on) in
          subst (λ (m : ℕ). StandsOn (took_in before e [] t.taken) Nothing m (call_on m s.calls)) same r.stands)
          g.holds.once g.holds)

      stood_on : (id : ℕ) → StandsOn before Nothing id (call_on id s.calls)
      stood_on id = subst (λ (p : Pending). StandsOn before p id (call_on id s.calls)) quiet (g.holds.each id)

      -- of a stream of which no more is heard
      pub unheard_step : (id : ℕ) → ((n : ℕ) → is_on n e ≡ (id == n)) → IsLater id e → listens (call_on id s.calls) ≡ false → Quietly s
      unheard_step id on_is k f = silent_so id on_is (unheard before e further split_is comes_in id (on_is id ∙ same_self id) k (call_on id s.calls) f (stood_on id))

      -- at a client, whatever comes on it
      pub client_unheard_step : (id : ℕ) → ((n : ℕ) → is_on n e ≡ (id == n)) → s.role ≡ Client → listens (call_on id s.calls) ≡ false → Quietly s
      client_unheard_step id on_is client f =
          silent_so id on_is (client_unheard before e further split_is comes_in id (on_is id ∙ same_self id) (g.holds.role_is ∙ client) (call_on id s.calls) f (stood_on id))
