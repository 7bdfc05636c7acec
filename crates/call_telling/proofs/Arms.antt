-- What each event comes to, for the calls as they are kept in a list.
use Rattle.std.proofs.Common.{◌≡◌, ℕ, ◌==◌, Bool, true, false, List, [], ◌∷◌, ◌++◌, length, append_assoc, slice_index_or, slice_set, Option, Some, None, Ok, refl, sym, ap, subst, ◌∙◌, inr, filter, cond, ◌⊎◌, inl}
use Rattle.std.specs.Prelude.{if◌then◌else◌}
use Rattle.std.specs.List.{position}
use Rattle.grpc_heads.specs.CallEnd.{method_by, status_by, unknown}
use Rattle.grpc_heads.specs.GrpcStatus.{GrpcStatus}
use Rattle.grpc_heads.specs.Heads.{head_of}
use Rattle.grpc_heads.specs.Trailers.{status_in_trailers}
use Rattle.grpc_heads.specs.declared.head.Method.{Method}
use Rattle.h2_frames.specs.declared.code.ErrorCode.{ErrorCode}
use Rattle.hpack_tables.specs.declared.field.Field.{Field}
use Rattle.h2_exchange.specs.declared.role.Role.{Role}
use Rattle.h2_exchange.specs.declared.role.Role.TheVariants.{Client, Server}
use Rattle.h2_exchange.specs.Calls.{Begun, Closed, Dropped, Finished}
use Rattle.h2_exchange.specs.Events.{Event, Data, Ended, GoneAway, Head, Reset}
use Rattle.h2_exchange.specs.Stops.{Stop}
use Rattle.h2_exchange.specs.Streams.{is_live}
use Rattle.http_connection.specs.Answers as answers
use Rattle.h2_exchange.specs.Sending.{IsPrefix}
use Rattle.http_connection.specs.ConnectionTrace.{ConnectionTrace, IsSound, NoMemory, Refusal, Stopped, events_in}
use Rattle.grpc_stream.specs.declared.event.CallEvent.{CallEvent}
use Rattle.grpc_stream.specs.declared.event.CallEvent.TheVariants as says
use Rattle.grpc_stream.specs.CallTrace as trace
use Rattle.grpc_stream.specs.CallTrace.{CallTrace, PeerEvent, Asked}
use Rattle.grpc_stream.specs.NextEvent as next
use Rattle.grpc_stream.specs.NextEvent.{GivesCallEvent, IsShownAs, answer_to, shown_events_of}
use Rattle.kept_calls.specs.declared.call.Call.{Call}
use Rattle.kept_calls.specs.declared.call.Receiving.{Receiving}
use Rattle.kept_calls.specs.declared.call.Receiving.TheVariants as was
use Rattle.kept_calls.specs.CallState.{CallState, began, call_on, state_of, states, stopped, with_piece}
use Rattle.call_hearing.specs.declared.pending.Pending.{Pending}
use Rattle.call_hearing.specs.declared.pending.Pending.TheVariants.{Nothing, Cut, End}
use Rattle.call_hearing.specs.Listening.{is_on}
use Rattle.call_standing.specs.declared.fate.Fate.{Fate}
use Rattle.call_standing.specs.declared.fate.Fate.TheVariants.{Going, Dead, Refused, Starved}
use Rattle.call_standing.specs.Standing.{Holds, IsGoing, IsHiding, IsRefused, StandsFor, StandsOn, State, bare}
use Rattle.call_standing.specs.Steps.{GoesQuietly, Steps}
use Rattle.call_standing.proofs.Found.{IsChanged, changed, found}
use Rattle.call_standing.proofs.Quiet.{gave}
use Rattle.call_standing.proofs.Rest.{rest_of}
use Rattle.call_standing.proofs.Told.{stands_of}
use Rattle.call_telling.specs.Giving.{HasGiven, is_listening, listens, took_in, untaken}
use Rattle.call_telling.proofs.Begins.{begins_holds}
use Rattle.call_telling.proofs.Ends.{dead_going, died, dies_so, forgets, goaway_step, refused_going, runs_out_so, spent_going, starved_going, stops_so}
use Rattle.call_telling.proofs.Given.{client_unheard_step, comes_in, further, going_quietly, going_so, quietly, rest_at, split_is, tells_so, unheard_step}
use Rattle.call_telling.proofs.Listened.{dropped_holds, end_holds, fed_holds, finished_holds, reset_holds, response_holds, trailers_hold}
use Rattle.call_telling.proofs.Unheard.{IsLater}

-- the call that is found is listened to
pub open_of : (r : Receiving) → is_listening r ≡ true → r ≡ was.Open
open_of was.Open e = refl
open_of was.Closed e = absurd cc

pub found_open : (items : List Call) (id at : ℕ) (call : Call) → position (λ (c : Call). c.stream == id) items ≡ Some at → call ≡ slice_index_or items at call → listens (call_on id (states items)) ≡ true →
    call.receiving ≡ was.Open
found_open items id at call p is heard = open_of call.receiving (ap listens (sym (found items id at call p is).0) ∙ heard)

pub heard_of : (o : Option CallState) → listens o ≡ true → (c : CallState) × (o ≡ Some c) × (c.receiving ≡ was.Open)
heard_of None f = absurd cc
heard_of (Some c) f = (c, refl, open_of c.receiving f)

abbrev pub state_at : Role → Pending → List CallState → State
state_at role pending cs = record { role = role; calls = cs; pending = pending }

module _ {C : Type 0} (stands : C → ConnectionTrace → Type 0) (output : C → List ℕ) (law : (conn : C) (c : ConnectionTrace) → stands conn c → IsSound c (output conn)) (conn : C) where
  -- the calls stand for what they came to
  abbrev pub Comes : Fate → State → CallTrace → Option CallEvent → Type 0
  Comes fate now t result = (u : CallTrace) × StandsFor stands output fate conn now u × Steps t result u

  as_fate : (fate : Fate) → fate ≡ Going → (now : State) (t : CallTrace) → (u : CallTrace) × IsGoing stands output conn now u × GoesQuietly t u → Comes fate now t None
  as_fate fate e now t (u, going, quietly) = (u, stands_of stands output fate conn now u e going, quietly)

  module _ (fate : Fate) (going : fate ≡ Going) (s : State) (quiet : s.pending ≡ Nothing) (t : CallTrace) where
    -- ---- nothing is told

    pub unheard_arm : (e : Event) (id : ℕ) → ((n : ℕ) → is_on n e ≡ (id == n)) → IsLater id e → listens (call_on id s.calls) ≡ false → HasGiven stands conn s t e → Comes fate s t None
    unheard_arm e id on_is k f g = as_fate fate going s t (unheard_step stands output law conn s t e g quiet id on_is k f)

    pub client_unheard_arm : (e : Event) (id : ℕ) → ((n : ℕ) → is_on n e ≡ (id == n)) → s.role ≡ Client → listens (call_on id s.calls) ≡ false → HasGiven stands conn s t e → Comes fate s t None
    client_unheard_arm e id on_is client f g = as_fate fate going s t (client_unheard_step stands output law conn s t e g quiet id on_is client f)

    pub goaway_arm : (last : ℕ) (why : ErrorCode) → HasGiven stands conn s t (GoneAway last why) → Comes fate s t None
    goaway_arm last why g = as_fate fate going s t (goaway_step stands output law conn s t last why g quiet)

    fed_base : (bytes : List ℕ) (c : CallState) (cs : List CallState) → IsChanged c.stream c (with_piece bytes c) s.calls cs → c.receiving ≡ was.Open → HasGiven stands conn s t (Data c.stream bytes) → Comes fate (state_at s.role (Cut c.stream) cs) t None
    fed_base bytes c cs is opened g =
        let r = going_quietly stands output law conn s t (Data c.stream bytes) g (state_at s.role (Cut c.stream) cs)
        (fed_holds (bare (untaken t g.at)) s cs c quiet opened (further stands output law conn s t (Data c.stream bytes) g) g.holds bytes
        (split_is stands output law conn s t (Data c.stream bytes) g) (comes_in stands output law conn s t (Data c.stream bytes) g) is) in
        as_fate fate going (state_at s.role (Cut c.stream) cs) t (record t { connection_trace = g.at }, r.0, r.1)

    -- DATA of a call
    pub fed_arm : (bytes : List ℕ) (c d : CallState) (cs : List CallState) (id : ℕ) → c.stream ≡ id → d ≡ with_piece bytes c → c.receiving ≡ was.Open → IsChanged id c d s.calls cs → HasGiven stands conn s t (Data id bytes) →
        Comes fate (state_at s.role (Cut id) cs) t None
    fed_arm bytes c d cs id on same opened is g =
        subst (λ (k : ℕ). IsChanged k c d s.calls cs → HasGiven stands conn s t (Data k bytes) → Comes fate (state_at s.role (Cut k) cs) t None) on
        (λ i h. fed_base bytes c cs (subst (λ (x : CallState). IsChanged c.stream c x s.calls cs) same i) opened h) is g

    -- ---- one event is shown

    shown_so : (e : Event) (g : HasGiven stands conn s t e) (p : PeerEvent) (event : CallEvent) (now : State) → Holds now (took_in (bare (untaken t g.at)) e (p ∷ []) t.taken) →
        answer_to t p ≡ [] → shown_events_of t.reported p ≡ p ∷ [] → IsShownAs p event → ((u : CallTrace) → GivesCallEvent t event u → Steps t (Some event) u) → Comes fate now t (Some event)
    shown_so e g p event now h none visible is wrap = (
      record t { connection_trace = g.at; reported = t.reported ++ p ∷ [] },
      stands_of stands output fate conn now (record t { connection_trace = g.at; reported = t.reported ++ p ∷ [] }) going (going_so stands output law conn s t e g now (p ∷ []) t.taken h),
      wrap (record t { connection_trace = g.at; reported = t.reported ++ p ∷ [] }) (tells_so stands output law conn s t e g p event none visible is),
    )

    same_state : (u : CallTrace) → Holds (state_at s.role Nothing s.calls) u → Holds s u
    same_state u h = subst (λ (p : Pending). Holds (state_at s.role p s.calls) u) (sym quiet) h

    -- the end of a call at a server
    finished_base : (c : CallState) → call_on c.stream s.calls ≡ Some c → c.receiving ≡ was.Open → c.cutter.held ≡ [] → s.role ≡ Server → HasGiven stands conn s t (Ended c.stream) → Comes fate s t (Some (says.Finished c.stream))
    finished_base c here opened none server g =
        shown_so (Ended c.stream) g (Asked (Finished c.stream)) (says.Finished c.stream) s
        (same_state (took_in (bare (untaken t g.at)) (Ended c.stream) (Asked (Finished c.stream) ∷ []) t.taken)
        (finished_holds (bare (untaken t g.at)) s s.calls c quiet opened (further stands output law conn s t (Ended c.stream) g) g.holds (g.holds.role_is ∙ server) here none (split_is stands output law conn s t (Ended c.stream) g)))
        refl refl refl (λ u h. h)

    pub finished_arm : (c : CallState) (id : ℕ) → c.stream ≡ id → call_on id s.calls ≡ Some c → c.receiving ≡ was.Open → c.cutter.held ≡ [] → s.role ≡ Server → HasGiven stands conn s t (Ended id) →
        Comes fate s t (Some (says.Finished id))
    finished_arm c id on here opened none server g =
        subst (λ (k : ℕ). call_on k s.calls ≡ Some c → HasGiven stands conn s t (Ended k) → Comes fate s t (Some (says.Finished k))) on (λ i h. finished_base c i opened none server h) here g

    -- the reset of a call at a server
    dropped_base : (why : ErrorCode) (c : CallState) → call_on c.stream s.calls ≡ Some c → c.receiving ≡ was.Open → s.role ≡ Server → HasGiven stands conn s t (Reset c.stream why) → Comes fate s t (Some (says.Dropped c.stream))
    dropped_base why c here opened server g =
        shown_so (Reset c.stream why) g (Asked (Dropped c.stream)) (says.Dropped c.stream) s
        (same_state (took_in (bare (untaken t g.at)) (Reset c.stream why) (Asked (Dropped c.stream) ∷ []) t.taken)
        (dropped_holds (bare (untaken t g.at)) s s.calls c quiet opened (further stands output law conn s t (Reset c.stream why) g) g.holds (g.holds.role_is ∙ server) here why (split_is stands output law conn s t (Reset c.stream why) g)))
        refl refl refl (λ u h. h)

    pub dropped_arm : (why : ErrorCode) (c : CallState) (id : ℕ) → c.stream ≡ id → call_on id s.calls ≡ Some c → c.receiving ≡ was.Open → s.role ≡ Server → HasGiven stands conn s t (Reset id why) →
        Comes fate s t (Some (says.Dropped id))
    dropped_arm why c id on here opened server g =
        subst (λ (k : ℕ). call_on k s.calls ≡ Some c → HasGiven stands conn s t (Reset k why) → Comes fate s t (Some (says.Dropped k))) on (λ i h. dropped_base why c i opened server h) here g

    -- the call that is heard on a stream
    stands_there : (e : Event) (id : ℕ) (c : CallState) → HasGiven stands conn s t e → call_on id s.calls ≡ Some c → c.stream ≡ id
    stands_there e id c g here = (subst (StandsOn (bare (untaken t g.at)) s.pending id) here (g.holds.each id)).0

    pub dropped_listened : (why : ErrorCode) (id : ℕ) → listens (call_on id s.calls) ≡ true → s.role ≡ Server → HasGiven stands conn s t (Reset id why) → Comes fate s t (Some (says.Dropped id))
    dropped_listened why id heard server g =
        let h = heard_of (call_on id s.calls) heard in
        dropped_arm why h.0 id (stands_there (Reset id why) id h.0 g h.1) h.1 h.2 server g

    -- the head of a response
    response_base : (fields : List Field) (c : CallState) → call_on c.stream s.calls ≡ Some c → c.receiving ≡ was.Open → s.role ≡ Client → HasGiven stands conn s t (Head c.stream fields false) → Comes fate s t None
    response_base fields c here opened client g =
        as_fate fate going s t
        (quietly stands output law conn s t (Head c.stream fields false) g quiet
        (response_holds (bare (untaken t g.at)) s s.calls c quiet opened (further stands output law conn s t (Head c.stream fields false) g) g.holds (g.holds.role_is ∙ client) fields
        (split_is stands output law conn s t (Head c.stream fields false) g) here))

    response_by : (b : Bool) (fields : List Field) (id : ℕ) → listens (call_on id s.calls) ≡ b → s.role ≡ Client → HasGiven stands conn s t (Head id fields false) → Comes fate s t None
    response_by false fields id heard client g = client_unheard_arm (Head id fields false) id (λ n. refl) client heard g
    response_by true fields id heard client g =
        let h = heard_of (call_on id s.calls) heard in
        subst (λ (k : ℕ). call_on k s.calls ≡ Some h.0 → HasGiven stands conn s t (Head k fields false) → Comes fate s t None) (stands_there (Head id fields false) id h.0 g h.1)
        (λ i k. response_base fields h.0 i h.2 client k) h.1 g

    pub response_arm : (fields : List Field) (id : ℕ) → s.role ≡ Client → HasGiven stands conn s t (Head id fields false) → Comes fate s t None
    response_arm fields id client g = response_by (listens (call_on id s.calls)) fields id refl client g

    -- a head that begins a call
    pub begun_arm : (id : ℕ) (fields : List Field) (last : Bool) (method : Method) → method_by (head_of fields) ≡ Ok method → s.role ≡ Server → HasGiven stands conn s t (Head id fields last) →
        Comes fate (state_at s.role (if last then End id else Nothing) (s.calls ++ began id was.Open false ∷ [])) t (Some (says.Begun id method))
    begun_arm id fields last method is server g =
        shown_so (Head id fields last) g (Asked (Begun id method)) (says.Begun id method) (state_at s.role (if last then End id else Nothing) (s.calls ++ began id was.Open false ∷ []))
        (begins_holds (bare (untaken t g.at)) s id fields last (further stands output law conn s t (Head id fields last) g) (g.holds.role_is ∙ server) (split_is stands output law conn s t (Head id fields last) g)
        (comes_in stands output law conn s t (Head id fields last) g) quiet g.holds method is) refl refl (refl, refl) (λ u h. h)

    -- ---- at a client

    closed_so : (e : Event) (c : CallState) (cs : List CallState) (status : GrpcStatus) (g : HasGiven stands conn s t e) →
        Holds (state_at s.role Nothing cs) (took_in (bare (untaken t g.at)) e (trace.Answered (Closed c.stream status) ∷ []) t.taken) → Comes fate (state_at s.role Nothing cs) t (Some (says.Closed c.stream status))
    closed_so e c cs status g h =
        shown_so e g (trace.Answered (Closed c.stream status)) (says.Closed c.stream status) (state_at s.role Nothing cs) h refl refl (refl, refl) (λ u h. h)

    module _ (c : CallState) (opened : c.receiving ≡ was.Open) (client : s.role ≡ Client) where
      trailers_base : (fields : List Field) (cs : List CallState) → IsChanged c.stream c (stopped c) s.calls cs → HasGiven stands conn s t (Head c.stream fields true) →
          Comes fate (state_at s.role Nothing cs) t (Some (says.Closed c.stream (status_by (status_in_trailers t.numbers fields))))
      trailers_base fields cs is g =
          closed_so (Head c.stream fields true) c cs (status_by (status_in_trailers t.numbers fields)) g
          (trailers_hold (bare (untaken t g.at)) s cs c quiet opened (further stands output law conn s t (Head c.stream fields true) g) g.holds (g.holds.role_is ∙ client) fields
          (split_is stands output law conn s t (Head c.stream fields true) g) is)

      end_base : (cs : List CallState) → IsChanged c.stream c (stopped c) s.calls cs → HasGiven stands conn s t (Ended c.stream) → Comes fate (state_at s.role Nothing cs) t (Some (says.Closed c.stream unknown))
      end_base cs is g =
          closed_so (Ended c.stream) c cs unknown g
          (end_holds (bare (untaken t g.at)) s cs c quiet opened (further stands output law conn s t (Ended c.stream) g) g.holds (g.holds.role_is ∙ client) (split_is stands output law conn s t (Ended c.stream) g) is)

      reset_base : (why : ErrorCode) (cs : List CallState) → IsChanged c.stream c (stopped c) s.calls cs → HasGiven stands conn s t (Reset c.stream why) → Comes fate (state_at s.role Nothing cs) t (Some (says.Closed c.stream unknown))
      reset_base why cs is g =
          closed_so (Reset c.stream why) c cs unknown g
          (reset_holds (bare (untaken t g.at)) s cs c quiet opened (further stands output law conn s t (Reset c.stream why) g) g.holds (g.holds.role_is ∙ client) why (split_is stands output law conn s t (Reset c.stream why) g) is)

    -- the call is over, with this status
    pub closed_arm : (e : ℕ → Event) (status : GrpcStatus) (c d : CallState) (cs : List CallState) (id : ℕ) → c.stream ≡ id → d ≡ stopped c → IsChanged id c d s.calls cs →
        (IsChanged c.stream c (stopped c) s.calls cs → HasGiven stands conn s t (e c.stream) → Comes fate (state_at s.role Nothing cs) t (Some (says.Closed c.stream status))) → HasGiven stands conn s t (e id) →
        Comes fate (state_at s.role Nothing cs) t (Some (says.Closed id status))
    closed_arm e status c d cs id on same is base g =
        subst (λ (k : ℕ). IsChanged k c d s.calls cs → HasGiven stands conn s t (e k) → Comes fate (state_at s.role Nothing cs) t (Some (says.Closed k status))) on
        (λ i h. base (subst (λ (x : CallState). IsChanged c.stream c x s.calls cs) same i) h) is g

    pub trailers_arm : (fields : List Field) (c d : CallState) (cs : List CallState) (id : ℕ) → c.stream ≡ id → d ≡ stopped c → c.receiving ≡ was.Open → s.role ≡ Client → IsChanged id c d s.calls cs →
        HasGiven stands conn s t (Head id fields true) → Comes fate (state_at s.role Nothing cs) t (Some (says.Closed id (status_by (status_in_trailers t.numbers fields))))
    trailers_arm fields c d cs id on same opened client is g =
        closed_arm (λ k. Head k fields true) (status_by (status_in_trailers t.numbers fields)) c d cs id on same is (trailers_base c opened client fields cs) g

    pub end_arm : (c d : CallState) (cs : List CallState) (id : ℕ) → c.stream ≡ id → d ≡ stopped c → c.receiving ≡ was.Open → s.role ≡ Client → IsChanged id c d s.calls cs →
        HasGiven stands conn s t (Ended id) → Comes fate (state_at s.role Nothing cs) t (Some (says.Closed id unknown))
    end_arm c d cs id on same opened client is g = closed_arm (λ k. Ended k) unknown c d cs id on same is (end_base c opened client cs) g

    pub reset_arm : (why : ErrorCode) (c d : CallState) (cs : List CallState) (id : ℕ) → c.stream ≡ id → d ≡ stopped c → c.receiving ≡ was.Open → s.role ≡ Client → IsChanged id c d s.calls cs →
        HasGiven stands conn s t (Reset id why) → Comes fate (state_at s.role Nothing cs) t (Some (says.Closed id unknown))
    reset_arm why c d cs id on same opened client is g = closed_arm (λ k. Reset k why) unknown c d cs id on same is (reset_base c opened client why cs) g

  -- ---- there was no memory

  dead_as : (fate : Fate) (shown : ℕ) → fate ≡ Dead shown → (now : State) (u : CallTrace) → IsHiding stands output conn shown u × (u.connection_trace.refusal ≡ Some NoMemory) → StandsFor stands output fate conn now u
  dead_as fate shown e now u h = subst (λ (f : Fate). StandsFor stands output f conn now u) (sym e) h

  pub died_arm : (fate : Fate) → fate ≡ Dead (length (output conn)) → (s now : State) (t : CallTrace) (e : Event) → HasGiven stands conn s t e → Comes fate now t (Some says.NoMemory)
  died_arm fate is s now t e g =
      let alive : g.at.refusal ≡ None = ap (λ (c : ConnectionTrace). c.refusal) g.gives.goes_on in
      let on = gave t.connection_trace g.at (e ∷ []) (output conn) g.gives (law conn g.at g.connected) in
      let rest = rest_at (bare (untaken t g.at)) g.at.given (rest_of s (bare (untaken t g.at)) (first_given t.connection_trace.given (law conn g.at g.connected).given (ap (λ (c : ConnectionTrace). c.given) g.gives.goes_on)) g.holds) in (
        died t g.at,
        dead_as fate (length (output conn)) is now (died t g.at) (dead_going stands output law conn t g.at g.connected g.alive alive on (length (output conn)) refl rest, refl),
        inr (dies_so stands output law conn t g.at g.connected g.alive alive on),
      )
    where
      first_given : (es : List Event) {all given : List Event} → IsPrefix given all → given ≡ es ++ e ∷ [] → IsPrefix es all
      first_given es p same = ((e ∷ []) ++ p.0, p.1 ∙ ap (λ (l : List Event). l ++ p.0) same ∙ append_assoc es (e ∷ []) p.0)

  -- and no event was given
  pub died_going : (fate : Fate) → fate ≡ Dead (length (output conn)) → (s now : State) (t : CallTrace) → IsGoing stands output conn s t → Comes fate now t (Some says.NoMemory)
  died_going fate is s now t g = (
    died t t.connection_trace,
    dead_as fate (length (output conn)) is now (died t t.connection_trace)
        (dead_going stands output law conn t t.connection_trace g.connected g.alive g.alive (next.stays t.connection_trace) (length (output conn)) refl g.rest, refl),
    inr (dies_so stands output law conn t t.connection_trace g.connected g.alive g.alive (next.stays t.connection_trace)),
  )

-- memory ran out while the calls sent: it is told now
module _ {C : Type 0} (stands : C → ConnectionTrace → Type 0) (output : C → List ℕ) (conn : C) (s now : State) (t : CallTrace) where
  starved_of : (fate : Fate) (shown waiting : ℕ) → fate ≡ Starved shown waiting → StandsFor stands output fate conn s t → IsHiding stands output conn shown t × (t.connection_trace.refusal ≡ None)
  starved_of (Starved x w) shown waiting e h = let same : x ≡ shown = cc in (subst (λ (k : ℕ). IsHiding stands output conn k t) same h.0, h.1)
  starved_of Going shown waiting e h = absurd cc
  starved_of Refused shown waiting e h = absurd cc
  starved_of (Dead x) shown waiting e h = absurd cc

  pub starved_arm : (fate : Fate) (shown waiting : ℕ) → fate ≡ Starved shown waiting → StandsFor stands output fate conn s t →
      (u : CallTrace) × StandsFor stands output (Dead shown) conn now u × next.NextEvent t says.NoMemory u
  starved_arm fate shown waiting e h =
      let was = starved_of fate shown waiting e h in (
        died t t.connection_trace,
        (starved_going stands output conn shown t was.0, refl),
        inr (record {
          before = t.connection_trace;
          hidden = [];
          quiet = refl;
          tells = record { alive = was.1; goes_on = next.stays t.connection_trace; takes = next.none (died t t.connection_trace) };
          out = inr refl;
        }),
      )

-- the calls gave up, with this answer
module _ {C : Type 0} (stands : C → ConnectionTrace → Type 0) (output : C → List ℕ) (law : (conn : C) (c : ConnectionTrace) → stands conn c → IsSound c (output conn)) (conn after : C) (same : after ≡ conn)
    (fate : Fate) (dead : fate ≡ Dead (length (output conn))) (event : CallEvent) (is : event ≡ says.NoMemory) (s now : State) (t : CallTrace) where
  so_said : Comes stands output law conn fate now t (Some says.NoMemory) → Comes stands output law after fate now t (Some event)
  so_said h =
      subst (λ (c : C). Comes stands output law c fate now t (Some event)) (sym same) (subst (λ (x : CallEvent). Comes stands output law conn fate now t (Some x)) (sym is) h)

  pub gave_up_arm : (e : Event) → HasGiven stands conn s t e → Comes stands output law after fate now t (Some event)
  gave_up_arm e g = so_said (died_arm stands output law conn fate dead s now t e g)

  pub gave_up_going : IsGoing stands output conn s t → Comes stands output law after fate now t (Some event)
  gave_up_going g = so_said (died_going stands output law conn fate dead s now t g)

-- ---- what the connection says that is no event

module _ {C : Type 0} (stands : C → ConnectionTrace → Type 0) (output : C → List ℕ) (law : (conn : C) (c : ConnectionTrace) → stands conn c → IsSound c (output conn)) (old new : C)
    (s : State) (quiet : s.pending ≡ Nothing) (t : CallTrace) (h : IsGoing stands output old s t) where
  not_repeated : (why : Refusal) → t.connection_trace.refusal ≡ Some why → ⊥
  not_repeated why is = by t.connection_trace.refusal h.alive is
    where
      by : (o : Option Refusal) → o ≡ None → o ≡ Some why → ⊥
      by None e f = cc
      by (Some other) e f = cc

  pub stopped_arm : (stop : Stop) → ((d : ConnectionTrace) × stands new d × (answers.RepeatsRefusal t.connection_trace (Stopped stop) d ⊎ answers.Stops t.connection_trace stop d)) →
      (u : CallTrace) × IsRefused stands output new u × next.Stops t stop u
  stopped_arm stop (d, connected, inl again) = absurd (not_repeated (Stopped stop) again.0)
  stopped_arm stop (d, connected, inr stops) = (
    record t { connection_trace = d },
    refused_going stands output law old new s t d connected h stop stops,
    stops_so stands output law old new s t d connected h stop stops quiet,
  )

  pub spent_arm : ((d : ConnectionTrace) × stands new d × (answers.RepeatsRefusal t.connection_trace NoMemory d ⊎ answers.RunsOutOfMemory t.connection_trace d)) →
      (u : CallTrace) × IsRefused stands output new u × next.RunsOutOfMemory t u
  spent_arm (d, connected, inl again) = absurd (not_repeated NoMemory again.0)
  spent_arm (d, connected, inr out) = (
    record t { connection_trace = d },
    spent_going stands output law old new s t d connected h out,
    runs_out_so stands output law old new s t d connected h out,
  )

  -- calls whose streams do not live are forgotten, where all events were given
  pub forgotten_going : (conn : C) → stands conn t.connection_trace → t.connection_trace.given ≡ events_in t.connection_trace →
      IsGoing stands output conn (record s { calls = filter (λ (c : CallState). is_live t.connection_trace.role t.connection_trace.frames c.stream) s.calls }) t
  forgotten_going conn connected given =
      let holds = forgets s (bare t) given quiet h.holds in
      record {
        connected = connected;
        alive = h.alive;
        holds = holds;
        rest = rest_of (record s { calls = filter (λ (c : CallState). is_live t.connection_trace.role t.connection_trace.frames c.stream) s.calls }) (bare t) (law conn t.connection_trace connected).given holds;
      }

-- the calls as they are kept, of which those that pass are left
pub states_left : (p : ℕ → Bool) (items : List Call) → states (filter (λ (c : Call). p c.stream) items) ≡ filter (λ (c : CallState). p c.stream) (states items)
states_left p [] = refl
states_left p (x ∷ xs) = by (p x.stream) (states_left p xs)
  where
    by : (b : Bool) → states (filter (λ (c : Call). p c.stream) xs) ≡ filter (λ (c : CallState). p c.stream) (states xs) →
        states (cond b (x ∷ filter (λ (c : Call). p c.stream) xs) (filter (λ (c : Call). p c.stream) xs)) ≡ cond b (state_of x ∷ filter (λ (c : CallState). p c.stream) (states xs)) (filter (λ (c : CallState). p c.stream) (states xs))
    by true e = ap (λ (cs : List CallState). state_of x ∷ cs) e
    by false e = e

-- ---- the call that stands on a stream

pub record IsFound (items : List Call) (id at : ℕ) (call : Call) : Type 0 where
  pub on : call.stream ≡ id
  pub here : call_on id (states items) ≡ Some (state_of call)
  pub opened : call.receiving ≡ was.Open
  pub changes : (new : Call) → new.stream ≡ call.stream → IsChanged id (state_of call) (state_of new) (states items) (states (slice_set items at new))

-- where a stream is listened to, its call is found and open
pub found_at : (items : List Call) (id at : ℕ) (call : Call) → position (λ (c : Call). c.stream == id) items ≡ Some at → call ≡ slice_index_or items at call → listens (call_on id (states items)) ≡ true → IsFound items id at call
found_at items id at call p is heard =
    let there = found items id at call p is in
    record {
      on = there.1;
      here = there.0;
      opened = found_open items id at call p is heard;
      changes = λ new same. changed items id at call new p is (same ∙ there.1);
    }
