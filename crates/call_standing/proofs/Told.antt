-- One more that was told.
use Rattle.std.proofs.Common.{◌≡◌, inl, inr, ℕ, true, false, List, [], ◌∷◌, ◌++◌, Option, Some, None, refl, sym, ap, subst, ◌∙◌, append_assoc}
use Rattle.std.specs.List.{list_any}
use Rattle.std.proofs.lemmas.List.{append-nil}
use Rattle.h2_exchange.specs.declared.role.Role.{Role}
use Rattle.h2_exchange.specs.declared.role.Role.TheVariants.{Client, Server}
use Rattle.h2_exchange.specs.Sending.{IsPrefix}
use Rattle.h2_exchange.proofs.Places.{any_push, first_true, neither}
use Rattle.http_connection.specs.ConnectionTrace.{ConnectionTrace, IsSound, NoMemory, events_in}
use Rattle.grpc_stream.specs.CallTrace as trace
use Rattle.grpc_stream.specs.CallTrace.{CallTrace, PeerEvent, begins_on, is_told_of}
use Rattle.grpc_stream.specs.NextEvent as next
use Rattle.grpc_stream.specs.NextEvent.{AppendsPeerEvents, GivesCallEvent, IsShownAs, answer_to, shown_events_of}
use Rattle.grpc_stream.specs.declared.event.CallEvent.{CallEvent}
use Rattle.grpc_stream.specs.declared.event.CallEvent.TheVariants as says
use Rattle.h2_exchange.specs.Calls as call
use Rattle.kept_calls.specs.CallState.{CallState, call_on}
use Rattle.call_hearing.specs.declared.pending.Pending.{Pending}
use Rattle.call_hearing.specs.declared.pending.Pending.TheVariants.{Nothing, End}
use Rattle.call_hearing.specs.Listening.{is_cut, still_told}
use Rattle.call_hearing.proofs.Lasting.{listening_lasts}
use Rattle.call_sending.proofs.Kept.{IsUntouched, sends_kept, speaks_same}
use Rattle.call_standing.specs.declared.fate.Fate.{Fate}
use Rattle.call_standing.specs.declared.fate.Fate.TheVariants.{Going, Refused, Starved, Dead}
use Rattle.call_standing.specs.Standing.{Holds, IsGoing, IsGone, IsUnkept, StandsFor, StandsOn, State, bare}
use Rattle.call_standing.proofs.Rest.{rest_of}

module _ (t : CallTrace) (p : PeerEvent) where
  abbrev pub told : CallTrace
  told = record t { reported = t.reported ++ p ∷ [] }

  untouched : (id : ℕ) → IsUntouched t told id
  untouched id = record {
    role_is = refl;
    numbers_are = refl;
    queued_is = refl;
    head_is = refl;
    parts_are = refl;
    spent_is = refl;
    ended_is = refl;
    begun = λ e. e;
    begun_before = λ r e. e;
    opened = λ e. e;
  }

  still_told_of : (role : Role) (id : ℕ) → is_told_of role t.reported id ≡ true → is_told_of role (t.reported ++ p ∷ []) id ≡ true
  still_told_of Server id e = any_push (begins_on id) t.reported p ∙ first_true (list_any (begins_on id) t.reported) (begins_on id p) e
  still_told_of Client id e = refl

  unkept_told : (role : Role) (id : ℕ) → begins_on id p ≡ false → IsUnkept role t id → IsUnkept role told id
  unkept_told Server id off h = record {
    no_head = h.no_head;
    no_bytes = h.no_bytes;
    no_end = h.no_end;
    untold = any_push (begins_on id) t.reported p ∙ neither (list_any (begins_on id) t.reported) (begins_on id p) h.untold off;
    nothing = h.nothing;
    speaks = speaks_same t told id (untouched id) [] h.speaks;
    ahead = h.ahead;
  }
  unkept_told Client id off h = record { unbegun = h.unbegun; no_event = h.no_event; speaks = speaks_same t told id (untouched id) [] h.speaks }

  gone_told : (id : ℕ) → IsGone t id → IsGone told id
  gone_told id h = record { begun = h.begun; over = h.over; rest = h.rest; speaks = speaks_same t told id (untouched id) h.rest h.speaks; silent = h.silent }

  on_told : (before now : Pending) (id : ℕ) (o : Option CallState) → (is_cut now id ≡ false → is_cut before id ≡ false) → (o ≡ None → begins_on id p ≡ false) → StandsOn t before id o → StandsOn told now id o
  on_told before now id None quiet off (inl h) = inl (unkept_told t.connection_trace.role id (off refl) h)
  on_told before now id None quiet off (inr h) = inr (gone_told id h)
  on_told before now id (Some c) quiet off h = (
    h.0,
    h.1,
    record {
      sends = sends_kept t told c (untouched c.stream) h.2.sends;
      hears = listening_lasts.pending t.connection_trace.role t.connection_trace.given (t.reported ++ p ∷ []) before now c c.receiving
          (subst (λ (k : ℕ). is_cut now k ≡ false → is_cut before k ≡ false) (sym h.0) quiet)
          (listening_lasts.reported t.connection_trace.role t.connection_trace.given t.reported (p ∷ []) before c c.receiving h.2.hears);
      told = λ e. still_told_of t.connection_trace.role c.stream (h.2.told e);
    },
  )

  -- what is still to be told is one fewer
  pub told_holds : (s : State) (now : Pending) → still_told t.connection_trace.role s.calls s.pending ≡ p ∷ still_told t.connection_trace.role s.calls now →
      ((id : ℕ) → is_cut now id ≡ false → is_cut s.pending id ≡ false) → ((id : ℕ) → call_on id s.calls ≡ None → begins_on id p ≡ false) → Holds s t → Holds (record s { pending = now }) told
  told_holds s now still quiet off h = record {
    role_is = h.role_is;
    told = h.told ∙ ap (λ (l : List PeerEvent). t.reported ++ l) still ∙ sym (append_assoc t.reported (p ∷ []) (still_told t.connection_trace.role s.calls now));
    each = λ id. on_told s.pending now id (call_on id s.calls) (quiet id) (off id) (h.each id);
    once = h.once;
    only = h.only;
    unpadded = h.unpadded;
    calls = h.calls;
  }

-- ---- as a step

-- what is no refusal is answered by nothing
pub appends_one : (t : CallTrace) (p : PeerEvent) → answer_to t p ≡ [] → AppendsPeerEvents t (p ∷ []) (told t p)
appends_one t p none =
    subst (λ (l : List _). AppendsPeerEvents t (p ∷ []) (record t { reported = t.reported ++ p ∷ []; taken = l }))
    (ap (λ (l : List _). t.taken ++ l) none ∙ append-nil t.taken)
    (next.one t (record t { reported = t.reported ++ p ∷ []; taken = t.taken ++ answer_to t p }) p []
    (next.none (record t { reported = t.reported ++ p ∷ []; taken = t.taken ++ answer_to t p })))

pub gives_one : (t : CallTrace) (p : PeerEvent) (event : CallEvent) → t.connection_trace.refusal ≡ None → answer_to t p ≡ [] → shown_events_of t.reported p ≡ p ∷ [] → IsShownAs p event →
    GivesCallEvent t event (told t p)
gives_one t p event alive none visible is = record {
  hidden = [];
  last = p;
  shown = p;
  quiet = refl;
  visible = ap (λ (l : List PeerEvent). shown_events_of l p) (append-nil t.reported) ∙ visible;
  tells = record { alive = alive; goes_on = next.stays t.connection_trace; takes = appends_one t p none };
  event_is = is;
}

-- ---- how calls stand that go on

module _ {C : Type 0} (stands : C → ConnectionTrace → Type 0) (output : C → List ℕ) where
  pub going_of : (fate : Fate) (conn : C) (s : State) (t : CallTrace) → fate ≡ Going → StandsFor stands output fate conn s t → IsGoing stands output conn s t
  going_of Going conn s t e h = h
  going_of Refused conn s t e h = absurd cc
  going_of (Starved shown waiting) conn s t e h = absurd cc
  going_of (Dead shown) conn s t e h = absurd cc

  pub dead_of : (fate : Fate) (shown : ℕ) (conn : C) (s : State) (t : CallTrace) → fate ≡ Dead shown → StandsFor stands output fate conn s t → t.connection_trace.refusal ≡ Some NoMemory
  dead_of (Dead other) shown conn s t e h = h.1
  dead_of Going shown conn s t e h = absurd cc
  dead_of Refused shown conn s t e h = absurd cc
  dead_of (Starved other waiting) shown conn s t e h = absurd cc

  pub stands_of : (fate : Fate) (conn : C) (s : State) (t : CallTrace) → fate ≡ Going → IsGoing stands output conn s t → StandsFor stands output fate conn s t
  stands_of fate conn s t e h = subst (λ (f : Fate). StandsFor stands output f conn s t) (sym e) h

  module _ (law : (conn : C) (c : ConnectionTrace) → stands conn c → IsSound c (output conn)) where
    pub given_first : (conn : C) (s : State) (t : CallTrace) → IsGoing stands output conn s t → IsPrefix t.connection_trace.given (events_in t.connection_trace)
    given_first conn s t h = (law conn t.connection_trace h.connected).given

    -- calls that stand for what they were used for, with one more that was told
    pub told_going : (conn : C) (s : State) (now : Pending) (t : CallTrace) (p : PeerEvent) → still_told t.connection_trace.role s.calls s.pending ≡ p ∷ still_told t.connection_trace.role s.calls now →
        ((id : ℕ) → is_cut now id ≡ false → is_cut s.pending id ≡ false) → ((id : ℕ) → call_on id s.calls ≡ None → begins_on id p ≡ false) →
        IsGoing stands output conn s t → IsGoing stands output conn (record s { pending = now }) (told t p)
    told_going conn s now t p still quiet off h =
        let holds : Holds (record s { pending = now }) (bare (told t p)) = told_holds (bare t) p s now still quiet off h.holds in
        record { connected = h.connected; alive = h.alive; holds = holds; rest = rest_of (record s { pending = now }) (bare (told t p)) (given_first conn s t h) holds }

    -- the end of a client's side, behind its head
    pub ended_next : (conn : C) (s : State) (t : CallTrace) (id : ℕ) → s.pending ≡ End id → IsGoing stands output conn s t →
        (u : CallTrace) × IsGoing stands output conn (record s { pending = Nothing }) u × GivesCallEvent t (says.Finished id) u
    ended_next conn s t id is h =
        let p : PeerEvent = trace.Asked (call.Finished id) in (
          told t p,
          told_going conn s Nothing t p (ap (still_told t.connection_trace.role s.calls) is) (λ k e. ap (λ (q : Pending). is_cut q k) is) (λ k e. refl) h,
          gives_one t p (says.Finished id) h.alive refl refl refl,
        )
