-- An event of a stream of which no more is heard tells nothing, and changes nothing.
use Rattle.std.proofs.Common.{◌≡◌, ◌⊎◌, ℕ, Bool, true, false, ◌&&◌, List, [], ◌∷◌, ◌++◌, Option, Some, None, refl, sym, ap, subst, ◌∙◌, inl, inr}
use Rattle.std.specs.List.{list_any}
use Rattle.std.proofs.lemmas.List.{append-nil}
use Rattle.std.proofs.lemmas.List.Folds.{list_any-append}
use Rattle.h2_exchange.specs.declared.role.Role.{Role}
use Rattle.h2_exchange.specs.declared.role.Role.TheVariants.{Client, Server}
use Rattle.h2_exchange.specs.Calls.{is_ended_on}
use Rattle.h2_exchange.specs.Events.{Event, bytes_of}
use Rattle.h2_exchange.specs.Stops.{events}
use Rattle.h2_exchange.proofs.Places.{any_push, clash, first_true, second_true}
use Rattle.http_connection.specs.ConnectionTrace.{events_in}
use Rattle.grpc_stream.specs.CallTrace.{CallTrace, PeerEvent, begins_on}
use Rattle.kept_calls.specs.declared.call.Receiving.{Receiving}
use Rattle.kept_calls.specs.declared.call.Receiving.TheVariants as was
use Rattle.kept_calls.specs.CallState.{CallState}
use Rattle.call_hearing.specs.declared.pending.Pending.TheVariants.{Nothing}
use Rattle.call_hearing.specs.Laws.{ComesIn, tells}
use Rattle.call_hearing.specs.Listening.{Hears, awaits_answers, brings_on, has_event, has_method, heads_on, is_asking, is_on}
use Rattle.call_hearing.proofs.Lasting.{closed_calls_last, heads_first, no_more_bytes, still_none}
use Rattle.call_hearing.proofs.Places.{servers_hear}
use Rattle.call_hearing.proofs.Silent.{others_are_silent}
use Rattle.call_hearing.proofs.Telling.{others_tell_nothing}
use Rattle.call_sending.proofs.Kept.{IsUntouched, sends_kept, speaks_same}
use Rattle.call_standing.specs.Standing.{IsGone, IsUnkept, Stands, StandsOn}
use Rattle.call_telling.specs.Giving.{is_listening, listens, took_in}
use Rattle.call_telling.proofs.TakesIn.{gone_silent, told_still, untouched}

-- DATA or an end of a server's stream, or what brings none of both
abbrev pub IsLater : ℕ → Event → Type 0
IsLater id e = (heads_on id e ≡ false) × ((brings_on id e ≡ true) ⊎ ((bytes_of id e ≡ []) × (is_ended_on id e ≡ false)))

never_asks : (es : List Event) (id : ℕ) (b : Bool) → has_method es id ≡ b → list_any (heads_on id) es ≡ false → is_asking es id ≡ false
never_asks es id true e none = absurd (clash (list_any (heads_on id) es) (heads_first es id e) none)
never_asks es id false e none = by (is_asking es id) refl
  where
    by : (b : Bool) → is_asking es id ≡ b → is_asking es id ≡ false
    by true f = absurd (clash (has_method es id) (asks f) e)
      where
        front : (a b : Bool) → (a && b) ≡ true → a ≡ true
        front true b f = refl
        front false b f = absurd cc

        asks : is_asking es id ≡ true → has_method es id ≡ true
        asks f = front (has_method es id) _ f
    by false f = f

-- where this event is the next that comes
module _ (t : CallTrace) (e : Event) (later : List Event) (split : events_in t.connection_trace ≡ (t.connection_trace.given ++ e ∷ []) ++ later) (comes : ComesIn t.connection_trace.role t.connection_trace.given e)
    (id : ℕ) (on : is_on id e ≡ true) where
  abbrev next : CallTrace
  next = took_in t e [] t.taken

  touched : IsUntouched t next id
  touched = untouched t e [] t.taken id refl

  told_now : (told : List PeerEvent) → list_any (begins_on id) told ≡ false → list_any (begins_on id) (told ++ []) ≡ false
  told_now told h = ap (list_any (begins_on id)) (append-nil told) ∙ h

  -- what it tells, and what stands behind it
  pub record TellsNothing (o : Option CallState) : Type 0 where
    pub nothing : tells t.connection_trace.role t.numbers t.connection_trace.given e ≡ []
    pub stands : StandsOn next Nothing id o

  never : IsGone t id → ⊥
  never h = clash (is_on id e) on (gone_silent t e [] t.taken later split id h).0

  -- ---- nothing is kept of the stream

  unkept_asks : (role : Role) → role ≡ Server → ComesIn role t.connection_trace.given e → IsLater id e → IsUnkept role t id → (tells role t.numbers t.connection_trace.given e ≡ []) × IsUnkept role next id
  unkept_asks Client r c k h = absurd cc
  unkept_asks Server r c (head, inl brings) h = absurd (clash (list_any (heads_on id) t.connection_trace.given) (servers_hear.head_first t.connection_trace.given e id c brings) h.no_head)
  unkept_asks Server r c (head, inr (none, going)) h = (
    others_tell_nothing.refused t.numbers t.connection_trace.given id e on head (never_asks t.connection_trace.given id (has_method t.connection_trace.given id) refl h.no_head),
    record {
      no_head = still_none (heads_on id) t.connection_trace.given e head ∙ h.no_head;
      no_bytes = no_more_bytes id t.connection_trace.given e none ∙ h.no_bytes;
      no_end = still_none (is_ended_on id) t.connection_trace.given e going ∙ h.no_end;
      untold = told_now t.reported h.untold;
      nothing = h.nothing;
      speaks = speaks_same t next id touched [] h.speaks;
      ahead = h.ahead;
    },
  )

  stands_here : has_event (events_in t.connection_trace) id ≡ true
  stands_here =
      ap (λ (es : List Event). has_event es id) split ∙ list_any-append (is_on id) (t.connection_trace.given ++ e ∷ []) later
      ∙ first_true (has_event (t.connection_trace.given ++ e ∷ []) id) (has_event later id) (any_push (is_on id) t.connection_trace.given e ∙ second_true (has_event t.connection_trace.given id) (is_on id e) on)

  -- no event comes on a stream that a client did not begin
  unkept_answers : t.connection_trace.role ≡ Client → IsUnkept Client t id → ⊥
  unkept_answers r h =
      let none : has_event (events_in t.connection_trace) id ≡ false =
      ap (λ (role : Role). has_event (events role t.connection_trace.limits t.connection_trace.heads t.connection_trace.frames) id) r
      ∙ others_are_silent.unbegun t.connection_trace.limits t.connection_trace.heads t.connection_trace.frames id h.unbegun in
      clash (has_event (events_in t.connection_trace) id) stands_here none

  -- ---- a call that is over

  over_asks : (role : Role) → role ≡ Server → ComesIn role t.connection_trace.given e → IsLater id e → (c : CallState) → c.stream ≡ id → Hears role t.connection_trace.given t.reported Nothing c was.Closed →
      (tells role t.numbers t.connection_trace.given e ≡ []) × Hears role next.connection_trace.given next.reported Nothing c was.Closed
  over_asks Client r comes k c same h = absurd cc
  over_asks Server r comes (head, k) c same h = (
    others_tell_nothing.refused t.numbers t.connection_trace.given id e on head (subst (λ (n : ℕ). is_asking t.connection_trace.given n ≡ false) same h.1),
    (
      any_push (heads_on c.stream) t.connection_trace.given e ∙ first_true (list_any (heads_on c.stream) t.connection_trace.given) (heads_on c.stream e) h.0,
      subst (λ (n : ℕ). is_asking (t.connection_trace.given ++ e ∷ []) n ≡ false) (sym same)
          (closed_calls_last.asked t.connection_trace.given e id head (by k) (subst (λ (n : ℕ). is_asking t.connection_trace.given n ≡ false) same h.1)),
    ),
  )
    where
      by : (brings_on id e ≡ true) ⊎ ((bytes_of id e ≡ []) × (is_ended_on id e ≡ false)) → (bytes_of id e ≡ []) ⊎ (list_any (is_ended_on id) t.connection_trace.given ≡ false)
      by (inl brings) = inr (servers_hear.end_last t.connection_trace.given e id comes brings)
      by (inr (none, going)) = inl none

  over_answers : (role : Role) → role ≡ Client → (c : CallState) → c.stream ≡ id → Hears role t.connection_trace.given t.reported Nothing c was.Closed →
      (tells role t.numbers t.connection_trace.given e ≡ []) × Hears role next.connection_trace.given next.reported Nothing c was.Closed
  over_answers Server r c same h = absurd cc
  over_answers Client r c same h = (
    others_tell_nothing.closed t.numbers t.connection_trace.given id e on (subst (λ (n : ℕ). awaits_answers t.connection_trace.given n ≡ false) same h),
    closed_calls_last.answered t.connection_trace.given e c.stream h,
  )

  over_stays : (c : CallState) → Stands t Nothing c → Hears t.connection_trace.role next.connection_trace.given next.reported Nothing c c.receiving → c.stream ≡ id → Stands next Nothing c
  over_stays c h hears same = record {
    sends = sends_kept t next c (subst (IsUntouched t next) (sym same) touched) h.sends;
    hears = hears;
    told = λ u. told_still t e [] t.taken t.connection_trace.role c.stream (h.told u);
  }

  closed_of : (r : Receiving) → is_listening r ≡ false → r ≡ was.Closed
  closed_of was.Closed f = refl
  closed_of was.Open f = absurd cc

  -- ---- at a server, and at a client

  pub server_unheard : t.connection_trace.role ≡ Server → IsLater id e → (o : Option CallState) → listens o ≡ false → StandsOn t Nothing id o → TellsNothing o
  server_unheard r k None f (inl h) =
      let both = unkept_asks t.connection_trace.role r comes k h in record { nothing = both.0; stands = inl both.1 }
  server_unheard r k None f (inr h) = absurd (never h)
  server_unheard r k (Some c) f (same, begun, h) =
      let closed = closed_of c.receiving f in
      let both = over_asks t.connection_trace.role r comes k c same (subst (Hears t.connection_trace.role t.connection_trace.given t.reported Nothing c) closed h.hears) in
      record {
        nothing = both.0;
        stands = (same, begun, over_stays c h (subst (Hears t.connection_trace.role next.connection_trace.given next.reported Nothing c) (sym closed) both.1) same);
      }

  pub client_unheard : t.connection_trace.role ≡ Client → (o : Option CallState) → listens o ≡ false → StandsOn t Nothing id o → TellsNothing o
  client_unheard r None f (inl h) = absurd (unkept_answers r (subst (λ (role : Role). IsUnkept role t id) r h))
  client_unheard r None f (inr h) = absurd (never h)
  client_unheard r (Some c) f (same, begun, h) =
      let closed = closed_of c.receiving f in
      let both = over_answers t.connection_trace.role r c same (subst (Hears t.connection_trace.role t.connection_trace.given t.reported Nothing c) closed h.hears) in
      record {
        nothing = both.0;
        stands = (same, begun, over_stays c h (subst (Hears t.connection_trace.role next.connection_trace.given next.reported Nothing c) (sym closed) both.1) same);
      }

  pub unheard : IsLater id e → (o : Option CallState) → listens o ≡ false → StandsOn t Nothing id o → TellsNothing o
  unheard k o f h = by t.connection_trace.role refl
    where
      by : (role : Role) → t.connection_trace.role ≡ role → TellsNothing o
      by Server r = server_unheard r k o f h
      by Client r = client_unheard r o f h
