-- The bytes of a call are cut: what holds behind each message, behind the last, and behind what a client refuses.
use Rattle.std.proofs.Common.{◌≡◌, ℕ, ◌==◌, Bool, true, false, List, [], ◌∷◌, ◌++◌, Option, Some, None, refl, sym, ap, subst, ◌∙◌, inl, inr, append_assoc}
use Rattle.std.specs.List.{list_any}
use Rattle.std.proofs.lemmas.Bool.{eqb-true}
use Rattle.std.proofs.lemmas.List.{append-nil}
use Rattle.std.proofs.lemmas.List.Folds.{list_any-append}
use Rattle.grpc_framing.specs.CutterState.{CutterState}
use Rattle.grpc_framing.specs.NextMessage.{NextMessage}
use Rattle.grpc_framing.specs.declared.cutter.Cut.TheVariants as answer
use Rattle.grpc_heads.specs.CallEnd.{CallEnd, compressed, too_long}
use Rattle.h2_exchange.specs.declared.role.Role.{Role}
use Rattle.h2_exchange.specs.declared.role.Role.TheVariants.{Client, Server}
use Rattle.h2_exchange.specs.Calls.{Broken, cut}
use Rattle.h2_exchange.specs.StreamParts.{Item}
use Rattle.h2_exchange.proofs.Places.{first_true, neither}
use Rattle.http_connection.specs.ConnectionTrace.{ConnectionTrace, IsSound}
use Rattle.grpc_stream.specs.CallTrace as trace
use Rattle.grpc_stream.specs.CallTrace.{CallTrace, PeerEvent, begins_on, queued_on}
use Rattle.kept_calls.specs.declared.call.Receiving.{Receiving}
use Rattle.kept_calls.specs.declared.call.Receiving.TheVariants as was
use Rattle.kept_calls.specs.CallState.{CallState, call_on}
use Rattle.call_hearing.specs.declared.pending.Pending.{Pending}
use Rattle.call_hearing.specs.declared.pending.Pending.TheVariants.{Nothing, Cut}
use Rattle.call_hearing.specs.Laws.{message_told, refusal_told}
use Rattle.call_hearing.specs.Listening.{Hears, cut_tells, held_by, held_while, is_cut, still_told}
use Rattle.call_hearing.proofs.Cutting.{cuts_go_on}
use Rattle.call_hearing.proofs.Lasting.{listening_lasts}
use Rattle.call_sending.proofs.Kept.{IsUntouched, sends_kept, speaks_same}
use Rattle.call_standing.specs.Standing.{Holds, IsGoing, IsUnkept, StandsOn, State, bare, is_once}
use Rattle.call_standing.specs.Steps.{GoesQuietly}
use Rattle.call_standing.proofs.Found.{IsChanged}
use Rattle.call_standing.proofs.Quiet.{quiet_start}
use Rattle.call_standing.proofs.Rest.{rest_of}
use Rattle.call_standing.proofs.Told.{told}
use Rattle.call_telling.specs.Giving.{is_listening, listens, told_more}
use Rattle.call_telling.proofs.TakesIn.{sends_as, with_peer}

-- ---- so much more was told

module _ (t : CallTrace) (ps : List PeerEvent) (taken : List (ℕ × Item CallEnd)) where
  abbrev next : CallTrace
  next = told_more t ps taken

  untouched : (id : ℕ) → queued_on next id ≡ queued_on t id → IsUntouched t next id
  untouched id queued = record {
    role_is = refl;
    numbers_are = refl;
    queued_is = queued;
    head_is = refl;
    parts_are = refl;
    spent_is = refl;
    ended_is = refl;
    begun = λ e. e;
    begun_before = λ r e. e;
    opened = λ e. e;
  }

  told_still : (role : Role) (id : ℕ) → trace.is_told_of role t.reported id ≡ true → trace.is_told_of role (t.reported ++ ps) id ≡ true
  told_still Server id e = list_any-append (begins_on id) t.reported ps ∙ first_true (list_any (begins_on id) t.reported) (list_any (begins_on id) ps) e
  told_still Client id e = refl

  module _ (none : (id : ℕ) → list_any (begins_on id) ps ≡ false) where
    unkept_more : (role : Role) (id : ℕ) → queued_on next id ≡ queued_on t id → IsUnkept role t id → IsUnkept role next id
    unkept_more Server id queued h = record {
      no_head = h.no_head;
      no_bytes = h.no_bytes;
      no_end = h.no_end;
      untold = list_any-append (begins_on id) t.reported ps ∙ neither (list_any (begins_on id) t.reported) (list_any (begins_on id) ps) h.untold (none id);
      nothing = queued ∙ h.nothing;
      speaks = speaks_same t next id (untouched id queued) [] h.speaks;
      ahead = h.ahead;
    }
    unkept_more Client id queued h = record { unbegun = h.unbegun; no_event = h.no_event; speaks = speaks_same t next id (untouched id queued) [] h.speaks }

    -- a stream of which nothing is cut, or on which no call stands that is heard
    beside : (before now : Pending) (id : ℕ) (o : Option CallState) → (is_cut now id ≡ false → is_cut before id ≡ false) → queued_on next id ≡ queued_on t id → StandsOn t before id o → StandsOn next now id o
    beside before now id None quiet queued (inl h) = inl (unkept_more t.connection_trace.role id queued h)
    beside before now id None quiet queued (inr h) = inr (record { begun = h.begun; over = h.over; rest = h.rest; speaks = speaks_same t next id (untouched id queued) h.rest h.speaks; silent = h.silent })
    beside before now id (Some c) quiet queued h = (
      h.0,
      h.1,
      record {
        sends = sends_kept t next c (subst (IsUntouched t next) (sym h.0) (untouched id queued)) h.2.sends;
        hears = listening_lasts.pending t.connection_trace.role t.connection_trace.given (t.reported ++ ps) before now c c.receiving (subst (λ (k : ℕ). is_cut now k ≡ false → is_cut before k ≡ false) (sym h.0) quiet)
            (listening_lasts.reported t.connection_trace.role t.connection_trace.given t.reported ps before c c.receiving h.2.hears);
        told = λ e. told_still t.connection_trace.role c.stream (h.2.told e);
      },
    )

    -- ---- the call whose bytes are cut

    module _ (s : State) (cs : List CallState) (now : Pending) (c d : CallState) (is : IsChanged c.stream c d s.calls cs) (pending : s.pending ≡ Cut c.stream)
        (told_is : still_told t.connection_trace.role s.calls (Cut c.stream) ≡ ps ++ still_told t.connection_trace.role cs now)
        (queued : (id : ℕ) → (c.stream == id) ≡ false → queued_on next id ≡ queued_on t id)
        (turned : StandsOn t (Cut c.stream) c.stream (Some c) → StandsOn next now c.stream (Some d)) (h : Holds s t) where
      stood : (id : ℕ) → StandsOn t (Cut c.stream) id (call_on id s.calls)
      stood id = subst (λ (p : Pending). StandsOn t p id (call_on id s.calls)) pending (h.each id)

      each_now : (id : ℕ) (b : Bool) → (c.stream == id) ≡ b → StandsOn next now id (call_on id cs)
      each_now id true e =
          let same : c.stream ≡ id = eqb-true c.stream id e in
          subst (λ (n : ℕ). StandsOn next now n (call_on n cs)) same
          (subst (StandsOn next now c.stream) (sym is.here) (turned (subst (StandsOn t (Cut c.stream) c.stream) is.was (stood c.stream))))
      each_now id false e =
          subst (StandsOn next now id) (sym (is.other id e)) (beside (Cut c.stream) now id (call_on id s.calls) (λ q. e) (queued id e) (stood id))

      pub turned_holds : Holds (record { role = s.role; calls = cs; pending = now }) next
      turned_holds = record {
        role_is = h.role_is;
        told = h.told ∙ ap (λ (p : Pending). t.reported ++ still_told t.connection_trace.role s.calls p) pending ∙ ap (λ (l : List PeerEvent). t.reported ++ l) told_is
            ∙ sym (append_assoc t.reported ps (still_told t.connection_trace.role cs now));
        each = λ id. each_now id (c.stream == id) refl;
        once = λ id. ap (is_once id) is.streams ∙ h.once id;
        only = h.only;
        unpadded = h.unpadded;
        calls = h.calls;
      }

-- what is kept of its peer changes, and nothing is taken
module _ (t : CallTrace) (ps : List PeerEvent) (none : (id : ℕ) → list_any (begins_on id) ps ≡ false) (s : State) (cs : List CallState) (now : Pending) (c : CallState) (r : Receiving) (k : CutterState)
    (is : IsChanged c.stream c (with_peer r k c) s.calls cs) (pending : s.pending ≡ Cut c.stream)
    (told_is : still_told t.connection_trace.role s.calls (Cut c.stream) ≡ ps ++ still_told t.connection_trace.role cs now)
    (hears : Hears t.connection_trace.role t.connection_trace.given (t.reported ++ ps) now (with_peer r k c) r) (h : Holds s t) where
  abbrev told_alone : CallTrace
  told_alone = told_more t ps t.taken

  cut_here : StandsOn t (Cut c.stream) c.stream (Some c) → StandsOn told_alone now c.stream (Some (with_peer r k c))
  cut_here (on, begun, m) = (
    refl,
    begun,
    record {
      sends = sends_kept t told_alone (with_peer r k c) (untouched t ps t.taken c.stream refl) (sends_as t c r k m.sends);
      hears = hears;
      told = λ e. told_still t ps t.taken t.connection_trace.role c.stream (m.told e);
    },
  )

  pub cut_holds : Holds (record { role = s.role; calls = cs; pending = now }) told_alone
  cut_holds = turned_holds t ps t.taken none s cs now c (with_peer r k c) is pending told_is (λ id e. refl) cut_here h

-- ---- what is still told of it

pub cut_is : (role : Role) (cs : List CallState) (c : CallState) → call_on c.stream cs ≡ Some c → c.receiving ≡ was.Open → still_told role cs (Cut c.stream) ≡ cut_tells role c.stream (cut c.cutter.held)
cut_is role cs c here opened =
    ap (λ (l : List ℕ). cut_tells role c.stream (cut l)) (ap held_by here ∙ ap (λ (r : Receiving). held_while r c.cutter.held) opened)

module _ (t : CallTrace) (s : State) (cs : List CallState) (c : CallState) (new : CutterState) (pending : s.pending ≡ Cut c.stream) (opened : c.receiving ≡ was.Open) (h : Holds s t) where
  pub heard : call_on c.stream s.calls ≡ Some c → Hears t.connection_trace.role t.connection_trace.given t.reported (Cut c.stream) c was.Open
  heard here =
      let stood : StandsOn t s.pending c.stream (Some c) = subst (StandsOn t s.pending c.stream) here (h.each c.stream) in
      subst (λ (p : Pending). Hears t.connection_trace.role t.connection_trace.given t.reported p c was.Open) pending
      (subst (Hears t.connection_trace.role t.connection_trace.given t.reported s.pending c) opened stood.2.hears)

  not_begun : (role : Role) (m : List ℕ) (id : ℕ) → begins_on id (message_told role c.stream m) ≡ false
  not_begun Server m id = refl
  not_begun Client m id = refl

  -- a message is told, and the others are told of what is left
  pub message_holds : (m : List ℕ) → NextMessage c.cutter (answer.Message m) new → IsChanged c.stream c (with_peer c.receiving new c) s.calls cs →
      Holds (record { role = s.role; calls = cs; pending = Cut c.stream }) (told_more t (message_told t.connection_trace.role c.stream m ∷ []) t.taken)
  message_holds m next is =
      let one = cuts_go_on.message t.connection_trace.role t.connection_trace.given t.reported c m new next (heard is.was) in
      cut_holds t (message_told t.connection_trace.role c.stream m ∷ []) (λ id. neither (begins_on id (message_told t.connection_trace.role c.stream m)) false (not_begun t.connection_trace.role m id) refl)
      s cs (Cut c.stream) c c.receiving new is pending
      (cut_is t.connection_trace.role s.calls c is.was opened ∙ one.tells
      ∙ ap (λ (l : List PeerEvent). message_told t.connection_trace.role c.stream m ∷ l) (sym (cut_is t.connection_trace.role cs (with_peer c.receiving new c) is.here opened)))
      (subst (Hears t.connection_trace.role t.connection_trace.given (t.reported ++ message_told t.connection_trace.role c.stream m ∷ []) (Cut c.stream) (with_peer c.receiving new c)) (sym opened)
      (listening_lasts.reported t.connection_trace.role t.connection_trace.given t.reported (message_told t.connection_trace.role c.stream m ∷ []) (Cut c.stream) (with_peer c.receiving new c) was.Open one.hears)) h

  -- no message is left
  pub drained_holds : NextMessage c.cutter answer.NeedMore new → IsChanged c.stream c (with_peer c.receiving new c) s.calls cs →
      Holds (record { role = s.role; calls = cs; pending = Nothing }) (told_more t [] t.taken)
  drained_holds next is =
      let all = cuts_go_on.drained t.connection_trace.role t.connection_trace.given t.reported c new next (heard is.was) in
      let hears_now : Hears t.connection_trace.role t.connection_trace.given (t.reported ++ []) Nothing (with_peer c.receiving new c) was.Open =
      subst (λ (k : CutterState). Hears t.connection_trace.role t.connection_trace.given (t.reported ++ []) Nothing (with_peer c.receiving k c) was.Open) (sym all.same)
      (listening_lasts.reported t.connection_trace.role t.connection_trace.given t.reported [] Nothing c was.Open all.hears) in
      cut_holds t [] (λ id. refl) s cs Nothing c c.receiving new is pending (cut_is t.connection_trace.role s.calls c is.was opened ∙ all.tells)
      (subst (Hears t.connection_trace.role t.connection_trace.given (t.reported ++ []) Nothing (with_peer c.receiving new c)) (sym opened) hears_now) h

  -- a client refuses the bytes, and hears no more
  module _ (client : t.connection_trace.role ≡ Client) (is : IsChanged c.stream c (with_peer was.Closed new c) s.calls cs) where
    broken_by : (answer : CallEnd) → cut_tells Client c.stream (cut c.cutter.held) ≡ refusal_told Client c.stream answer ∷ [] → Hears Client t.connection_trace.given t.reported Nothing c was.Closed →
        Holds (record { role = s.role; calls = cs; pending = Nothing }) (told_more t (trace.Answered (Broken c.stream) ∷ []) t.taken)
    broken_by answer tells hears =
        cut_holds t (trace.Answered (Broken c.stream) ∷ []) (λ id. refl) s cs Nothing c was.Closed new is pending
        (cut_is t.connection_trace.role s.calls c is.was opened
        ∙ subst (λ (r : Role). cut_tells r c.stream (cut c.cutter.held) ≡ trace.Answered (Broken c.stream) ∷ []) (sym client) tells)
        (subst (λ (r : Role). Hears r t.connection_trace.given (t.reported ++ trace.Answered (Broken c.stream) ∷ []) Nothing (with_peer was.Closed new c) was.Closed) (sym client) hears) h

    client_heard : Hears Client t.connection_trace.given t.reported (Cut c.stream) c was.Open
    client_heard = subst (λ (r : Role). Hears r t.connection_trace.given t.reported (Cut c.stream) c was.Open) client (heard is.was)

    pub compressed_holds : NextMessage c.cutter answer.Compressed new → Holds (record { role = s.role; calls = cs; pending = Nothing }) (told_more t (trace.Answered (Broken c.stream) ∷ []) t.taken)
    compressed_holds next =
        let r = cuts_go_on.compressed Client t.connection_trace.given t.reported c new next client_heard in
        broken_by compressed r.tells r.hears

    pub too_long_holds : NextMessage c.cutter answer.TooLong new → Holds (record { role = s.role; calls = cs; pending = Nothing }) (told_more t (trace.Answered (Broken c.stream) ∷ []) t.taken)
    too_long_holds next =
        let r = cuts_go_on.too_long Client t.connection_trace.given t.reported c new next client_heard in
        broken_by too_long r.tells r.hears

-- ---- no call is there that is heard

closed_of : (r : Receiving) → is_listening r ≡ false → r ≡ was.Closed
closed_of was.Closed f = refl
closed_of was.Open f = absurd cc

closed_same : (role : Role) (t : CallTrace) (p q : Pending) (c : CallState) → Hears role t.connection_trace.given t.reported p c was.Closed → Hears role t.connection_trace.given t.reported q c was.Closed
closed_same Server t p q c h = h
closed_same Client t p q c h = h

none_held : (o : Option CallState) → listens o ≡ false → held_by o ≡ []
none_held None f = refl
none_held (Some c) f = ap (λ (r : Receiving). held_while r c.cutter.held) (closed_of c.receiving f)

pub unheard_holds : (t : CallTrace) (s : State) (id : ℕ) → s.pending ≡ Cut id → listens (call_on id s.calls) ≡ false → Holds s t → Holds (record s { pending = Nothing }) t
unheard_holds t s id pending none h = record {
  role_is = h.role_is;
  told = h.told ∙ ap (λ (l : List PeerEvent). t.reported ++ l)
      (ap (still_told t.connection_trace.role s.calls) pending ∙ ap (λ (l : List ℕ). cut_tells t.connection_trace.role id (cut l)) (none_held (call_on id s.calls) none) ∙ cuts_go_on.nothing t.connection_trace.role id);
  each = λ k. each_now k (id == k) refl (call_on k s.calls) refl (subst (λ (p : Pending). StandsOn t p k (call_on k s.calls)) pending (h.each k));
  once = h.once;
  only = h.only;
  unpadded = h.unpadded;
  calls = h.calls;
}
  where
    quiet_now : (k : ℕ) (o : Option CallState) → (id == k) ≡ true → call_on k s.calls ≡ o → listens o ≡ false
    quiet_now k o e is = ap listens (sym is) ∙ subst (λ (n : ℕ). listens (call_on n s.calls) ≡ false) (eqb-true id k e) none

    each_now : (k : ℕ) (b : Bool) → (id == k) ≡ b → (o : Option CallState) → call_on k s.calls ≡ o → StandsOn t (Cut id) k o → StandsOn t Nothing k o
    each_now k b e None is stood = stood
    each_now k false e (Some c) is (on, begun, m) = (
      on,
      begun,
      record {
        sends = m.sends;
        hears = listening_lasts.pending t.connection_trace.role t.connection_trace.given t.reported (Cut id) Nothing c c.receiving (λ q. subst (λ (n : ℕ). (id == n) ≡ false) (sym on) e) m.hears;
        told = m.told;
      },
    )
    each_now k true e (Some c) is (on, begun, m) =
        let closed = closed_of c.receiving (quiet_now k (Some c) e is) in (
          on,
          begun,
          record {
            sends = m.sends;
            hears = subst (Hears t.connection_trace.role t.connection_trace.given t.reported Nothing c) (sym closed)
                (closed_same t.connection_trace.role t (Cut id) Nothing c (subst (Hears t.connection_trace.role t.connection_trace.given t.reported (Cut id) c) closed m.hears));
            told = m.told;
          },
        )

-- ---- as steps

module _ {C : Type 0} (stands : C → ConnectionTrace → Type 0) (output : C → List ℕ) (law : (conn : C) (c : ConnectionTrace) → stands conn c → IsSound c (output conn)) (conn : C) (s now : State) (t : CallTrace) (g : IsGoing stands output conn s t) where
  pub told_going : (p : PeerEvent) → Holds now (told_more (bare t) (p ∷ []) t.taken) → IsGoing stands output conn now (told t p)
  told_going p h = record { connected = g.connected; alive = g.alive; holds = h; rest = rest_of now (bare (told t p)) (law conn t.connection_trace g.connected).given h }

  pub quiet_going : Holds now (told_more (bare t) [] t.taken) → IsGoing stands output conn now t
  quiet_going h =
      let holds : Holds now (bare t) = subst (λ (l : List PeerEvent). Holds now (record (bare t) { reported = l })) (append-nil t.reported) h in
      record { connected = g.connected; alive = g.alive; holds = holds; rest = rest_of now (bare t) (law conn t.connection_trace g.connected).given holds }

  pub quiet_step : GoesQuietly t t
  quiet_step = quiet_start t g.alive
