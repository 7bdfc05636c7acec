-- An event of a call of which more is heard.
use Rattle.std.proofs.Common.{◌≡◌, ℕ, ◌==◌, Bool, true, false, ◌||◌, List, [], ◌∷◌, ◌++◌, map, Some, None, refl, sym, ap, subst, ◌∙◌}
use Rattle.std.specs.Prelude.{if◌then◌else◌, is_some}
use Rattle.std.specs.List.{list_any}
use Rattle.std.proofs.lemmas.Bool.{eqb-true}
use Rattle.grpc_framing.specs.CutterState.{CutterState}
use Rattle.grpc_framing.specs.NextMessage.{fed}
use Rattle.grpc_heads.specs.CallEnd.{compressed, method_by, status_by, too_long, truncated, unknown}
use Rattle.grpc_heads.specs.GrpcStatus.{GrpcStatus}
use Rattle.grpc_heads.specs.Heads.{head_of}
use Rattle.grpc_heads.specs.Trailers.{status_in_trailers}
use Rattle.h2_frames.specs.declared.code.ErrorCode.{ErrorCode}
use Rattle.hpack_tables.specs.declared.field.Field.{Field}
use Rattle.h2_exchange.specs.declared.role.Role.{Role}
use Rattle.h2_exchange.specs.declared.role.Role.TheVariants.{Client, Server}
use Rattle.h2_exchange.specs.Calls.{Closed, Dropped, Finished, cut, end_calls}
use Rattle.h2_exchange.specs.Events.{Event, Data, Ended, Head, Reset}
use Rattle.h2_exchange.proofs.Places.{same_self}
use Rattle.http_connection.specs.ConnectionTrace.{events_in}
use Rattle.grpc_stream.specs.CallTrace as trace
use Rattle.grpc_stream.specs.CallTrace.{CallTrace, PeerEvent, Asked, begins_on}
use Rattle.schema_numbers.specs.Numbers.{Numbers}
use Rattle.kept_calls.specs.declared.call.Receiving.{Receiving}
use Rattle.kept_calls.specs.declared.call.Receiving.TheVariants as was
use Rattle.kept_calls.specs.CallState.{CallState, call_on, with_piece}
use Rattle.call_hearing.specs.declared.pending.Pending.{Pending}
use Rattle.call_hearing.specs.declared.pending.Pending.TheVariants.{Nothing, Cut}
use Rattle.call_hearing.specs.Laws.{ComesIn, tells}
use Rattle.call_hearing.specs.Listening.{Hears, cut_tells, ends_answers, held_by, held_while, is_on, still_told}
use Rattle.call_hearing.proofs.Lasting.{listening_lasts, open_answers_last, open_calls_last}
use Rattle.call_hearing.proofs.Places.{servers_hear}
use Rattle.call_hearing.proofs.Telling.{open_calls_answer, open_calls_ask, others_tell_nothing}
use Rattle.call_sending.proofs.Kept.{sends_kept}
use Rattle.call_standing.specs.Standing.{Holds, Stands, StandsOn, State, is_once}
use Rattle.call_standing.proofs.Found.{IsChanged}
use Rattle.call_telling.proofs.TakesIn.{sends_as, takes_in, told_still, untouched, with_peer}
use Rattle.call_telling.specs.Giving.{took_in}

-- no call is changed
pub unchanged : (cs : List CallState) (id : ℕ) (c : CallState) → call_on id cs ≡ Some c → c.stream ≡ id → IsChanged id c c cs cs
unchanged cs id c was on = record { was = was; on = on; here = was; other = λ k apart. refl; streams = refl; held = λ h. refl }

-- ---- what is kept of its peer changes so

module _ (t : CallTrace) (s : State) (cs : List CallState) (now : Pending) (e : Event) (ps : List PeerEvent) (later : List Event)
    (split : events_in t.connection_trace ≡ (t.connection_trace.given ++ e ∷ []) ++ later) (c : CallState) (r : Receiving) (k : CutterState)
    (is : IsChanged c.stream c (with_peer r k c) s.calls cs) (quiet : s.pending ≡ Nothing) (on_is : (n : ℕ) → is_on n e ≡ (c.stream == n))
    (told_is : tells t.connection_trace.role t.numbers t.connection_trace.given e ≡ ps ++ still_told t.connection_trace.role cs now)
    (begins : (n : ℕ) → list_any (begins_on n) ps ≡ false)
    (hears : Hears t.connection_trace.role (t.connection_trace.given ++ e ∷ []) (t.reported ++ ps) now (with_peer r k c) r) where
  abbrev next : CallTrace
  next = took_in t e ps t.taken

  turned : StandsOn t Nothing c.stream (Some c) → StandsOn next now c.stream (Some (with_peer r k c))
  turned (on, begun, h) = (
    refl,
    begun,
    record {
      sends = sends_kept t next (with_peer r k c) (untouched t e ps t.taken c.stream refl) (sends_as t c r k h.sends);
      hears = hears;
      told = λ u. told_still t e ps t.taken t.connection_trace.role c.stream (h.told u);
    },
  )

  here_now : (n : ℕ) → is_on n e ≡ true → StandsOn t Nothing n (call_on n s.calls) → StandsOn next now n (call_on n cs)
  here_now n on h =
      let same : c.stream ≡ n = eqb-true c.stream n (sym (on_is n) ∙ on) in
      subst (λ (m : ℕ). StandsOn next now m (call_on m cs)) same
      (subst (StandsOn next now c.stream) (sym is.here)
      (turned (subst (StandsOn t Nothing c.stream) is.was (subst (λ (m : ℕ). StandsOn t Nothing m (call_on m s.calls)) (sym same) h))))

  pub listened_holds : Holds s t → Holds (record { role = s.role; calls = cs; pending = now }) next
  listened_holds h =
      takes_in t e ps t.taken later split s cs now quiet told_is
      (λ n off. record { same = is.other n (sym (on_is n) ∙ off); none_begins = begins n; none_queued = refl }) here_now (λ n. ap (is_once n) is.streams ∙ h.once n) h

-- ---- what is heard of it

pub open_hears : (t : CallTrace) (c : CallState) → c.receiving ≡ was.Open → Stands t Nothing c → Hears t.connection_trace.role t.connection_trace.given t.reported Nothing c was.Open
open_hears t c e h = subst (Hears t.connection_trace.role t.connection_trace.given t.reported Nothing c) e h.hears

module _ (n : Numbers) (es : List Event) (reported : List PeerEvent) (c : CallState) where
  cutter_alive : (role : Role) → Hears role es reported Nothing c was.Open → c.cutter.refusal ≡ None
  cutter_alive Server h = h.cuts.alive
  cutter_alive Client h = h.cuts.alive

  fed_tells : (role : Role) (bytes : List ℕ) → Hears role es reported Nothing c was.Open → tells role n es (Data c.stream bytes) ≡ cut_tells role c.stream (cut (c.cutter.held ++ bytes))
  fed_tells Server bytes h = open_calls_ask.data_tell n es reported Nothing c bytes refl h
  fed_tells Client bytes h = open_calls_answer.data_tell n es Nothing c bytes refl h

  fed_hears : (role : Role) (bytes : List ℕ) → ComesIn role es (Data c.stream bytes) → Hears role es reported Nothing c was.Open →
      Hears role (es ++ Data c.stream bytes ∷ []) reported (Cut c.stream) (with_piece bytes c) was.Open
  fed_hears Server bytes comes h = open_calls_last.fed es reported c bytes (servers_hear.end_last es (Data c.stream bytes) c.stream comes (same_self c.stream)) h
  fed_hears Client bytes comes h = open_answers_last.fed es c bytes h

fed_held : (k : CutterState) (bytes : List ℕ) → k.refusal ≡ None → (fed k bytes).held ≡ k.held ++ bytes
fed_held k bytes alive = ap (λ (b : Bool). (if b then k else record { limit = k.limit; held = k.held ++ bytes; refusal = k.refusal }).held) (ap is_some alive)

-- ---- each event

module _ (t : CallTrace) (s : State) (cs : List CallState) (c : CallState) (quiet : s.pending ≡ Nothing) (opened : c.receiving ≡ was.Open) (later : List Event) (h : Holds s t) where
  stood : call_on c.stream s.calls ≡ Some c → Stands t Nothing c
  stood was = (subst (λ (p : Pending). StandsOn t p c.stream (Some c)) quiet (subst (StandsOn t s.pending c.stream) was (h.each c.stream))).2

  -- DATA of it: its bytes are to be cut
  pub fed_holds : (bytes : List ℕ) → events_in t.connection_trace ≡ (t.connection_trace.given ++ Data c.stream bytes ∷ []) ++ later → ComesIn t.connection_trace.role t.connection_trace.given (Data c.stream bytes) →
      IsChanged c.stream c (with_piece bytes c) s.calls cs → Holds (record { role = s.role; calls = cs; pending = Cut c.stream }) (took_in t (Data c.stream bytes) [] t.taken)
  fed_holds bytes split comes is =
      let heard = open_hears t c opened (stood is.was) in
      let left : held_by (call_on c.stream cs) ≡ c.cutter.held ++ bytes =
      ap held_by is.here ∙ ap (λ (r : Receiving). held_while r (fed c.cutter bytes).held) opened
      ∙ fed_held c.cutter bytes (cutter_alive t.numbers t.connection_trace.given t.reported c t.connection_trace.role heard) in
      let hears_now : Hears t.connection_trace.role (t.connection_trace.given ++ Data c.stream bytes ∷ []) (t.reported ++ []) (Cut c.stream) (with_piece bytes c) was.Open =
      listening_lasts.reported t.connection_trace.role (t.connection_trace.given ++ Data c.stream bytes ∷ []) t.reported [] (Cut c.stream) (with_piece bytes c) was.Open
      (fed_hears t.numbers t.connection_trace.given t.reported c t.connection_trace.role bytes comes heard) in
      listened_holds t s cs (Cut c.stream) (Data c.stream bytes) [] later split c c.receiving (fed c.cutter bytes) is quiet (λ n. refl)
      (fed_tells t.numbers t.connection_trace.given t.reported c t.connection_trace.role bytes heard ∙ ap (λ (l : List ℕ). cut_tells t.connection_trace.role c.stream (cut l)) (sym left))
      (λ n. refl) (subst (Hears t.connection_trace.role (t.connection_trace.given ++ Data c.stream bytes ∷ []) (t.reported ++ []) (Cut c.stream) (with_piece bytes c)) (sym opened) hears_now) h

  -- at a server

  module _ (server : t.connection_trace.role ≡ Server) (here : call_on c.stream s.calls ≡ Some c) where
    asks : Hears Server t.connection_trace.given t.reported Nothing c was.Open
    asks = subst (λ (r : Role). Hears r t.connection_trace.given t.reported Nothing c was.Open) server (open_hears t c opened (stood here))

    same_still : (e : Event) (p : PeerEvent) → events_in t.connection_trace ≡ (t.connection_trace.given ++ e ∷ []) ++ later → ((n : ℕ) → is_on n e ≡ (c.stream == n)) → ((n : ℕ) → begins_on n p ≡ false) →
        tells Server t.numbers t.connection_trace.given e ≡ p ∷ [] → Hears Server (t.connection_trace.given ++ e ∷ []) t.reported Nothing c was.Open →
        Holds (record { role = s.role; calls = s.calls; pending = Nothing }) (took_in t e (p ∷ []) t.taken)
    same_still e p split on_is begins told hears =
        let hears_now : Hears Server (t.connection_trace.given ++ e ∷ []) (t.reported ++ p ∷ []) Nothing c was.Open =
        listening_lasts.reported Server (t.connection_trace.given ++ e ∷ []) t.reported (p ∷ []) Nothing c was.Open hears in
        listened_holds t s s.calls Nothing e (p ∷ []) later split c c.receiving c.cutter (unchanged s.calls c.stream c here refl) quiet on_is
        (subst (λ (r : Role). tells r t.numbers t.connection_trace.given e ≡ p ∷ []) (sym server) told) (λ n. ap (λ (b : Bool). b || false) (begins n))
        (subst (λ (r : Role). Hears r (t.connection_trace.given ++ e ∷ []) (t.reported ++ p ∷ []) Nothing c c.receiving) (sym server)
        (subst (Hears Server (t.connection_trace.given ++ e ∷ []) (t.reported ++ p ∷ []) Nothing c) (sym opened) hears_now)) h

    -- its end, behind whole messages
    pub finished_holds : c.cutter.held ≡ [] → events_in t.connection_trace ≡ (t.connection_trace.given ++ Ended c.stream ∷ []) ++ later →
        Holds (record { role = s.role; calls = s.calls; pending = Nothing }) (took_in t (Ended c.stream) (Asked (Finished c.stream) ∷ []) t.taken)
    finished_holds none split =
        same_still (Ended c.stream) (Asked (Finished c.stream)) split (λ n. refl) (λ n. refl)
        (open_calls_ask.end_tells t.numbers t.connection_trace.given t.reported Nothing c refl asks
        ∙ ap (λ (l : List ℕ). map Asked (end_calls (λ fields. method_by (head_of fields)) compressed too_long truncated c.stream l)) none)
        (open_calls_last.ended t.connection_trace.given t.reported c none asks)

    -- its reset
    pub dropped_holds : (why : ErrorCode) → events_in t.connection_trace ≡ (t.connection_trace.given ++ Reset c.stream why ∷ []) ++ later →
        Holds (record { role = s.role; calls = s.calls; pending = Nothing }) (took_in t (Reset c.stream why) (Asked (Dropped c.stream) ∷ []) t.taken)
    dropped_holds why split =
        same_still (Reset c.stream why) (Asked (Dropped c.stream)) split (λ n. refl) (λ n. refl)
        (open_calls_ask.reset_tells t.numbers t.connection_trace.given t.reported Nothing c why refl asks) (open_calls_last.reset t.connection_trace.given t.reported c why asks)

  -- at a client

  module _ (client : t.connection_trace.role ≡ Client) where
    awaits : call_on c.stream s.calls ≡ Some c → Hears Client t.connection_trace.given t.reported Nothing c was.Open
    awaits here = subst (λ (r : Role). Hears r t.connection_trace.given t.reported Nothing c was.Open) client (open_hears t c opened (stood here))

    -- an end of it: nothing more is heard
    closed_by_it : (e : Event) (status : GrpcStatus) → events_in t.connection_trace ≡ (t.connection_trace.given ++ e ∷ []) ++ later → ((n : ℕ) → is_on n e ≡ (c.stream == n)) → ends_answers c.stream e ≡ true →
        tells Client t.numbers t.connection_trace.given e ≡ trace.Answered (Closed c.stream status) ∷ [] → IsChanged c.stream c (with_peer was.Closed c.cutter c) s.calls cs →
        Holds (record { role = s.role; calls = cs; pending = Nothing }) (took_in t e (trace.Answered (Closed c.stream status) ∷ []) t.taken)
    closed_by_it e status split on_is ends told is =
        listened_holds t s cs Nothing e (trace.Answered (Closed c.stream status) ∷ []) later split c was.Closed c.cutter is quiet on_is
        (subst (λ (r : Role). tells r t.numbers t.connection_trace.given e ≡ trace.Answered (Closed c.stream status) ∷ []) (sym client) told) (λ n. refl)
        (subst (λ (r : Role). Hears r (t.connection_trace.given ++ e ∷ []) (t.reported ++ trace.Answered (Closed c.stream status) ∷ []) Nothing (with_peer was.Closed c.cutter c) was.Closed) (sym client)
        (open_answers_last.over t.connection_trace.given c.stream e ends)) h

    pub trailers_hold : (fields : List Field) → events_in t.connection_trace ≡ (t.connection_trace.given ++ Head c.stream fields true ∷ []) ++ later →
        IsChanged c.stream c (with_peer was.Closed c.cutter c) s.calls cs →
        Holds (record { role = s.role; calls = cs; pending = Nothing })
        (took_in t (Head c.stream fields true) (trace.Answered (Closed c.stream (status_by (status_in_trailers t.numbers fields))) ∷ []) t.taken)
    trailers_hold fields split is =
        closed_by_it (Head c.stream fields true) (status_by (status_in_trailers t.numbers fields)) split (λ n. refl) (same_self c.stream)
        (open_calls_answer.trailers_tell t.numbers t.connection_trace.given Nothing c fields refl (awaits is.was)) is

    pub end_holds : events_in t.connection_trace ≡ (t.connection_trace.given ++ Ended c.stream ∷ []) ++ later → IsChanged c.stream c (with_peer was.Closed c.cutter c) s.calls cs →
        Holds (record { role = s.role; calls = cs; pending = Nothing }) (took_in t (Ended c.stream) (trace.Answered (Closed c.stream unknown) ∷ []) t.taken)
    end_holds split is =
        closed_by_it (Ended c.stream) unknown split (λ n. refl) (same_self c.stream) (open_calls_answer.end_tells t.numbers t.connection_trace.given Nothing c refl (awaits is.was)) is

    pub reset_holds : (why : ErrorCode) → events_in t.connection_trace ≡ (t.connection_trace.given ++ Reset c.stream why ∷ []) ++ later → IsChanged c.stream c (with_peer was.Closed c.cutter c) s.calls cs →
        Holds (record { role = s.role; calls = cs; pending = Nothing }) (took_in t (Reset c.stream why) (trace.Answered (Closed c.stream unknown) ∷ []) t.taken)
    reset_holds why split is =
        closed_by_it (Reset c.stream why) unknown split (λ n. refl) (same_self c.stream) (open_calls_answer.reset_tells t.numbers t.connection_trace.given Nothing c why refl (awaits is.was)) is

    -- the head of its response
    pub response_holds : (fields : List Field) → events_in t.connection_trace ≡ (t.connection_trace.given ++ Head c.stream fields false ∷ []) ++ later → call_on c.stream s.calls ≡ Some c →
        Holds (record { role = s.role; calls = s.calls; pending = Nothing }) (took_in t (Head c.stream fields false) [] t.taken)
    response_holds fields split here =
        let hears_now : Hears Client (t.connection_trace.given ++ Head c.stream fields false ∷ []) (t.reported ++ []) Nothing c was.Open =
        open_answers_last.response t.connection_trace.given c fields (awaits here) in
        listened_holds t s s.calls Nothing (Head c.stream fields false) [] later split c c.receiving c.cutter (unchanged s.calls c.stream c here refl) quiet (λ n. refl)
        (subst (λ (r : Role). tells r t.numbers t.connection_trace.given (Head c.stream fields false) ≡ []) (sym client)
        (others_tell_nothing.response t.numbers t.connection_trace.given c.stream fields)) (λ n. refl)
        (subst (λ (r : Role). Hears r (t.connection_trace.given ++ Head c.stream fields false ∷ []) (t.reported ++ []) Nothing c c.receiving) (sym client)
        (subst (Hears Client (t.connection_trace.given ++ Head c.stream fields false ∷ []) (t.reported ++ []) Nothing c) (sym opened) hears_now)) h
