-- Calls that a server refuses: an end inside a message, bytes that are no message, and a head that asks for nothing served.
use Rattle.std.proofs.Common.{◌≡◌, ℕ, ◌==◌, ◌≤◌, Bool, true, false, List, [], ◌∷◌, ◌++◌, map, sum_by, Some, None, Err, refl, sym, ap, subst, ◌∙◌}
use Rattle.std.specs.Prelude.{if◌then◌else◌}
use Rattle.std.specs.List.{flat_map, list_any}
use Rattle.std.proofs.lemmas.Bool.{eqb-true}
use Rattle.std.proofs.lemmas.List.{append-nil}
use Rattle.grpc_framing.specs.CutterState.{CutterState}
use Rattle.grpc_framing.specs.NextMessage.{NextMessage}
use Rattle.grpc_framing.specs.declared.cutter.Cut.TheVariants as answer
use Rattle.grpc_heads.specs.CallEnd.{CallEnd, compressed, method_by, too_long, truncated}
use Rattle.grpc_heads.specs.Heads.{head_of}
use Rattle.hpack_tables.specs.declared.field.Field.{Field}
use Rattle.hpack_tables.specs.EntrySizes.{size_of}
use Rattle.h2_exchange.specs.declared.role.Role.{Role}
use Rattle.h2_exchange.specs.declared.role.Role.TheVariants.{Server}
use Rattle.h2_exchange.specs.Calls.{Declined, Dropped, cut, end_calls, head_calls, is_begun_call}
use Rattle.h2_exchange.specs.Events.{Event, Ended, Head}
use Rattle.h2_exchange.specs.StreamParts.{Item}
use Rattle.h2_exchange.specs.Streams.{is_begun}
use Rattle.h2_exchange.proofs.Places.{any_push, clash, same_self, second_true}
use Rattle.http_connection.specs.ConnectionTrace.{events_in}
use Rattle.grpc_stream.specs.CallTrace.{CallTrace, PeerEvent, Asked}
use Rattle.grpc_stream.specs.NextEvent.{AreHidden, asked_of, shown_events_of}
use Rattle.kept_calls.specs.declared.call.Ending.{Ending}
use Rattle.kept_calls.specs.declared.call.Receiving.TheVariants as was
use Rattle.kept_calls.specs.CallState.{CallState, began, call_on, closed_by, ended, is_sent, refused_by}
use Rattle.call_hearing.specs.declared.pending.Pending.{Pending}
use Rattle.call_hearing.specs.declared.pending.Pending.TheVariants.{Nothing, Cut}
use Rattle.call_hearing.specs.Laws.{ComesIn, tells}
use Rattle.call_hearing.specs.Listening.{Hears, cut_tells, heads_on, is_asking, still_told, told_by}
use Rattle.call_hearing.proofs.Beginning.{heads_begin_calls}
use Rattle.call_hearing.proofs.Cutting.{cuts_go_on}
use Rattle.call_hearing.proofs.Lasting.{open_calls_last}
use Rattle.call_hearing.proofs.Telling.{open_calls_ask}
use Rattle.call_sending.specs.Spelling.{Sends}
use Rattle.call_sending.proofs.Kept.{IsUntouched, sends_kept}
use Rattle.call_standing.specs.Standing.{Holds, StandsOn, State, is_once}
use Rattle.call_standing.proofs.Found.{IsChanged}
use Rattle.call_telling.proofs.Begins.{added_here, added_other, begun_by_now, none_kept, once_more, sends_begun, unheard_yet}
use Rattle.call_telling.proofs.Cuts.{cut_is, heard, turned_holds}
use Rattle.call_telling.specs.Giving.{told_more, took_in}
use Rattle.call_telling.proofs.Finished.{IsReady, declined_elsewhere, declined_taken, refused_stream, sends_finished, stands_refused, taken_by, with_taken}
use Rattle.call_telling.proofs.Listened.{open_hears}
use Rattle.call_telling.proofs.TakesIn.{takes_in, with_peer}

-- ---- a refusal of a call that had begun is shown as its drop

pub shown_as_drop : (reported : List PeerEvent) (id : ℕ) (e : CallEnd) → list_any (is_begun_call id) (flat_map asked_of reported) ≡ true →
    shown_events_of reported (Asked (Declined id e)) ≡ Asked (Dropped id) ∷ []
shown_as_drop reported id e begun = ap (λ (b : Bool). map Asked (if b then Dropped id ∷ [] else [])) begun

-- and else not at all
pub shown_not : (reported : List PeerEvent) (id : ℕ) (e : CallEnd) → list_any (is_begun_call id) (flat_map asked_of reported) ≡ false → AreHidden reported (Asked (Declined id e) ∷ [])
shown_not reported id e none = ap (λ (b : Bool). map Asked (if b then Dropped id ∷ [] else []) ++ []) none

-- ---- the end of a client's side inside a message

module _ (t : CallTrace) (s : State) (cs : List CallState) (c : CallState) (ending : Ending) (fields : List Field) (later : List Event) (server : t.connection_trace.role ≡ Server)
    (split : events_in t.connection_trace ≡ (t.connection_trace.given ++ Ended c.stream ∷ []) ++ later) (quiet : s.pending ≡ Nothing) (opened : c.receiving ≡ was.Open) (some : c.cutter.held ≡ [] → ⊥)
    (ends : ended ending ≡ true) (unsent : is_sent ending ≡ false) (fits : sum_by size_of fields ≤ 65536) (is : IsChanged c.stream c (refused_by ending fields c) s.calls cs)
    (ready : IsReady t c truncated ending fields) (h : Holds s t) where
  abbrev next : CallTrace
  next = took_in t (Ended c.stream) (Asked (Declined c.stream truncated) ∷ []) (declined_taken t c.stream truncated)

  stood : StandsOn t Nothing c.stream (Some c)
  stood = subst (λ (p : Pending). StandsOn t p c.stream (Some c)) quiet (subst (StandsOn t s.pending c.stream) is.was (h.each c.stream))

  asks : Hears Server t.connection_trace.given t.reported Nothing c was.Open
  asks = subst (λ (r : Role). Hears r t.connection_trace.given t.reported Nothing c was.Open) server (open_hears t c opened stood.2)

  cut_off : (l : List ℕ) → (l ≡ [] → ⊥) → end_calls (λ (f : List Field). method_by (head_of f)) compressed too_long truncated c.stream l ≡ Declined c.stream truncated ∷ []
  cut_off [] none = absurd (none refl)
  cut_off (b ∷ l) none = refl

  told_is : tells t.connection_trace.role t.numbers t.connection_trace.given (Ended c.stream) ≡ Asked (Declined c.stream truncated) ∷ []
  told_is =
      ap (λ (r : Role). tells r t.numbers t.connection_trace.given (Ended c.stream)) server ∙ open_calls_ask.end_tells t.numbers t.connection_trace.given t.reported Nothing c refl asks
      ∙ ap (map Asked) (cut_off c.cutter.held some)

  over : (d : CallState) → d.stream ≡ c.stream → Hears t.connection_trace.role (t.connection_trace.given ++ Ended c.stream ∷ []) (t.reported ++ Asked (Declined c.stream truncated) ∷ []) Nothing d was.Closed
  over d same =
      let closed = open_calls_last.cut_off t.connection_trace.given t.reported c some asks in
      subst (λ (r : Role). Hears r (t.connection_trace.given ++ Ended c.stream ∷ []) (t.reported ++ Asked (Declined c.stream truncated) ∷ []) Nothing d was.Closed) (sym server) (
        ap (λ (k : ℕ). list_any (heads_on k) (t.connection_trace.given ++ Ended c.stream ∷ [])) same ∙ closed.0,
        ap (is_asking (t.connection_trace.given ++ Ended c.stream ∷ [])) same ∙ closed.1,
      )

  refused_now : StandsOn next Nothing c.stream (Some (refused_by ending fields c))
  refused_now =
      stands_refused t next c c.cutter truncated ending fields ends unsent fits stood.1 ready stood.2.sends (touched c.stream) stood.1
      (over (refused_by ending fields c) (refused_stream c c.cutter ending fields))
    where
      touched : (k : ℕ) → IsUntouched (with_taken (declined_taken t c.stream truncated) t) next k
      touched k = record {
        role_is = refl;
        numbers_are = refl;
        queued_is = refl;
        head_is = refl;
        parts_are = refl;
        spent_is = refl;
        ended_is = refl;
        begun = λ b. b;
        begun_before = λ r b. b;
        opened = λ o. o;
      }

  pub truncated_holds : Holds (record { role = s.role; calls = cs; pending = Nothing }) next
  truncated_holds =
      takes_in t (Ended c.stream) (Asked (Declined c.stream truncated) ∷ []) (declined_taken t c.stream truncated) later split s cs Nothing quiet told_is
      (λ k off. record { same = is.other k off; none_begins = refl; none_queued = declined_elsewhere t c.stream k truncated off })
      (λ k on st.
      let same : c.stream ≡ k = eqb-true c.stream k on in
      subst (λ (n : ℕ). StandsOn next Nothing n (call_on n cs)) same (subst (StandsOn next Nothing c.stream) (sym is.here) refused_now))
      (λ k. ap (is_once k) is.streams ∙ h.once k) h

-- ---- bytes that are no message

module _ (t : CallTrace) (s : State) (cs : List CallState) (c : CallState) (new : CutterState) (ending : Ending) (fields : List Field) (server : t.connection_trace.role ≡ Server) (pending : s.pending ≡ Cut c.stream)
    (opened : c.receiving ≡ was.Open) (ends : ended ending ≡ true) (unsent : is_sent ending ≡ false) (fits : sum_by size_of fields ≤ 65536)
    (is : IsChanged c.stream c (refused_by ending fields (with_peer c.receiving new c)) s.calls cs) (h : Holds s t) where
  abbrev told_so : CallEnd → CallTrace
  told_so e = told_more t (Asked (Declined c.stream e) ∷ []) (declined_taken t c.stream e)

  server_heard : Hears Server t.connection_trace.given t.reported (Cut c.stream) c was.Open
  server_heard = subst (λ (r : Role). Hears r t.connection_trace.given t.reported (Cut c.stream) c was.Open) server (heard t s cs c new pending opened h is.was)

  touched : (e : CallEnd) (k : ℕ) → IsUntouched (with_taken (declined_taken t c.stream e) t) (told_so e) k
  touched e k = record {
    role_is = refl;
    numbers_are = refl;
    queued_is = refl;
    head_is = refl;
    parts_are = refl;
    spent_is = refl;
    ended_is = refl;
    begun = λ b. b;
    begun_before = λ r b. b;
    opened = λ o. o;
  }

  refused_with : (e : CallEnd) → IsReady t c e ending fields → cut_tells Server c.stream (cut c.cutter.held) ≡ Asked (Declined c.stream e) ∷ [] → Hears Server t.connection_trace.given t.reported Nothing c was.Closed →
      Holds (record { role = s.role; calls = cs; pending = Nothing }) (told_so e)
  refused_with e ready tells hears =
      turned_holds t (Asked (Declined c.stream e) ∷ []) (declined_taken t c.stream e) (λ id. refl) s cs Nothing c (refused_by ending fields (with_peer c.receiving new c)) is pending
      (cut_is t.connection_trace.role s.calls c is.was opened ∙ subst (λ (r : Role). cut_tells r c.stream (cut c.cutter.held) ≡ Asked (Declined c.stream e) ∷ []) (sym server) tells)
      (λ id off. declined_elsewhere t c.stream id e off)
      (λ stood.
      stands_refused t (told_so e) c new e ending fields ends unsent fits stood.1 ready stood.2.sends (touched e c.stream) stood.1
      (subst (λ (r : Role). Hears r t.connection_trace.given (t.reported ++ Asked (Declined c.stream e) ∷ []) Nothing (refused_by ending fields (with_peer c.receiving new c)) was.Closed) (sym server) (
        ap (λ (k : ℕ). list_any (heads_on k) t.connection_trace.given) (refused_stream c new ending fields) ∙ hears.0,
        ap (is_asking t.connection_trace.given) (refused_stream c new ending fields) ∙ hears.1,
      ))) h

  pub compressed_refused : IsReady t c compressed ending fields → NextMessage c.cutter answer.Compressed new → Holds (record { role = s.role; calls = cs; pending = Nothing }) (told_so compressed)
  compressed_refused ready next =
      let r = cuts_go_on.compressed Server t.connection_trace.given t.reported c new next server_heard in
      refused_with compressed ready r.tells r.hears

  pub too_long_refused : IsReady t c too_long ending fields → NextMessage c.cutter answer.TooLong new → Holds (record { role = s.role; calls = cs; pending = Nothing }) (told_so too_long)
  too_long_refused ready next =
      let r = cuts_go_on.too_long Server t.connection_trace.given t.reported c new next server_heard in
      refused_with too_long ready r.tells r.hears

-- ---- a head that is refused

module _ (t : CallTrace) (s : State) (id : ℕ) (fields : List Field) (last : Bool) (later : List Event) (server : t.connection_trace.role ≡ Server)
    (split : events_in t.connection_trace ≡ (t.connection_trace.given ++ Head id fields last ∷ []) ++ later) (comes : ComesIn t.connection_trace.role t.connection_trace.given (Head id fields last))
    (quiet : s.pending ≡ Nothing) (h : Holds s t) (close : CallEnd) (is : method_by (head_of fields) ≡ Err close)
    (ending : Ending) (block : List Field) (ends : ended ending ≡ true) (unsent : is_sent ending ≡ false) (fits : sum_by size_of block ≤ 65536)
    (ready : IsReady t (began id was.Closed false) close ending block) where
  abbrev behind_head : CallTrace
  behind_head = took_in t (Head id fields last) (Asked (Declined id close) ∷ []) (declined_taken t id close)

  none_yet : call_on id s.calls ≡ None
  none_yet = none_kept t s id fields last later server split comes quiet h

  begun_yet : is_begun t.connection_trace.role t.connection_trace.frames id ≡ true
  begun_yet = begun_by_now t s id fields last later server split comes quiet h

  sends_before : Sends t (began id was.Closed false)
  sends_before = sends_begun t s id fields last later server split comes quiet h was.Closed

  no_head_yet : list_any (heads_on id) t.connection_trace.given ≡ false
  no_head_yet = (unheard_yet t s id fields last later server split comes quiet h).no_head

  sends_now : Sends (with_taken (declined_taken t id close) t) (closed_by ending block (began id was.Closed false))
  sends_now =
      subst (λ (l : List (ℕ × Item CallEnd)). Sends (with_taken l t) (closed_by ending block (began id was.Closed false))) (sym (taken_by t id close false sends_before.ended_is))
      (sends_finished t (began id was.Closed false) close ending block ends unsent fits begun_yet ready sends_before refl)

  over_now : Hears Server (t.connection_trace.given ++ Head id fields last ∷ []) (t.reported ++ Asked (Declined id close) ∷ []) Nothing (closed_by ending block (began id was.Closed false)) was.Closed
  over_now = (
    any_push (heads_on id) t.connection_trace.given (Head id fields last) ∙ second_true (list_any (heads_on id) t.connection_trace.given) (id == id) (same_self id),
    heads_begin_calls.refused t.connection_trace.given id fields last close is no_head_yet,
  )

  stands_now : StandsOn behind_head Nothing id (Some (closed_by ending block (began id was.Closed false)))
  stands_now = (
    refl,
    begun_yet,
    record {
      sends = sends_kept (with_taken (declined_taken t id close) t) behind_head (closed_by ending block (began id was.Closed false)) touched_head sends_now;
      hears = subst (λ (r : Role). Hears r (t.connection_trace.given ++ Head id fields last ∷ []) (t.reported ++ Asked (Declined id close) ∷ []) Nothing (closed_by ending block (began id was.Closed false)) was.Closed) (sym server) over_now;
      told = λ going. absurd (clash _ ends going);
    },
  )
    where
      touched_head : IsUntouched (with_taken (declined_taken t id close) t) behind_head id
      touched_head = record {
        role_is = refl;
        numbers_are = refl;
        queued_is = refl;
        head_is = refl;
        parts_are = refl;
        spent_is = refl;
        ended_is = refl;
        begun = λ b. b;
        begun_before = λ r b. b;
        opened = λ o. o;
      }

  told_head : tells t.connection_trace.role t.numbers t.connection_trace.given (Head id fields last) ≡ Asked (Declined id close) ∷ []
  told_head =
      ap (λ (r : Role). tells r t.numbers t.connection_trace.given (Head id fields last)) server
      ∙ ap (λ m. map Asked (head_calls (λ (f : List Field). method_by (head_of f)) compressed too_long truncated id last m)) is

  pub refused_head_holds : Holds (record { role = s.role; calls = s.calls ++ closed_by ending block (began id was.Closed false) ∷ []; pending = Nothing }) behind_head
  refused_head_holds =
      takes_in t (Head id fields last) (Asked (Declined id close) ∷ []) (declined_taken t id close) later split s (s.calls ++ closed_by ending block (began id was.Closed false) ∷ []) Nothing quiet told_head
      (λ k off. record {
        same = added_other s.calls (closed_by ending block (began id was.Closed false)) k off;
        none_begins = refl;
        none_queued = declined_elsewhere t id k close off;
      })
      (λ k on stood.
      let same : id ≡ k = eqb-true id k on in
      subst (λ (n : ℕ). StandsOn behind_head Nothing n (call_on n (s.calls ++ closed_by ending block (began id was.Closed false) ∷ []))) same
      (subst (StandsOn behind_head Nothing id) (sym (added_here s.calls (closed_by ending block (began id was.Closed false)) none_yet)) stands_now))
      (λ k. once_more s.calls (closed_by ending block (began id was.Closed false)) k none_yet (h.once k)) h

  -- nothing of it is shown
  pub refused_head_hidden : AreHidden t.reported (Asked (Declined id close) ∷ [])
  refused_head_hidden =
      let told : told_by Server t.numbers t.connection_trace.given ≡ t.reported =
      subst (λ (r : Role). told_by r t.numbers t.connection_trace.given ≡ t.reported) server
      (h.told ∙ ap (λ (p : Pending). t.reported ++ still_told t.connection_trace.role s.calls p) quiet ∙ append-nil t.reported) in
      shown_not t.reported id close
      (subst (λ (l : List PeerEvent). list_any (is_begun_call id) (flat_map asked_of l) ≡ false) told (heads_begin_calls.unshown t.numbers t.connection_trace.given id no_head_yet))
