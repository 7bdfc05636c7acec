-- What ends a connection behind the end of its input.
use Rattle.std.proofs.Common.{◌≡◌, inl, inr, ℕ, ◌+◌, ◌<◌, ◌&&◌, ◌||◌, Bool, true, false, not, length, List, [], ◌∷◌, Option, Some, None, refl, sym, ap, subst, ◌∙◌, arith, sum_by, append-nil, length-append}
use Rattle.std.specs.Prelude.{filter, if◌then◌else◌, nat_lt}
use Rattle.std.specs.List.{flat_map}
use Rattle.std.proofs.lemmas.Bool.{ltb-true, ltb-false}
use Rattle.std.proofs.lemmas.List.Concat.{flat_map-append}
use Rattle.std.proofs.lemmas.List.Sums.{sum_by-cons}
use Rattle.rig_io.specs.Link.{Piece}
use Rattle.grpc_framing.specs.Framing.{item, items}
use Rattle.grpc_heads.specs.CallEnd.{CallEnd, call_end_of}
use Rattle.grpc_heads.specs.Written.{response_fields}
use Rattle.hpack_tables.specs.declared.field.Field.{Field}
use Rattle.h2_frames.specs.Stream.{AreWhole}
use Rattle.h2_exchange.specs.declared.role.Role.{Role}
use Rattle.h2_exchange.specs.declared.role.Role.TheVariants.{Server}
use Rattle.h2_exchange.specs.Exchange.{Step, received, sent}
use Rattle.h2_exchange.specs.Order.{peer_preface}
use Rattle.h2_exchange.specs.StreamParts.{Item, Message, Finish, IsPrefixOf, StreamEnd, Trailers, end_by, parts}
use Rattle.h2_exchange.specs.Streams.{begun, is_begun, is_ended_by, is_live, is_reset, live}
use Rattle.h2_exchange.specs.Windows.{may_send, spent_on}
use Rattle.h2_exchange.proofs.Compressing.{written_blocks_are_read}
use Rattle.h2_exchange.proofs.Places.{clash}
use Rattle.http_connection.specs.Answers.{IsBetween}
use Rattle.grpc_stream.specs.CallTrace.{CallTrace, CarriesResponseOn, queued_on, text_of, unsent_on, waiting_in}
use Rattle.grpc_stream.proofs.Counted.{IsCut, is_cut}
use Rattle.grpc_stream.proofs.Pieces.{as_many, parts_end, parts_size, response_end, response_size}
use Rattle.grpc_stream.proofs.Spoken.{read, spelled_as}
use Rattle.table_model.specs.Event.{Event}
use Rattle.call_answers.specs.declared.orders.Setting.{Setting}
use Rattle.call_orders.specs.Calls as call
use Rattle.call_orders.specs.Calls.{Action, CallState, answers, standing}
use Rattle.session_engine.specs.declared.open_calls.OpenCall.{OpenCall}
use Rattle.session_engine.specs.declared.open_calls.OpenCall.TheVariants as opened
use Rattle.session_engine.specs.Queries.{OpenCallsView, call_on, is_asking}
use Rattle.session_engine.specs.Stands.{Stands}
use Rattle.server_turns.specs.declared.outcome.Outcome.TheVariants as over
use Rattle.server_turns.specs.declared.outcome.DropCause.TheVariants as drop
use Rattle.server_turns.specs.Serving.{EndsWhole, NoneOpen, IsShort, is_open_call}
use Rattle.server_account.specs.Agreeing.{IsServer, IsSettled, IsTaken, account_of}
use Rattle.server_account.proofs.Resets.{reset_stays}
use Rattle.server_conn.specs.Standing.{MayEnd, Works, past_of}
use Rattle.server_conn.specs.Steps.{IsPumped}
use Rattle.server_conn.proofs.MayEnd.{settled_may_end, unbroken}
use Rattle.server_conn.proofs.Served.{false_true, none_open, true_false}

-- ---- bytes that wait

some_in : (f : ℕ → ℕ) (p : ℕ → Bool) (ids : List ℕ) → 0 < sum_by f (filter p ids) → (id : ℕ) × (p id ≡ true) × (0 < f id)
some_in f p [] some = absurd (omega (arith, some))
some_in f p (i ∷ ids) some = by (p i) (nat_lt 0 (f i)) refl refl some (some_in f p ids)
  where
    by : (q b : Bool) → p i ≡ q → nat_lt 0 (f i) ≡ b → 0 < sum_by f (if q then i ∷ filter p ids else filter p ids) →
        (0 < sum_by f (filter p ids) → (id : ℕ) × (p id ≡ true) × (0 < f id)) → (id : ℕ) × (p id ≡ true) × (0 < f id)
    by true true passes positive sum deep = (i, passes, ltb-true 0 (f i) positive)
    by true false passes none sum deep = deep (let a = sum_by-cons f i (filter p ids) in let b = ltb-false 0 (f i) none in omega (arith, a, b, sum))
    by false b passes positive sum deep = deep sum

-- a live stream of which bytes wait
waits_somewhere : (t : CallTrace) → t.connection_trace.role ≡ Server → 0 < waiting_in t →
    (id : ℕ) × (is_live Server t.connection_trace.frames id ≡ true) × (0 < unsent_on t id)
waits_somewhere t is some =
    some_in (unsent_on t) (is_live Server t.connection_trace.frames) (begun Server t.connection_trace.frames)
    (subst (λ (r : Role). 0 < sum_by (unsent_on t) (live r t.connection_trace.frames)) is some)

live_kept : (x : List Step) (id : ℕ) → is_live Server x id ≡ true → is_reset x id ≡ false
live_kept x id lives = by (is_begun Server x id) (is_reset x id) (is_ended_by (received x) id) (is_ended_by (sent x) id) lives
  where
    by : (b r e f : Bool) → (b && not (r || e && f)) ≡ true → r ≡ false
    by b false e f h = refl
    by true true e f h = false_true h
    by false true e f h = false_true h

open_by : (l e : Bool) → l ≡ true → e ≡ false → (l && not e) ≡ true
open_by true false p q = refl
open_by true true p q = true_false q
open_by false e p q = false_true p

-- ---- a stream that was ended has all that was taken for it in frames

whole_size : (messages : List (List ℕ)) (rest : List ℕ) (end : Option CallEnd) (close : CallEnd) (owed : List (Item CallEnd)) → end ≡ Some close →
    IsPrefixOf messages rest end owed → length (items messages) ≡ length (flat_map text_of owed)
whole_size (m ∷ ms) rest end close (Message n ∷ owed) is (same, others) =
    length-append (item m) (items ms) ∙ (ap (λ (l : List ℕ). length (item l) + length (items ms)) same
    ∙ (ap (λ (k : ℕ). length (item n) + k) (whole_size ms rest end close owed is others) ∙ sym (length-append (item n) (flat_map text_of owed))))
whole_size (m ∷ ms) rest end close (Finish f ∷ owed) is h = absurd h
whole_size (m ∷ ms) rest end close [] is h = absurd h
whole_size [] rest None close owed is h = absurd cc
whole_size [] rest (Some end) close [] is h = absurd h
whole_size [] rest (Some end) close (Message n ∷ owed) is h = absurd h
whole_size [] rest (Some end) close (Finish f ∷ []) is h = refl
whole_size [] rest (Some end) close (Finish f ∷ i ∷ owed) is h = absurd h

end_read : (read_end : List Field → CallEnd) (end : Option CallEnd) (close : StreamEnd) (fields : List Field) → end ≡ end_by response_fields read_end close →
    close ≡ Trailers fields → end ≡ Some (read_end fields)
end_read read_end end close fields e is = e ∙ ap (end_by response_fields read_end) is

ended_sends_all : (s : Setting) (t : CallTrace) (output : List ℕ) → IsServer s t output → (id : ℕ) → is_ended_by (sent t.connection_trace.frames) id ≡ true →
    unsent_on t id ≡ 0
ended_sends_all s t output h id ended =
    (let fs = sent t.connection_trace.frames in
    let heads = t.connection_trace.written in
    let on : CarriesResponseOn t id = spelled_as Server t output h.sound h.suited h.role id in
    let ps = parts id heads fs in
    let last = response_end response_fields ps on.spells.bytes on.spells.close on.spells.response
    (parts_end id heads fs (as_many fs heads (read written_blocks_are_read t output h.sound)) ended) in
    let cut : IsCut on.messages on.rest on.spells.bytes = is_cut on.messages on.rest on.spells.bytes on.spells.cut in
    let all = whole_size on.messages on.rest on.end (call_end_of t.numbers last.0) (queued_on t id)
    (end_read (call_end_of t.numbers) on.end on.spells.close last.0 on.spells.end_is last.1) on.front in
    let bytes = response_size response_fields ps on.spells.bytes on.spells.close on.spells.response in
    let counted = parts_size id heads t.connection_trace.frames h.sound.unpadded in
    omega (arith, cut.count, all, bytes, counted))

-- ---- a call that asks more

asks_open : (s : Setting) (call : Option OpenCall) (state : CallState) → is_asking call ≡ true → Stands s call state → is_open_call state ≡ true
asks_open s None state e at = false_true e
asks_open s (Some (opened.Modifies session true)) state e at = false_true e
asks_open s (Some (opened.Modifies session false)) state e at = ap is_open_call at
asks_open s (Some (opened.Receives method first is_more)) state e at = ap is_open_call at
asks_open s (Some (opened.Responds rows)) state e at = false_true e

module _ {K : Type 0} (uses : K → CallTrace → Type 0) (output : K → List ℕ) (s : Setting) (calls : K) (open_calls : OpenCallsView) (refused : ℕ)
    (t : CallTrace) (actions : List Action) (pieces : List Piece) (own : List Event) (rest : List ℕ) (is_ended : Bool)
    (h : Works uses output s calls open_calls refused t actions pieces own) (settled : IsSettled t rest) where
  abbrev Whole : Type 0
  Whole = EndsWhole s (past_of pieces own true) (account_of t (output calls) rest actions)

  pub whole_between : IsBetween t.connection_trace → Whole
  whole_between between = (
    subst (λ (bytes : List ℕ). AreWhole (peer_preface Server) bytes (received t.connection_trace.frames)) h.agrees.told.fed
        (subst (λ (r : Role). AreWhole (peer_preface r) t.connection_trace.fed (received t.connection_trace.frames)) h.agrees.server.role between.whole),
    between.closed,
  )

  between_whole : Whole → IsBetween t.connection_trace
  between_whole whole = record {
    whole = subst (λ (r : Role). AreWhole (peer_preface r) t.connection_trace.fed (received t.connection_trace.frames)) (sym h.agrees.server.role)
        (subst (λ (bytes : List ℕ). AreWhole (peer_preface Server) bytes (received t.connection_trace.frames)) (sym h.agrees.told.fed) whole.0);
    closed = whole.1;
  }

  pub cut_frame : is_ended ≡ true → (IsBetween t.connection_trace → ⊥) →
      MayEnd s t (output calls) open_calls refused (past_of pieces own is_ended) (over.Dropped drop.CutFrame)
  cut_frame ended never =
      settled_may_end uses output s calls open_calls refused t actions pieces own h rest settled is_ended (over.Dropped drop.CutFrame) refl refl
      (λ now. (
        unbroken uses output s calls open_calls refused t actions pieces own h rest settled is_ended,
        ended,
        λ whole. never (between_whole whole),
      ))

  pub open_call : is_ended ≡ true → IsBetween t.connection_trace → (id : ℕ) × (is_asking (call_on open_calls id) ≡ true) →
      MayEnd s t (output calls) open_calls refused (past_of pieces own is_ended) (over.Dropped drop.OpenCall)
  open_call ended between asks =
      settled_may_end uses output s calls open_calls refused t actions pieces own h rest settled is_ended (over.Dropped drop.OpenCall) refl refl
      (λ now. (
        unbroken uses output s calls open_calls refused t actions pieces own h rest settled is_ended,
        ended,
        (
          whole_between between,
          (asks.0, asks_open s (call_on open_calls asks.0) (standing s actions asks.0).state asks.1 (h.agrees.handled.open_now.stands asks.0)),
        ),
      ))

  -- ---- windows

  short_on : (id : ℕ) → is_live Server t.connection_trace.frames id ≡ true → 0 < unsent_on t id → may_send t.connection_trace.frames id ≡ 0 →
      IsShort s (past_of pieces own true) (account_of t (output calls) rest actions) id
  short_on id lives some full = (
    open_by (is_live Server t.connection_trace.frames id) (is_ended_by (sent t.connection_trace.frames) id) lives
        (unclosed (is_ended_by (sent t.connection_trace.frames) id) refl),
    full,
    owed (h.agrees.handled.taken id),
  )
    where
      unclosed : (b : Bool) → is_ended_by (sent t.connection_trace.frames) id ≡ b → is_ended_by (sent t.connection_trace.frames) id ≡ false
      unclosed true e = absurd (let none = ended_sends_all s t (output calls) h.agrees.server id e in omega (arith, none, some))
      unclosed false e = e

      owed : IsTaken t id (standing s actions id).items [] →
          spent_on id (sent t.connection_trace.frames) < length (flat_map text_of (answers s actions id))
      owed (inl all) =
          (let same : queued_on t id ≡ (standing s actions id).items = sym (append-nil (queued_on t id)) ∙ all in
          let size = ap (λ (l : List (Item CallEnd)). length (flat_map text_of l)) same in
          let grows = ap length (flat_map-append text_of (standing s actions id).items (call.waiting_in (standing s actions id).state)) in
          let more = length-append (flat_map text_of (standing s actions id).items) (flat_map text_of (call.waiting_in (standing s actions id).state)) in
          omega (arith, some, size, grows, more))
      owed (inr cut) = absurd (clash (is_reset t.connection_trace.frames id)
          (ap (λ (x : List Step). is_reset x id) cut.frames_are ∙ reset_stays cut.early cut.later id cut.reset) (live_kept t.connection_trace.frames id lives))

  none_asks : ((id : ℕ) → is_asking (call_on open_calls id) ≡ false) → NoneOpen s (past_of pieces own true) (account_of t (output calls) rest actions)
  none_asks none id = none_open s (call_on open_calls id) (standing s actions id).state (none id) (h.agrees.handled.open_now.stands id)

  -- Behind a pump bytes wait only where a window is used up.
  pub no_window : (waiting : ℕ) → is_ended ≡ true → IsPumped t waiting → 0 < waiting →
      (is_ended ≡ true → Whole × ((id : ℕ) → is_asking (call_on open_calls id) ≡ false)) →
      MayEnd s t (output calls) open_calls refused (past_of pieces own is_ended) (over.Dropped drop.NoWindow)
  no_window waiting ended pumped some whole =
      (let more : 0 < waiting_in t = (let a = pumped.waits in omega (arith, a, some)) in
      let x = waits_somewhere t h.agrees.server.role more in
      let full = pumped.pumps.full pumped.alive x.0
      (ap (λ (r : Role). is_live r t.connection_trace.frames x.0) h.agrees.server.role ∙ x.1) x.2 in
      let w = whole ended in
      settled_may_end uses output s calls open_calls refused t actions pieces own h rest settled is_ended (over.Dropped drop.NoWindow) refl refl
      (λ now. (
        unbroken uses output s calls open_calls refused t actions pieces own h rest settled is_ended,
        ended,
        (w.0, none_asks w.1, (x.0, short_on x.0 x.1 x.2 full)),
      )))
