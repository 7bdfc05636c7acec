-- Where its parts agree with an account, a connection keeps the promise to its client.
use Rattle.std.proofs.Common.{◌≡◌, ◌⊎◌, inl, inr, ℕ, Bool, true, false, map, List, [], ◌∷◌, ◌++◌, Option, Some, None, refl, sym, ap, subst, ◌∙◌, arith, append-nil}
use Rattle.std.specs.List.{flat_map}
use Rattle.schema_numbers.specs.Numbers.{Numbers}
use Rattle.grpc_heads.specs.declared.head.Method.{Method}
use Rattle.grpc_heads.specs.CallEnd.{CallEnd, call_end_of, compressed, method_by, too_long, truncated}
use Rattle.grpc_heads.specs.Heads.{head_of}
use Rattle.grpc_heads.specs.Written.{response_fields}
use Rattle.h2_frames.specs.declared.code.ErrorCode.{ErrorCode}
use Rattle.h2_frames.specs.Layout.{IsPartial, IsTooLong}
use Rattle.h2_exchange.specs.declared.role.Role.{Role}
use Rattle.h2_exchange.specs.declared.role.Role.TheVariants.{Server}
use Rattle.h2_exchange.specs.Calls.{Call, calls}
use Rattle.h2_exchange.specs.Exchange.{Step, received, sent, sent_text}
use Rattle.h2_exchange.specs.Order.{AreFrames, RestBreaks, own_preface, peer_preface, received_bytes, sent_bytes}
use Rattle.h2_exchange.specs.Outcomes.{AreKnown, BeginWithFrames, IsReadExchange}
use Rattle.h2_exchange.specs.Outgoing.{SendsOnly}
use Rattle.h2_exchange.specs.Sending.{ResetsErrors}
use Rattle.h2_exchange.specs.StreamParts.{Item, Finish, AnswersBegin, CarriesResponse, IsPrefixOf, IsMessageFirst, has_begun, parts}
use Rattle.h2_exchange.specs.Stops.{events, stop_of}
use Rattle.h2_exchange.specs.Streams.{is_ended_by}
use Rattle.h2_exchange.proofs.Compressing.{written_blocks_are_read}
use Rattle.h2_exchange.proofs.Places.{clash}
use Rattle.grpc_stream.specs.CallTrace.{CallTrace, Asked, CarriesResponseOn, queued_on, reported_by, reported_in}
use Rattle.grpc_stream.specs.NextEvent.{asked_of}
use Rattle.grpc_stream.proofs.Spoken.{read, spelled_as}
use Rattle.call_answers.specs.declared.orders.Setting.{Setting}
use Rattle.call_orders.specs.Owed.{has_end}
use Rattle.call_orders.specs.Calls.{Action, Standing, answers, standing, waiting_in}
use Rattle.call_orders.specs.Actions.{calls_in}
use Rattle.call_orders.specs.Orders.{AreOrders, GoesOn}
use Rattle.session_engine.specs.Queries.{OpenCallsView}
use Rattle.session_engine.specs.Stands.{IsUnended}
use Rattle.server_turns.specs.declared.outcome.Outcome.{Outcome}
use Rattle.server_turns.specs.Past.{Past}
use Rattle.server_turns.specs.Serving.{EndsWhole, HasCause, NoneOpen, Serves, Unbroken, calls_spelled, end_of, none_asked, reads_all}
use Rattle.server_account.specs.Agreeing.{AreHandled, IsAhead, IsCutOff, IsServer, IsSettled, IsTaken, IsTold, MayBeRest, account_of, none_left}
use Rattle.server_account.proofs.Prefixes.{end_is_owed, first_before_end, first_goes_on, message_before_end, message_first}
use Rattle.server_account.proofs.Resets.{stays_unclosed, unended_response}
use Rattle.server_account.proofs.Rests.{alive_rest}

-- ---- what is spelled

-- nothing waits behind an end
waits_none : (st : Standing) → IsUnended st → has_end st.items ≡ true → waiting_in st.state ≡ []
waits_none st (inl over) ended = ap waiting_in over
waits_none st (inr none) ended = absurd (clash (has_end st.items) ended none)

-- What is left to be taken stands behind what was, and behind no end.
abbrev pub IsLeftBehind : CallTrace → ℕ → List (Item CallEnd) → Type 0
IsLeftBehind t id left = (left ≡ []) ⊎ (has_end (queued_on t id) ≡ false)

front_goes_on : (t : CallTrace) (id : ℕ) (st : Standing) (left : List (Item CallEnd)) (messages : List (List ℕ)) (rest : List ℕ) (end o : Option CallEnd) → o ≡ end → IsUnended st →
    queued_on t id ++ left ≡ st.items → IsLeftBehind t id left → IsPrefixOf messages rest end (queued_on t id) → IsPrefixOf messages rest end (st.items ++ waiting_in st.state)
front_goes_on t id st left messages rest end None is unended same behind front =
    subst (λ (items : List (Item CallEnd)). IsPrefixOf messages rest end (items ++ waiting_in st.state)) same
    (first_goes_on messages rest end (queued_on t id ++ left) (waiting_in st.state) (sym is) (first_goes_on messages rest end (queued_on t id) left (sym is) front))
front_goes_on t id st left messages rest end (Some e) is unended same behind front =
    let ended : has_end (queued_on t id) ≡ true = end_is_owed messages rest end e (queued_on t id) (sym is) front in
    let none : left ≡ [] = elim behind [ inl nothing ↦ nothing | inr unended ↦ absurd (clash (has_end (queued_on t id)) ended unended) ] in
    let all : queued_on t id ≡ st.items = sym (append-nil (queued_on t id)) ∙ ap (λ (l : List (Item CallEnd)). queued_on t id ++ l) (sym none) ∙ same in
    let last : waiting_in st.state ≡ [] = waits_none st unended (ap has_end (sym all) ∙ ended) in
    subst (IsPrefixOf messages rest end) (all ∙ sym (append-nil st.items) ∙ ap (λ (l : List (Item CallEnd)). st.items ++ l) (sym last)) front

-- of a stream that was cut off, what was taken before begins what is owed
cut_front : (t : CallTrace) (id : ℕ) (items waiting : List (Item CallEnd)) (messages : List (List ℕ)) (rest : List ℕ) (end : Option CallEnd) → IsCutOff t id items → end ≡ None →
    IsPrefixOf messages rest end (queued_on t id) → IsPrefixOf messages rest end (items ++ waiting)
cut_front t id items waiting messages rest end cut none front =
    subst (λ (l : List (Item CallEnd)). IsPrefixOf messages rest end (l ++ waiting)) (sym cut.items_are)
    (first_goes_on messages rest end (cut.taken ++ cut.missing) waiting none (first_goes_on messages rest end cut.taken cut.missing none (taken cut.queued)))
  where
    taken : (queued_on t id ≡ cut.taken) ⊎ ((answer : CallEnd) × (queued_on t id ≡ cut.taken ++ Finish answer ∷ [])) → IsPrefixOf messages rest end cut.taken
    taken (inl same) = subst (IsPrefixOf messages rest end) same front
    taken (inr (answer, same)) = first_before_end messages rest end cut.taken answer none (subst (IsPrefixOf messages rest end) same front)

cut_first : (t : CallTrace) (id : ℕ) (items waiting : List (Item CallEnd)) → IsCutOff t id items → IsMessageFirst (queued_on t id) → IsMessageFirst (items ++ waiting)
cut_first t id items waiting cut first =
    subst (λ (l : List (Item CallEnd)). IsMessageFirst (l ++ waiting)) (sym cut.items_are) (message_first (cut.taken ++ cut.missing) waiting (message_first cut.taken cut.missing (taken cut.queued)))
  where
    taken : (queued_on t id ≡ cut.taken) ⊎ ((answer : CallEnd) × (queued_on t id ≡ cut.taken ++ Finish answer ∷ [])) → IsMessageFirst cut.taken
    taken (inl same) = subst IsMessageFirst same first
    taken (inr (answer, same)) = message_before_end cut.taken answer (subst IsMessageFirst same first)

module _ (s : Setting) (t : CallTrace) (output : List ℕ) (h : IsServer s t output) where
  pub sends_as : (rest : List ℕ) → MayBeRest t.connection_trace rest → SendsOnly Server t.connection_trace.limits t.connection_trace.heads none_asked t.connection_trace.fed rest t.connection_trace.frames
  sends_as rest may = subst (λ (r : Role). SendsOnly r t.connection_trace.limits t.connection_trace.heads none_asked t.connection_trace.fed rest t.connection_trace.frames) h.role (h.sends rest may)

  pub cut_unclosed : (rest : List ℕ) → MayBeRest t.connection_trace rest → (id : ℕ) (items : List (Item CallEnd)) → IsCutOff t id items → is_ended_by (sent t.connection_trace.frames) id ≡ false
  cut_unclosed rest may id items cut =
      ap (λ (x : List Step). is_ended_by (sent x) id) cut.frames_are
      ∙ stays_unclosed t.connection_trace.limits t.connection_trace.heads none_asked t.connection_trace.fed rest id cut.early cut.later
      (subst (SendsOnly Server t.connection_trace.limits t.connection_trace.heads none_asked t.connection_trace.fed rest) cut.frames_are (sends_as rest may)) cut.reset cut.unclosed

  abbrev BeginsOn : List (Item CallEnd) → ℕ → Type 0
  BeginsOn owed id = (messages : List (List ℕ)) × (rest : List ℕ) × (end : Option CallEnd)
      × CarriesResponse response_fields (call_end_of t.numbers) t.connection_trace.written (sent t.connection_trace.frames) id messages rest end × IsPrefixOf messages rest end owed
      × (has_begun (parts id t.connection_trace.written (sent t.connection_trace.frames)) ≡ true → IsMessageFirst owed)

  -- What is written spells a first part of what is owed, also where the answer to a refusal is ahead of it.
  pub answers_begin : (rest : List ℕ) → MayBeRest t.connection_trace rest → (actions : List Action) (left : ℕ → List (Item CallEnd)) →
      ((id : ℕ) → IsTaken t id (standing s actions id).items (left id) ⊎ IsAhead t id (standing s actions id).items) → ((id : ℕ) → IsLeftBehind t id (left id)) →
      ((id : ℕ) → IsUnended (standing s actions id)) → AnswersBegin response_fields (call_end_of s.numbering) t.connection_trace.frames (answers s actions)
  answers_begin left_over may actions left taken behind unended =
      subst (λ (n : Numbers). AnswersBegin response_fields (call_end_of n) t.connection_trace.frames (answers s actions)) h.numbers
      (t.connection_trace.written, read written_blocks_are_read t output h.sound, λ id. by id (spelled_as Server t output h.sound h.suited h.role id) (taken id))
    where
      by : (id : ℕ) (on : CarriesResponseOn t id) → IsTaken t id (standing s actions id).items (left id) ⊎ IsAhead t id (standing s actions id).items → BeginsOn (answers s actions id) id
      by id on (inr ahead) =
          let items : List (Item CallEnd) = (standing s actions id).items in
          let waiting : List (Item CallEnd) = waiting_in (standing s actions id).state in
          let unclosed : on.end ≡ None =
          unended_response response_fields (call_end_of t.numbers) t.connection_trace.written (sent t.connection_trace.frames) id on.messages on.rest on.end on.spells ahead.unclosed in (
            on.messages,
            on.rest,
            on.end,
            on.spells,
            first_goes_on on.messages on.rest on.end items waiting unclosed (first_before_end on.messages on.rest on.end items ahead.answer unclosed (subst (IsPrefixOf on.messages on.rest on.end) ahead.queued on.front)),
            λ begun. message_first items waiting (message_before_end items ahead.answer (subst IsMessageFirst ahead.queued (on.begins begun))),
          )
      by id on (inl (inl same)) = (
        on.messages,
        on.rest,
        on.end,
        on.spells,
        front_goes_on t id (standing s actions id) (left id) on.messages on.rest on.end on.end refl (unended id) same (behind id) on.front,
        λ begun. subst (λ (l : List (Item CallEnd)). IsMessageFirst (l ++ waiting_in (standing s actions id).state)) same
            (message_first (queued_on t id ++ left id) (waiting_in (standing s actions id).state) (message_first (queued_on t id) (left id) (on.begins begun))),
      )
      by id on (inl (inr cut)) = (
        on.messages,
        on.rest,
        on.end,
        on.spells,
        cut_front t id (standing s actions id).items (waiting_in (standing s actions id).state) on.messages on.rest on.end cut
            (unended_response response_fields (call_end_of t.numbers) t.connection_trace.written (sent t.connection_trace.frames) id on.messages on.rest on.end on.spells (cut_unclosed left_over may id (standing s actions id).items cut)) on.front,
        λ begun. cut_first t id (standing s actions id).items (waiting_in (standing s actions id).state) cut (on.begins begun),
      )

  -- ---- what the link told

  pub known_as : AreKnown Server t.connection_trace.limits t.connection_trace.heads t.connection_trace.frames
  known_as = subst (λ (r : Role). AreKnown r t.connection_trace.limits t.connection_trace.heads t.connection_trace.frames) h.role h.sound.connection_trace.read

  pub resets_as : ResetsErrors Server t.connection_trace.limits t.connection_trace.heads t.connection_trace.frames
  resets_as = subst (λ (r : Role). ResetsErrors r t.connection_trace.limits t.connection_trace.heads t.connection_trace.frames) h.role h.sound.connection_trace.resets

  -- Where its exchange, what it sent, its orders and its cause are right, the promise is kept.
  pub serves_by : (past : Past) (rest : List ℕ) (actions : List Action) (outcome : Option Outcome) →
      IsReadExchange Server t.connection_trace.limits t.connection_trace.heads past.pieces output t.connection_trace.frames (reads_all outcome) rest →
      SendsOnly Server t.connection_trace.limits t.connection_trace.heads none_asked (received_bytes past.pieces) rest t.connection_trace.frames →
      AnswersBegin response_fields (call_end_of s.numbering) t.connection_trace.frames (answers s actions) →
      AreOrders s (calls_spelled (account_of t output rest actions)) past.own (end_of outcome) actions → HasCause s past (account_of t output rest actions) outcome →
      Serves s past (account_of t output rest actions) outcome
  serves_by past rest actions outcome exchange sends spelled orders cause = record {
    limits = h.limits;
    exchange = exchange;
    orders = orders;
    spelled = spelled;
    sends = sends;
    first = h.first;
    resets = λ _. resets_as;
    cause = cause;
  }

  module _ (past : Past) (told : IsTold t past.pieces) where
    pub front_as : BeginWithFrames (peer_preface Server) (received_bytes past.pieces) (received t.connection_trace.frames)
    front_as =
        subst (λ (bytes : List ℕ). BeginWithFrames (peer_preface Server) bytes (received t.connection_trace.frames)) told.fed
        (subst (λ (r : Role). BeginWithFrames (peer_preface r) t.connection_trace.fed (received t.connection_trace.frames)) h.role h.sound.connection_trace.front)

    pub text_as : own_preface Server ++ sent_text t.connection_trace.frames ≡ sent_bytes past.pieces ++ output
    text_as =
        ap (λ (r : Role). own_preface r ++ sent_text t.connection_trace.frames) (sym h.role) ∙ h.sound.connection_trace.text ∙ ap (λ (bytes : List ℕ). bytes ++ output) told.dropped

    pub exchange_of : (is_all : Bool) (rest : List ℕ) → (is_all ≡ true → stop_of Server t.connection_trace.limits t.connection_trace.heads t.connection_trace.frames ≡ None →
        AreFrames (peer_preface Server) (received_bytes past.pieces) (received t.connection_trace.frames) rest) →
        IsReadExchange Server t.connection_trace.limits t.connection_trace.heads past.pieces output t.connection_trace.frames is_all rest
    exchange_of is_all rest whole = record { known = known_as; front = front_as; whole = whole; text = text_as; order = told.order }

    sends_told : (rest : List ℕ) → MayBeRest t.connection_trace rest → SendsOnly Server t.connection_trace.limits t.connection_trace.heads none_asked (received_bytes past.pieces) rest t.connection_trace.frames
    sends_told rest may =
        subst (λ (bytes : List ℕ). SendsOnly Server t.connection_trace.limits t.connection_trace.heads none_asked bytes rest t.connection_trace.frames) told.fed (sends_as rest may)

    -- Where its orders and its cause are right, the promise is kept.
    pub serves_with : (rest : List ℕ) → MayBeRest t.connection_trace rest → (actions : List Action) (outcome : Option Outcome) → (reads_all outcome ≡ true → stop_of Server t.connection_trace.limits t.connection_trace.heads t.connection_trace.frames ≡ None →
        AreFrames (peer_preface Server) (received_bytes past.pieces) (received t.connection_trace.frames) rest) →
        AnswersBegin response_fields (call_end_of s.numbering) t.connection_trace.frames (answers s actions) →
        AreOrders s (calls_spelled (account_of t output rest actions)) past.own (end_of outcome) actions → HasCause s past (account_of t output rest actions) outcome →
        Serves s past (account_of t output rest actions) outcome
    serves_with rest may actions outcome whole spelled orders cause =
        serves_by past rest actions outcome (exchange_of (reads_all outcome) rest whole) (sends_told rest may) spelled orders cause

-- ---- the calls that were handled

pub asked_back : (cs : List (Call Method CallEnd)) → flat_map asked_of (map Asked cs) ≡ cs
asked_back [] = refl
asked_back (c ∷ cs) = ap (λ (l : List (Call Method CallEnd)). c ∷ l) (asked_back cs)

pub same_asked : (cs ds : List (Call Method CallEnd)) → map Asked cs ≡ map Asked ds → cs ≡ ds
same_asked cs ds e = sym (asked_back cs) ∙ ap (flat_map asked_of) e ∙ asked_back ds

pub reported_as : (t : CallTrace) → t.connection_trace.role ≡ Server →
    reported_in t ≡ map Asked (calls (λ fields. method_by (head_of fields)) compressed too_long truncated (events Server t.connection_trace.limits t.connection_trace.heads t.connection_trace.frames))
reported_as t is = ap (λ (r : Role). reported_by r t.numbers (record t.connection_trace { role = r })) is

module _ (s : Setting) (t : CallTrace) (output rest : List ℕ) (h : IsServer s t output) (open_calls : OpenCallsView) (actions : List Action) (past : Past) where
  pub all_handled : (left : ℕ → List (Item CallEnd)) → AreHandled s t open_calls actions past.own left → t.reported ≡ reported_in t → calls_spelled (account_of t output rest actions) ≡ calls_in actions
  all_handled left served all = sym (same_asked (calls_in actions) _ (sym served.reported ∙ all ∙ reported_as t h.role))

  pub orders_go_on : (left : ℕ → List (Item CallEnd)) → AreHandled s t open_calls actions past.own left → t.reported ≡ reported_in t → AreOrders s (calls_spelled (account_of t output rest actions)) past.own GoesOn actions
  orders_go_on left served all = record {
    each = served.open_now.each;
    rest = [];
    last = [];
    handled = all_handled left served all ∙ sym (append-nil (calls_in actions));
    did = served.did ∙ sym (append-nil _);
    over = (served.running, refl, refl);
  }

-- ---- a connection that has received every whole frame

not_long : (rest : List ℕ) → IsPartial rest → IsTooLong rest → ⊥
not_long rest (inl short) (long, far) = omega (arith, short, long)
not_long rest (inr (near, short)) (long, far) = omega (arith, near, far)

module _ (s : Setting) (t : CallTrace) (output rest : List ℕ) (h : IsServer s t output) (past : Past) (told : IsTold t past.pieces) (settled : IsSettled t rest) where
  pub frames_are : AreFrames (peer_preface Server) (received_bytes past.pieces) (received t.connection_trace.frames) rest
  frames_are =
      subst (λ (bytes : List ℕ). AreFrames (peer_preface Server) bytes (received t.connection_trace.frames) rest) told.fed
      (inl (settled.whole.follows, settled.whole.reads, inl settled.whole.partial))

  pub unbroken : (actions : List Action) → Unbroken s past (account_of t output rest actions)
  unbroken actions = (
    ap (λ (r : Role). stop_of r t.connection_trace.limits t.connection_trace.heads t.connection_trace.frames) (sym h.role) ∙ settled.unstopped,
    λ why place breaks. whole (subst (λ (bytes : List ℕ). RestBreaks (peer_preface Server) bytes (received t.connection_trace.frames) rest why place) (sym told.fed) breaks),
  )
    where
      whole : {why : ErrorCode} {place : ℕ} → RestBreaks (peer_preface Server) t.connection_trace.fed (received t.connection_trace.frames) rest why place → ⊥
      whole (inl breaks) = breaks.0 settled.whole.follows
      whole (inr breaks) = not_long rest settled.whole.partial breaks.1

pub agreement_serves : (s : Setting) (t : CallTrace) (output rest : List ℕ) (open_calls : OpenCallsView) (past : Past) (actions : List Action) → IsServer s t output → IsTold t past.pieces →
    AreHandled s t open_calls actions past.own none_left → IsSettled t rest →
    (past.is_ended ≡ true → EndsWhole s past (account_of t output rest actions) × NoneOpen s past (account_of t output rest actions)) → Serves s past (account_of t output rest actions) None
agreement_serves s t output rest open_calls past actions h told served settled ended =
    let may = alive_rest t.connection_trace rest settled.alive in
    serves_with s t output h past told rest may actions None (λ _ _. frames_are s t output rest h past told settled)
    (answers_begin s t output h rest may actions none_left (λ id. inl (served.taken id)) (λ id. inl refl) served.open_now.unended)
    (orders_go_on s t output rest h open_calls actions past none_left served settled.all)
    (unbroken s t output rest h past told settled actions, ended)
