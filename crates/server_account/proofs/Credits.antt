-- Credit that ends a hold may be sent.
use Rattle.std.proofs.Common.{◌≡◌, ◌⊎◌, inl, inr, ℕ, ◌+◌, ◌-◌, ◌<◌, ◌≤◌, length, ◌^◌, ◌==◌, Bool, ◌&&◌, true, false, not, map, List, [], ◌∷◌, ◌++◌, refl, sym, ap, subst, ◌∙◌, arith, append_assoc, append-nil}
use Rattle.std.specs.Prelude.{Option, Some, None, if◌then◌else◌, is_some}
use Rattle.std.specs.List.{All, flat_map}
use Rattle.std.proofs.lemmas.Nat.{from_be_bytes-to_be_bytes_4}
use Rattle.std.proofs.lemmas.List.Sums.{sum_by-append}
use Rattle.std.proofs.lemmas.List.Elements.{All-head, All-tail}
use Rattle.h2_frames.specs.declared.frame.Frame.{Frame}
use Rattle.h2_frames.specs.Layout.{frame_text}
use Rattle.h2_exchange.specs.declared.role.Role.{Role}
use Rattle.h2_exchange.specs.declared.role.Role.TheVariants.{Server}
use Rattle.h2_exchange.specs.Exchange.{Step, Sent, received, sent}
use Rattle.h2_exchange.specs.Frames.{increment_of, is_rst_stream, is_window_update, stream_of}
use Rattle.h2_exchange.specs.Outgoing.{MaySend, SendsOnly, credits, credits_stream}
use Rattle.h2_exchange.specs.Sending.{IsCredited, first_text, update_text}
use Rattle.h2_exchange.specs.Streams.{is_live, is_reset}
use Rattle.h2_exchange.specs.Windows.{granted_on, may_send, spent, spent_on}
use Rattle.h2_exchange.proofs.Places.{same_self}
use Rattle.h2_exchange.proofs.Sending.{only_these_are_sent}
use Rattle.h2_exchange.proofs.Steps.{sent_more, window_sums_grow}
use Rattle.http_connection.specs.ConnectionTrace.{ArePlaced, ConnectionTrace, held, is_alive, wrote}
use Rattle.http_connection.specs.Sends.{CarryCredit, IsCredit}
use Rattle.grpc_stream.specs.CallTrace.{CallTrace, IsSoundCallTrace, changed, queued_on, text_of, unsent_on, waiting_in}
use Rattle.grpc_stream.proofs.Granted.{live_number, one_frame, update}
use Rattle.grpc_heads.specs.CallEnd.{CallEnd, call_end_of}
use Rattle.grpc_heads.specs.Written.{response_fields}
use Rattle.h2_exchange.specs.Order.{Piece}
use Rattle.h2_exchange.specs.StreamParts.{Item}
use Rattle.table_model.specs.Event.{Event}
use Rattle.call_answers.specs.declared.orders.Setting.{Setting}
use Rattle.call_orders.specs.Calls.{Action, answers}
use Rattle.session_engine.specs.Queries.{OpenCallsView}
use Rattle.server_turns.specs.Past.{Past}
use Rattle.server_turns.specs.Serving.{IsAnswered, none_asked}
use Rattle.server_account.specs.Agreeing.{AreHandled, IsServer, IsSettled, IsTold, account_of}
use Rattle.server_account.proofs.Quiet.{ResetNone}
use Rattle.server_account.proofs.Rests.{alive_rest}
use Rattle.server_account.proofs.Steady.{AreUpdates, IsSteady, all_steady, answers_same, live_sums_same, may_send_same, update_steady}
use Rattle.server_account.proofs.Tells.{first_more}
use Rattle.server_account.proofs.Uses.{handled_on, received_same, reported_same, settled_sends, told_sends}

-- ---- so much is granted

says : (id n : ℕ) (small : id < 2 ^ 31) → n < 2 ^ 31 → increment_of (update id n small) ≡ n
says id n small fits = omega (arith, fits, from_be_bytes-to_be_bytes_4 n (omega (arith, fits)))

grants : (fs : List Frame) (id n : ℕ) (small : id < 2 ^ 31) → n < 2 ^ 31 → granted_on id (fs ++ update id n small ∷ []) ≡ granted_on id fs + n
grants fs id n small fits =
    window_sums_grow.granted_push id fs (update id n small)
    ∙ ap (λ (b : Bool). granted_on id fs + (if b then increment_of (update id n small) else 0)) (same_self id) ∙ ap (λ (m : ℕ). granted_on id fs + m) (says id n small fits)

more_granted : (id : ℕ) (fs gs : List Frame) → granted_on id fs ≤ granted_on id (fs ++ gs)
more_granted id fs gs = omega (arith, sum_by-append (λ (f : Frame). if is_window_update f && stream_of f == id then increment_of f else 0) fs gs)

-- how much a frame grants, and to which stream
pub record Grants (c : ConnectionTrace) (f : Frame) : Type 0 where
  pub id : ℕ
  pub n : ℕ
  pub small : id < 2 ^ 31
  pub frame_is : f ≡ update id n small
  pub some : 0 < n
  pub fits : n < 2 ^ 31
  pub on : (id ≡ 0) ⊎ (is_live c.role c.frames id ≡ true)

credit_is : (c : ConnectionTrace) (f : Frame) → IsCredit c f → Grants c f
credit_is c f (id, n, text, some, fits, on) =
    let small : id < 2 ^ 31 = elim on [ inl zero ↦ omega (arith, zero) | inr lives ↦ (live_number c.role c.frames id lives).1 ] in
    record { id = id; n = n; small = small; frame_is = one_frame f (update id n small) text; some = some; fits = fits; on = on }

are_updates : (c : ConnectionTrace) (fs : List Frame) → All (IsCredit c) fs → AreUpdates fs
are_updates c [] h = tt
are_updates c (f ∷ fs) h = (ap is_window_update (credit_is c f (All-head (IsCredit c) f fs h)).frame_is, are_updates c fs (All-tail (IsCredit c) f fs h))

pub carried_updates : (hold : Bool) (c : ConnectionTrace) (fs : List Frame) → CarryCredit hold c fs → AreUpdates fs
carried_updates true c fs none = subst AreUpdates (sym none) tt
carried_updates false c fs h = are_updates c fs h.0

module _ (c : ConnectionTrace) (is : c.role ≡ Server) (bytes rest : List ℕ) (w : List Step) (placed : ArePlaced w) (whole : IsCredited Server c.limits w) (lives : (id : ℕ) → is_live Server w id ≡ is_live Server c.frames id) where
  abbrev Sends : List Step → Type 0
  Sends x = SendsOnly Server c.limits c.heads none_asked bytes rest x

  one_credit : (x : List Step) (f : Frame) (fs : List Frame) → w ≡ x ++ map Sent (f ∷ fs) → ((id : ℕ) → is_live Server x id ≡ is_live Server c.frames id) → Grants c f → Sends x → Sends (x ++ Sent f ∷ [])
  one_credit x f fs split same g sends = (only_these_are_sent Server c.limits c.heads none_asked bytes rest x).sent f (by g.on) (placed x (map Sent fs) f split) sends
    where
      received_is : received w ≡ received x
      received_is = ap received split ∙ received_same x (f ∷ fs)

      sent_is : sent w ≡ (sent x ++ update g.id g.n g.small ∷ []) ++ sent (map Sent fs)
      sent_is =
          ap sent split ∙ sent_more x (map Sent (f ∷ fs)) ∙ ap (λ (h : Frame). sent x ++ h ∷ sent (map Sent fs)) g.frame_is
          ∙ sym (append_assoc (sent x) (update g.id g.n g.small ∷ []) (sent (map Sent fs)))

      within : (k : ℕ) → k ≡ g.id → granted_on k (sent x) + g.n ≤ granted_on k (sent w)
      within k on =
          subst (λ (m : ℕ). granted_on m (sent x) + g.n ≤ granted_on m (sent w)) (sym on)
          (omega (arith, grants (sent x) g.id g.n g.small g.fits, ap (granted_on g.id) sent_is, more_granted g.id (sent x ++ update g.id g.n g.small ∷ []) (sent (map Sent fs))))

      by : (g.id ≡ 0) ⊎ (is_live c.role c.frames g.id ≡ true) → MaySend Server c.limits c.heads none_asked bytes rest x f
      by (inl zero) =
          credits g.n (ap frame_text g.frame_is ∙ ap (λ (k : ℕ). update_text k g.n) zero) g.some
          (omega (arith, within 0 (sym zero), whole.whole, ap spent received_is))
      by (inr live) =
          let live_here : is_live Server x g.id ≡ true = same g.id ∙ sym (ap (λ (r : Role). is_live r c.frames g.id) is) ∙ live in
          let live_then : is_live Server w g.id ≡ true = lives g.id ∙ sym (same g.id) ∙ live_here in
          credits_stream g.id g.n (ap frame_text g.frame_is) g.some live_here
          (omega (arith, within g.id refl, whole.streams g.id live_then, ap (spent_on g.id) received_is))

  all_credit : (x : List Step) (fs : List Frame) → w ≡ x ++ map Sent fs → ((id : ℕ) → is_live Server x id ≡ is_live Server c.frames id) → All (IsCredit c) fs → Sends x → Sends w
  all_credit x [] split same h sends = subst Sends (sym (split ∙ append-nil x)) sends
  all_credit x (f ∷ fs) split same h sends =
      let g : Grants c f = credit_is c f (All-head (IsCredit c) f fs h) in
      all_credit (x ++ Sent f ∷ []) fs (split ∙ sym (append_assoc x (Sent f ∷ []) (map Sent fs))) (λ id. (update_steady Server x f (ap is_window_update g.frame_is)).lives id ∙ same id) (All-tail (IsCredit c) f fs h) (one_credit x f fs split same g sends)

-- ---- a hold begins or ends

resets_none : (c : ConnectionTrace) (fs : List Frame) → All (IsCredit c) fs → ResetNone fs
resets_none c [] h = tt
resets_none c (f ∷ fs) h = (ap is_rst_stream (credit_is c f (All-head (IsCredit c) f fs h)).frame_is, resets_none c fs (All-tail (IsCredit c) f fs h))

pub carried_resets_none : (hold : Bool) (c : ConnectionTrace) (fs : List Frame) → CarryCredit hold c fs → ResetNone fs
carried_resets_none true c fs none = subst ResetNone (sym none) tt
carried_resets_none false c fs h = resets_none c fs h.0

credit_sends : (hold : Bool) (c : ConnectionTrace) (fs : List Frame) → c.role ≡ Server → is_alive c ≡ true → ArePlaced (c.frames ++ map Sent fs) → CarryCredit hold c fs → (bytes rest : List ℕ) →
    SendsOnly Server c.limits c.heads none_asked bytes rest c.frames → SendsOnly Server c.limits c.heads none_asked bytes rest (c.frames ++ map Sent fs)
credit_sends true c fs is alive placed none bytes rest sends =
    subst (SendsOnly Server c.limits c.heads none_asked bytes rest) (sym (ap (λ (l : List Frame). c.frames ++ map Sent l) none ∙ append-nil c.frames)) sends
credit_sends false c fs is alive placed h bytes rest sends =
    all_credit c is bytes rest (c.frames ++ map Sent fs) placed (subst (λ (r : Role). IsCredited r c.limits (c.frames ++ map Sent fs)) is (h.3 alive)) (all_steady Server c.frames fs (are_updates c fs h.0)).lives c.frames fs refl (λ id. refl) h.0 sends

not_refused : {A : Type 0} (o : Option A) → not (is_some o) ≡ true → o ≡ None
not_refused None e = refl
not_refused (Some a) e = absurd cc

module _ (s : Setting) (t : CallTrace) (output later : List ℕ) (hold : Bool) (fs : List Frame) (h : IsServer s t output) (alive : is_alive t.connection_trace ≡ true) (carries : CarryCredit hold t.connection_trace fs) where
  abbrev credited : CallTrace
  credited = changed (λ c. held hold (wrote fs [] c)) t

  pub server_credits : IsSoundCallTrace credited later → IsServer s credited later
  server_credits sound = record {
    sound = sound;
    role = h.role;
    numbers = h.numbers;
    limits = h.limits;
    first = first_more (first_text Server t.connection_trace.limits) t.connection_trace.frames (map Sent fs) h.first;
    sends = λ rest _. subst (λ (r : Role). SendsOnly r t.connection_trace.limits t.connection_trace.heads none_asked t.connection_trace.fed rest (t.connection_trace.frames ++ map Sent fs)) (sym h.role)
        (credit_sends hold t.connection_trace fs h.role alive sound.connection_trace.placed carries t.connection_trace.fed rest
        (subst (λ (r : Role). SendsOnly r t.connection_trace.limits t.connection_trace.heads none_asked t.connection_trace.fed rest t.connection_trace.frames) h.role
        (h.sends rest (alive_rest t.connection_trace rest (not_refused t.connection_trace.refusal alive)))));
    suited = h.suited;
  }

  pub told_credits : (pieces : List Piece) → IsTold t pieces → IsTold credited pieces
  told_credits pieces told = let k = told_sends s t output later fs [] pieces h told in record { fed = k.fed; dropped = k.dropped; order = k.order }

  pub handled_credits : (calls : OpenCallsView) (actions : List Action) (own : List Event) (left : ℕ → List (Item CallEnd)) → AreHandled s t calls actions own left → AreHandled s credited calls actions own left
  handled_credits calls actions own left k = handled_on s t credited calls actions own left refl refl (map Sent fs) refl k

  pub settled_credits : (rest : List ℕ) → IsSettled t rest → IsSettled credited rest
  settled_credits rest k =
      let none = carried_resets_none hold t.connection_trace fs carries in
      let m = settled_sends s t output later fs [] rest none k in
      record { all = m.all ∙ reported_same t.connection_trace.role t.numbers (wrote fs [] t.connection_trace) credited.connection_trace refl; alive = m.alive; unstopped = m.unstopped; whole = m.whole }

-- ---- what credit leaves as it is

module _ (s : Setting) (t : CallTrace) (output later : List ℕ) (past : Past) (rest : List ℕ) (actions : List Action) (hold : Bool) (fs : List Frame) (id : ℕ) (carries : CarryCredit hold t.connection_trace fs) where
  abbrev granted : CallTrace
  granted = changed (λ c. held hold (wrote fs [] c)) t

  steady : (role : Role) → IsSteady role t.connection_trace.frames (t.connection_trace.frames ++ map Sent fs)
  steady role = all_steady role t.connection_trace.frames fs (carried_updates hold t.connection_trace fs carries)

  same_answers : IsAnswered s past (account_of t output rest actions) id → IsAnswered s past (account_of granted later rest actions) id
  same_answers answered =
      answers_same Server t.connection_trace.frames (t.connection_trace.frames ++ map Sent fs) (steady Server) response_fields (call_end_of s.numbering) id (answers s actions id) answered

  same_waits : waiting_in granted ≡ waiting_in t
  same_waits =
      live_sums_same t.connection_trace.role t.connection_trace.frames (t.connection_trace.frames ++ map Sent fs) (steady t.connection_trace.role) (unsent_on granted) (unsent_on t)
      (λ n. ap (λ (m : ℕ). length (flat_map text_of (queued_on t n)) - m) ((steady t.connection_trace.role).spent_there n))

  pub credits_keep : (is_reset (t.connection_trace.frames ++ map Sent fs) id ≡ is_reset t.connection_trace.frames id)
      × (is_live Server (t.connection_trace.frames ++ map Sent fs) id ≡ is_live Server t.connection_trace.frames id)
      × (may_send (t.connection_trace.frames ++ map Sent fs) id ≡ may_send t.connection_trace.frames id)
      × (IsAnswered s past (account_of t output rest actions) id → IsAnswered s past (account_of granted later rest actions) id)
      × (waiting_in granted ≡ waiting_in t)
  credits_keep = (
    (steady Server).resets id,
    (steady Server).lives id,
    may_send_same Server t.connection_trace.frames (t.connection_trace.frames ++ map Sent fs) (steady Server) id,
    same_answers,
    same_waits,
  )
