-- Uses of a server's calls that take nothing and tell nothing: a piece is fed, output is dropped, frames are sent.
use Rattle.std.proofs.Common.{◌≡◌, inl, inr, ℕ, ◌<◌, ◌≤◌, false, List, [], ◌∷◌, ◌++◌, length, map, None, refl, sym, ap, subst, ◌∙◌, arith, append_assoc, append-nil, length-append}
use Rattle.std.specs.Prelude.{filter, ◌==◌}
use Rattle.std.specs.List.{flat_map}
use Rattle.std.proofs.lemmas.List.Concat.{flat_map-append}
use Rattle.rig_io.specs.Link as link
use Rattle.schema_numbers.specs.Numbers.{Numbers}
use Rattle.grpc_heads.specs.CallEnd.{CallEnd, compressed, method_by, status_by, too_long, truncated, unknown}
use Rattle.grpc_heads.specs.Heads.{head_of}
use Rattle.grpc_heads.specs.Trailers.{status_in_trailers}
use Rattle.hpack_tables.specs.declared.field.Field.{Field}
use Rattle.h2_frames.specs.declared.frame.Frame.{Frame}
use Rattle.h2_frames.specs.declared.frame.Frame.TheVariants.{RstStream}
use Rattle.h2_frames.specs.Layout.{frame_text}
use Rattle.h2_frames.specs.Stream.{Frames}
use Rattle.h2_exchange.specs.declared.role.Role.{Role}
use Rattle.h2_exchange.specs.declared.role.Role.TheVariants.{Client, Server}
use Rattle.h2_exchange.specs.Calls.{answers, calls}
use Rattle.h2_exchange.specs.Events as happened
use Rattle.h2_exchange.specs.Frames.{is_rst_stream}
use Rattle.h2_exchange.specs.Exchange.{Step, Sent, received, sent, sent_text}
use Rattle.h2_exchange.specs.Order.{Piece, end_of, own_preface, peer_preface, received_bytes, sent_bytes}
use Rattle.h2_exchange.specs.Sending.{IsPrefix, first_text}
use Rattle.h2_exchange.specs.StreamParts.{Item}
use Rattle.h2_exchange.proofs.Ordering.{order_more, order_told}
use Rattle.h2_exchange.proofs.Steps.{received_more, sent_more}
use Rattle.http_connection.specs.ConnectionTrace.{ConnectionTrace, dropped_more, events_in, fed_more, wrote}
use Rattle.http_connection.specs.Laws.{SendsIn}
use Rattle.http_connection.proofs.Unheard.{none_received}
use Rattle.grpc_stream.specs.CallTrace.{CallTrace, Answered, Asked, IsSoundCallTrace, changed, queued_on, reported_by}
use Rattle.grpc_stream.specs.Sends.{AreCarried, IsCarried, Pumps}
use Rattle.grpc_stream.proofs.Sending.{pumps_send}
use Rattle.table_model.specs.Event.{Event}
use Rattle.call_answers.specs.declared.orders.Setting.{Setting}
use Rattle.call_orders.specs.Calls.{Action}
use Rattle.session_engine.specs.Queries.{OpenCallsView}
use Rattle.server_turns.specs.Serving.{none_asked}
use Rattle.server_account.specs.Agreeing.{AreHandled, IsCutOff, IsServer, IsSettled, IsTaken, IsTold, MayBeRest}
use Rattle.server_account.proofs.Quiet.{ResetNone, same_events, stays_clear}
use Rattle.server_account.proofs.Rests.{alive_rest}

-- ---- what was done stays done

queued_same : (t u : CallTrace) → u.taken ≡ t.taken → (id : ℕ) → queued_on u id ≡ queued_on t id
queued_same t u same id = ap (λ (l : List (ℕ × Item CallEnd)). map (λ x. x.1) (filter (λ x. x.0 == id) l)) same

pub cut_on : (t u : CallTrace) (id : ℕ) (items : List (Item CallEnd)) → queued_on u id ≡ queued_on t id → (more : List Step) → u.connection_trace.frames ≡ t.connection_trace.frames ++ more →
    IsCutOff t id items → IsCutOff u id items
cut_on t u id items same more frames cut = record {
  taken = cut.taken;
  missing = cut.missing;
  items_are = cut.items_are;
  unended = cut.unended;
  queued = elim cut.queued [ inl q ↦ inl (same ∙ q) | inr q ↦ inr (q.0, same ∙ q.1) ];
  early = cut.early;
  later = cut.later ++ more;
  frames_are = frames ∙ ap (λ (x : List Step). x ++ more) cut.frames_are ∙ append_assoc cut.early cut.later more;
  reset = cut.reset;
  unclosed = cut.unclosed;
}

pub taken_on : (t u : CallTrace) (id : ℕ) (items left : List (Item CallEnd)) → queued_on u id ≡ queued_on t id → (more : List Step) → u.connection_trace.frames ≡ t.connection_trace.frames ++ more →
    IsTaken t id items left → IsTaken u id items left
taken_on t u id items left same more frames (inl all) = inl (ap (λ (l : List (Item CallEnd)). l ++ left) same ∙ all)
taken_on t u id items left same more frames (inr cut) = inr (cut_on t u id items same more frames cut)

pub handled_on : (s : Setting) (t u : CallTrace) (calls : OpenCallsView) (actions : List Action) (own : List Event) (left : ℕ → List (Item CallEnd)) → u.reported ≡ t.reported → u.taken ≡ t.taken →
    (more : List Step) → u.connection_trace.frames ≡ t.connection_trace.frames ++ more → AreHandled s t calls actions own left → AreHandled s u calls actions own left
handled_on s t u calls actions own left reported taken more frames h = record {
  open_now = h.open_now;
  reported = reported ∙ h.reported;
  did = h.did;
  running = h.running;
  taken = λ id. taken_on t u id _ (left id) (queued_same t u taken id) more frames (h.taken id);
}

-- the same events are reported alike
pub reported_same : (role : Role) (n : Numbers) (c d : ConnectionTrace) → events_in c ≡ events_in d → reported_by role n c ≡ reported_by role n d
reported_same Server n c d e = ap (λ (es : List happened.Event). map Asked (calls (λ fields. method_by (head_of fields)) compressed too_long truncated es)) e
reported_same Client n c d e = ap (λ (es : List happened.Event). map Answered (answers (λ fields. status_by (status_in_trailers n fields)) unknown es)) e

-- ---- a piece of output is written

module _ (s : Setting) (t : CallTrace) (output later piece : List ℕ) where
  abbrev dropped : CallTrace
  dropped = changed (dropped_more piece) t

  pub server_writes : IsSoundCallTrace dropped later → IsServer s t output → IsServer s dropped later
  server_writes sound h = record { sound = sound; role = h.role; numbers = h.numbers; limits = h.limits; first = h.first; sends = h.sends; suited = h.suited }

  pub given_all : (pieces : List Piece) → IsServer s t output → IsTold t pieces → 0 < length (received t.connection_trace.frames) →
      end_of (peer_preface Server) (received t.connection_trace.frames) ≤ length (received_bytes pieces)
  given_all pieces h told some =
      subst (λ (bytes : List ℕ). end_of (peer_preface Server) (received t.connection_trace.frames) ≤ length bytes) told.fed
      (subst (λ (r : Role). end_of (peer_preface r) (received t.connection_trace.frames) ≤ length t.connection_trace.fed) h.role (h.sound.connection_trace.within some))

  pub told_writes : (pieces : List Piece) → IsServer s t output → IsTold t pieces → IsTold dropped (pieces ++ link.sent piece ∷ [])
  told_writes pieces h told = record {
    fed = told.fed ∙ sym (append-nil (received_bytes pieces)) ∙ sym (flat_map-append link.received_bytes pieces (link.sent piece ∷ []));
    dropped = ap (λ (l : List ℕ). l ++ piece) told.dropped ∙ ap (λ (l : List ℕ). sent_bytes pieces ++ l) (sym (append-nil piece)) ∙ sym (flat_map-append link.sent_bytes pieces (link.sent piece ∷ []));
    order = order_told Server pieces (link.sent piece) t.connection_trace.frames (given_all pieces h told) told.order;
  }

  pub handled_writes : (calls : OpenCallsView) (actions : List Action) (own : List Event) (left : ℕ → List (Item CallEnd)) → AreHandled s t calls actions own left → AreHandled s dropped calls actions own left
  handled_writes calls actions own left h = handled_on s t dropped calls actions own left refl refl [] (sym (append-nil t.connection_trace.frames)) h

  pub settled_writes : (rest : List ℕ) → IsSettled t rest → IsSettled dropped rest
  settled_writes rest h = record { all = h.all ∙ reported_same t.connection_trace.role t.numbers t.connection_trace dropped.connection_trace refl; alive = h.alive; unstopped = h.unstopped; whole = h.whole }

-- ---- a piece is fed

module _ (s : Setting) (t : CallTrace) (output later piece : List ℕ) where
  abbrev fed : CallTrace
  fed = changed (fed_more piece) t

  pub told_reads : (pieces : List Piece) → IsServer s t output → IsTold t pieces → IsTold fed (pieces ++ link.received piece ∷ [])
  told_reads pieces h told = record {
    fed = ap (λ (l : List ℕ). l ++ piece) told.fed ∙ ap (λ (l : List ℕ). received_bytes pieces ++ l) (sym (append-nil piece)) ∙ sym (flat_map-append link.received_bytes pieces (link.received piece ∷ []));
    dropped = told.dropped ∙ sym (append-nil (sent_bytes pieces)) ∙ sym (flat_map-append link.sent_bytes pieces (link.received piece ∷ []));
    order = order_told Server pieces (link.received piece) t.connection_trace.frames (given_all s t output later piece pieces h told) told.order;
  }

  pub handled_reads : (calls : OpenCallsView) (actions : List Action) (own : List Event) (left : ℕ → List (Item CallEnd)) → AreHandled s t calls actions own left → AreHandled s fed calls actions own left
  handled_reads calls actions own left h = handled_on s t fed calls actions own left refl refl [] (sym (append-nil t.connection_trace.frames)) h

-- ---- frames are sent

text_grows : (x : List Step) (fs : List Frame) → sent_text (x ++ map Sent fs) ≡ sent_text x ++ sent_text (map Sent fs)
text_grows x fs = ap (flat_map frame_text) (sent_more x (map Sent fs)) ∙ flat_map-append frame_text (sent x) (sent (map Sent fs))

pub received_same : (x : List Step) (fs : List Frame) → received (x ++ map Sent fs) ≡ received x
received_same x fs = received_more x (map Sent fs) ∙ ap (λ (l : List Frame). received x ++ l) (none_received fs) ∙ append-nil (received x)

first_stays : (text : List ℕ) (x : List Step) (fs : List Frame) → IsPrefix text (sent_text x) → IsPrefix text (sent_text (x ++ map Sent fs))
first_stays text x fs (more, all) =
    (more ++ sent_text (map Sent fs), text_grows x fs ∙ ap (λ (l : List ℕ). l ++ sent_text (map Sent fs)) all ∙ append_assoc text more (sent_text (map Sent fs)))

module _ (s : Setting) (t : CallTrace) (output later : List ℕ) (fs : List Frame) (lists : List (List Field)) where
  abbrev sends : CallTrace
  sends = changed (wrote fs lists) t

  pub server_sends : IsSoundCallTrace sends later → ((rest : List ℕ) → MayBeRest sends.connection_trace rest → SendsIn none_asked rest sends.connection_trace) → IsServer s t output → IsServer s sends later
  server_sends sound may h = record {
    sound = sound;
    role = h.role;
    numbers = h.numbers;
    limits = h.limits;
    first = first_stays (first_text Server t.connection_trace.limits) t.connection_trace.frames fs h.first;
    sends = may;
    suited = h.suited;
  }

  placed_before : (pieces : List Piece) → IsServer s t output → IsTold t pieces → length (sent_bytes pieces) ≤ length (own_preface Server ++ sent_text t.connection_trace.frames)
  placed_before pieces h told =
      let text : own_preface Server ++ sent_text t.connection_trace.frames ≡ sent_bytes pieces ++ output =
      ap (λ (r : Role). own_preface r ++ sent_text t.connection_trace.frames) (sym h.role) ∙ h.sound.connection_trace.text ∙ ap (λ (bytes : List ℕ). bytes ++ output) told.dropped in
      omega (arith, ap length text, length-append (sent_bytes pieces) output)

  pub told_sends : (pieces : List Piece) → IsServer s t output → IsTold t pieces → IsTold sends pieces
  told_sends pieces h told = record {
    fed = told.fed;
    dropped = told.dropped;
    order = order_more Server pieces t.connection_trace.frames (map Sent fs) (placed_before pieces h told) told.order;
  }

  pub handled_sends : (calls : OpenCallsView) (actions : List Action) (own : List Event) (left : ℕ → List (Item CallEnd)) → AreHandled s t calls actions own left → AreHandled s sends calls actions own left
  handled_sends calls actions own left h = handled_on s t sends calls actions own left refl refl (map Sent fs) refl h

  pub settled_sends : (rest : List ℕ) → ResetNone fs → IsSettled t rest → IsSettled sends rest
  settled_sends rest none h = record {
    all = h.all ∙ reported_same t.connection_trace.role t.numbers t.connection_trace sends.connection_trace
        (sym (same_events t.connection_trace.role t.connection_trace.limits t.connection_trace.heads t.connection_trace.frames fs none h.unstopped));
    alive = h.alive;
    unstopped = stays_clear t.connection_trace.role t.connection_trace.limits t.connection_trace.heads t.connection_trace.frames fs none h.unstopped;
    whole = subst (λ (l : List Frame). Frames (peer_preface Server) t.connection_trace.fed l rest) (sym (received_same t.connection_trace.frames fs)) h.whole;
  }

-- ---- a pump

carried_resets_none : (role : Role) (x : List Step) (fs : List Frame) → AreCarried role x fs → ResetNone fs
carried_resets_none role x [] h = tt
carried_resets_none role x (f ∷ fs) (now, others) = (one f now, carried_resets_none role (x ++ Sent f ∷ []) fs others)
  where
    one : (f : Frame) → IsCarried role x f → is_rst_stream f ≡ false
    one (RstStream b) h = absurd h
    one other h = refl

module _ (s : Setting) (t u : CallTrace) (output later : List ℕ) (h : IsServer s t output) (pumps : Pumps t u) (sound : IsSoundCallTrace u later) where
  sound_sends : IsSoundCallTrace (changed (wrote pumps.fs pumps.lists) t) later
  sound_sends = subst (λ (v : CallTrace). IsSoundCallTrace v later) pumps.goes_on sound

  pub server_pumps : t.connection_trace.refusal ≡ None → IsServer s u later
  server_pumps alive =
      subst (λ (v : CallTrace). IsServer s v later) (sym pumps.goes_on)
      (server_sends s t output later pumps.fs pumps.lists sound_sends
      (λ rest _. subst (λ (v : CallTrace). SendsIn none_asked rest v.connection_trace) pumps.goes_on
      (pumps_send none_asked rest t u later sound pumps (h.sends rest (alive_rest t.connection_trace rest alive)))) h)

  pub told_pumps : (pieces : List Piece) → IsTold t pieces → IsTold u pieces
  told_pumps pieces told = subst (λ (v : CallTrace). IsTold v pieces) (sym pumps.goes_on) (told_sends s t output later pumps.fs pumps.lists pieces h told)

  pub handled_pumps : (calls : OpenCallsView) (actions : List Action) (own : List Event) (left : ℕ → List (Item CallEnd)) → AreHandled s t calls actions own left → AreHandled s u calls actions own left
  handled_pumps calls actions own left k = subst (λ (v : CallTrace). AreHandled s v calls actions own left) (sym pumps.goes_on) (handled_sends s t output later pumps.fs pumps.lists calls actions own left k)

  pub settled_pumps : (rest : List ℕ) → IsSettled t rest → IsSettled u rest
  settled_pumps rest k =
      subst (λ (v : CallTrace). IsSettled v rest) (sym pumps.goes_on)
      (settled_sends s t output later pumps.fs pumps.lists rest (carried_resets_none t.connection_trace.role t.connection_trace.frames pumps.fs pumps.carried) k)
