-- Pieces that were read and not fed: with them the exchange of the fed ones is one of all that the link told.
use Rattle.std.proofs.Common.{◌≡◌, ℕ, ◌<◌, ◌≤◌, Bool, true, false, List, [], ◌∷◌, ◌++◌, drop, length, sym, ap, subst, ◌∙◌, arith, append_assoc, append-nil, length-append}
use Rattle.std.proofs.lemmas.List.{drop-append-le, length-drop}
use Rattle.std.proofs.lemmas.List.Concat.{flat_map-append}
use Rattle.rig_io.specs.Link as link
use Rattle.h2_frames.specs.declared.frame.Frame.{Frame}
use Rattle.h2_frames.specs.Stream.{Reads}
use Rattle.h2_frames.proofs.Prefixes.{MatchesPreface-append}
use Rattle.h2_frames.proofs.Streams.{Reads-append}
use Rattle.h2_exchange.specs.declared.role.Role.TheVariants.{Server}
use Rattle.h2_exchange.specs.Exchange.{Step, received}
use Rattle.h2_exchange.specs.Order.{InOrder, Piece, end_of, peer_preface, received_bytes, sent_bytes}
use Rattle.h2_exchange.specs.Outcomes.{BeginWithFrames, IsReadExchange}
use Rattle.h2_exchange.specs.Outgoing.{SendsOnly}
use Rattle.h2_exchange.proofs.Ordering.{order_told}
use Rattle.grpc_stream.specs.CallTrace.{CallTrace}
use Rattle.call_answers.specs.declared.orders.Setting.{Setting}
use Rattle.server_turns.specs.Past.{Past}
use Rattle.server_turns.specs.Serving.{none_asked}
use Rattle.server_account.specs.Agreeing.{IsServer, IsTold, MayBeRest}
use Rattle.server_account.proofs.Feeding.{sends_later}
use Rattle.server_account.proofs.Serves.{front_as, known_as, text_as}
use Rattle.server_account.proofs.Uses.{given_all}

front_more : (due bytes more : List ℕ) (fs : List Frame) → BeginWithFrames due bytes fs → BeginWithFrames due (bytes ++ more) fs
front_more due bytes more [] h = tt
front_more due bytes more (f ∷ fs) h =
    let long : length due ≤ length bytes = omega (arith, h.2.0, length-drop (length due) bytes) in (
      h.0 ++ more,
      MatchesPreface-append due bytes more long h.1,
      subst (λ (b : List ℕ). Reads b (f ∷ fs) (h.0 ++ more)) (sym (drop-append-le (length due) bytes more long)) (Reads-append (drop (length due) bytes) (f ∷ fs) h.0 more h.2),
    )

order_late : (late told : List Piece) (x : List Step) → (0 < length (received x) → end_of (peer_preface Server) (received x) ≤ length (received_bytes told)) → InOrder Server told x → InOrder Server (told ++ late) x
order_late [] told x given order = subst (λ (ps : List Piece). InOrder Server ps x) (sym (append-nil told)) order
order_late (p ∷ late) told x given order =
    subst (λ (ps : List Piece). InOrder Server ps x) (append_assoc told (p ∷ []) late)
    (order_late late (told ++ p ∷ []) x
    (λ some. omega (arith, given some, ap length (flat_map-append link.received_bytes told (p ∷ [])), length-append (received_bytes told) (received_bytes (p ∷ [])))) (order_told Server told p x given order))

module _ (s : Setting) (t : CallTrace) (output : List ℕ) (h : IsServer s t output) (told late : List Piece) (is : IsTold t told) where
  abbrev fed_past : Past
  fed_past = record { pieces = told; own = []; is_ended = false }

  pub late_exchange : sent_bytes late ≡ [] → (is_all : Bool) (rest : List ℕ) → is_all ≡ false →
      IsReadExchange Server t.connection_trace.limits t.connection_trace.heads (told ++ late) output t.connection_trace.frames is_all rest
  late_exchange quiet is_all rest unread = record {
    known = known_as s t output h;
    front = subst (λ (bytes : List ℕ). BeginWithFrames (peer_preface Server) bytes (received t.connection_trace.frames)) (sym (flat_map-append link.received_bytes told late))
        (front_more (peer_preface Server) (received_bytes told) (received_bytes late) (received t.connection_trace.frames) (front_as s t output h fed_past is));
    whole = λ all _. never all;
    text = text_as s t output h fed_past is ∙ ap (λ (bytes : List ℕ). bytes ++ output)
        (sym (flat_map-append link.sent_bytes told late ∙ ap (λ (bytes : List ℕ). sent_bytes told ++ bytes) quiet ∙ append-nil (sent_bytes told)));
    order = order_late late told t.connection_trace.frames (given_all s t output [] [] told h is) is.order;
  }
    where
      never : {A : Type 0} → is_all ≡ true → A
      never all = let wrong : true ≡ false = sym all ∙ unread in absurd cc

  pub late_sends : (rest : List ℕ) → MayBeRest t.connection_trace rest →
      SendsOnly Server t.connection_trace.limits t.connection_trace.heads none_asked (received_bytes (told ++ late)) rest t.connection_trace.frames
  late_sends rest may =
      subst (λ (bytes : List ℕ). SendsOnly Server t.connection_trace.limits t.connection_trace.heads none_asked bytes rest t.connection_trace.frames)
      (ap (λ (bytes : List ℕ). bytes ++ received_bytes late) is.fed ∙ sym (flat_map-append link.received_bytes told late)) (sends_later s t output h rest may (received_bytes late))
