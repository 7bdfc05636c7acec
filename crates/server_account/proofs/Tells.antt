-- A server whose calls told more is a server still, where what was sent by it may be sent.
use Rattle.std.proofs.Common.{◌≡◌, true, ℕ, ◌≤◌, List, [], ◌∷◌, ◌++◌, length, refl, sym, ap, subst, ◌∙◌, append_assoc, arith, length-append}
use Rattle.std.specs.List.{All, flat_map}
use Rattle.grpc_heads.specs.CallEnd.{CallEnd}
use Rattle.h2_exchange.specs.StreamParts.{Item}
use Rattle.std.proofs.lemmas.List.Concat.{flat_map-append}
use Rattle.h2_frames.specs.Layout.{frame_text}
use Rattle.h2_exchange.specs.declared.limits.H2Limits.{H2Limits}
use Rattle.h2_exchange.specs.declared.role.Role.{Role}
use Rattle.h2_exchange.specs.declared.role.Role.TheVariants.{Server}
use Rattle.h2_exchange.specs.Exchange.{Step, sent, sent_text}
use Rattle.h2_exchange.specs.Order.{InOrder, Piece, own_preface, sent_bytes}
use Rattle.h2_exchange.specs.Outgoing.{BeginsFirst}
use Rattle.h2_exchange.specs.Sending.{IsPrefix, first_text}
use Rattle.h2_exchange.proofs.Ordering.{order_more}
use Rattle.h2_exchange.proofs.Steps.{sent_more}
use Rattle.http_connection.specs.Laws.{SendsIn}
use Rattle.grpc_stream.specs.CallTrace.{CallTrace, IsSoundCallTrace, PeerEvent, queued_on, suits}
use Rattle.grpc_stream.specs.Laws.{AreSuited}
use Rattle.grpc_stream.specs.NextEvent.{AppendsPeerEvents, none, one, answer_to, asked_of}
use Rattle.call_answers.specs.declared.orders.Setting.{Setting}
use Rattle.server_turns.specs.Serving.{IsServerLimits, none_asked}
use Rattle.server_account.specs.Agreeing.{IsServer, IsTold, MayBeRest}
use Rattle.server_account.proofs.Events.{Went, appended}
use Rattle.server_account.proofs.Suits.{Each, each_behind, reported_each, suited_appends}

pub first_more : (text : List ℕ) (x more : List Step) → IsPrefix text (sent_text x) → IsPrefix text (sent_text (x ++ more))
first_more text x more (behind, all) = (
  behind ++ sent_text more,
  ap (flat_map frame_text) (sent_more x more) ∙ flat_map-append frame_text (sent x) (sent more) ∙ ap (λ (l : List ℕ). l ++ sent_text more) all ∙ append_assoc text behind (sent_text more),
)

same_numbers : (more : List PeerEvent) (t u : CallTrace) → AppendsPeerEvents t more u → u.numbers ≡ t.numbers
same_numbers [] t u (none _) = refl
same_numbers (p ∷ more) t u (one _ _ _ _ h) = same_numbers more (record t { reported = t.reported ++ p ∷ []; taken = t.taken ++ answer_to t p }) u h

module _ (s : Setting) (t u : CallTrace) (output later : List ℕ) (h : IsServer s t output) (gone : Went t.connection_trace u.connection_trace) where
  pub server_tells : (more : List PeerEvent) → AppendsPeerEvents (record t { connection_trace = u.connection_trace }) more u → IsSoundCallTrace u later → ((rest : List ℕ) → MayBeRest u.connection_trace rest → SendsIn none_asked rest u.connection_trace) → IsServer s u later
  server_tells more takes sound sends =
      let is : u.connection_trace.role ≡ Server = gone.role ∙ h.role in
      let first : BeginsFirst Server t.connection_trace.limits u.connection_trace.frames =
      subst (λ (x : List Step). IsPrefix (first_text Server t.connection_trace.limits) (sent_text x)) (sym gone.frames.1) (first_more (first_text Server t.connection_trace.limits) t.connection_trace.frames gone.frames.0 h.first) in
      let suited : AreSuited (record t { connection_trace = u.connection_trace }) = λ id. subst (λ (r : Role). All (λ (what : Item CallEnd). suits r what ≡ true) (queued_on t id)) (sym gone.role) (h.suited id) in
      let told : u.reported ≡ t.reported ++ more = appended more (record t { connection_trace = u.connection_trace }) u takes in
      record {
        sound = sound;
        role = is;
        numbers = same_numbers more (record t { connection_trace = u.connection_trace }) u takes ∙ h.numbers;
        limits = subst IsServerLimits (sym gone.limits) h.limits;
        first = subst (λ (l : H2Limits). BeginsFirst Server l u.connection_trace.frames) (sym gone.limits) first;
        sends = sends;
        suited = suited_appends more (record t { connection_trace = u.connection_trace }) u is
            (each_behind (flat_map asked_of t.reported) (flat_map asked_of more) (subst Each (ap (flat_map asked_of) told ∙ flat_map-append asked_of t.reported more) (reported_each u later sound is))) suited takes;
      }

  pub told_tells : (pieces : List Piece) → IsTold t pieces → IsTold u pieces
  told_tells pieces told =
      let text : own_preface Server ++ sent_text t.connection_trace.frames ≡ sent_bytes pieces ++ output =
      ap (λ (r : Role). own_preface r ++ sent_text t.connection_trace.frames) (sym h.role) ∙ h.sound.connection_trace.text ∙ ap (λ (bytes : List ℕ). bytes ++ output) told.dropped in
      let placed : length (sent_bytes pieces) ≤ length (own_preface Server ++ sent_text t.connection_trace.frames) = omega (arith, ap length text, length-append (sent_bytes pieces) output) in
      record {
        fed = gone.fed ∙ told.fed;
        dropped = gone.dropped ∙ told.dropped;
        order = subst (InOrder Server pieces) (sym gone.frames.1) (order_more Server pieces t.connection_trace.frames gone.frames.0 placed told.order);
      }
