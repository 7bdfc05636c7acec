-- What a pump, a reset and a refusal send may be sent.
use Rattle.std.proofs.Common.{◌≡◌, inl, inr, drop, length, None, ℕ, Bool, List, [], ◌∷◌, ◌++◌, map, refl, sym, ap, subst, ◌∙◌, append_assoc}
use Rattle.std.proofs.lemmas.List.{append-nil}
use Rattle.h2_frames.specs.declared.code.ErrorCode.{ErrorCode}
use Rattle.h2_frames.specs.declared.frame.Frame.{Frame}
use Rattle.h2_frames.specs.declared.frame.Frame.TheVariants.{Content, Headers, Priority, RstStream, Settings, PushPromise, Ping, GoAway, WindowUpdate, Continuation, Unknown}
use Rattle.h2_frames.specs.declared.frame.FrameBody.{FrameBody}
use Rattle.h2_frames.specs.Layout.{frame_text, size_of, text_of}
use Rattle.h2_frames.specs.Stream.{Reads}
use Rattle.h2_exchange.specs.declared.limits.H2Limits.{H2Limits}
use Rattle.h2_exchange.specs.declared.role.Role.{Role}
use Rattle.h2_exchange.specs.Content.{Outcome}
use Rattle.h2_exchange.specs.Exchange.{Step, Sent, received}
use Rattle.h2_exchange.specs.Outgoing.{EndsWith, HasPlace, MaySend, SendsOnly, carries, goes_away, resets}
use Rattle.h2_exchange.specs.Order.{AreFrames, RestBreaks, peer_preface}
use Rattle.h2_exchange.specs.Stops.{Stop, Error, Calm, IsBroken}
use Rattle.h2_exchange.specs.Sending.{reset_text}
use Rattle.h2_exchange.proofs.Sending.{only_these_are_sent}
use Rattle.http_connection.specs.ConnectionTrace.{ArePlaced, ConnectionTrace, stop_in, wrote}
use Rattle.http_connection.specs.Answers.{IsCause, code_of}
use Rattle.http_connection.specs.Laws.{SendsIn}
use Rattle.http_connection.specs.Sends.{BodyIs}
use Rattle.grpc_stream.specs.CallTrace.{CallTrace}
use Rattle.grpc_stream.specs.Laws.{GoawaysSend, PumpsSend, ResetsSend}
use Rattle.grpc_stream.specs.Sends.{AreCarried, IsCarried}

module _ (role : Role) (limits : H2Limits) (heads : List Outcome) (is_asked : List Step → ℕ → ErrorCode → Bool) (bytes rest : List ℕ) where
  may : (x : List Step) (f : Frame) → IsCarried role x f → MaySend role limits heads is_asked bytes rest x f
  may x (Content b) h = carries refl h.0
  may x (Headers b) h = carries refl h
  may x (Continuation b) h = carries refl h
  may x (Priority b) h = absurd h
  may x (RstStream b) h = absurd h
  may x (Settings b) h = absurd h
  may x (PushPromise b) h = absurd h
  may x (Ping b) h = absurd h
  may x (GoAway b) h = absurd h
  may x (WindowUpdate b) h = absurd h
  may x (Unknown number b) h = absurd h

  all_carried : (whole x : List Step) (fs : List Frame) → ArePlaced whole → whole ≡ x ++ map Sent fs → AreCarried role x fs → SendsOnly role limits heads is_asked bytes rest x → SendsOnly role limits heads is_asked bytes rest (x ++ map Sent fs)
  all_carried whole x [] placed e h sends = subst (SendsOnly role limits heads is_asked bytes rest) (sym (append-nil x)) sends
  all_carried whole x (f ∷ fs) placed e (now, later) sends =
      let split : x ++ Sent f ∷ map Sent fs ≡ (x ++ Sent f ∷ []) ++ map Sent fs = sym (append_assoc x (Sent f ∷ []) (map Sent fs)) in
      subst (SendsOnly role limits heads is_asked bytes rest) (sym split)
      (all_carried whole (x ++ Sent f ∷ []) fs placed (e ∙ split) later
      ((only_these_are_sent role limits heads is_asked bytes rest x).sent f (may x f now) (placed x (map Sent fs) f e) sends))

pub pumps_send : PumpsSend
pumps_send = λ is_asked rest t u output sound pumps sends.
    let c = t.connection_trace in
    let frames_are = ap (λ (v : CallTrace). v.connection_trace.frames) pumps.goes_on in
    subst (λ (v : CallTrace). SendsIn is_asked rest v.connection_trace) (sym pumps.goes_on)
    (all_carried c.role c.limits c.heads is_asked c.fed rest u.connection_trace.frames c.frames pumps.fs sound.connection_trace.placed frames_are pumps.carried sends)

body_text : (b : FrameBody) (flags stream : ℕ) (payload : List ℕ) → BodyIs b flags stream payload → text_of 3 b.flags b.stream b.payload ≡ text_of 3 flags stream payload
body_text b flags stream payload h =
    ap (λ (n : ℕ). text_of 3 n b.stream b.payload) h.flags_are ∙ ap (λ (n : ℕ). text_of 3 flags n b.payload) h.stream_is ∙ ap (text_of 3 flags stream) h.payload_is

one_reset : (is_asked : List Step → ℕ → ErrorCode → Bool) (rest : List ℕ) (c : ConnectionTrace) (id : ℕ) (why : ErrorCode) (f : Frame) (fs : List Frame) → fs ≡ f ∷ [] → frame_text f ≡ reset_text id why →
    ArePlaced (c.frames ++ map Sent fs) → MaySend c.role c.limits c.heads is_asked c.fed rest c.frames f → SendsIn is_asked rest c → SendsIn is_asked rest (wrote fs [] c)
one_reset is_asked rest c id why f fs same text placed allowed sends =
    subst (λ (gs : List Frame). SendsIn is_asked rest (wrote gs [] c)) (sym same)
    ((only_these_are_sent c.role c.limits c.heads is_asked c.fed rest c.frames).sent f allowed (placed c.frames [] f (ap (λ (gs : List Frame). c.frames ++ map Sent gs) same)) sends)

pub resets_send : ResetsSend
resets_send = λ is_asked rest c id why fs output carried sound lives asked sends.
    let text = body_text carried.0 _ _ _ carried.2 in
    one_reset is_asked rest c id why (RstStream carried.0) fs carried.1 text sound.placed (resets id why lives asked text) sends

-- ---- a refusal

same_rest : (bytes : List ℕ) (fs : List Frame) (a b : List ℕ) → Reads bytes fs a → Reads bytes fs b → a ≡ b
same_rest bytes [] a b p q = p ∙ sym q
same_rest bytes (f ∷ fs) a b p q = same_rest (drop (size_of f) bytes) fs a b p.2 q.2

one_rest : (due bytes : List ℕ) (fs : List Frame) (a b : List ℕ) → AreFrames due bytes fs a → AreFrames due bytes fs b → a ≡ b
one_rest due bytes fs a b (inl p) (inl q) = same_rest (drop (length due) bytes) fs a b p.1 q.1
one_rest due bytes fs a b (inl p) (inr q) = absurd (q.0 p.0)
one_rest due bytes fs a b (inr p) (inl q) = absurd (p.0 q.0)
one_rest due bytes fs a b (inr p) (inr q) = p.2 ∙ sym q.2

broken_at : (c : ConnectionTrace) (a b : List ℕ) (why : ErrorCode) (place : ℕ) → (stop_in c ≡ None → AreFrames (peer_preface c.role) c.fed (received c.frames) a) →
    (stop_in c ≡ None → AreFrames (peer_preface c.role) c.fed (received c.frames) b) → IsBroken c.role c.limits c.heads c.fed c.frames a why place → IsBroken c.role c.limits c.heads c.fed c.frames b why place
broken_at c a b why place p q (inl stops) = inl stops
broken_at c a b why place p q (inr (clear, breaks)) =
    inr (clear, subst (λ (r : List ℕ). RestBreaks (peer_preface c.role) c.fed (received c.frames) r why place) (one_rest (peer_preface c.role) c.fed (received c.frames) a b (p clear) (q clear)) breaks)

ends_with : (c : ConnectionTrace) (stop : Stop) (rest : List ℕ) → IsCause c stop → (stop_in c ≡ None → AreFrames (peer_preface c.role) c.fed (received c.frames) rest) → EndsWith c.role c.limits c.heads c.fed c.frames rest (code_of stop)
ends_with c (Error why place) rest (behind, broken, frames) q = inl (place, broken_at c behind rest why place frames q broken)
ends_with c (Calm cause) rest is q = inr (cause, is, refl)

pub goaways_send : GoawaysSend
goaways_send = λ is_asked rest c d stop output sound h frames sends.
    let a = h.at in
    let placed : HasPlace a.frames h.goaway = sound.placed a.frames [] h.goaway (ap (λ (v : ConnectionTrace). v.frames) h.ends) in
    let now : SendsOnly a.role a.limits a.heads is_asked a.fed rest (a.frames ++ Sent h.goaway ∷ []) =
    (only_these_are_sent a.role a.limits a.heads is_asked a.fed rest a.frames).sent h.goaway (goes_away (code_of stop) (ends_with a stop rest h.cause frames) h.text) placed sends in
    subst (λ (v : ConnectionTrace). SendsIn is_asked rest v) (sym h.ends)
    (subst (λ (hs : List Outcome). SendsOnly a.role a.limits hs is_asked a.fed rest (a.frames ++ Sent h.goaway ∷ [])) (sym (append-nil a.heads)) now)
