-- Credit that is sent, or held back.
use Rattle.std.proofs.Common.{◌≡◌, ℕ, ◌<◌, Bool, true, false, List, [], ◌∷◌, ◌++◌, map, None, Result, Ok, Err, OnOk, refl, sym, ap, subst, ◌∙◌, append_assoc, arith}
use Rattle.std.specs.List.{All}
use Rattle.std.specs.Prelude.{get_or}
use Rattle.std.proofs.lemmas.List.{append-nil}
use Rattle.std.proofs.lemmas.List.Elements.{All-head, All-tail}
use Rattle.hpack_tables.specs.declared.field.Field.{Field}
use Rattle.h2_frames.specs.declared.frame.Frame.{Frame}
use Rattle.h2_frames.specs.declared.frame.Frame.TheVariants.{Content, Headers, Priority, RstStream, Settings, PushPromise, Ping, GoAway, WindowUpdate, Continuation, Unknown}
use Rattle.h2_frames.specs.Layout.{type_of}
use Rattle.h2_exchange.specs.Blocks.{open_block}
use Rattle.h2_exchange.specs.Exchange.{Step, Sent, sent}
use Rattle.h2_exchange.proofs.Steps.{sent_push}
use Rattle.http_connection.specs.ConnectionTrace.{ConnectionTrace, IsSound, held, wrote}
use Rattle.http_connection.specs.Sends.{CarryCredit, IsCredit}
use Rattle.grpc_stream.specs.CallTrace.{CallTrace, changed}
use Rattle.call_sending.specs.Moves.{is_control}
use Rattle.call_sending.proofs.Sent.{control_is_plain, still_closed}
use Rattle.call_standing.specs.declared.fate.Fate.{Fate}
use Rattle.call_standing.specs.declared.fate.Fate.TheVariants.{Going, Refused, Starved, Dead}
use Rattle.call_standing.specs.Standing.{Holds, IsGoing, StandsFor, State, bare}
use Rattle.call_standing.proofs.Pushed.{control_holds}
use Rattle.call_standing.proofs.Rest.{rest_of}

abbrev pub AreControl : List Frame → Type 0
AreControl [] = Unit {0}
AreControl (f ∷ fs) = (is_control f ≡ true) × AreControl fs

abbrev pub with_frames : List Step → CallTrace → CallTrace
with_frames x t = record t { connection_trace = record t.connection_trace { frames = x } }

pub controls_hold : (s : State) (fs : List Frame) (t : CallTrace) → open_block (sent t.connection_trace.frames) ≡ None → AreControl fs → Holds s t →
    Holds s (with_frames (t.connection_trace.frames ++ map Sent fs) t)
controls_hold s [] t opened are h = subst (λ (x : List Step). Holds s (with_frames x t)) (sym (append-nil t.connection_trace.frames)) h
controls_hold s (f ∷ fs) t opened are h =
    let next : CallTrace = with_frames (t.connection_trace.frames ++ Sent f ∷ []) t in
    let closed : open_block (sent (t.connection_trace.frames ++ Sent f ∷ [])) ≡ None =
    ap open_block (sent_push t.connection_trace.frames f) ∙ still_closed (sent t.connection_trace.frames) f opened (control_is_plain f are.0) in
    subst (λ (x : List Step). Holds s (with_frames x t)) (append_assoc t.connection_trace.frames (Sent f ∷ []) (map Sent fs))
    (controls_hold s fs (with_frames (t.connection_trace.frames ++ Sent f ∷ []) t) closed are.1 (control_holds t f s opened are.0 h))

-- ---- credit is WINDOW_UPDATE

by_type : (f : Frame) → type_of f ≡ 8 → is_control f ≡ true
by_type (WindowUpdate b) e = refl
by_type (Settings b) e = refl
by_type (Ping b) e = refl
by_type (GoAway b) e = refl
by_type (Unknown o b) e = let above : 9 < o.number = o.is_other in absurd (omega (arith, above, e))
by_type (Content b) e = absurd (omega (arith, e))
by_type (Headers b) e = absurd (omega (arith, e))
by_type (Priority b) e = absurd (omega (arith, e))
by_type (RstStream b) e = absurd (omega (arith, e))
by_type (PushPromise b) e = absurd (omega (arith, e))
by_type (Continuation b) e = absurd (omega (arith, e))

credit_is_control : (c : ConnectionTrace) (f : Frame) → IsCredit c f → is_control f ≡ true
credit_is_control c f h = by_type f (ap (λ (x : List ℕ). get_or x 3 0) h.2)

are_credit : (c : ConnectionTrace) (fs : List Frame) → All (IsCredit c) fs → AreControl fs
are_credit c [] h = tt
are_credit c (f ∷ fs) h = (credit_is_control c f (All-head (IsCredit c) f fs h), are_credit c fs (All-tail (IsCredit c) f fs h))

credits : (hold : Bool) (c : ConnectionTrace) (fs : List Frame) → CarryCredit hold c fs → AreControl fs
credits true c fs e = subst AreControl (sym e) tt
credits false c fs h = are_credit c fs h.0

-- ---- what is so behind it

pub on_ok : {A E : Type 0} (r : Result A E) (P Q : Type 0) → (P → Q) → OnOk r P → OnOk r Q
on_ok (Ok x) P Q f h = f h
on_ok (Err e) P Q f h = h

abbrev pub credited : Bool → List Frame → CallTrace → CallTrace
credited hold fs t = changed (λ c. held hold (wrote fs [] c)) t

module _ {C : Type 0} (stands : C → ConnectionTrace → Type 0) (output : C → List ℕ) (law : (conn : C) (c : ConnectionTrace) → stands conn c → IsSound c (output conn)) (old new : C) (s : State) (hold : Bool) where
  abbrev pub Credits : CallTrace → C → Type 0
  Credits t conn = (fs : List Frame) × CarryCredit hold t.connection_trace fs × stands conn (held hold (wrote fs [] t.connection_trace))

  pub credit_going : (t : CallTrace) → IsGoing stands output old s t → Credits t new →
      (fs : List Frame) × CarryCredit hold t.connection_trace fs × IsGoing stands output new s (credited hold fs t)
  credit_going t h (fs, carries, connected) =
      let now = controls_hold s fs (bare t) (law old t.connection_trace h.connected).closed (credits hold t.connection_trace fs carries) h.holds in
      let holds : Holds s (bare (credited hold fs t)) =
      subst (λ (w : List (List Field)). Holds s (record (bare t) { connection_trace = record (bare t).connection_trace { frames = t.connection_trace.frames ++ map Sent fs; written = w } }))
      (sym (append-nil t.connection_trace.written)) now in (
        fs,
        carries,
        record {
          connected = connected;
          alive = h.alive;
          holds = holds;
          rest = rest_of s (bare (credited hold fs t)) (law new (held hold (wrote fs [] t.connection_trace)) connected).given holds;
        },
      )

  pub credit_at_going : {A E : Type 0} (r : Result A E) (fate : Fate) → fate ≡ Going →
      ((c : ConnectionTrace) → stands old c → OnOk r ((fs : List Frame) × CarryCredit hold c fs × stands new (held hold (wrote fs [] c)))) →
      (t : CallTrace) → StandsFor stands output fate old s t →
      OnOk r ((fs : List Frame) × CarryCredit hold t.connection_trace fs × StandsFor stands output fate new s (credited hold fs t))
  credit_at_going r Going e ok t h =
      on_ok r (Credits t new) ((fs : List Frame) × CarryCredit hold t.connection_trace fs × IsGoing stands output new s (credited hold fs t)) (credit_going t h) (ok t.connection_trace h.connected)
  credit_at_going r Refused e ok t h = absurd cc
  credit_at_going r (Starved shown waiting) e ok t h = absurd cc
  credit_at_going r (Dead shown) e ok t h = absurd cc
