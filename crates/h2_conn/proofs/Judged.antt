-- What the streams say of a frame.
use Rattle.std.proofs.Common.{◌≡◌, ℕ, Bool, true, false, ◌&&◌, List, [], ◌∷◌, ◌++◌, Option, Some, None, Result, Ok, Err, refl, sym, ap, subst, ◌∙◌}
use Rattle.std.specs.Prelude.{is_some, if◌then◌else◌}
use Rattle.h2_frames.specs.declared.code.ErrorCode.{ErrorCode}
use Rattle.h2_frames.specs.declared.frame.Frame.{Frame}
use Rattle.h2_frames.specs.declared.frame.Frame.TheVariants.{RstStream}
use Rattle.h2_frames.specs.declared.frame.FrameBody.{FrameBody}
use Rattle.h2_exchange.specs.declared.fault.StreamFault.{StreamFault}
use Rattle.h2_exchange.specs.declared.fault.StreamFault.TheVariants.{Stream as OnStream, Connection}
use Rattle.h2_exchange.specs.declared.limits.H2Limits.{H2Limits}
use Rattle.h2_exchange.specs.declared.role.Role.{Role}
use Rattle.h2_exchange.specs.Exchange.{Step, Received, Sent, received}
use Rattle.h2_exchange.specs.Frames.{stream_of}
use Rattle.h2_exchange.specs.Rules.{frame_error}
use Rattle.h2_exchange.specs.Sending.{last_begun}
use Rattle.h2_exchange.specs.StreamErrors.{stream_error_of}
use Rattle.h2_exchange.specs.Streams.{has_head, is_live}
use Rattle.h2_streams.specs.Receiving as hear
use Rattle.h2_streams.specs.declared.live.Stream.{Stream}
use Rattle.h2_streams.specs.declared.set.receive.SeenStream.{SeenStream}
use Rattle.h2_streams.specs.Set.{Set, at, has_head_in}
use Rattle.h2_streams.specs.Stands.{stream_at}
use Rattle.h2_streams.proofs.Standing.{at_is, live_says}
use Rattle.h2_streams.specs.Stands as streams
use Rattle.http_connection.specs.ConnectionTrace.{ConnectionTrace}
use Rattle.h2_conn.specs.Hears.{Sound, Faulty, SeenSo}
use Rattle.h2_conn.specs.State.{State}
use Rattle.h2_conn.specs.Steps.{Waiting}

both_none : (id : ℕ) (e g : Option ErrorCode) (r : Result (Unit {0}) StreamFault) → r ≡ hear.answer_by id e g → r ≡ Ok tt → (e ≡ None) × (g ≡ None)
both_none id None None r p q = (refl, refl)
both_none id None (Some why) r p q = absurd (let t : Ok tt ≡ Err (OnStream id why) = sym q ∙ p in cc)
both_none id (Some why) g r p q = absurd (let t : Ok tt ≡ Err (Connection why) = sym q ∙ p in cc)

pub broken_by : (id : ℕ) (e g : Option ErrorCode) (r : Result (Unit {0}) StreamFault) (why : ErrorCode) → r ≡ hear.answer_by id e g → r ≡ Err (Connection why) → e ≡ Some why
broken_by id None None r why p q = absurd (let t : Err (Connection why) ≡ Ok tt = sym q ∙ p in cc)
broken_by id None (Some other) r why p q = absurd (let t : Err (Connection why) ≡ Err (OnStream id other) = sym q ∙ p in cc)
broken_by id (Some other) g r why p q = let t : Err (Connection why) ≡ Err (Connection other) = sym q ∙ p in cc

fault_by : (id : ℕ) (e g : Option ErrorCode) (r : Result (Unit {0}) StreamFault) (on : ℕ) (why : ErrorCode) → r ≡ hear.answer_by id e g → r ≡ Err (OnStream on why) → (e ≡ None) × (on ≡ id) × (g ≡ Some why)
fault_by id None None r on why p q = absurd (let t : Err (OnStream on why) ≡ Ok tt = sym q ∙ p in cc)
fault_by id None (Some other) r on why p q = let t : Err (OnStream on why) ≡ Err (OnStream id other) = sym q ∙ p in (refl, let x : on ≡ id = cc in x, let y : Some other ≡ Some why = cc in y)
fault_by id (Some other) g r on why p q = absurd (let t : Err (OnStream on why) ≡ Err (Connection other) = sym q ∙ p in cc)

abbrev pub SaysAt : Set → List Step → Frame → Result (Unit {0}) StreamFault → Type 0
SaysAt set x f r = r ≡ hear.answer_by (stream_of f) (frame_error set.role x f) (stream_error_of set.role set.limits x f false)

module _ (s : State) (c : ConnectionTrace) (f : Frame) (w : Waiting s c f) where
  pub stands : streams.StandsFor s.set c.frames
  stands = (w.stands.goes w.alive).set_is

  role : s.set.role ≡ c.role
  role = (w.stands.goes w.alive).set_role

  limits : s.set.limits ≡ c.limits
  limits = (w.stands.goes w.alive).set_limits

  says : (r : Result (Unit {0}) StreamFault) → SaysAt s.set c.frames f r → r ≡ hear.answer_by (stream_of f) (frame_error c.role c.frames f) (stream_error_of c.role c.limits c.frames f false)
  says r e =
      e ∙ ap (λ (x : Role). hear.answer_by (stream_of f) (frame_error x c.frames f) (stream_error_of x s.set.limits c.frames f false)) role
      ∙ ap (λ (l : H2Limits). hear.answer_by (stream_of f) (frame_error c.role c.frames f) (stream_error_of c.role l c.frames f false)) limits

  -- room was made
  pub roomy : (output : List ℕ) → output ≡ s.output → Waiting (record s { output = output }) c f
  roomy output e = subst (λ (o : List ℕ). Waiting (record s { output = o }) c f) (sym e) w

  head_by : (live : Bool) (o : Option Stream) (t : Stream) → o ≡ (if live then Some t else None) → has_head_in o ≡ (live && t.has_head)
  head_by true o t e = ap has_head_in e
  head_by false o t e = ap has_head_in e

  -- what was seen of its stream
  pub seen_says : (seen : SeenStream) (last : ℕ) → seen ≡ hear.stream_seen s.set f → last_begun c.role c.frames ≡ last → SeenSo c f seen last
  seen_says seen last e same = record {
    was_live = ap (λ (q : SeenStream). q.was_live) e ∙ live_says s.set c.frames (stream_of f) (is_some (at (stream_of f) s.set)) refl stands ∙ ap (λ (r : Role). is_live r c.frames (stream_of f)) role;
    had_head =
        ap (λ (q : SeenStream). q.had_head) e
        ∙ head_by (is_live s.set.role c.frames (stream_of f)) (at (stream_of f) s.set) (stream_at s.set.limits c.frames (stream_of f)) (at_is s.set c.frames stands (stream_of f))
        ∙ ap (λ (r : Role). is_live r c.frames (stream_of f) && has_head (received c.frames) (stream_of f)) role;
    last_is = same;
  }

  pub sounds : (set : Set) (output : List ℕ) (r : Result (Unit {0}) StreamFault) (seen : SeenStream) (last : ℕ) → output ≡ s.output → SaysAt s.set c.frames f r → r ≡ Ok tt → streams.StandsFor set (c.frames ++ Received f ∷ []) →
      (set.role ≡ s.set.role) × (set.limits ≡ s.set.limits) → seen ≡ hear.stream_seen s.set f → seen.is_live ≡ is_some (at (stream_of f) set) → last_begun c.role c.frames ≡ last → Sound (record s { set = set; output = output }) c f seen last
  sounds set output r seen last same e ok on kept saw alive begun =
      let both = both_none (stream_of f) (frame_error c.role c.frames f) (stream_error_of c.role c.limits c.frames f false) r (says r e) ok in
      record {
        before = s.set;
        waits = roomy output same;
        set_is = on;
        set_role = kept.0 ∙ role;
        set_limits = kept.1 ∙ limits;
        sound = both.0;
        faultless = both.1;
        seen_so = seen_says seen last saw begun;
        is_live = alive ∙ live_says set (c.frames ++ Received f ∷ []) (stream_of f) (is_some (at (stream_of f) set)) refl on ∙ ap (λ (q : Role). is_live q (c.frames ++ Received f ∷ []) (stream_of f)) (kept.0 ∙ role);
      }

  pub faults : (set : Set) (output : List ℕ) (r : Result (Unit {0}) StreamFault) (on : ℕ) (why : ErrorCode) (seen : SeenStream) (last : ℕ) → output ≡ s.output → SaysAt s.set c.frames f r → r ≡ Err (OnStream on why) →
      ((b : FrameBody) → b.stream ≡ on → streams.StandsFor set (c.frames ++ Received f ∷ Sent (RstStream b) ∷ [])) → (set.role ≡ s.set.role) × (set.limits ≡ s.set.limits) → seen ≡ hear.stream_seen s.set f → last_begun c.role c.frames ≡ last →
      Faulty (record s { set = set; output = output }) c f why seen last
  faults set output r on why seen last same e err stand kept saw begun =
      let three = fault_by (stream_of f) (frame_error c.role c.frames f) (stream_error_of c.role c.limits c.frames f false) r on why (says r e) err in
      record {
        before = s.set;
        waits = roomy output same;
        set_is = λ b k. stand b (k ∙ sym three.1);
        set_role = kept.0 ∙ role;
        set_limits = kept.1 ∙ limits;
        sound = three.0;
        fault = three.2;
        seen_so = seen_says seen last saw begun;
      }

  pub broken : (r : Result (Unit {0}) StreamFault) (why : ErrorCode) → SaysAt s.set c.frames f r → r ≡ Err (Connection why) → frame_error c.role c.frames f ≡ Some why
  broken r why e err = broken_by (stream_of f) (frame_error c.role c.frames f) (stream_error_of c.role c.limits c.frames f false) r why (says r e) err
