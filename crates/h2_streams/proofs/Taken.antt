-- What is said of a received frame.
use Rattle.std.proofs.Common.{◌≡◌, ℕ, false, List, [], ◌∷◌, ◌++◌, Option, Some, None, refl, sym, ap, ◌∙◌, subst, append_assoc}
use Rattle.std.specs.Prelude.{Result, Ok, Err, IfOk}
use Rattle.h2_frames.specs.declared.code.ErrorCode.{ErrorCode}
use Rattle.h2_frames.specs.declared.frame.Frame.{Frame}
use Rattle.h2_frames.specs.declared.frame.Frame.TheVariants.{RstStream}
use Rattle.h2_frames.specs.declared.frame.FrameBody.{FrameBody}
use Rattle.h2_exchange.specs.declared.fault.StreamFault.{StreamFault}
use Rattle.h2_exchange.specs.declared.fault.StreamFault.TheVariants.{Stream, Connection}
use Rattle.h2_exchange.specs.Exchange.{Step, Received, Sent}
use Rattle.h2_exchange.specs.Frames.{stream_of}
use Rattle.h2_exchange.specs.Rules.{frame_error}
use Rattle.h2_exchange.specs.StreamErrors.{stream_error_of}
use Rattle.h2_streams.specs.ConnectionErrors.{frame_error_in}
use Rattle.h2_streams.specs.Receiving.{fault_in, answer_by, taken_by}
use Rattle.h2_streams.specs.Set.{Set}
use Rattle.h2_streams.specs.Stands.{StandsFor}
use Rattle.h2_streams.proofs.Agrees.{fault_agrees}
use Rattle.h2_streams.proofs.Hears.{heard, failed}
use Rattle.h2_streams.proofs.Judged.{frame_says}
use Rattle.h2_streams.proofs.Sound.{is_sound}

abbrev Answer : Type 0
Answer = Result (Unit {0}) StreamFault

same_stream : (k id : ℕ) (w why : ErrorCode) → ◌≡◌ {A = Answer} (Err (Stream k w)) (Err (Stream id why)) → k ≡ id
same_stream k id w why e = cc

not_stream : (id : ℕ) (w why : ErrorCode) → ◌≡◌ {A = Answer} (Err (Connection w)) (Err (Stream id why)) → ⊥
not_stream id w why e = cc

not_ok : (fault : StreamFault) → ◌≡◌ {A = Answer} (Ok tt) (Err fault) → ⊥
not_ok fault e = cc

module _ (s : Set) (f : Frame) (result : Answer) (answered : result ≡ answer_by (stream_of f) (frame_error_in s f) (fault_in s f)) where
  answered_by : (e o : Option ErrorCode) → frame_error_in s f ≡ e → fault_in s f ≡ o → result ≡ answer_by (stream_of f) e o
  answered_by e o p q = answered ∙ ap (λ (c : Option ErrorCode). answer_by (stream_of f) c (fault_in s f)) p ∙ ap (answer_by (stream_of f) e) q

  pub answer_says : (x : List Step) → StandsFor s x → result ≡ answer_by (stream_of f) (frame_error s.role x f) (stream_error_of s.role s.limits x f false)
  answer_says x h = by (frame_error_in s f) refl ∙ ap (λ (c : Option ErrorCode). answer_by (stream_of f) c (stream_error_of s.role s.limits x f false)) (frame_says s x f (frame_error_in s f) refl h)
    where
      by : (e : Option ErrorCode) → frame_error_in s f ≡ e → result ≡ answer_by (stream_of f) (frame_error_in s f) (stream_error_of s.role s.limits x f false)
      by (Some why) p = answered_by (Some why) (fault_in s f) p refl ∙ ap (λ (c : Option ErrorCode). answer_by (stream_of f) c (stream_error_of s.role s.limits x f false)) (sym p)
      by None p = answered ∙ ap (answer_by (stream_of f) (frame_error_in s f)) (fault_agrees s x f h (is_sound s f p))

  module _ (new : Set) (left : new ≡ taken_by (frame_error_in s f) s f) where
    left_by : (e : Option ErrorCode) → frame_error_in s f ≡ e → new ≡ taken_by e s f
    left_by e p = left ∙ ap (λ (c : Option ErrorCode). taken_by c s f) p

    abbrev Stands : List Step → Type 0
    Stands more = (x : List Step) → StandsFor s x → StandsFor new (x ++ more)

    pub taken_says : IfOk result (λ u. Stands (Received f ∷ []))
    taken_says = by (frame_error_in s f) (fault_in s f) refl refl
      where
        by : (e o : Option ErrorCode) → frame_error_in s f ≡ e → fault_in s f ≡ o → IfOk result (λ u. Stands (Received f ∷ []))
        by (Some why) o p q = subst (λ (r : Answer). IfOk r (λ u. Stands (Received f ∷ []))) (sym (answered_by (Some why) o p q)) tt
        by None (Some why) p q = subst (λ (r : Answer). IfOk r (λ u. Stands (Received f ∷ []))) (sym (answered_by None (Some why) p q)) tt
        by None None p q =
            subst (λ (r : Answer). IfOk r (λ u. Stands (Received f ∷ []))) (sym (answered_by None None p q))
            (λ x h. subst (λ (t : Set). StandsFor t (x ++ Received f ∷ [])) (sym (left_by None p)) (heard s x f h (is_sound s f p) q))

    pub failed_says : (id : ℕ) (why : ErrorCode) → result ≡ Err (Stream id why) → (x : List Step) (b : FrameBody) → StandsFor s x → b.stream ≡ id → StandsFor new (x ++ Received f ∷ Sent (RstStream b) ∷ [])
    failed_says id why e x b h on = by (frame_error_in s f) (fault_in s f) refl refl
      where
        by : (c o : Option ErrorCode) → frame_error_in s f ≡ c → fault_in s f ≡ o → StandsFor new (x ++ Received f ∷ Sent (RstStream b) ∷ [])
        by (Some w) o p q = absurd (not_stream id w why (sym (answered_by (Some w) o p q) ∙ e))
        by None None p q = absurd (not_ok (Stream id why) (sym (answered_by None None p q) ∙ e))
        by None (Some w) p q =
            subst (λ (y : List Step). StandsFor new y) (append_assoc x (Received f ∷ []) (Sent (RstStream b) ∷ [])) (
            subst (λ (t : Set). StandsFor t ((x ++ Received f ∷ []) ++ Sent (RstStream b) ∷ [])) (sym (left_by None p))
            (failed s x f h (is_sound s f p) b (on ∙ sym (same_stream (stream_of f) id w why (sym (answered_by None (Some w) p q) ∙ e))) w q)
            )

    pub refused_says : (why : ErrorCode) → result ≡ Err (Connection why) → new ≡ s
    refused_says why e = by (frame_error_in s f) (fault_in s f) refl refl
      where
        by : (c o : Option ErrorCode) → frame_error_in s f ≡ c → fault_in s f ≡ o → new ≡ s
        by (Some w) o p q = left_by (Some w) p
        by None (Some w) p q = absurd (not_stream (stream_of f) why w (sym e ∙ answered_by None (Some w) p q))
        by None None p q = absurd (not_ok (Connection why) (sym (answered_by None None p q) ∙ e))

    pub role_says : (new.role ≡ s.role) × (new.limits ≡ s.limits)
    role_says = by (frame_error_in s f) refl
      where
        by : (c : Option ErrorCode) → frame_error_in s f ≡ c → (new.role ≡ s.role) × (new.limits ≡ s.limits)
        by (Some w) p = (ap (λ (t : Set). t.role) (left_by (Some w) p), ap (λ (t : Set). t.limits) (left_by (Some w) p))
        by None p = (ap (λ (t : Set). t.role) (left_by None p), ap (λ (t : Set). t.limits) (left_by None p))
