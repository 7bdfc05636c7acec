-- An exchange in which nothing was received.
use Rattle.std.proofs.Common.{◌≡◌, Bool, true, false, List, [], ◌∷◌, ◌++◌, refl, ap, ◌∙◌, map, drop}
use Rattle.std.specs.Prelude.{is_some, if◌then◌else◌}
use Rattle.h2_frames.specs.declared.frame.Frame.{Frame}
use Rattle.h2_exchange.specs.declared.limits.H2Limits.{H2Limits}
use Rattle.h2_exchange.specs.declared.role.Role.{Role}
use Rattle.h2_exchange.specs.Content.{Outcome}
use Rattle.h2_exchange.specs.Events.{events_of, all_events}
use Rattle.h2_exchange.specs.Exchange.{Step, Received, Sent, received, sent, collect, front_before}
use Rattle.h2_exchange.specs.Stops.{stop_at, events}

pub none_received : (fs : List Frame) → received (map Sent fs) ≡ []
none_received [] = refl
none_received (f ∷ fs) = none_received fs

pub all_sent : (fs : List Frame) → sent (map Sent fs) ≡ fs
all_sent [] = refl
all_sent (f ∷ fs) = ap (λ (gs : List Frame). f ∷ gs) (all_sent fs)

module _ (role : Role) (limits : H2Limits) (heads : List Outcome) where
  with_one : (b : Bool) (f : Frame) (rest : List Step) → ((gs : List Frame) × (rest ≡ map Sent gs)) → (gs : List Frame) × ((if b then [] else Sent f ∷ rest) ≡ map Sent gs)
  with_one true f rest h = ([], refl)
  with_one false f rest h = (f ∷ h.0, ap (λ (r : List Step). Sent f ∷ r) h.1)

  sent_front : (past : List Step) (fs : List Frame) → (gs : List Frame) × (front_before (stop_at role limits heads) past (map Sent fs) ≡ map Sent gs)
  sent_front past [] = ([], refl)
  sent_front past (f ∷ fs) =
      with_one (is_some (stop_at role limits heads past (Sent f))) f (front_before (stop_at role limits heads) (past ++ Sent f ∷ []) (map Sent fs)) (sent_front (past ++ Sent f ∷ []) fs)

  quiet : (past : List Step) (fs : List Frame) → collect (events_of role limits heads) past (map Sent fs) ≡ []
  quiet past [] = refl
  quiet past (f ∷ fs) = quiet (past ++ Sent f ∷ []) fs

  pub no_events : (fs : List Frame) → events role limits heads (map Sent fs) ≡ []
  no_events fs = let p = sent_front [] fs in ap (all_events role limits heads) p.1 ∙ quiet [] p.0

abbrev first_is_received : List Step → Bool
first_is_received (Received f ∷ x) = true
first_is_received other = false

pub no_received : (fs : List Frame) (past behind : List Step) (f : Frame) → map Sent fs ≡ past ++ Received f ∷ behind → ⊥
no_received [] [] behind f e = absurd cc
no_received [] (s ∷ past) behind f e = absurd cc
no_received (g ∷ fs) [] behind f e = let p : false ≡ true = ap first_is_received e in absurd cc
no_received (g ∷ fs) (s ∷ past) behind f e = no_received fs past behind f (ap (λ (x : List Step). drop 1 x) e)
