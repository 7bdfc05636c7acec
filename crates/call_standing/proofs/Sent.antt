-- Frames that are sent give no event, and one that is in a list of them stands there.
use Rattle.std.proofs.Common.{◌≡◌, Bool, true, false, ◌||◌, List, [], ◌∷◌, ◌++◌, Option, Some, None, refl, ap, ◌∙◌}
use Rattle.std.specs.Prelude.{if◌then◌else◌, is_some, map}
use Rattle.std.specs.List.{list_any}
use Rattle.std.proofs.lemmas.List.{append-nil}
use Rattle.std.proofs.lemmas.List.Folds.{list_any-append}
use Rattle.h2_frames.specs.declared.frame.Frame.{Frame}
use Rattle.h2_exchange.specs.declared.limits.H2Limits.{H2Limits}
use Rattle.h2_exchange.specs.declared.role.Role.{Role}
use Rattle.h2_exchange.specs.Content.{Outcome}
use Rattle.h2_exchange.specs.Events.{Event, events_of}
use Rattle.h2_exchange.specs.Exchange.{Step, Sent, collect, front_before, sent}
use Rattle.h2_exchange.specs.Stops.{Stop, events, stop_at, stop_of}
use Rattle.h2_exchange.proofs.Places.{clash, second_true}
use Rattle.h2_exchange.proofs.Staying.{events_more, events_stopped}
use Rattle.h2_exchange.proofs.Steps.{sent_more}

-- frames that are sent give no event
module _ (role : Role) (limits : H2Limits) (heads : List Outcome) where
  either : (b : Bool) (past : List Step) (f : Frame) (more : List Step) → collect (events_of role limits heads) (past ++ Sent f ∷ []) more ≡ [] →
      collect (events_of role limits heads) past (if b then [] else Sent f ∷ more) ≡ []
  either true past f more e = refl
  either false past f more e = e

  quiet : (past : List Step) (fs : List Frame) → collect (events_of role limits heads) past (front_before (stop_at role limits heads) past (map Sent fs)) ≡ []
  quiet past [] = refl
  quiet past (f ∷ fs) = either (is_some (stop_at role limits heads past (Sent f))) past f (front_before (stop_at role limits heads) (past ++ Sent f ∷ []) (map Sent fs)) (quiet (past ++ Sent f ∷ []) fs)

  pub events_kept : (x : List Step) (fs : List Frame) → events role limits heads (x ++ map Sent fs) ≡ events role limits heads x
  events_kept x fs = by (stop_of role limits heads x) refl
    where
      by : (o : Option Stop) → stop_of role limits heads x ≡ o → events role limits heads (x ++ map Sent fs) ≡ events role limits heads x
      by (Some stop) e = events_stopped role limits heads x (map Sent fs) stop e
      by None e = events_more role limits heads x (map Sent fs) e ∙ ap (λ (es : List Event). events role limits heads x ++ es) (quiet x fs) ∙ append-nil (events role limits heads x)

-- ---- a step at any place

-- no sent frame passes a test that none of them passes
pub none_sent : (p : Frame → Bool) (x past behind : List Step) (f : Frame) → x ≡ past ++ Sent f ∷ behind → list_any p (sent x) ≡ false → p f ≡ true → ⊥
none_sent p x past behind f split none is =
    let parts : sent x ≡ sent past ++ f ∷ sent behind = ap sent split ∙ sent_more past (Sent f ∷ behind) in
    let some : list_any p (sent x) ≡ true =
    ap (list_any p) parts ∙ list_any-append p (sent past) (f ∷ sent behind) ∙ ap (λ (b : Bool). list_any p (sent past) || (b || list_any p (sent behind))) is ∙ second_true (list_any p (sent past)) true refl in
    clash (list_any p (sent x)) some none
