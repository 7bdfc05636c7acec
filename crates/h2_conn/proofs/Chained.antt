-- Frames that are taken one after another.
use Rattle.std.proofs.Common.{◌≡◌, Bool, List, [], ◌∷◌, ◌++◌, map, Option, Some, None, sym, ap, subst, ◌∙◌}
use Rattle.std.proofs.lemmas.List.{append-nil, append_assoc}
use Rattle.h2_frames.specs.declared.code.ErrorCode.{ErrorCode}
use Rattle.h2_frames.specs.declared.frame.Frame.{Frame}
use Rattle.h2_exchange.specs.declared.limits.H2Limits.{H2Limits}
use Rattle.h2_exchange.specs.declared.role.Role.{Role}
use Rattle.h2_exchange.specs.Content.{Outcome}
use Rattle.h2_exchange.specs.Events.{Event}
use Rattle.h2_exchange.specs.Exchange.{Step, Received, Sent}
use Rattle.h2_exchange.specs.Outcomes.{AreEnough}
use Rattle.h2_exchange.specs.Stops.{Stop, stop_of}
use Rattle.h2_exchange.proofs.Heads.{later_blocks_change_nothing, enough_front, passed_front, passed_step, error_same}
use Rattle.http_connection.specs.Answers.{GivesEvents, Receives, AreReply, AreReplyBy, ends, goes, stops, after}
use Rattle.http_connection.specs.ConnectionTrace.{ConnectionTrace}

module _ (role : Role) (limits : H2Limits) (is_holding : Bool) (heads more : List Outcome) where
  abbrev Enough : List Step → Type 0
  Enough x = AreEnough role limits heads x

  stop_same : (x : List Step) (o : Option Stop) → Enough x → stop_of role limits heads x ≡ o → stop_of role limits (heads ++ more) x ≡ o
  stop_same x o k e = (later_blocks_change_nothing.looked_at role limits heads more x k).0 ∙ e

  reply_same : (past : List Step) (f : Frame) (fs : List Frame) → Enough (past ++ Received f ∷ []) → stop_of role limits heads (past ++ Received f ∷ []) ≡ None → AreReply role limits is_holding heads past f fs → AreReply role limits is_holding (heads ++ more) past f fs
  reply_same past f fs k none h = subst (λ (o : Option ErrorCode). AreReplyBy o role is_holding past f fs)
      (sym (error_same role limits heads more past f k (passed_front role limits heads more past (Received f ∷ []) (k, none)).1 (passed_step role limits heads more past (Received f) (k, none)))) h

  pub receives_known : (past x : List Step) → Receives role limits is_holding heads past x → Enough (past ++ x) → Receives role limits is_holding (heads ++ more) past x
  receives_known _ _ (ends past) k = ends past
  receives_known _ _ (goes past rest f fs none reply later) k =
      let whole : past ++ (Received f ∷ (map Sent fs ++ rest)) ≡ (past ++ Received f ∷ []) ++ (map Sent fs ++ rest) = sym (append_assoc past (Received f ∷ []) (map Sent fs ++ rest)) in
      let front : Enough (past ++ Received f ∷ []) = enough_front role limits heads more (past ++ Received f ∷ []) (map Sent fs ++ rest) (subst Enough whole k) in
      let behind : Enough ((past ++ (Received f ∷ map Sent fs)) ++ rest) = subst Enough (sym (append_assoc past (Received f ∷ map Sent fs) rest)) k in
      goes past rest f fs (stop_same (past ++ Received f ∷ []) None front none) (reply_same past f fs front none reply) (receives_known (past ++ (Received f ∷ map Sent fs)) rest later behind)
  receives_known _ _ (stops past f stop clear stopped) k =
      let before : Enough past = enough_front role limits heads more past (Received f ∷ []) k in
      stops past f stop (stop_same past None before clear) (stop_same (past ++ Received f ∷ []) (Some stop) k stopped)

-- one row of frames behind another, where the first one stops nothing
receives_join : (role : Role) (limits : H2Limits) (is_holding : Bool) (heads : List Outcome) (past x y : List Step) → stop_of role limits heads (past ++ x) ≡ None →
    Receives role limits is_holding heads past x → Receives role limits is_holding heads (past ++ x) y → Receives role limits is_holding heads past (x ++ y)
receives_join role limits is_holding heads _ _ y clear (ends past) k = subst (λ (p : List Step). Receives role limits is_holding heads p y) (append-nil past) k
receives_join role limits is_holding heads _ _ y clear (goes past rest f fs none reply later) k =
    let whole : past ++ (Received f ∷ (map Sent fs ++ rest)) ≡ (past ++ (Received f ∷ map Sent fs)) ++ rest = sym (append_assoc past (Received f ∷ map Sent fs) rest) in
    subst (λ (z : List Step). Receives role limits is_holding heads past (Received f ∷ z)) (sym (append_assoc (map Sent fs) rest y))
    (goes past (rest ++ y) f fs none reply
    (receives_join role limits is_holding heads (past ++ (Received f ∷ map Sent fs)) rest y (ap (stop_of role limits heads) (sym whole) ∙ clear) later
    (subst (λ (p : List Step). Receives role limits is_holding heads p y) whole k)))
receives_join role limits is_holding heads _ _ y clear (stops past f stop before stopped) k = absurd (let t : None ≡ Some stop = sym clear ∙ stopped in cc)

pub goes_join : (c m d : ConnectionTrace) (es : List Event) → AreEnough m.role m.limits m.heads m.frames → stop_of m.role m.limits m.heads m.frames ≡ None → GivesEvents c [] m → GivesEvents m es d → GivesEvents c es d
goes_join c m d es k clear g h = by m g.goes_on k clear h
  where
    by : (n : ConnectionTrace) → n ≡ after g.more g.outcomes [] None c → AreEnough n.role n.limits n.heads n.frames → stop_of n.role n.limits n.heads n.frames ≡ None → GivesEvents n es d → GivesEvents c es d
    by n e k clear h =
        let at = after g.more g.outcomes [] None c in
        let k2 : AreEnough c.role c.limits (c.heads ++ g.outcomes) (c.frames ++ g.more) = subst (λ (q : ConnectionTrace). AreEnough q.role q.limits q.heads q.frames) e k in
        let clear2 : stop_of c.role c.limits (c.heads ++ g.outcomes) (c.frames ++ g.more) ≡ None = subst (λ (q : ConnectionTrace). stop_of q.role q.limits q.heads q.frames ≡ None) e clear in
        let h2 : GivesEvents at es d = subst (λ (q : ConnectionTrace). GivesEvents q es d) e h in
        let first = receives_known c.role c.limits c.is_holding (c.heads ++ g.outcomes) h2.outcomes c.frames g.more g.receives k2 in
        let clear3 : stop_of c.role c.limits ((c.heads ++ g.outcomes) ++ h2.outcomes) (c.frames ++ g.more) ≡ None = (later_blocks_change_nothing.looked_at c.role c.limits (c.heads ++ g.outcomes) h2.outcomes (c.frames ++ g.more) k2).0 ∙ clear2 in
        record {
          alive = g.alive;
          more = g.more ++ h2.more;
          outcomes = g.outcomes ++ h2.outcomes;
          receives = subst (λ (hs : List Outcome). Receives c.role c.limits c.is_holding hs c.frames (g.more ++ h2.more)) (append_assoc c.heads g.outcomes h2.outcomes)
              (receives_join c.role c.limits c.is_holding ((c.heads ++ g.outcomes) ++ h2.outcomes) c.frames g.more h2.more clear3 first h2.receives);
          goes_on =
              h2.goes_on
              ∙ ap (λ (x : List Step). record c { frames = x; heads = (c.heads ++ g.outcomes) ++ h2.outcomes; given = (c.given ++ []) ++ es; refusal = None }) (append_assoc c.frames g.more h2.more)
              ∙ ap (λ (hs : List Outcome). record c { frames = c.frames ++ (g.more ++ h2.more); heads = hs; given = (c.given ++ []) ++ es; refusal = None }) (append_assoc c.heads g.outcomes h2.outcomes)
              ∙ ap (λ (gs : List Event). record c { frames = c.frames ++ (g.more ++ h2.more); heads = c.heads ++ (g.outcomes ++ h2.outcomes); given = gs ++ es; refusal = None }) (append-nil c.given);
        }
