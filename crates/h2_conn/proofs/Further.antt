-- What is known of an exchange stays where more is known of its header blocks.
use Rattle.std.proofs.Common.{◌≡◌, ℕ, ◌+◌, Bool, List, [], ◌∷◌, ◌++◌, length, None, refl, sym, ap, subst, ◌∙◌}
use Rattle.std.specs.Prelude.{if◌then◌else◌}
use Rattle.std.proofs.lemmas.List.{append_assoc}
use Rattle.h2_exchange.specs.declared.limits.H2Limits.{H2Limits}
use Rattle.h2_exchange.specs.declared.role.Role.{Role}
use Rattle.h2_exchange.specs.Content.{Outcome}
use Rattle.h2_exchange.specs.Exchange.{Step, Received, collect}
use Rattle.h2_exchange.specs.Outcomes.{AreEnough}
use Rattle.h2_exchange.specs.Sending.{ResetsErrors}
use Rattle.h2_exchange.specs.Stops.{stop_of, events, cuts_request, ends_call}
use Rattle.h2_exchange.proofs.Heads.{later_blocks_change_nothing, enough_front, passed_front, passed_step, error_same, ends_same, cuts_same, bytes_same}
use Rattle.h2_conn.specs.Watching.{Watch, IsWatched, IsAsked, asked_on}

module _ (role : Role) (limits : H2Limits) (heads more : List Outcome) where
  abbrev Went : List Step → Type 0
  Went x = AreEnough role limits heads x × (stop_of role limits heads x ≡ None)

  marked_same : (p q : List Step → Step → Bool) → ((past : List Step) (s : Step) → Went (past ++ s ∷ []) → p past s ≡ q past s) → (past x : List Step) → Went (past ++ x) →
      collect (λ y t. if p y t then t ∷ [] else []) past x ≡ collect (λ y t. if q y t then t ∷ [] else []) past x
  marked_same p q each past [] w = refl
  marked_same p q each past (s ∷ x) w =
      let v : Went ((past ++ s ∷ []) ++ x) = subst Went (sym (append_assoc past (s ∷ []) x)) w in
      let here : p past s ≡ q past s = each past s (passed_front role limits heads more (past ++ s ∷ []) x v) in
      ap (λ (b : Bool). (if b then s ∷ [] else []) ++ collect (λ y t. if p y t then t ∷ [] else []) (past ++ s ∷ []) x) here
      ∙ ap (λ (l : List Step). (if q past s then s ∷ [] else []) ++ l) (marked_same p q each (past ++ s ∷ []) x v)

  pub stop_known : (x : List Step) → Went x → stop_of role limits (heads ++ more) x ≡ None
  stop_known x w = (later_blocks_change_nothing.looked_at role limits heads more x w.0).0 ∙ w.1

  pub events_known : (x : List Step) → Went x → events role limits (heads ++ more) x ≡ events role limits heads x
  events_known x w = (later_blocks_change_nothing.looked_at role limits heads more x w.0).1

  pub watched_known : (x : List Step) (w : Watch) → Went x → IsWatched role limits heads x w → IsWatched role limits (heads ++ more) x w
  watched_known x w went h = record {
    counts = λ p.
        ap (λ (l : List Step). w.left + length l)
        (marked_same (cuts_request role limits (heads ++ more)) (cuts_request role limits heads) (λ past s v. cuts_same role limits heads more past s (passed_front role limits heads more past (s ∷ []) v)) [] x went)
        ∙ h.counts p
        ∙ sym (ap (λ (l : List Step). 1000 + length l)
        (marked_same (ends_call limits (heads ++ more) role) (ends_call limits heads role)
        (λ past s v. ends_same limits heads more role past s v.0 (passed_front role limits heads more past (s ∷ []) v).1 (passed_step role limits heads more past s v)) [] x went));
    requests = λ id live. subst (λ (b : List ℕ). IsAsked b (asked_on id w)) (sym (bytes_same limits heads more role x id went)) (h.requests id live);
    idle = λ id none. let i = h.idle id none in (bytes_same limits heads more role x id went ∙ i.0, i.1);
  }

  pub resets_known : (x : List Step) → AreEnough role limits heads x → ResetsErrors role limits heads x → ResetsErrors role limits (heads ++ more) x
  resets_known x k h past behind f why e p q =
      let split : x ≡ (past ++ Received f ∷ []) ++ behind = e ∙ sym (append_assoc past (Received f ∷ []) behind) in
      let enough : AreEnough role limits heads (past ++ Received f ∷ []) = enough_front role limits heads more (past ++ Received f ∷ []) behind (subst (AreEnough role limits heads) split k) in
      let clear : stop_of role limits heads (past ++ Received f ∷ []) ≡ None = sym (later_blocks_change_nothing.looked_at role limits heads more (past ++ Received f ∷ []) enough).0 ∙ p in
      let went : Went (past ++ Received f ∷ []) = (enough, clear) in
      h past behind f why e clear
      (sym (error_same role limits heads more past f enough (passed_front role limits heads more past (Received f ∷ []) went).1 (passed_step role limits heads more past (Received f) went)) ∙ q)
