-- A stream on which an event comes was begun.
use Rattle.std.proofs.Common.{◌≡◌, ℕ, Bool, true, false, List, [], ◌∷◌, ◌++◌, Option, Some, None, refl, sym, ap, ◌∙◌, append_assoc}
use Rattle.std.specs.Prelude.{not, is_some, if◌then◌else◌}
use Rattle.std.proofs.lemmas.List.Folds.{list_any-append}
use Rattle.h2_exchange.specs.declared.limits.H2Limits.{H2Limits}
use Rattle.h2_exchange.specs.declared.role.Role.{Role}
use Rattle.h2_exchange.specs.Content.{Outcome}
use Rattle.h2_exchange.specs.Events.{Event, events_of}
use Rattle.h2_exchange.specs.Exchange.{Step, Received, Sent, collect, front_before}
use Rattle.h2_exchange.specs.Stops.{Stop, events, stop_at}
use Rattle.h2_exchange.specs.Streams.{begins, is_begun, is_live, is_over}
use Rattle.h2_exchange.proofs.Looking.{some_more}
use Rattle.h2_exchange.proofs.Places.{and_false, any_push, clash, first_true, neither, or_parts, second_true}
use Rattle.h2_exchange.proofs.Steps.{begun_push}
use Rattle.call_hearing.specs.Listening.{has_event, is_on}
use Rattle.call_hearing.proofs.Silent.{frame_quiet}

module _ (role : Role) (limits : H2Limits) (heads : List Outcome) (id : ℕ) where
  abbrev given : List Step → List Step → List Event
  given past x = collect (events_of role limits heads) past (front_before (stop_at role limits heads) past x)

  step_quiet : (past : List Step) (s : Step) → is_begun role (past ++ s ∷ []) id ≡ false → stop_at role limits heads past s ≡ None → has_event (events_of role limits heads past s) id ≡ false
  step_quiet past (Sent f) unbegun clear = refl
  step_quiet past (Received f) unbegun clear =
      let both = or_parts (is_begun role past id) (begins role id past (Received f)) (sym (begun_push role past (Received f) id) ∙ unbegun) in
      frame_quiet role limits heads id past f
      (neither (is_live role past id) (begins role id past (Received f)) (and_false (is_begun role past id) (not (is_over past id)) both.0) both.1) clear

  quiet_from : (past x : List Step) → is_begun role (past ++ x) id ≡ false → has_event (given past x) id ≡ false
  quiet_from past [] unbegun = refl
  quiet_from past (s ∷ x) unbegun =
      by (stop_at role limits heads past s) refl (quiet_from (past ++ s ∷ []) x (ap (λ (y : List Step). is_begun role y id) (append_assoc past (s ∷ []) x) ∙ unbegun))
    where
      before : is_begun role (past ++ s ∷ []) id ≡ false
      before =
          (or_parts (is_begun role (past ++ s ∷ []) id) _
          (sym (some_more (begins role id) [] (past ++ s ∷ []) x) ∙ ap (λ (y : List Step). is_begun role y id) (append_assoc past (s ∷ []) x) ∙ unbegun)).0

      by : (o : Option Stop) → stop_at role limits heads past s ≡ o → has_event (given (past ++ s ∷ []) x) id ≡ false →
          has_event (collect (events_of role limits heads) past (if is_some o then [] else s ∷ front_before (stop_at role limits heads) (past ++ s ∷ []) x)) id ≡ false
      by (Some stop) is later = refl
      by None is later =
          list_any-append (is_on id) (events_of role limits heads past s) (given (past ++ s ∷ []) x)
          ∙ neither (has_event (events_of role limits heads past s) id) (has_event (given (past ++ s ∷ []) x) id) (step_quiet past s before is) later

  pub event_begun : (x : List Step) (past later : List Event) (e : Event) → events role limits heads x ≡ (past ++ e ∷ []) ++ later → is_on id e ≡ true → is_begun role x id ≡ true
  event_begun x past later e split on = by (is_begun role x id) refl
    where
      there : has_event (events role limits heads x) id ≡ true
      there =
          ap (λ (es : List Event). has_event es id) split ∙ list_any-append (is_on id) (past ++ e ∷ []) later
          ∙ first_true (has_event (past ++ e ∷ []) id) (has_event later id) (any_push (is_on id) past e ∙ second_true (has_event past id) (is_on id e) on)

      by : (b : Bool) → is_begun role x id ≡ b → b ≡ true
      by true begun = refl
      by false unbegun = absurd (clash (has_event (events role limits heads x) id) there (quiet_from [] x unbegun))
