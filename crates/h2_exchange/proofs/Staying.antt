-- What stays where an exchange goes on.
use Rattle.std.proofs.Common.{◌≡◌, List, [], ◌∷◌, ◌++◌, Option, Some, None, refl, sym, ap, ◌∙◌}
use Rattle.std.specs.Option.{option_or}
use Rattle.std.proofs.lemmas.List.{append-nil}
use Rattle.h2_exchange.specs.declared.limits.H2Limits.{H2Limits}
use Rattle.h2_exchange.specs.declared.role.Role.{Role}
use Rattle.h2_exchange.specs.Calls.{shown_of, calls_of, answers_of}
use Rattle.h2_exchange.specs.Content.{Outcome}
use Rattle.h2_exchange.specs.Events.{events_of, all_events}
use Rattle.h2_exchange.specs.Exchange.{Step, collect, front_before, first_given}
use Rattle.h2_exchange.specs.Laws.{EventsStay, StopsStay, EventsGoOn, CallsStay, ShownCallsStay, AnswersStay}
use Rattle.h2_exchange.specs.Sending.{IsPrefix}
use Rattle.h2_exchange.specs.Stops.{Stop, stop_at, stop_of, events}
use Rattle.h2_exchange.proofs.Looking.{collect_more, collect_push, front_stays, front_goes_on, front_whole, given_more}

module _ (role : Role) (limits : H2Limits) (heads : List Outcome) where
  pub events_stopped : (x more : List Step) (stop : Stop) → stop_of role limits heads x ≡ Some stop → events role limits heads (x ++ more) ≡ events role limits heads x
  events_stopped x more stop e = ap (all_events role limits heads) (front_stays (stop_at role limits heads) [] x more stop e)

  pub events_more : (x more : List Step) → stop_of role limits heads x ≡ None →
      events role limits heads (x ++ more) ≡ events role limits heads x ++ collect (events_of role limits heads) x (front_before (stop_at role limits heads) x more)
  events_more x more e =
      ap (all_events role limits heads) (front_goes_on (stop_at role limits heads) [] x more e)
      ∙ collect_more (events_of role limits heads) [] x (front_before (stop_at role limits heads) x more)
      ∙ ap (λ (y : List Step). all_events role limits heads y ++ collect (events_of role limits heads) x (front_before (stop_at role limits heads) x more)) (sym (front_whole (stop_at role limits heads) [] x e))

  by_stop : (x more : List Step) (o : Option Stop) → stop_of role limits heads x ≡ o → IsPrefix (events role limits heads x) (events role limits heads (x ++ more))
  by_stop x more None e = (collect (events_of role limits heads) x (front_before (stop_at role limits heads) x more), events_more x more e)
  by_stop x more (Some stop) e = ([], events_stopped x more stop e ∙ sym (append-nil (events role limits heads x)))

  pub or_is : (o later : Option Stop) (stop : Stop) → o ≡ Some stop → option_or o later ≡ Some stop
  or_is None later stop e = absurd cc
  or_is (Some other) later stop e = e

  pub or_none : (o later : Option Stop) → o ≡ None → later ≡ None → option_or o later ≡ None
  or_none None later e f = f
  or_none (Some other) later e f = absurd cc

  pub stop_stays : (x more : List Step) (stop : Stop) → stop_of role limits heads x ≡ Some stop → stop_of role limits heads (x ++ more) ≡ Some stop
  stop_stays x more stop e = given_more (stop_at role limits heads) [] x more ∙ or_is (stop_of role limits heads x) (first_given (stop_at role limits heads) x more) stop e

  pub none_more : (x : List Step) (s : Step) → stop_of role limits heads x ≡ None → stop_at role limits heads x s ≡ None → stop_of role limits heads (x ++ s ∷ []) ≡ None
  none_more x s e f =
      given_more (stop_at role limits heads) [] x (s ∷ [])
      ∙ or_none (stop_of role limits heads x) (option_or (stop_at role limits heads x s) None) e (or_none (stop_at role limits heads x s) None f refl)

  pub whole_push : (x : List Step) (s : Step) → stop_of role limits heads x ≡ None → stop_at role limits heads x s ≡ None → events role limits heads (x ++ s ∷ []) ≡ events role limits heads x ++ events_of role limits heads x s
  whole_push x s e f =
      ap (all_events role limits heads) (front_whole (stop_at role limits heads) [] (x ++ s ∷ []) (none_more x s e f))
      ∙ collect_push (events_of role limits heads) x s
      ∙ ap (λ (y : List Step). all_events role limits heads y ++ events_of role limits heads x s) (sym (front_whole (stop_at role limits heads) [] x e))

pub events_stay : EventsStay
events_stay role limits heads x more = by_stop role limits heads x more (stop_of role limits heads x) refl

pub stops_stay : StopsStay
stops_stay role limits heads x more stop e = (stop_stays role limits heads x more stop e, events_stopped role limits heads x more stop e)

pub events_go_on : EventsGoOn
events_go_on role limits heads x s e f = (none_more role limits heads x s e f, whole_push role limits heads x s e f)

pub calls_stay : {M E : Type 0} → CallsStay M E
calls_stay method_of compressed too_long truncated es more =
    (collect (calls_of method_of compressed too_long truncated) es more, collect_more (calls_of method_of compressed too_long truncated) [] es more)

pub answers_stay : {E : Type 0} → AnswersStay E
answers_stay status_of unknown es more = (collect (answers_of status_of unknown) es more, collect_more (answers_of status_of unknown) [] es more)

pub shown_calls_stay : {M E : Type 0} → ShownCallsStay M E
shown_calls_stay cs more = (collect shown_of cs more, collect_more shown_of [] cs more)
