-- With a device that never failed, what it said shows nowhere.
use Rattle.std.specs.Prelude.{is_some}
use Rattle.std.proofs.Common.{◌≡◌, ℕ, zero, suc, ℤ, pos, ◌+◌, cond, List, [], ◌∷◌, ◌++◌, length, refl, ap, ◌∙◌, arith}
use Rattle.call_answers.specs.Orders.{commands_of, orders_of}
use Rattle.call_answers.specs.declared.orders.Setting.{Setting}
use Rattle.table_model.specs.declared.command.Command.TheVariants.{Report, Take}
use Rattle.table_model.specs.declared.command.Config.{Config}
use Rattle.table_model.specs.declared.job.Verdict.{Verdict}
use Rattle.table_model.specs.declared.job.Verdict.TheVariants.{Programmed, DeviceFault}
use Rattle.table_model.specs.declared.reply.Reply.{Reply}
use Rattle.table_model.specs.declared.reply.Reply.TheVariants as reply
use Rattle.table_model.specs.Event.{Event}
use Rattle.table_model.specs.Reply.{reply_to}
use Rattle.inline_worker.specs.Turns.{answer_at, asks_again, behind, collect_events, events_behind, failures, next_event, report_events, reports, turn_events, turns, undone}
use Rattle.message_run.specs.Behaviour.{AgreesAt}
use Rattle.message_run.specs.Outcomes.{messages_in, outcome_at, outcome_of, outcome_with}
use Rattle.message_run.proofs.Agreeing.{same_trace}
use Rattle.apply_path.specs.History.{answered, first_end, run_of_events}
use Rattle.apply_path.specs.Responses.{apply_behaviour, begun, config_of, fault_of, history, history_from, message_events, response_by, run_message}

answer_is : (said : List Verdict) (n : ℕ) → failures said ≡ 0 → answer_at said n ≡ Programmed
answer_is [] n h = refl
answer_is (Programmed ∷ said) zero h = refl
answer_is (Programmed ∷ said) (suc n) h = answer_is said n h
answer_is (DeviceFault ∷ said) n h = absurd (omega (arith, h))

module _ (config : Config) (said : List Verdict) (none : failures said ≡ 0) (now : ℤ) where
  same_report : (r : Reply) (past : List Event) → report_events config said now r past ≡ report_events config [] now r past
  same_report (reply.Given job) past = ap (λ (v : Verdict). next_event config past (Report job.number v now) ∷ []) (answer_is said (reports past) none)
  same_report _ past = refl

  same_turn : (past : List Event) → turn_events config said now past ≡ turn_events config [] now past
  same_turn past = let taken : Event = next_event config past (Take 0 now) in ap (λ (es : List Event). taken ∷ es) (same_report taken.reply (taken ∷ past))

  same_turns : (n : ℕ) (past : List Event) → turns config said now n past ≡ turns config [] now n past
  same_turns zero past = same_turn past
  same_turns (suc n) past =
      ap (λ (es : List Event). es ++ cond (asks_again (reply_to config past (Take 0 now))) (turns config said now n (behind past es)) []) (same_turn past)
      ∙ ap (λ (es : List Event). turn_events config [] now past ++ cond (asks_again (reply_to config past (Take 0 now))) es []) (same_turns n (behind past (turn_events config [] now past)))

  same_behind : (past : List Event) → events_behind config said now past ≡ events_behind config [] now past
  same_behind past = ap (λ (worked : List Event). worked ++ collect_events config (behind past worked)) (same_turns (undone past) past)

module _ (s : Setting) (said : List Verdict) (none : failures said ≡ 0) where
  same_message : (past : List Event) (place : ℕ) (m : List ℕ) → message_events s said past place m ≡ message_events s [] past place m
  same_message past place m =
      let asked = answered (config_of s) past (commands_of 0 (pos place) (orders_of s m)) in
      ap (λ (es : List Event). cond (is_some (fault_of s m)) [] (asked ++ cond (is_some (first_end asked)) [] es)) (same_behind (config_of s) said none (pos place) (behind past asked))

  same_from : (past : List Event) (place : ℕ) (ms : List (List ℕ)) → history_from s said past place ms ≡ history_from s [] past place ms
  unfolding history_from
  same_from past place [] = refl
  same_from past place (m ∷ ms) =
      ap (λ (es : List Event). history_from s said (run_of_events s.numbering past es).past (place + 1) ms) (same_message past place m)
      ∙ same_from (run_message s [] past place m).past (place + 1) ms

  pub same_history : (messages : List (List ℕ)) → history s said messages ≡ history s [] messages
  same_history messages = same_from (begun s) 1 messages

  same_response : (done : List (List ℕ)) (m : List ℕ) → apply_behaviour s said done m ≡ apply_behaviour s [] done m
  unfolding apply_behaviour
  same_response done m =
      ap (λ (p : List Event). response_by (fault_of s m) (run_message s said p (length done + 1) m)) (same_history done)
      ∙ ap (λ (es : List Event). response_by (fault_of s m) (run_of_events s.numbering (history s [] done) es)) (same_message (history s [] done) (length done + 1) m)

  same_at : (done ms : List (List ℕ)) → AgreesAt (apply_behaviour s said) (apply_behaviour s []) done ms
  same_at done [] = tt
  same_at done (m ∷ ms) = (same_response done m, same_at (done ++ m ∷ []) ms)

  pub same_outcome : (input : List ℕ) → outcome_of (apply_behaviour s said) input ≡ outcome_of (apply_behaviour s []) input
  unfolding outcome_at
  same_outcome input =
      let ms = (messages_in input).messages in
      ap (outcome_with (length input) (messages_in input)) (same_trace (apply_behaviour s said) (apply_behaviour s []) [] ms (same_at [] ms))
