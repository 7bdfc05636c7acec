-- Where no device fails each result is without a failure.
use Rattle.std.proofs.Common.{◌≡◌, ℕ, Bool, true, false, List, [], ◌∷◌, Some, None, Option, refl, ◌∙◌}
use Rattle.std.specs.Prelude.{ℤ, is_none, option_to_list, option_and_then, cond}
use Rattle.std.specs.List.{list_all, list_any}
use Rattle.std.proofs.lemmas.List.Folds.{list_all-append}
use Rattle.table_model.specs.declared.command.Command.{Command}
use Rattle.table_model.specs.declared.command.Command.TheVariants.{Take, Report}
use Rattle.table_model.specs.declared.command.Config.{Config}
use Rattle.table_model.specs.declared.job.JobNumber.{JobNumber}
use Rattle.table_model.specs.declared.job.Verdict.TheVariants as verdict
use Rattle.table_model.specs.declared.reply.Reply.{Reply}
use Rattle.table_model.specs.declared.reply.Reply.TheVariants as reply
use Rattle.table_model.specs.declared.results.FibResult.{FibResult}
use Rattle.table_model.specs.Event.{Event, is_reported}
use Rattle.table_model.specs.Jobs.{Task, Programmed, tasks, update_of, update_by_take, task_at}
use Rattle.table_model.specs.Laws.{event, is_fault, is_skip}
use Rattle.table_model.specs.Results.{result_by, results, wanted_by, failure}
use Rattle.table_model.proofs.Closed.{or_left, or_right}
use Rattle.table_model.proofs.Tests.{and_both}
use Rattle.table_laws.specs.Succeeds.{SucceedsWithoutFaults}
use Rattle.table_laws.proofs.Faultless.{faultless}

abbrev Fine : Option FibResult → Type 0
Fine o = list_all (λ (r : FibResult). is_none r.failed) (option_to_list o) ≡ true

taken_fine : (session : ℕ) (made : List Task) (now : ℤ) (r : Reply) → is_skip r ≡ false → Fine (result_by session made (update_by_take now r))
taken_fine session made now (reply.Given job) h = refl
taken_fine session made now (reply.Skipped number) h = cc
taken_fine session made now _ h = refl

wanted_fine : (now : ℤ) (task : Task) (w : Bool) → Fine (cond w (Some (record { id = task.id; failed = failure task Programmed; now = now })) None)
wanted_fine now task true = refl
wanted_fine now task false = refl

found_fine : (session : ℕ) (now : ℤ) (o : Option Task) → Fine (option_and_then (λ task. cond (wanted_by session task) (Some (record { id = task.id; failed = failure task Programmed; now = now })) None) o)
found_fine session now None = refl
found_fine session now (Some task) = wanted_fine now task (wanted_by session task)

report_fine : (session : ℕ) (made : List Task) (number : JobNumber) (now : ℤ) (b : Bool) → Fine (result_by session made (cond b (Some (record { number = number; outcome = Programmed; now = now })) None))
report_fine session made number now true = found_fine session now (task_at number made)
report_fine session made number now false = refl

event_fine : (session : ℕ) (made : List Task) (command : Command) (r : Reply) → is_fault command ≡ false → is_skip r ≡ false → Fine (result_by session made (update_of (event command r)))
event_fine session made (Take worker now) r sound fine = taken_fine session made now r fine
event_fine session made (Report number verdict.Programmed now) r sound fine = report_fine session made number now (is_reported r)
event_fine session made (Report number verdict.DeviceFault now) r sound fine = cc
event_fine session made _ r sound fine = refl

all_fine : (session : ℕ) (past : List Event) → list_any (λ e. is_fault e.command) past ≡ false → list_any (λ e. is_skip e.reply) past ≡ false
    → list_all (λ (r : FibResult). is_none r.failed) (results past session) ≡ true
unfolding results
all_fine session [] sound fine = refl
all_fine session (e ∷ past) sound fine =
    list_all-append (λ (r : FibResult). is_none r.failed) (results past session) (option_to_list (result_by session (tasks past) (update_of e)))
    ∙ and_both (list_all (λ (r : FibResult). is_none r.failed) (results past session)) (list_all (λ (r : FibResult). is_none r.failed) (option_to_list (result_by session (tasks past) (update_of e))))
    (all_fine session past (or_right (is_fault e.command) (list_any (λ x. is_fault x.command) past) sound) (or_right (is_skip e.reply) (list_any (λ x. is_skip x.reply) past) fine))
    (event_fine session (tasks past) e.command e.reply (or_left (is_fault e.command) (list_any (λ x. is_fault x.command) past) sound) (or_left (is_skip e.reply) (list_any (λ x. is_skip x.reply) past) fine))

pub succeeds_without_faults : (config : Config) → SucceedsWithoutFaults config
succeeds_without_faults config past session lawful sound = all_fine session past sound (faultless config past lawful sound).0
