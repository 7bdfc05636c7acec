-- A job completes once, and a result without a failure was reported.
use Rattle.std.proofs.Common.{◌≡◌, ◌≤◌, ℕ, ◌+◌, Bool, true, false, List, [], ◌∷◌, Some, None, Option, refl, sym, ap, subst, ◌∙◌, arith}
use Rattle.std.specs.Prelude.{not, ◌&&◌, ℤ, cond, option_and_then}
use Rattle.std.proofs.lemmas.List.Recursion.{is_count_by}
use Rattle.table_model.specs.declared.command.Command.{Command}
use Rattle.table_model.specs.declared.command.Command.TheVariants.{Begin, SetParams, Announce, Operate, Collect, Leave, Flush, Select, Take, Report, Halt}
use Rattle.table_model.specs.declared.command.Config.{Config}
use Rattle.table_model.specs.declared.job.JobNumber.{JobNumber}
use Rattle.table_model.specs.declared.job.Verdict.{Verdict}
use Rattle.table_model.specs.declared.job.Verdict.TheVariants as verdict
use Rattle.table_model.specs.declared.reply.Reply.{Reply}
use Rattle.table_model.specs.declared.reply.Reply.TheVariants as reply
use Rattle.table_model.specs.declared.results.FibResult.{FibResult}
use Rattle.table_model.specs.Event.{Event, is_reported}
use Rattle.table_model.specs.Jobs.{task_at, Task, JobUpdate, Outcome, Programmed, Faulted, PassedOver, tasks, update_of, update_by_take, turned, reported, outcome_of, number_eq, is_undone, skip_reason}
use Rattle.table_model.specs.Laws.{event, completes, CompletesOnce, ProgrammedWasReported}
use Rattle.table_model.specs.Legal.{IsLawful}
use Rattle.table_model.specs.Results.{result_by, wanted_by, failure}
use Rattle.table_laws.proofs.InTurn.{undone_update, says}
use Rattle.table_laws.proofs.Updates.{number_same}

-- None completes of a job that is undone, and at most one of any.
module _ (n : JobNumber) (before : Outcome) (k : ℕ) (zero_if : is_undone before ≡ true → k ≡ 0) (low : k ≤ 1) where
  abbrev Once : Outcome → Bool → Type 0
  Once after done = (is_undone after ≡ true → cond done (1 + k) k ≡ 0) × (cond done (1 + k) k ≤ 1)

  by_outcome : (turn : JobUpdate) (b : Bool) → (b ≡ true → is_undone before ≡ true) → (d : Bool) → is_undone turn.outcome ≡ d → Once (cond b turn.outcome before) (b && not d)
  by_outcome turn false was d is = (zero_if, low)
  by_outcome turn true was true is = ((λ h. zero_if (was refl)), low)
  by_outcome turn true was false is = ((λ h. absurd (let no_way : false ≡ true = sym is ∙ h in cc)), let none_yet : k ≡ 0 = zero_if (was refl) in omega arith)

  one_event : (o : Option JobUpdate) → ((turn : JobUpdate) → o ≡ Some turn → number_eq turn.number n ≡ true → is_undone before ≡ true) → Once (turned o n before) (completes n o)
  one_event None was = (zero_if, low)
  one_event (Some turn) was = by_outcome turn (number_eq turn.number n) (was turn refl) (is_undone turn.outcome) refl

abbrev completions : JobNumber → List Event → ℕ
completions n [] = 0
completions n (e ∷ past) = cond (completes n (update_of e)) (1 + completions n past) (completions n past)

abbrev AtMostOne : JobNumber → List Event → Type 0
AtMostOne n past = (is_undone (outcome_of past n) ≡ true → completions n past ≡ 0) × (completions n past ≤ 1)

at_most_one : (config : Config) (n : JobNumber) (past : List Event) → IsLawful config past → AtMostOne n past
unfolding outcome_of
at_most_one config n [] lawful = ((λ h. refl), omega arith)
at_most_one config n (e ∷ past) lawful =
    let sooner = at_most_one config n past lawful.1 in
    one_event n (outcome_of past n) (completions n past) sooner.0 sooner.1 (update_of e)
    (λ turn is here. ap (λ m. is_undone (outcome_of past m)) (sym (number_same turn.number n here)) ∙ undone_update past turn (says config e past lawful turn is))

pub completes_once : (config : Config) → CompletesOnce config
completes_once config past lawful n =
    let Low : ℕ → Type 0 = λ k. k ≤ 1 in
    subst Low (is_count_by (completions n) (λ e. completes n (update_of e)) refl (λ _ _. refl) past) (at_most_one config n past lawful).1

-- Results.

-- what a result says of its turn
record Comes (session : ℕ) (made : List Task) (turn : JobUpdate) (result : FibResult) : Type 0 where
  pub task : Task
  pub found : task_at turn.number made ≡ Some task
  pub wanted : wanted_by session task ≡ true
  pub done : is_undone turn.outcome ≡ false
  pub is : record { id = task.id; failed = failure task turn.outcome; now = turn.now } ≡ result

comes : (session : ℕ) (made : List Task) (turn : JobUpdate) (result : FibResult) → result_by session made (Some turn) ≡ Some result → Comes session made turn result
comes session made turn result told = by_undone (is_undone turn.outcome) refl told
  where
    by_wanted : (task : Task) → task_at turn.number made ≡ Some task → is_undone turn.outcome ≡ false → (w : Bool) → wanted_by session task ≡ w
        → cond w (Some (record { id = task.id; failed = failure task turn.outcome; now = turn.now })) None ≡ Some result → Comes session made turn result
    by_wanted task found done true wanted told = record { task = task; found = found; wanted = wanted; done = done; is = cc }
    by_wanted task found done false wanted told = cc

    by_found : (o : Option Task) → task_at turn.number made ≡ o → is_undone turn.outcome ≡ false
        → option_and_then (λ task. cond (wanted_by session task) (Some (record { id = task.id; failed = failure task turn.outcome; now = turn.now })) None) o ≡ Some result → Comes session made turn result
    by_found None found done told = cc
    by_found (Some task) found done told = by_wanted task found done (wanted_by session task) refl told

    by_undone : (b : Bool) → is_undone turn.outcome ≡ b
        → cond b None (option_and_then (λ task. cond (wanted_by session task) (Some (record { id = task.id; failed = failure task turn.outcome; now = turn.now })) None) (task_at turn.number made)) ≡ Some result → Comes session made turn result
    by_undone true is told = cc
    by_undone false is told = by_found (task_at turn.number made) refl is told

-- a job that a worker took didn't come back as programmed
not_taken : (session : ℕ) (made : List Task) (now : ℤ) (result : FibResult) (r : Reply) → result_by session made (update_by_take now r) ≡ Some result → result.failed ≡ None → ⊥
not_taken session made now result (reply.Began x0) told fine = cc
not_taken session made now result reply.ParamsSet told fine = cc
not_taken session made now result reply.ParamsUnsupported told fine = cc
not_taken session made now result reply.ParamsNotAllowed told fine = cc
not_taken session made now result (reply.ParamsDiffer x0) told fine = cc
not_taken session made now result reply.NoParams told fine = cc
not_taken session made now result (reply.Announced x0) told fine = cc
not_taken session made now result reply.ZeroId told fine = cc
not_taken session made now result reply.RibDone told fine = cc
not_taken session made now result (reply.RibFailed x0) told fine = cc
not_taken session made now result (reply.Collected x0 x1) told fine = cc
not_taken session made now result reply.Left told fine = cc
not_taken session made now result (reply.Flushed x0) told fine = cc
not_taken session made now result (reply.FlushRefused x0) told fine = cc
not_taken session made now result (reply.Selected x0) told fine = cc
not_taken session made now result (reply.Given job) told fine = cc
not_taken session made now result (reply.Skipped number) told fine = let came = comes session made (record { number = number; outcome = PassedOver; now = now }) result told in let no_way : Some (skip_reason came.task.job.work) ≡ None = ap (λ (x : FibResult). x.failed) came.is ∙ fine in cc
not_taken session made now result reply.Idle told fine = cc
not_taken session made now result reply.HaltSeen told fine = cc
not_taken session made now result reply.Reported told fine = cc
not_taken session made now result reply.NotOut told fine = cc
not_taken session made now result reply.HaltDone told fine = cc
not_taken session made now result reply.Stopped told fine = cc
not_taken session made now result reply.Gone told fine = cc
not_taken session made now result reply.NoMemory told fine = cc

-- the only reply that says so
reported_is : (r : Reply) → is_reported r ≡ true → r ≡ reply.Reported
reported_is (reply.Began x0) h = cc
reported_is reply.ParamsSet h = cc
reported_is reply.ParamsUnsupported h = cc
reported_is reply.ParamsNotAllowed h = cc
reported_is (reply.ParamsDiffer x0) h = cc
reported_is reply.NoParams h = cc
reported_is (reply.Announced x0) h = cc
reported_is reply.ZeroId h = cc
reported_is reply.RibDone h = cc
reported_is (reply.RibFailed x0) h = cc
reported_is (reply.Collected x0 x1) h = cc
reported_is reply.Left h = cc
reported_is (reply.Flushed x0) h = cc
reported_is (reply.FlushRefused x0) h = cc
reported_is (reply.Selected x0) h = cc
reported_is (reply.Given x0) h = cc
reported_is (reply.Skipped x0) h = cc
reported_is reply.Idle h = cc
reported_is reply.HaltSeen h = cc
reported_is reply.Reported h = refl
reported_is reply.NotOut h = cc
reported_is reply.HaltDone h = cc
reported_is reply.Stopped h = cc
reported_is reply.Gone h = cc
reported_is reply.NoMemory h = cc

abbrev WasReported : ℕ → List Task → Command → Reply → FibResult → Type 0
WasReported session made command r result =
    (number : JobNumber) × (task : Task) × (command ≡ Report number verdict.Programmed result.now) × (r ≡ reply.Reported)
    × (task_at number made ≡ Some task) × (task.id ≡ result.id) × (wanted_by session task ≡ true)

by_report : (session : ℕ) (made : List Task) (number : JobNumber) (said : Verdict) (now : ℤ) (r : Reply) (result : FibResult) (b : Bool) → is_reported r ≡ b
    → result_by session made (cond b (Some (record { number = number; outcome = reported said; now = now })) None) ≡ Some result → result.failed ≡ None → WasReported session made (Report number said now) r result
by_report session made number said now r result false is told fine = cc
by_report session made number verdict.Programmed now r result true is told fine =
    let came = comes session made (record { number = number; outcome = Programmed; now = now }) result told in
    (number, came.task, ap (λ (x : FibResult). Report number verdict.Programmed x.now) came.is, reported_is r is, came.found, ap (λ (x : FibResult). x.id) came.is, came.wanted)
by_report session made number verdict.DeviceFault now r result true is told fine =
    let came = comes session made (record { number = number; outcome = Faulted; now = now }) result told in
    let no_way : Some 20 ≡ result.failed = ap (λ (x : FibResult). x.failed) came.is in cc

by_command : (session : ℕ) (made : List Task) (command : Command) (r : Reply) (result : FibResult) → result_by session made (update_of (event command r)) ≡ Some result → result.failed ≡ None → WasReported session made command r result
by_command session made (Take worker now) r result told fine = absurd (not_taken session made now result r told fine)
by_command session made (Report number said now) r result told fine = by_report session made number said now r result (is_reported r) refl told fine
by_command session made Begin r result told fine = cc
by_command session made (SetParams x0 x1) r result told fine = cc
by_command session made (Announce x0 x1) r result told fine = cc
by_command session made (Operate x0 x1 x2) r result told fine = cc
by_command session made (Collect x0) r result told fine = cc
by_command session made (Leave x0) r result told fine = cc
by_command session made (Flush x0 x1 x2) r result told fine = cc
by_command session made (Select x0 x1) r result told fine = cc
by_command session made Halt r result told fine = cc

pub programmed_was_reported : ProgrammedWasReported
programmed_was_reported past e session result told fine = by_command session (tasks past) e.command e.reply result told fine
