-- What a result is worth that a Collect handed out.
use Rattle.std.specs.Prelude.{◌≡◌, ℕ, true, List, ◌∷◌, ◌++◌, Some, None}
use Rattle.table_model.specs.declared.command.Command.TheVariants.{Report}
use Rattle.table_model.specs.declared.command.Config.{Config}
use Rattle.table_model.specs.declared.job.JobNumber.{JobNumber}
use Rattle.table_model.specs.declared.job.Verdict.TheVariants.{Programmed}
use Rattle.table_model.specs.declared.reply.Reply.TheVariants.{Reported}
use Rattle.table_model.specs.declared.results.FibResult.{FibResult}
use Rattle.table_model.specs.Event.{Event}
use Rattle.table_model.specs.Jobs.{Task, tasks, task_at, work_key, fib}
use Rattle.table_model.specs.Laws.{event, collected_results, left_by}
use Rattle.table_model.specs.Legal.{IsLawful}
use Rattle.table_model.specs.Results.{wanted_by}
use Rattle.table_model.specs.Table.{lookup}

-- a worker reported, at that moment, that its device programmed a job of the session with that id, which wants its result
pub record WasReported (past : List Event) (session : ℕ) (result : FibResult) : Type 0 where
  pub later : List Event
  pub earlier : List Event
  pub number : JobNumber
  pub task : Task
  pub stands : past ≡ later ++ event (Report number Programmed result.now) Reported ∷ earlier
  pub made : task_at number (tasks earlier) ≡ Some task
  pub same_id : task.id ≡ result.id
  pub wanted : wanted_by session task ≡ true
  -- right after that report the forwarding table has the entry, or no longer the key
  pub there : lookup (work_key task.job.work) (fib (event (Report number Programmed result.now) Reported ∷ earlier)) ≡ left_by task.job.work

-- each result without a failure that Collects handed the session
abbrev pub CollectedWasReported : Config → Type 0
CollectedWasReported config =
    (past : List Event) (session : ℕ) (before after : List FibResult) (result : FibResult)
    → IsLawful config past → collected_results past session ≡ before ++ result ∷ after → result.failed ≡ None → WasReported past session result
