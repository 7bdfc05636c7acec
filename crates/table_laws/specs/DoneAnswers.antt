-- Whose results a session's results are.
use Rattle.std.specs.Prelude.{ℕ, not, ◌&&◌, List, map, filter, Option, IsPermutation}
use Rattle.table_model.specs.declared.command.Config.{Config}
use Rattle.table_model.specs.declared.results.FibResult.{FibResult}
use Rattle.table_model.specs.Event.{Event}
use Rattle.table_model.specs.Jobs.{TrackedTask, tracked_tasks, is_undone}
use Rattle.table_model.specs.Legal.{IsLawful}
use Rattle.table_model.specs.Results.{wanted_by, failure, results}

-- the id of a job's operation, and why the job failed, if it did
abbrev pub answer_to : TrackedTask → ℕ × Option ℕ
answer_to tracked = (tracked.task.id, failure tracked.task tracked.outcome)

abbrev pub answer_in : FibResult → ℕ × Option ℕ
answer_in result = (result.id, result.failed)

-- of each job that is done and whose result the session wants, once, in the order of the jobs' numbers
abbrev pub done_answers : List Event → ℕ → List (ℕ × Option ℕ)
done_answers past session = map answer_to (filter (λ tracked. wanted_by session tracked.task && not (is_undone tracked.outcome)) (tracked_tasks past))

-- a session's results are those of its jobs that are done, each once: they differ in their order alone
abbrev pub ResultsAreOfDoneJobs : Config → Type 0
ResultsAreOfDoneJobs config =
    (past : List Event) (session : ℕ) → IsLawful config past → IsPermutation (done_answers past session) (map answer_in (results past session))
