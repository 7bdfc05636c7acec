-- The results that a session collects.
use Rattle.std.specs.Prelude.{ℕ, ◌+◌, ◌-◌, Bool, false, ◌&&◌, ◌==◌, List, [], ◌∷◌, ◌++◌, length, take, drop, count_by, Option, Some, None, option_and_then, option_to_list, if◌then◌else◌}
use Rattle.table_model.specs.declared.command.Command.TheVariants.{Collect}
use Rattle.table_model.specs.declared.results.FibResult.{FibResult}
use Rattle.table_model.specs.declared.reply.Reply.{Reply}
use Rattle.table_model.specs.declared.reply.Reply.TheVariants.{Collected}
use Rattle.table_model.specs.Event.{Event}
use Rattle.table_model.specs.Jobs.{Task, JobUpdate, TrackedTask, Outcome, Faulted, PassedOver, tasks, tracked_tasks, update_of, task_at, is_undone, skip_reason}

-- whose results the session collects
abbrev pub wanted_by : ℕ → Task → Bool
wanted_by session task = task.wants && elim task.owner [ None ↦ false | Some owner ↦ owner == session ]

-- why the job failed, if it did; asked only of jobs that are done
abbrev pub failure : Task → Outcome → Option ℕ
failure task Faulted = Some 20
failure task PassedOver = Some (skip_reason task.job.work)
failure task _ = None

-- the result that an event brings the session. In a lawful history the turn's job is found: it was made before
abbrev pub result_by : ℕ → List Task → Option JobUpdate → Option FibResult
result_by session made None = None
result_by session made (Some turn) =
    if is_undone turn.outcome then None
    else option_and_then
    (λ task. if wanted_by session task then Some (record { id = task.id; failed = failure task turn.outcome; now = turn.now }) else None)
    (task_at turn.number made)

-- in the order of completion
unfoldable pub results : List Event → ℕ → List FibResult
results [] session = []
results (e ∷ past) session = results past session ++ option_to_list (result_by session (tasks past) (update_of e))

abbrev pub batch_length : Reply → ℕ
batch_length (Collected batch outstanding) = length batch
batch_length _ = 0

abbrev pub collected_by : ℕ → Event → ℕ
collected_by session e = elim e.command [
  | Collect asker ↦ if asker == session then batch_length e.reply else 0
  | _ ↦ 0
]

-- how many results the session has collected
unfoldable pub taken : List Event → ℕ → ℕ
taken [] session = 0
taken (e ∷ past) session = taken past session + collected_by session e

-- the first 256 that aren't taken yet
unfoldable pub batch : List Event → ℕ → List FibResult
batch past session = take 256 (drop (taken past session) (results past session))

abbrev pub is_awaited : ℕ → TrackedTask → Bool
is_awaited session tracked = wanted_by session tracked.task && is_undone tracked.outcome

-- how many answers the session waits for or hasn't collected
unfoldable pub owed : List Event → ℕ → ℕ
owed past session = count_by (is_awaited session) (tracked_tasks past) + (length (results past session) - taken past session)

-- how many answers it is owed once it has collected the batch
unfoldable pub outstanding : List Event → ℕ → ℕ
outstanding past session =
    count_by (is_awaited session) (tracked_tasks past) + (length (results past session) - (taken past session + length (batch past session)))
