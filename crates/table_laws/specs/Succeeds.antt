-- Results where no device failed, and a worker that alone serves all keys.
use Rattle.std.specs.Prelude.{◌≡◌, ℕ, true, false, List, None, is_none}
use Rattle.std.specs.List.{list_all, list_any}
use Rattle.table_model.specs.declared.command.Config.{Config}
use Rattle.table_model.specs.declared.results.FibResult.{FibResult}
use Rattle.table_model.specs.Event.{Event}
use Rattle.table_model.specs.Jobs.{tracked_tasks, next_task, is_out, is_undone}
use Rattle.table_model.specs.Laws.{is_fault}
use Rattle.table_model.specs.Legal.{IsLawful}
use Rattle.table_model.specs.Results.{results}

-- where no device fails no result has a failure
abbrev pub SucceedsWithoutFaults : Config → Type 0
SucceedsWithoutFaults config =
    (past : List Event) (session : ℕ) → IsLawful config past → list_any (λ e. is_fault e.command) past ≡ false
    → list_all (λ (r : FibResult). is_none r.failed) (results past session) ≡ true

-- where one worker has no next job and no job is out, no job is undone
abbrev pub IdleIsDone : Config → Type 0
IdleIsDone config =
    (past : List Event) → config.workers ≡ 1 → list_any (λ tracked. is_out tracked.outcome) (tracked_tasks past) ≡ false
    → next_task config.workers (tracked_tasks past) 0 ≡ None → list_any (λ tracked. is_undone tracked.outcome) (tracked_tasks past) ≡ false
