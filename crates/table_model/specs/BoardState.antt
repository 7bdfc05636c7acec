-- What a board keeps, and the history that it stands for. It keeps no job that is done: no definition of the next job looks at one.
use Rattle.std.specs.Prelude.{◌≡◌, ℕ, Bool, false, ◌&&◌, ◌==◌, List, [], map, filter, find, drop, Option, Some, None, if◌then◌else◌}
use Rattle.aft_entries.specs.declared.entry.Entry.{Entry}
use Rattle.table_model.specs.declared.results.FibResult.{FibResult}
use Rattle.table_model.specs.Event.{Event}
use Rattle.table_model.specs.Jobs.{TrackedTask, tracked_tasks, fib, is_undone}
use Rattle.table_model.specs.Results.{results, taken}
use Rattle.table_model.specs.Sessions.{is_live}

-- the results of a session that it hasn't collected
pub record DueResults : Type 0 where
  pub session : ℕ
  pub results : List FibResult

pub record BoardState : Type 0 where
  -- how many workers there are, from the start on
  pub workers : ℕ
  pub undone : List TrackedTask
  pub fib : List Entry
  pub due : List DueResults
  pub spare : ℕ

abbrev pub results_in : Option DueResults → List FibResult
results_in None = []
results_in (Some row) = row.results

-- the results that are kept for a session: those of its first row, if it has one
unfoldable pub due_for : List DueResults → ℕ → List FibResult
due_for due session = results_in (find (λ row. row.session == session) due)

abbrev pub is_undone_task : TrackedTask → Bool
is_undone_task tracked = is_undone tracked.outcome

unfoldable pub undone_tasks : List Event → List TrackedTask
undone_tasks past = filter is_undone_task (tracked_tasks past)

abbrev pub is_owner_live : List Event → Option ℕ → Bool
is_owner_live past None = false
is_owner_live past (Some owner) = is_live past owner

-- a session that left wants no result any more
unfoldable pub as_wanted : List Event → TrackedTask → TrackedTask
as_wanted past tracked = record {
  task = record {
    job = tracked.task.job;
    id = tracked.task.id;
    owner = tracked.task.owner;
    wants = tracked.task.wants && is_owner_live past tracked.task.owner;
    before = tracked.task.before;
  };
  outcome = tracked.outcome;
}

-- a live session's results that it hasn't collected; those of one that left are discarded
unfoldable pub due_of : List Event → ℕ → List FibResult
due_of past session = if is_live past session then drop (taken past session) (results past session) else []

pub record StandsFor (ledger : BoardState) (past : List Event) : Type 0 where
  pub undone : ledger.undone ≡ map (as_wanted past) (undone_tasks past)
  pub fib : ledger.fib ≡ fib past
  pub due : (session : ℕ) → due_for ledger.due session ≡ due_of past session
