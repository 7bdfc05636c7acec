-- The forwarding table while jobs are out.
use Rattle.std.specs.Prelude.{◌≡◌, Bool, true, ◌&&◌, List, map, filter, fold, IsPermutation}
use Rattle.table_model.specs.declared.command.Config.{Config}
use Rattle.table_model.specs.Event.{Event}
use Rattle.table_model.specs.Jobs.{Task, TrackedTask, tracked_tasks, is_out, effect, fib}
use Rattle.table_model.specs.Laws.{is_closed}
use Rattle.table_model.specs.Legal.{IsLawful}

-- the jobs that are out and that their devices have done already
abbrev pub out_and_done : (Task → Bool) → List Event → List TrackedTask
out_and_done done past = filter (λ tracked. is_out tracked.outcome && done tracked.task) (tracked_tasks past)

-- whichever of the jobs that are out the devices have done already, and in whatever order, each entry's references are in what they hold
abbrev pub InFlightIsClosed : Config → Type 0
InFlightIsClosed config =
    (past : List Event) → IsLawful config past → (done : Task → Bool) (order : List TrackedTask) → IsPermutation (out_and_done done past) order
    → is_closed (fold effect (fib past) (map (λ tracked. tracked.task.job.work) order)) ≡ true
