-- What each call of a board does to the undone jobs, the forwarding table and the results that are due.
use Rattle.std.specs.Prelude.{ℕ, ℤ, ◌+◌, Bool, not, ◌&&◌, ◌==◌, List, [], ◌∷◌, length, map, filter, find, drop, Option, Some, None, if◌then◌else◌}
use Rattle.aft_entries.specs.declared.entry.Entry.{Entry}
use Rattle.table_model.specs.declared.job.JobNumber.{JobNumber}
use Rattle.table_model.specs.declared.job.NewJob.{NewJob}
use Rattle.table_model.specs.declared.job.Verdict.{Verdict}
use Rattle.table_model.specs.declared.job.Verdict.TheVariants as verdict
use Rattle.table_model.specs.declared.job.Work.{Work}
use Rattle.table_model.specs.declared.results.FibResult.{FibResult}
use Rattle.table_model.specs.Jobs.{Task, TrackedTask, Outcome, Waiting, Out, PassedOver, is_out, is_skipped, number_eq, number_lt, effect, refs_before, reported, work_refs}
use Rattle.table_model.specs.Results.{wanted_by, failure}
use Rattle.fib_board.specs.declared.board.Given.{Given}
use Rattle.fib_board.specs.declared.board.Given.TheVariants as given

-- one for the job, and one for each key that it touches beside its own
abbrev pub cost : NewJob → ℕ
cost made = 1 + length (work_refs made.job.work) + length (refs_before made.displaced)

-- the job as it waits
abbrev pub waiting : NewJob → TrackedTask
waiting made = record {
  task = record { job = made.job; id = made.id; owner = made.owner; wants = made.wants; before = refs_before made.displaced };
  outcome = Waiting;
}

abbrev pub is_before : JobNumber → TrackedTask → Bool
is_before number tracked = number_lt tracked.task.job.number number

abbrev pub has_number : JobNumber → TrackedTask → Bool
has_number number tracked = number_eq tracked.task.job.number number

-- the job is done
abbrev pub without : JobNumber → List TrackedTask → List TrackedTask
without number undone = filter (λ tracked. not (has_number number tracked)) undone

-- the job goes out, if it is this one
abbrev pub sent : JobNumber → TrackedTask → TrackedTask
sent number tracked = if has_number number tracked then record { task = tracked.task; outcome = Out } else tracked

-- the results that a job brings the session that ends so
abbrev pub results_with : ℕ → Task → Option ℕ → ℤ → List FibResult
results_with session task failed now = if wanted_by session task then record { id = task.id; failed = failed; now = now } ∷ [] else []

abbrev pub results_of : ℕ → Task → Outcome → ℤ → List FibResult
results_of session task outcome now = results_with session task (failure task outcome) now

-- A worker takes the job that was found for it: its answer, the undone jobs, and what becomes due to the session

abbrev pub given_for : List Entry → Option TrackedTask → Given
given_for table None = given.Idle
given_for table (Some tracked) =
    if is_skipped table tracked.task.job.work then given.Skipped tracked.task.job.number else given.Work tracked.task.job

abbrev pub undone_after_take : List Entry → List TrackedTask → Option TrackedTask → List TrackedTask
undone_after_take table undone None = undone
undone_after_take table undone (Some tracked) =
    if is_skipped table tracked.task.job.work then without tracked.task.job.number undone else map (sent tracked.task.job.number) undone

abbrev pub skipped_results : ℕ → List Entry → ℤ → Option TrackedTask → List FibResult
skipped_results session table now None = []
skipped_results session table now (Some tracked) =
    if is_skipped table tracked.task.job.work then results_of session tracked.task PassedOver now else []

-- A report is of the job with its number that is out, if there is one: the undone jobs, the forwarding table, and what becomes due

abbrev pub is_out_as : JobNumber → TrackedTask → Bool
is_out_as number tracked = has_number number tracked && is_out tracked.outcome

abbrev pub out_task : JobNumber → List TrackedTask → Option TrackedTask
out_task number undone = find (is_out_as number) undone

abbrev pub undone_after_report : List TrackedTask → Option TrackedTask → List TrackedTask
undone_after_report undone None = undone
undone_after_report undone (Some tracked) = without tracked.task.job.number undone

abbrev pub fib_by : Verdict → List Entry → Work → List Entry
fib_by verdict.Programmed table work = effect table work
fib_by verdict.DeviceFault table work = table

abbrev pub fib_after_report : Verdict → List Entry → Option TrackedTask → List Entry
fib_after_report said table None = table
fib_after_report said table (Some tracked) = fib_by said table tracked.task.job.work

abbrev pub reported_results : ℕ → Verdict → ℤ → Option TrackedTask → List FibResult
reported_results session said now None = []
reported_results session said now (Some tracked) = results_of session tracked.task (reported said) now

-- The session collects, and what is due to it or to another falls by the batch

abbrev pub due_after_collect : ℕ → ℕ → List FibResult → List FibResult
due_after_collect session other due = if session == other then drop 256 due else due

-- The session is forgotten: nothing is due to it, and it wants no result any more

abbrev pub due_after_forget : ℕ → ℕ → List FibResult → List FibResult
due_after_forget session other due = if session == other then [] else due

abbrev pub unwanted : ℕ → TrackedTask → TrackedTask
unwanted session tracked = record {
  task = record {
    job = tracked.task.job;
    id = tracked.task.id;
    owner = tracked.task.owner;
    wants = tracked.task.wants && not (wanted_by session tracked.task);
    before = tracked.task.before;
  };
  outcome = tracked.outcome;
}
