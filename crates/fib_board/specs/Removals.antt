-- Jobs that remove entries which left the table with no operation of a session.
use Rattle.std.specs.Prelude.{ℕ, ◌+◌, false, List, length, map, Some, None}
use Rattle.std.specs.List.{sum_by}
use Rattle.aft_entries.specs.declared.entry.Entry.{Entry}
use Rattle.aft_entries.specs.References.{refs_of}
use Rattle.table_model.specs.declared.job.JobNumber.{JobNumber}
use Rattle.table_model.specs.declared.job.NewJob.{NewJob}
use Rattle.table_model.specs.declared.job.Work.TheVariants.{Remove}
use Rattle.table_model.specs.Jobs.{TrackedTask, Waiting, purge_tasks, purge_order}

-- it is no session's, and brings no result
abbrev pub removal : JobNumber → Entry → NewJob
removal number entry = record {
  job = record { number = number; work = Remove entry.key };
  id = 0;
  owner = None;
  wants = false;
  displaced = Some entry;
  copy = None;
}

-- what the removal of an entry costs a board: one for the job, and one for each reference
abbrev pub removal_cost : Entry → ℕ
removal_cost entry = 1 + length (refs_of entry)

abbrev pub removal_costs : List Entry → ℕ
removal_costs entries = sum_by removal_cost entries

-- the jobs that remove these entries of the table, as they wait: what refers before what it refers to
abbrev pub removal_tasks : ℕ → List Entry → List Entry → List TrackedTask
removal_tasks position table gone = map (λ task. record { task = task; outcome = Waiting }) (purge_tasks position 0 (purge_order table gone))
