-- How a board keeps its jobs, and the places that were made for what they will need.
use Rattle.std.specs.Prelude.{◌≡◌, ℕ, ◌+◌, ◌≤◌, ◌^◌, Bool, true, not, ◌&&◌, List, [], ◌∷◌, length, Option, Some, None}
use Rattle.std.specs.List.{list_all, sum_by}
use Rattle.table_model.specs.Jobs.{TrackedTask, Outcome, Waiting, Out, number_lt, on_shard, is_waiting, is_blocked}
use Rattle.table_model.specs.BoardState.{DueResults}
use Rattle.fib_board.specs.BoxedWork.{work_in}
use Rattle.fib_board.specs.declared.boxed.BoxedWork.{BoxedWork}

-- a job is out where its worker has the work
abbrev pub outcome_with : Option BoxedWork → Outcome
outcome_with None = Out
outcome_with (Some work) = Waiting

-- the worker is given what the forwarding table will get
abbrev pub IsSame : Option BoxedWork → BoxedWork → Type 0
IsSame None work = Unit {0}
IsSame (Some given) work = work_in given ≡ work_in work

-- the job is the worker's, waits, and has no earlier one to wait for
abbrev pub may_start : ℕ → List TrackedTask → ℕ → TrackedTask → Bool
may_start workers undone worker tracked = on_shard workers worker tracked.task && is_waiting tracked.outcome && not (is_blocked undone tracked.task)

-- the numbers rise
abbrev pub ascends : List TrackedTask → Bool
ascends [] = true
ascends (tracked ∷ rest) = list_all (λ other. number_lt tracked.task.job.number other.task.job.number) rest && ascends rest

-- all results that are due
abbrev pub due_total : List DueResults → ℕ
due_total due = sum_by (λ row. length row.results) due

-- each job that is undone or may be added has its places: its own, an entry's, a row's and a result's
pub record HasRoom (undone : List TrackedTask) (due : List DueResults) (jobs spare job_room rows row_room entries made : ℕ) : Type 0 where
  pub ascending : ascends undone ≡ true
  pub job_places : jobs + spare ≤ job_room
  pub row_places : rows + jobs + spare ≤ row_room
  pub entry_places : jobs + spare ≤ entries
  pub result_places : due_total due + jobs + spare ≤ made
  pub bound : made ≤ 2 ^ 62
