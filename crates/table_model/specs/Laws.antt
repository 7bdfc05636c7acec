-- What acknowledgements and tables are worth, over every lawful history. The part of a lawful history before an event is lawful too:
-- each law holds at each event.
use Rattle.std.specs.Prelude.{◌≡◌, ◌↔◌, ◌⊎◌, ℕ, ℤ, ◌<◌, ◌≤◌, Bool, true, false, not, ◌&&◌, List, [], ◌∷◌, ◌++◌, ◌==◌, take, length, count_by, option_and_then, is_some, if◌then◌else◌, Option, Some, None}
use Rattle.std.specs.List.{list_all, list_any}
use Rattle.aft_entries.specs.declared.entry.Entry.{Entry}
use Rattle.table_model.specs.declared.command.Command.{Command}
use Rattle.table_model.specs.declared.command.Command.TheVariants.{Operate, Collect, Report, Leave, Flush, Announce}
use Rattle.table_model.specs.declared.command.Config.{Config}
use Rattle.table_model.specs.declared.command.Operation.{Operation}
use Rattle.table_model.specs.declared.job.JobNumber.{JobNumber}
use Rattle.table_model.specs.declared.job.Verdict.TheVariants.{Programmed, DeviceFault}
use Rattle.table_model.specs.declared.job.Work.{Work}
use Rattle.table_model.specs.declared.job.Work.TheVariants.{Install, Remove}
use Rattle.table_model.specs.declared.reply.Reply.{Reply}
use Rattle.table_model.specs.declared.reply.Reply.TheVariants as reply
use Rattle.table_model.specs.declared.results.FibResult.{FibResult}
use Rattle.table_model.specs.Event.{Event, is_flushed}
use Rattle.table_model.specs.Election.{is_primary, primary, highest}
use Rattle.table_model.specs.Jobs.{Task, JobUpdate, TrackedTask, tasks, tracked_tasks, fib, work_key, work_of, update_of, task_at, number_eq, number_lt, is_undone, is_out, is_waiting, is_programmed, effect, conflict}
use Rattle.table_model.specs.Legal.{IsLawful}
use Rattle.table_model.specs.Results.{wanted_by, result_by, is_awaited, owed, taken, results}
use Rattle.table_model.specs.Rib.{rib, verdict}
use Rattle.table_model.specs.Reply.{reply_to, is_halted, may_flush}
use Rattle.table_model.specs.Sessions.{is_live, params_of, deletes}
use Rattle.table_model.specs.Table.{lookup, resolves, is_shallow, in_order}

abbrev pub event : Command → Reply → Event
event command answered = record { command = command; reply = answered }

-- The table.

-- each entry's references are in the table
abbrev pub is_closed : List Entry → Bool
is_closed table = list_all (resolves table) table

abbrev pub RibIsClosed : Config → Type 0
RibIsClosed config = (past : List Event) → IsLawful config past → is_closed (rib past) ≡ true

-- the entries stand in the order of their keys, each key once
abbrev pub RibIsInOrder : Config → Type 0
RibIsInOrder config = (past : List Event) → IsLawful config past → in_order (rib past) ≡ true

-- no chain of backups comes back to a group of it or has more than four groups
abbrev pub ChainsAreShort : Config → Type 0
ChainsAreShort config = (past : List Event) → IsLawful config past → is_shallow (rib past) ≡ true

-- what may change the table: an operation of the then primary under the highest id, a Flush that is allowed, or the end of the primary's session
-- where the whole table goes with it
abbrev pub MayChange : List Event → Event → Type 0
MayChange past e = elim e.command [
  | Operate session operation now ↦ (e.reply ≡ reply.RibDone) × (is_primary past session ≡ true) × (operation.election ≡ Some (highest past))
  | Flush by which now ↦ (is_flushed e.reply ≡ true) × (may_flush past by ≡ true)
  | Leave session ↦ (e.reply ≡ reply.Left) × (is_primary past session ≡ true) × (deletes (params_of past session) ≡ true)
  | _ ↦ ⊥
]

-- nothing else changes it
abbrev pub RibChangesByThese : Config → Type 0
RibChangesByThese config = (past : List Event) (e : Event) → IsLawful config (e ∷ past) → (rib (e ∷ past) ≡ rib past) ⊎ MayChange past e

-- The election.

-- the highest id never falls
abbrev pub HighestNeverFalls : Type 0
HighestNeverFalls = (past : List Event) (e : Event) → highest past ≤ highest (e ∷ past)

-- right after it, who announced an id that is at least the highest is the primary: among equal ids the latest announcer
abbrev pub LatestIsPrimary : Config → Type 0
LatestIsPrimary config =
    (past : List Event) (session id told : ℕ) → IsLawful config (event (Announce session id) (reply.Announced told) ∷ past)
    → highest past ≤ id
    → (told ≡ id) × (primary (event (Announce session id) (reply.Announced told) ∷ past) ≡ Some session)

-- right after it, who announced a lower id isn't the primary, also if it was
abbrev pub LowerIsNotPrimary : Config → Type 0
LowerIsNotPrimary config =
    (past : List Event) (session id told : ℕ) → IsLawful config (event (Announce session id) (reply.Announced told) ∷ past)
    → id < highest past
    → is_primary (event (Announce session id) (reply.Announced told) ∷ past) session ≡ false

-- Acknowledgements.

-- what a work leaves at its key
abbrev pub left_by : Work → Option Entry
left_by (Install entry) = Some entry
left_by (Remove key) = None

-- an operation is acknowledged exactly where it is due: before any Halt, of a live session with parameters, without a reason against it
abbrev pub DoneWhereDue : Config → Type 0
DoneWhereDue config =
    (past : List Event) (session : ℕ) (operation : Operation) (now : ℤ)
    → (reply_to config past (Operate session operation now) ≡ reply.RibDone)
    ↔ ((is_halted past ≡ false) × (is_live past session ≡ true) × (is_some (params_of past session) ≡ true) × (verdict config past session operation ≡ None))

-- right after that, its entry stands in the table, or its key doesn't
abbrev pub DoneIsThere : Config → Type 0
DoneIsThere config =
    (past : List Event) (session : ℕ) (operation : Operation) (now : ℤ) (work : Work)
    → IsLawful config (event (Operate session operation now) reply.RibDone ∷ past) → work_of operation.ask ≡ Some work
    → lookup (work_key work) (rib (event (Operate session operation now) reply.RibDone ∷ past)) ≡ left_by work

-- Jobs.

-- each job's number is above those before it
abbrev pub is_ascending : List Task → Bool
is_ascending [] = true
is_ascending (task ∷ rest) = list_all (λ later. number_lt task.job.number later.job.number) rest && is_ascending rest

abbrev pub JobsAscend : Type 0
JobsAscend = (past : List Event) → is_ascending (tasks past) ≡ true

-- no two jobs in conflict are out
abbrev pub OutAreApart : Config → Type 0
OutAreApart config =
    (past : List Event) → IsLawful config past → (before middle after : List TrackedTask) (a b : TrackedTask)
    → tracked_tasks past ≡ before ++ a ∷ middle ++ b ∷ after
    → is_out a.outcome ≡ true → is_out b.outcome ≡ true → conflict a.task b.task ≡ false

-- jobs in conflict are done in the order of their numbers: where the later one is out or done, the earlier one is done
abbrev pub ConflictsInOrder : Config → Type 0
ConflictsInOrder config =
    (past : List Event) → IsLawful config past → (before middle after : List TrackedTask) (a b : TrackedTask)
    → tracked_tasks past ≡ before ++ a ∷ middle ++ b ∷ after
    → conflict a.task b.task ≡ true → is_waiting b.outcome ≡ false → is_undone a.outcome ≡ false

abbrev pub completes : JobNumber → Option JobUpdate → Bool
completes number None = false
completes number (Some turn) = number_eq turn.number number && not (is_undone turn.outcome)

-- no job is completed twice
abbrev pub CompletesOnce : Config → Type 0
CompletesOnce config =
    (past : List Event) → IsLawful config past → (number : JobNumber) → count_by (λ e. completes number (update_of e)) past ≤ 1

-- The forwarding table.

-- the job that an event says is programmed; in a lawful history it is found
abbrev pub programmed_by : List Event → Event → Option Task
programmed_by past e =
    option_and_then
    (λ turn. if is_programmed turn.outcome then task_at turn.number (tasks past) else None)
    (update_of e)

abbrev pub effect_of : Option Task → List Entry → List Entry
effect_of None table = table
effect_of (Some task) table = effect table task.job.work

-- the forwarding table as reports change it, in the order in which they come
unfoldable pub fib_by_reports : List Event → List Entry
fib_by_reports [] = []
fib_by_reports (e ∷ past) = effect_of (programmed_by past e) (fib_by_reports past)

-- it is the one that the jobs leave in the order of their numbers
abbrev pub ReportsGiveFib : Config → Type 0
ReportsGiveFib config = (past : List Event) → IsLawful config past → fib_by_reports past ≡ fib past

-- each entry's references are in the forwarding table too
abbrev pub FibIsClosed : Config → Type 0
FibIsClosed config = (past : List Event) → IsLawful config past → is_closed (fib past) ≡ true

-- right after the report that a job is programmed, the forwarding table has its entry, or no longer its key
abbrev pub ProgrammedIsThere : Config → Type 0
ProgrammedIsThere config =
    (past : List Event) (number : JobNumber) (now : ℤ) (task : Task)
    → IsLawful config (event (Report number Programmed now) reply.Reported ∷ past)
    → task_at number (tasks past) ≡ Some task
    → lookup (work_key task.job.work) (fib (event (Report number Programmed now) reply.Reported ∷ past)) ≡ left_by task.job.work

abbrev pub is_fault : Command → Bool
is_fault (Report number DeviceFault now) = true
is_fault _ = false

abbrev pub is_skip : Reply → Bool
is_skip (reply.Skipped number) = true
is_skip _ = false

-- where no device fails, no job is skipped, and where no job is undone the tables are the same
abbrev pub FibIsRibWithoutFaults : Config → Type 0
FibIsRibWithoutFaults config =
    (past : List Event) → IsLawful config past → list_any (λ e. is_fault e.command) past ≡ false
    → (list_any (λ e. is_skip e.reply) past ≡ false) × (list_any (λ tracked. is_undone tracked.outcome) (tracked_tasks past) ≡ false → fib past ≡ rib past)

-- Results.

-- a result without a failure comes of a Report that said programmed, of a job of the session that wants one
abbrev pub ProgrammedWasReported : Type 0
ProgrammedWasReported =
    (past : List Event) (e : Event) (session : ℕ) (result : FibResult)
    → result_by session (tasks past) (update_of e) ≡ Some result → result.failed ≡ None
    → (number : JobNumber) × (task : Task) × (e.command ≡ Report number Programmed result.now) × (e.reply ≡ reply.Reported)
    × (task_at number (tasks past) ≡ Some task) × (task.id ≡ result.id) × (wanted_by session task ≡ true)

abbrev pub batch_in : Reply → List FibResult
batch_in (reply.Collected given outstanding) = given
batch_in _ = []

abbrev pub results_collected_by : ℕ → Event → List FibResult
results_collected_by session e = elim e.command [
  | Collect asker ↦ if asker == session then batch_in e.reply else []
  | _ ↦ []
]

-- all results that the session's Collects answered, in order
unfoldable pub collected_results : List Event → ℕ → List FibResult
collected_results [] session = []
collected_results (e ∷ past) session = collected_results past session ++ results_collected_by session e

-- what Collects answer are the first of the session's results, each once
abbrev pub AnsweredOnce : Config → Type 0
AnsweredOnce config =
    (past : List Event) (session : ℕ) → IsLawful config past → collected_results past session ≡ take (taken past session) (results past session)

-- what a Collect answers as outstanding is what the session is owed right after it
abbrev pub OutstandingIsOwed : Config → Type 0
OutstandingIsOwed config =
    (past : List Event) (session left : ℕ) (given : List FibResult)
    → IsLawful config (event (Collect session) (reply.Collected given left) ∷ past)
    → left ≡ owed (event (Collect session) (reply.Collected given left) ∷ past) session

-- where a Collect answers that nothing is outstanding, no job is awaited, each result was answered, and each job that wants one has one
abbrev pub AllAnswered : Config → Type 0
AllAnswered config =
    (past : List Event) (session : ℕ) (given : List FibResult)
    → IsLawful config (event (Collect session) (reply.Collected given 0) ∷ past)
    → (list_any (is_awaited session) (tracked_tasks past) ≡ false)
    × (collected_results past session ++ given ≡ results past session) × (length (results past session) ≡ count_by (wanted_by session) (tasks past))
