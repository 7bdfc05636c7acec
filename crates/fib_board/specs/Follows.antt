-- A board follows the history: what each call leaves stands for the history with the call's event.
use Rattle.std.specs.Prelude.{◌≡◌, ℕ, ℤ, Bool, true, false, length, None, List, [], ◌∷◌, ◌++◌, map}
use Rattle.std.specs.List.{list_all}
use Rattle.aft_entries.specs.declared.entry.Entry.{Entry}
use Rattle.table_model.specs.declared.command.Command.TheVariants.{Operate, Collect, Leave, Flush, Take, Report}
use Rattle.table_model.specs.declared.command.Config.{Config}
use Rattle.table_model.specs.declared.command.FlushBy.{FlushBy}
use Rattle.table_model.specs.declared.command.Operation.{Operation}
use Rattle.table_model.specs.declared.command.Which.{Which}
use Rattle.table_model.specs.declared.job.JobNumber.{JobNumber}
use Rattle.table_model.specs.declared.job.NewJob.{NewJob}
use Rattle.table_model.specs.declared.job.Verdict.{Verdict}
use Rattle.table_model.specs.declared.reply.Reply.{Reply}
use Rattle.table_model.specs.declared.reply.Reply.TheVariants.{Collected, Flushed, Left, RibDone}
use Rattle.table_model.specs.declared.results.FibResult.{FibResult}
use Rattle.table_model.specs.Event.{Event, is_left}
use Rattle.table_model.specs.Jobs.{TrackedTask, Waiting, next_task, operate_tasks, tasks_by, update_of}
use Rattle.table_model.specs.Laws.{event}
use Rattle.table_model.specs.BoardState.{BoardState, StandsFor, due_for}
use Rattle.table_model.specs.Legal.{IsLawful}
use Rattle.table_model.specs.Results.{collected_by}
use Rattle.table_model.specs.Rib.{purges}
use Rattle.fib_board.specs.Steps.{is_before, waiting, undone_after_take, skipped_results, out_task, undone_after_report, fib_after_report, reported_results, due_after_collect, due_after_forget, unwanted}

-- what is left, but for the spare places: the number of workers, the undone jobs, the forwarding table, and what is due to each session
pub record BoardStateIs (after : BoardState) (count : ℕ) (jobs : List TrackedTask) (table : List Entry) (left_due : ℕ → List FibResult) : Type 0 where
  pub workers : after.workers ≡ count
  pub undone : after.undone ≡ jobs
  pub fib : after.fib ≡ table
  pub due : (session : ℕ) → due_for after.due session ≡ left_due session

abbrev pub AfterAdd : NewJob → BoardState → BoardState → Type 0
AfterAdd made before after = BoardStateIs after before.workers (before.undone ++ waiting made ∷ []) before.fib (due_for before.due)

abbrev pub AfterTake : ℕ → ℤ → BoardState → BoardState → Type 0
AfterTake worker now before after =
    BoardStateIs after before.workers (undone_after_take before.fib before.undone (next_task before.workers before.undone worker)) before.fib
    (λ session. due_for before.due session ++ skipped_results session before.fib now (next_task before.workers before.undone worker))

abbrev pub AfterReport : JobNumber → Verdict → ℤ → BoardState → BoardState → Type 0
AfterReport number said now before after =
    BoardStateIs after before.workers (undone_after_report before.undone (out_task number before.undone))
    (fib_after_report said before.fib (out_task number before.undone))
    (λ session. due_for before.due session ++ reported_results session said now (out_task number before.undone))

abbrev pub AfterCollect : ℕ → BoardState → BoardState → Type 0
AfterCollect session before after =
    BoardStateIs after before.workers before.undone before.fib (λ other. due_after_collect session other (due_for before.due other))

abbrev pub AfterForget : ℕ → BoardState → BoardState → Type 0
AfterForget session before after =
    BoardStateIs after before.workers (map (unwanted session) before.undone) before.fib
    (λ other. due_after_forget session other (due_for before.due other))

-- an empty board stands for no events
abbrev pub EmptyStands : Type 0
EmptyStands = (ledger : BoardState) → BoardStateIs ledger ledger.workers [] [] (λ session. []) → StandsFor ledger []

-- the jobs of the event to come are later than those that are undone
abbrev pub JobsAreOlder : Type 0
JobsAreOlder =
    (past : List Event) (ledger : BoardState) (index : ℕ) → StandsFor ledger past
    → list_all (is_before (record { position = length past; index = index })) ledger.undone ≡ true

-- the job of an operation that is accepted is added
abbrev pub AddsFollow : Config → Type 0
AddsFollow config =
    (past : List Event) (before after : BoardState) (session : ℕ) (operation : Operation) (now : ℤ) (made : NewJob)
    → IsLawful config (event (Operate session operation now) RibDone ∷ past)
    → operate_tasks past (Operate session operation now) ≡ (waiting made).task ∷ []
    → StandsFor before past → AfterAdd made before after → StandsFor after (event (Operate session operation now) RibDone ∷ past)

abbrev pub TakesFollow : Config → Type 0
TakesFollow config =
    (past : List Event) (before after : BoardState) (worker : ℕ) (now : ℤ) (answer : Reply)
    → IsLawful config (event (Take worker now) answer ∷ past)
    → before.workers ≡ config.workers → StandsFor before past → AfterTake worker now before after → StandsFor after (event (Take worker now) answer ∷ past)

abbrev pub ReportsFollow : Config → Type 0
ReportsFollow config =
    (past : List Event) (before after : BoardState) (number : JobNumber) (said : Verdict) (now : ℤ) (answer : Reply)
    → IsLawful config (event (Report number said now) answer ∷ past)
    → StandsFor before past → AfterReport number said now before after → StandsFor after (event (Report number said now) answer ∷ past)

abbrev pub CollectsFollow : Config → Type 0
CollectsFollow config =
    (past : List Event) (before after : BoardState) (session outstanding : ℕ) (given : List FibResult)
    → IsLawful config (event (Collect session) (Collected given outstanding) ∷ past)
    → StandsFor before past → AfterCollect session before after → StandsFor after (event (Collect session) (Collected given outstanding) ∷ past)

-- the jobs that an event makes, as they wait
abbrev pub made_by : Event → List Event → List TrackedTask
made_by e past = map (λ task. record { task = task; outcome = Waiting }) (tasks_by e past)

-- the jobs that remove what a flush takes away are added
abbrev pub FlushesFollow : Config → Type 0
FlushesFollow config =
    (past : List Event) (before after : BoardState) (by : FlushBy) (which : Which) (now : ℤ) (remain : Bool)
    → IsLawful config (event (Flush by which now) (Flushed remain) ∷ past)
    → StandsFor before past
    → BoardStateIs after before.workers (before.undone ++ made_by (event (Flush by which now) (Flushed remain)) past) before.fib (due_for before.due)
    → StandsFor after (event (Flush by which now) (Flushed remain) ∷ past)

-- a session is forgotten, and the jobs that remove what goes with it are added
abbrev pub LeavesFollow : Config → Type 0
LeavesFollow config =
    (past : List Event) (before after : BoardState) (session : ℕ)
    → IsLawful config (event (Leave session) Left ∷ past)
    → StandsFor before past
    → BoardStateIs after before.workers (map (unwanted session) before.undone ++ made_by (event (Leave session) Left) past) before.fib
    (λ other. due_after_forget session other (due_for before.due other))
    → StandsFor after (event (Leave session) Left ∷ past)

-- no entry goes with it
abbrev pub ForgetsFollow : Config → Type 0
ForgetsFollow config =
    (past : List Event) (before after : BoardState) (session : ℕ)
    → IsLawful config (event (Leave session) Left ∷ past) → purges past session ≡ false
    → StandsFor before past → AfterForget session before after → StandsFor after (event (Leave session) Left ∷ past)

-- an event that is about no job, makes none, ends no session and hands out no result: what stood for the history still does
abbrev pub QuietFollows : Config → Type 0
QuietFollows config =
    (past : List Event) (ledger : BoardState) (e : Event)
    → IsLawful config (e ∷ past) → update_of e ≡ None → tasks_by e past ≡ [] → is_left e.reply ≡ false → ((session : ℕ) → collected_by session e ≡ 0)
    → StandsFor ledger past → StandsFor ledger (e ∷ past)
