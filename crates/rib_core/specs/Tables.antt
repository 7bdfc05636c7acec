-- The table of entries and the board, and what an operation leaves of them.
use Rattle.std.specs.Prelude.{◌≡◌, ℕ, ◌+◌, ◌<◌, ◌≤◌, ◌^◌, Bool, true, false, List, [], ◌++◌, length, map, Option, Some}
use Rattle.std.specs.List.{list_all}
use Rattle.aft_entries.specs.declared.entry.Entry.{Entry}
use Rattle.aft_entries.specs.declared.operation.Ask.{Ask}
use Rattle.aft_entries.specs.declared.operation.Ask.TheVariants as ask
use Rattle.aft_store.specs.StoreState.{StoreState}
use Rattle.fib_board.specs.Follows.{BoardStateIs, AfterAdd, AfterForget}
use Rattle.fib_board.specs.Steps.{is_before, due_after_forget, unwanted}
use Rattle.table_model.specs.declared.job.NewJob.{NewJob}
use Rattle.table_model.specs.declared.job.Work.{Work}
use Rattle.table_model.specs.declared.job.Work.TheVariants.{Install, Remove}
use Rattle.table_model.specs.declared.command.Which.{Which}
use Rattle.table_model.specs.declared.results.FibResult.{FibResult}
use Rattle.table_model.specs.BoardState.{BoardState, due_for}
use Rattle.table_model.specs.Jobs.{TrackedTask, effect, work_key, removed}
use Rattle.table_model.specs.Laws.{left_by}
use Rattle.table_model.specs.Table.{lookup, kept}
use Rattle.rib_core.specs.declared.tables.Origin.{Origin}
use Rattle.fib_board.specs.Removals.{removal_costs, removal_tasks}

-- the numbers: what the removals of all entries cost at most, and for how many entries a Flush has marks and a purge has room
pub record TablesState : Type 0 where
  pub table : StoreState
  pub board : BoardState
  pub count : ℕ
  pub owed : ℕ
  pub marks : ℕ
  pub room : ℕ

-- all that the present entries will need is there, and the jobs are of the events before
pub record IsProvided (t : TablesState) : Type 0 where
  pub sum : removal_costs t.table.entries ≤ t.owed
  pub places : t.owed ≤ t.board.spare
  pub marks : length t.table.entries ≤ t.marks
  pub room : length t.table.entries ≤ t.room
  pub older : list_all (is_before (record { position = t.count; index = 0 })) t.board.undone ≡ true

-- nothing but numbers of places differs
pub record IsSame (old new : TablesState) : Type 0 where
  pub entries : new.table.entries ≡ old.table.entries
  pub workers : new.board.workers ≡ old.board.workers
  pub undone : new.board.undone ≡ old.board.undone
  pub fib : new.board.fib ≡ old.board.fib
  pub due : new.board.due ≡ old.board.due
  pub count : new.count ≡ old.count

-- the job of an operation
abbrev pub made_with : ℕ → Origin → Work → Option Entry → NewJob
made_with count origin work displaced = record {
  job = record { number = record { position = count; index = 0 }; work = work };
  id = origin.id;
  owner = Some origin.session;
  wants = origin.wants;
  displaced = displaced;
  copy = left_by work;
}

-- the work is done in the table, and its job waits on the board
pub record IsDone (origin : Origin) (work : Work) (table : List Entry) (board : BoardState) (count : ℕ)
    (table_after : List Entry) (board_after : BoardState) (count_after : ℕ) : Type 0 where
  pub entries : table_after ≡ effect table work
  pub added : AfterAdd (made_with count origin work (lookup (work_key work) table)) board board_after
  pub counted : count_after ≡ count + 1

-- a bad operation is never done
abbrev pub IsAskDone : Origin → Ask → List Entry → BoardState → ℕ → List Entry → BoardState → ℕ → Type 0
IsAskDone origin (ask.Put entry replace) = IsDone origin (Install entry)
IsAskDone origin (ask.Remove key) = IsDone origin (Remove key)
IsAskDone origin (ask.Bad reason) = λ table board count table_after board_after count_after. Unit {0}

abbrev pub Performs : Origin → Work → TablesState → TablesState → Type 0
Performs origin work old new = IsDone origin work old.table.entries old.board old.count new.table.entries new.board new.count

abbrev pub PerformsAsk : Origin → Ask → TablesState → TablesState → Type 0
PerformsAsk origin asked old new = IsAskDone origin asked old.table.entries old.board old.count new.table.entries new.board new.count

-- room for one more entry whose removal costs so much, and for the job that puts it
pub record HasRoomFor (cost : ℕ) (t : TablesState) : Type 0 where
  pub fits : t.owed + cost + cost < 2 ^ 64
  pub places : t.owed + cost + cost ≤ t.board.spare
  pub table : 0 < t.table.spare
  pub marks : length t.table.entries + 1 ≤ t.marks
  pub room : length t.table.entries + 1 ≤ t.room

-- these entries stay, and jobs that remove the others wait behind those of the board; so much is due then
pub record IsPurged (jobs : List TrackedTask) (left_due : ℕ → List FibResult) (stays table : List Entry) (board : BoardState) (count : ℕ)
    (table_after : List Entry) (board_after : BoardState) (count_after : ℕ) : Type 0 where
  pub entries : table_after ≡ stays
  pub purged : BoardStateIs board_after board.workers (jobs ++ removal_tasks count table (removed table stays)) board.fib left_due
  pub counted : count_after ≡ count + 1

-- a session left
abbrev pub IsLeft : Bool → ℕ → List Entry → BoardState → ℕ → List Entry → BoardState → ℕ → Type 0
IsLeft true session table board =
    IsPurged (map (unwanted session) board.undone) (λ other. due_after_forget session other (due_for board.due other)) [] table board
IsLeft false session table board = λ count table_after board_after count_after.
    (table_after ≡ table) × AfterForget session board board_after × (count_after ≡ count + 1)

abbrev pub Leaves : Bool → ℕ → TablesState → TablesState → Type 0
Leaves purges session old new = IsLeft purges session old.table.entries old.board old.count new.table.entries new.board new.count

abbrev pub Flushes : Which → TablesState → TablesState → Type 0
Flushes which old new =
    IsPurged old.board.undone (due_for old.board.due) (kept old.table.entries which) old.table.entries old.board old.count new.table.entries new.board new.count
