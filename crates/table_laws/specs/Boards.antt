-- What a board tells that stands for a history.
use Rattle.std.specs.Prelude.{◌≡◌, ℕ, ◌+◌, ◌&&◌, true, List, length, take, drop, count_by, option_map}
use Rattle.std.specs.List.{list_any}
use Rattle.table_model.specs.declared.command.Config.{Config}
use Rattle.table_model.specs.declared.job.JobNumber.{JobNumber}
use Rattle.table_model.specs.Event.{Event}
use Rattle.table_model.specs.Jobs.{tracked_tasks, next_task, is_clear, number_eq, is_out, outcome_of}
use Rattle.table_model.specs.Legal.{IsLawful}
use Rattle.table_model.specs.BoardState.{BoardState, StandsFor, as_wanted, due_for}
use Rattle.table_model.specs.Results.{batch, outstanding, is_awaited}
use Rattle.table_model.specs.Sessions.{is_live}

-- the next job of a worker and whether it has one left, the results that a live session collects next and what is outstanding then, and whether a job is out
pub record AnswersAsHistory (config : Config) (ledger : BoardState) (past : List Event) : Type 0 where
  pub next : (worker : ℕ) → next_task ledger.workers ledger.undone worker ≡ option_map (as_wanted past) (next_task config.workers (tracked_tasks past) worker)
  pub clear : (worker : ℕ) → is_clear ledger.workers ledger.undone worker ≡ is_clear config.workers (tracked_tasks past) worker
  pub given : (session : ℕ) → is_live past session ≡ true → take 256 (due_for ledger.due session) ≡ batch past session
  pub left : (session : ℕ) → is_live past session ≡ true
      → count_by (is_awaited session) ledger.undone + length (drop 256 (due_for ledger.due session)) ≡ outstanding past session
  pub out : (number : JobNumber) → IsLawful config past
      → list_any (λ tracked. number_eq tracked.task.job.number number && is_out tracked.outcome) ledger.undone ≡ is_out (outcome_of past number)

-- the undone jobs and the results that are due are enough for it, where there are as many workers
abbrev pub BoardAnswersAsHistory : Config → Type 0
BoardAnswersAsHistory config =
    (past : List Event) (ledger : BoardState) → ledger.workers ≡ config.workers → StandsFor ledger past → AnswersAsHistory config ledger past
