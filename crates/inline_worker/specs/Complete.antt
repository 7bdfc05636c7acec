-- Where the worker's turns end, no job is left to do.
use Rattle.std.specs.Prelude.{◌≡◌, ℤ, true, false, List}
use Rattle.table_model.specs.declared.command.Config.{Config}
use Rattle.table_model.specs.declared.job.Verdict.{Verdict}
use Rattle.table_model.specs.Event.{Event}
use Rattle.table_model.specs.Jobs.{tracked_tasks, is_out}
use Rattle.table_model.specs.Legal.{IsLawful}
use Rattle.table_model.specs.Reply.{is_halted}
use Rattle.table_model.specs.Results.{owed}
use Rattle.table_model.specs.Sessions.{is_live}
use Rattle.inline_worker.specs.Turns.{count_outcomes, behind, undone, work_events, collect_events}

-- the history is the server's, and the worker has no job
pub record IsAtRest (config : Config) (past : List Event) : Type 0 where
  pub lawful : IsLawful config past
  pub none_out : count_outcomes is_out (tracked_tasks past) ≡ 0

-- where there is one worker, which has no job, all jobs are done behind its turns
abbrev pub WorkIsComplete : Config → Type 0
WorkIsComplete config =
    config.workers ≡ 1 → (said : List Verdict) (now : ℤ) (past : List Event) → IsAtRest config past
    → IsAtRest config (behind past (work_events config said now past)) × (undone (behind past (work_events config said now past)) ≡ 0)

-- behind the session's Collects nothing is owed to it, where all jobs are done
abbrev pub CollectsAreComplete : Config → Type 0
CollectsAreComplete config =
    (past : List Event) → IsLawful config past → is_halted past ≡ false → is_live past 0 ≡ true → undone past ≡ 0
    → IsLawful config (behind past (collect_events config past)) × (owed (behind past (collect_events config past)) 0 ≡ 0)
