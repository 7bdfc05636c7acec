-- The worker's turns up to the first that gives it nothing.
use Rattle.std.specs.Prelude.{◌≡◌, ℤ, List}
use Rattle.rib_core.specs.Core.{Core}
use Rattle.table_model.specs.declared.command.Config.{Config}
use Rattle.table_model.specs.declared.job.Verdict.{Verdict}
use Rattle.table_model.specs.Event.{Event}
use Rattle.inline_worker.specs.Complete.{IsAtRest}
use Rattle.inline_worker.specs.Turns.{undone, work_events}
use Rattle.inline_worker.specs.Works.{WorksOn, DeviceTold}

-- they came, and no job is left
pub record WorksUntilIdle (config : Config) (now : ℤ) (past : List Event) (said : List Verdict) (core : Core) (device : DeviceTold) : Type 0 where
  pub works : WorksOn config (λ heard. work_events config heard now past) past said core device
  pub rest : IsAtRest config works.after
  pub done : undone works.after ≡ 0
