-- What a worker's run leaves of it.
use Rattle.std.specs.Prelude.{◌≡◌, ℕ, ◌+◌, ◌-◌, ◌^◌, ◌<◌, ◌≤◌}
use Rattle.aft_entries.specs.Devices.{HasKeysOnce}
use Rattle.rib_core.specs.Recorded.{IsLawful}
use Rattle.table_lock.specs.Passes.{IsPassOf, IsSound, LockView}
use Rattle.table_model.specs.declared.command.Config.{Config}
use Rattle.table_workers.specs.declared.run.WorkerEnd.{WorkerEnd}
use Rattle.table_workers.specs.declared.threads.Worker.{Worker}
use Rattle.table_workers.specs.Working.{Calls, Contents, RunCalls, Works, ends_spent, faults_told}

-- The worker ran to this end: what its device holds, what it reported of the device's failures, and the calls that its pass made.
pub record HasRun {D C : Type 0} (contents : D → Contents) (faults : D → ℕ) (lock : LockView Config) (before after : Worker D C) : Type 0 where
  pub end : WorkerEnd
  pub ended : after.is_spent ≡ ends_spent end
  pub number : after.number ≡ before.number
  pub pass : IsPassOf lock after.pass
  pub pass_number : after.pass.number ≡ before.pass.number
  pub sound : IsSound IsLawful lock.setup after.pass
  pub calls : Calls
  pub works : Works lock.setup before.number (ends_spent end) before.pass after.pass (contents before.device) (contents after.device) calls
  pub ends : RunCalls end before.number before.pass.number calls
  pub told : faults after.device < 2 ^ 64 - 1 → faults before.device + faults_told calls ≤ faults after.device
  pub once : HasKeysOnce (contents before.device) → HasKeysOnce (contents after.device)
  pub later : faults before.device ≤ faults after.device
