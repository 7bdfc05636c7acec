use Rattle.std.proofs.Common.{◌≡◌, ◌≤◌}
use Rattle.aft_entries.specs.Devices.{HasKeysOnce}
use Rattle.rib_core.specs.Recorded.{IsLawful}
use Rattle.table_lock.specs.Passes.{IsPassOf, IsSound}
use Rattle.table_workers.proofs.Runs.{RunsSoFar}
use Rattle.table_workers.proofs.run.run_worker.Given as goal

abbrev pub invariant-loop : goal.invariant-loop
invariant-loop g l =
    (goal.iterator-loop g).can_next l.iterator' × (goal.iterator-loop g).is_finite l.iterator'
    × IsPassOf l.lock l.pass × (l.pass.number ≡ l.fn.pass.number) × IsSound IsLawful l.lock.setup l.pass
    × RunsSoFar l.lock.setup l.worker l.fn.pass l.pass (g.D.Device.contents l.fn.device) (g.D.Device.contents l.device) (g.D.Device.faults l.fn.device) (g.D.Device.faults l.device)
    × (HasKeysOnce (g.D.Device.contents l.fn.device) → HasKeysOnce (g.D.Device.contents l.device))
    × (g.D.Device.faults l.fn.device ≤ g.D.Device.faults l.device)
    × (g.D.Device.dones l.fn.device ≤ g.D.Device.dones l.device)
