use Rattle.std.proofs.Common.{◌≡◌, List, length}
use Rattle.table_model.specs.declared.command.Config.{Config}
use Rattle.table_model.specs.declared.job.Verdict.{Verdict}
use Rattle.table_model.specs.Event.{Event}
use Rattle.inline_worker.specs.Complete.{IsAtRest}
use Rattle.inline_worker.specs.CoreAt.{CoreAt}
use Rattle.inline_worker.specs.Turns.{reports}
use Rattle.inline_worker.specs.Works.{device_told}
use Rattle.inline_worker.proofs.Idling.{WorksSoFar}
use Rattle.inline_worker.proofs.until_idle.work_until_idle.Given as goal

abbrev pub invariant-loop-now : goal.invariant-loop-now
invariant-loop-now g l =
    (config : Config) (past : List Event) (said : List Verdict) → config.workers ≡ 1 → CoreAt config l.initial.core past → IsAtRest config past → length said ≡ reports past
    → WorksSoFar config l.now past said l.core (device_told g.D.Device.faults g.D.Device.contents l.initial.device l.device)

abbrev pub decreases-loop-now : goal.decreases-loop-now
decreases-loop-now g l = length l.core.board.undone
