use Rattle.std.proofs.Common.{refl}
use Rattle.rib_core.proofs.Steps.{counts}
use Rattle.rib_core.proofs.WorkerSteps.{halts}
use Rattle.rib_core.proofs.machine.RibCore.halt.Goals as goal

pub returns-clause-stands : goal.returns-clause-stands
returns-clause-stands c recorded stands =
    halts _ recorded (rw (← c.self.view_is) at stands) _ (counts _ _ refl c.advance.ensures.table c.advance.ensures.board c.advance.ensures.count) refl refl refl
