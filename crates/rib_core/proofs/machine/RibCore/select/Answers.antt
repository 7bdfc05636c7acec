use Rattle.std.proofs.Common.{refl}
use Rattle.rib_core.proofs.Steps.{counts}
use Rattle.rib_core.proofs.SessionSteps.{select_lacks, selects}
use Rattle.rib_core.proofs.machine.RibCore.select.Goals as goal

pub returns-in-Err-clause-stands : goal.returns-in-Err-clause-stands
returns-in-Err-clause-stands c recorded stands = select_lacks _ recorded stands c.requires.running c.args.which c.args.kinds

pub returns-in-Ok-clause-stands : goal.returns-in-Ok-clause-stands
returns-in-Ok-clause-stands c recorded stands =
    rw c.in-Ok.ensures
    (selects _ recorded (rw (← c.self.view_is) at stands) (rw (← c.self.view_is) at c.requires.running) _
    (counts _ _ refl c.advance.ensures.table c.advance.ensures.board c.advance.ensures.count) refl c.args.which c.args.kinds refl refl)
