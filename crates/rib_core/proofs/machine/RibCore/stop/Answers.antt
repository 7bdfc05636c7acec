use Rattle.std.proofs.Common.{refl}
use Rattle.rib_core.proofs.Steps.{counts, stopped}
use Rattle.rib_core.proofs.machine.RibCore.stop.Goals as goal

pub returns-clause-stands : goal.returns-clause-stands
returns-clause-stands c recorded stands =
    stopped _ recorded (rw (← c.self.view_is) at stands) _
    (record { counted = counts _ _ refl c.advance.ensures.table c.advance.ensures.board c.advance.ensures.count; elected = refl; records = refl; halted = refl })
    c.args.command c.well_formed_by_type.ensures (rw (← c.self.view_is) at c.requires.stops)
