use Rattle.std.proofs.Common.{sym, ap, ◌∙◌, refl}
use Rattle.table_model.specs.Event.{events}
use Rattle.table_model.specs.declared.command.Command.TheVariants.{Leave}
use Rattle.rib_core.proofs.Steps.{counts, gone}
use Rattle.rib_core.proofs.PurgeSteps.{leaves}
use Rattle.rib_core.proofs.machine.RibCore.leave.Goals as goal

pub returns-then-not-is_entered-clause-stands : goal.returns-then-not-is_entered-clause-stands
returns-then-not-is_entered-clause-stands c recorded stands =
    gone _ recorded (rw (← c.self.view_is) at stands) _ (record { counted = counts _ _ refl c.advance.ensures.table c.advance.ensures.board c.advance.ensures.count; elected = refl; records = refl; halted = refl })
    (Leave c.args.session) refl c.args.session refl refl (sym c.is_entered.ensures.found ∙ c.if-not-is_entered.true)

pub returns-clause-stands : goal.returns-clause-stands
returns-clause-stands c recorded stands =
    let here = sym c.is_entered.ensures.found ∙ c.if-not-is_entered.false in
    let now = rw (← c.self.view_is) at stands in
    leaves _ recorded now _ refl refl c.args.session here
    (c.leave-2.ensures (events recorded) now.keeps.election_state)
    (c.leave-3.ensures.stands (events recorded) now.keeps.session_records)
    _ (rw (← c.self.view_is) at c.purges-purges.ensures) c.leave.ensures.left
