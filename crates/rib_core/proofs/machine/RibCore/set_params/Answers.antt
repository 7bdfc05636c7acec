use Rattle.std.proofs.Common.{sym, ◌∙◌, refl}
use Rattle.table_model.specs.declared.command.Command.TheVariants.{SetParams}
use Rattle.table_model.specs.Event.{events}
use Rattle.rib_core.proofs.Steps.{counts, gone, running_by}
use Rattle.rib_core.proofs.SessionSteps.{set_ends}
use Rattle.rib_core.proofs.machine.RibCore.set_params.Goals as goal

pub returns-then-not-is_entered-clause-stands : goal.returns-then-not-is_entered-clause-stands
returns-then-not-is_entered-clause-stands c recorded stands =
    let now = rw (← c.self.view_is) at stands in
    let running = rw (← c.self.view_is) at c.requires.running in
    gone _ recorded now _ (record { counted = counts _ _ refl c.advance.ensures.table c.advance.ensures.board c.advance.ensures.count; elected = refl; records = refl; halted = refl })
    (SetParams c.args.session c.args.asked) refl c.args.session refl (running_by _ recorded now running) (sym c.is_entered.ensures.found ∙ c.if-not-is_entered.true)

pub returns-clause-stands : goal.returns-clause-stands
returns-clause-stands c recorded stands =
    let here = sym c.is_entered.ensures.found ∙ c.if-not-is_entered.false in
    let now = rw (← c.self.view_is) at stands in
    let running = rw (← c.self.view_is) at c.requires.running in
    rw c.reply_to_set.ensures
    (set_ends _ recorded now running _ (counts _ _ refl c.advance.ensures.table c.advance.ensures.board c.advance.ensures.count) refl
    c.args.session c.args.asked here refl _ (c.set.ensures.stands (events recorded) now.keeps.session_records))
