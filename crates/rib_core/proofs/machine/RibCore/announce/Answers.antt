use Rattle.std.proofs.Common.{sym, ap, ◌∙◌, refl}
use Rattle.std.specs.Prelude.{is_some, not}
use Rattle.table_model.specs.declared.command.Command.TheVariants.{Announce}
use Rattle.rib_core.proofs.Steps.{counts, gone, running_by}
use Rattle.rib_core.proofs.SessionSteps.{without_params, announce_ends}
use Rattle.rib_core.proofs.machine.RibCore.announce.Goals as goal

pub returns-then-not-is_entered-clause-stands : goal.returns-then-not-is_entered-clause-stands
returns-then-not-is_entered-clause-stands c recorded stands =
    let now = rw (← c.self.view_is) at stands in
    let running = rw (← c.self.view_is) at c.requires.running in
    gone _ recorded now _ (record { counted = counts _ _ refl c.advance.ensures.table c.advance.ensures.board c.advance.ensures.count; elected = refl; records = refl; halted = refl })
    (Announce c.args.session c.args.id) refl c.args.session refl (running_by _ recorded now running) (sym c.is_entered.ensures.found ∙ c.if-not-is_entered.true)

pub returns-then-is_none-clause-stands : goal.returns-then-is_none-clause-stands
returns-then-is_none-clause-stands c recorded stands =
    let here = sym c.is_entered.ensures.found ∙ c.if-not-is_entered.false in
    let now = rw (← c.self.view_is) at stands in
    let running = rw (← c.self.view_is) at c.requires.running in
    without_params _ recorded now running _ (counts _ _ refl c.advance.ensures.table c.advance.ensures.board c.advance.ensures.count) refl
    c.args.session c.args.id here refl refl (ap is_some (sym c.params_of-params.ensures.found) ∙ c.is_none.ensures ∙ ap not c.if-is_none.true)

pub returns-clause-stands : goal.returns-clause-stands
returns-clause-stands c recorded stands =
    let here = sym c.is_entered.ensures.found ∙ c.if-not-is_entered.false in
    let now = rw (← c.self.view_is) at stands in
    let running = rw (← c.self.view_is) at c.requires.running in
    rw c.reply_to_announce.ensures
    (announce_ends _ recorded now running _ (counts _ _ refl c.advance.ensures.table c.advance.ensures.board c.advance.ensures.count) refl
    c.args.session c.args.id here refl (ap is_some (sym c.params_of-params.ensures.found) ∙ c.is_none.ensures ∙ ap not c.if-is_none.false)
    _ c.announce.ensures.zero c.announce.ensures.announced c.announce.ensures.elected)
