use Rattle.std.proofs.Common.{refl, sym, ◌∙◌}
use Rattle.table_model.specs.declared.command.Command.TheVariants.{Collect}
use Rattle.rib_core.proofs.Steps.{counts, gone, running_by}
use Rattle.rib_core.proofs.WorkerSteps.{collects}
use Rattle.rib_core.proofs.machine.RibCore.collect.Goals as goal

pub returns-then-not-is_entered-clause-stands : goal.returns-then-not-is_entered-clause-stands
returns-then-not-is_entered-clause-stands c recorded stands =
    let now = rw (← c.self.view_is) at stands in
    let running = rw (← c.self.view_is) at c.requires.running in
    gone _ recorded now _ (record { counted = counts _ _ refl c.advance.ensures.table c.advance.ensures.board c.advance.ensures.count; elected = refl; records = refl; halted = refl })
    (Collect c.args.session) refl c.args.session refl (running_by _ recorded now running) (sym c.is_entered.ensures.found ∙ c.if-not-is_entered.true)

pub returns-clause-stands : goal.returns-clause-stands
returns-clause-stands c recorded stands =
    let now = rw (← c.self.view_is) at stands in
    let running = rw (← c.self.view_is) at c.requires.running in
    rw (c.collect-batch.ensures.batch, c.outstanding-left.ensures)
    (collects _ recorded now c.board_answers_as_history.ensures _
    (record { config = refl; table = c.collect-batch.ensures.table; elected = refl; records = refl; count = c.collect-batch.ensures.count; halted = refl })
    c.args.session running (sym c.is_entered.ensures.found ∙ c.if-not-is_entered.false) c.collect-batch.ensures.board)
