use Rattle.std.proofs.Common.{sym, ap, ◌∙◌}
use Rattle.flush_get.specs.Marking.{chosen}
use Rattle.flush_get.proofs.Settling.{kept_marked}
use Rattle.flush_get.proofs.flush.mark_flush.Goals as goal

pub returns-clause-marked : goal.returns-clause-marked
returns-clause-marked c = kept_marked _ _ ∙ ap (λ marks. chosen marks c.args.store.now.entries) (sym c.mark_reached.ensures.values)
