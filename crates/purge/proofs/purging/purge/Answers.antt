use Rattle.purge.proofs.Falling.{jobs_are}
use Rattle.purge.proofs.purging.purge.Goals as goal

pub returns-clause-undone : goal.returns-clause-undone
returns-clause-undone c = jobs_are _ _ _ _ _ _ _ _ c.add_removals.ensures.undone c.write_ranks.ensures.items c.move_unmarked.ensures.gone c.move_unmarked.ensures.removed
