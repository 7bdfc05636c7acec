use Rattle.rib_ops.proofs.Clipped.{past_four}
use Rattle.rib_ops.proofs.backups.is_past_four.Goals as goal

pub returns : goal.returns
returns c = past_four c.args.store.now.entries c.args.group.now c.args.below c.above.result c.requires c.above.ensures.length
