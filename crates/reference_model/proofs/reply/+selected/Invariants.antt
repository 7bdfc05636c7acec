use Rattle.std.proofs.Common.{length}
use Rattle.reference_model.proofs.reply.+selected.Given as goal

abbrev pub decreases-selected : goal.decreases-selected
decreases-selected l = length l.table.now
