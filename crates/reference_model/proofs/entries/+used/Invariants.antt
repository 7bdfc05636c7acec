use Rattle.std.proofs.Common.{length}
use Rattle.reference_model.proofs.entries.+used.Given as goal

abbrev pub decreases-used : goal.decreases-used
decreases-used l = length l.table.now
