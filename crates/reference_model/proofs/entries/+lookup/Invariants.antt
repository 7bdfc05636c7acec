use Rattle.std.proofs.Common.{length}
use Rattle.reference_model.proofs.entries.+lookup.Given as goal

abbrev pub decreases-lookup : goal.decreases-lookup
decreases-lookup l = length l.table.now
