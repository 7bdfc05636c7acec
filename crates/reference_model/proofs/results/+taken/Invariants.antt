use Rattle.std.proofs.Common.{length}
use Rattle.reference_model.proofs.results.+taken.Given as goal

abbrev pub decreases-taken : goal.decreases-taken
decreases-taken l = length l.past.now
