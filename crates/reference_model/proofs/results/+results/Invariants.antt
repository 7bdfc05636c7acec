use Rattle.std.proofs.Common.{length}
use Rattle.reference_model.proofs.results.+results.Given as goal

abbrev pub decreases-results : goal.decreases-results
decreases-results l = length l.past.now
