use Rattle.std.proofs.Common.{length}
use Rattle.reference_model.proofs.results.+from_place.Given as goal

abbrev pub decreases-from_place : goal.decreases-from_place
decreases-from_place l = length l.all.now
