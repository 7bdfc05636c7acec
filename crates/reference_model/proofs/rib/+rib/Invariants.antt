use Rattle.std.proofs.Common.{length}
use Rattle.reference_model.proofs.rib.+rib.Given as goal

abbrev pub decreases-rib : goal.decreases-rib
decreases-rib l = length l.past.now
