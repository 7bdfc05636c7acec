use Rattle.std.proofs.Common.{length}
use Rattle.reference_model.proofs.election.+is_top.Given as goal

abbrev pub decreases-is_top : goal.decreases-is_top
decreases-is_top l = length l.earlier.now
