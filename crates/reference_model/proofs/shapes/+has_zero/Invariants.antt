use Rattle.std.proofs.Common.{length}
use Rattle.reference_model.proofs.shapes.+has_zero.Given as goal

abbrev pub decreases-has_zero : goal.decreases-has_zero
decreases-has_zero l = length l.members.now
