use Rattle.std.proofs.Common.{length}
use Rattle.reference_model.proofs.shapes.+has_hop.Given as goal

abbrev pub decreases-has_hop : goal.decreases-has_hop
decreases-has_hop l = length l.members.now
