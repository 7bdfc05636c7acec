use Rattle.std.proofs.Common.{length}
use Rattle.reference_model.proofs.election.+latest_top.Given as goal

abbrev pub decreases-latest_top : goal.decreases-latest_top
decreases-latest_top l = length l.made.now
