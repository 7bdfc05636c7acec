use Rattle.std.proofs.Common.{length}
use Rattle.reference_model.proofs.election.+top_id.Given as goal

abbrev pub decreases-top_id : goal.decreases-top_id
decreases-top_id l = length l.made.now
