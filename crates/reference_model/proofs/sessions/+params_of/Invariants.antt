use Rattle.std.proofs.Common.{length}
use Rattle.reference_model.proofs.sessions.+params_of.Given as goal

abbrev pub decreases-params_of : goal.decreases-params_of
decreases-params_of l = length l.past.now
