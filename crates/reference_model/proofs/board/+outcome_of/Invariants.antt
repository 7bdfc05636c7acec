use Rattle.std.proofs.Common.{length}
use Rattle.reference_model.proofs.board.+outcome_of.Given as goal

abbrev pub decreases-outcome_of : goal.decreases-outcome_of
decreases-outcome_of l = length l.past.now
