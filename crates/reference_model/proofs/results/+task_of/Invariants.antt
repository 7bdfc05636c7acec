use Rattle.std.proofs.Common.{length}
use Rattle.reference_model.proofs.results.+task_of.Given as goal

abbrev pub decreases-task_of : goal.decreases-task_of
decreases-task_of l = length l.made.now
