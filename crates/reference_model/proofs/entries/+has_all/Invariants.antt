use Rattle.std.proofs.Common.{length}
use Rattle.reference_model.proofs.entries.+has_all.Given as goal

abbrev pub decreases-has_all : goal.decreases-has_all
decreases-has_all l = length l.keys.now
