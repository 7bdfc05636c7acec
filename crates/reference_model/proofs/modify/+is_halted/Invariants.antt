use Rattle.std.proofs.Common.{length}
use Rattle.reference_model.proofs.modify.+is_halted.Given as goal

abbrev pub decreases-is_halted : goal.decreases-is_halted
decreases-is_halted l = length l.past.now
