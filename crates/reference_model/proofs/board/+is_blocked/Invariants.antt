use Rattle.std.proofs.Common.{length}
use Rattle.reference_model.proofs.board.+is_blocked.Given as goal

abbrev pub decreases-is_blocked : goal.decreases-is_blocked
decreases-is_blocked l = length l.board.now
