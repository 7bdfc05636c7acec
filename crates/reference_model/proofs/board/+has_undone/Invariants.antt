use Rattle.std.proofs.Common.{length}
use Rattle.reference_model.proofs.board.+has_undone.Given as goal

abbrev pub decreases-has_undone : goal.decreases-has_undone
decreases-has_undone l = length l.board.now
