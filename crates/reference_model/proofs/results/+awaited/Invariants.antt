use Rattle.std.proofs.Common.{length}
use Rattle.reference_model.proofs.results.+awaited.Given as goal

abbrev pub decreases-awaited : goal.decreases-awaited
decreases-awaited l = length l.board.now
