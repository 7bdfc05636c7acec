use Rattle.std.proofs.Common.{length}
use Rattle.reference_model.proofs.board.+next_among.Given as goal

abbrev pub decreases-next_among : goal.decreases-next_among
decreases-next_among l = length l.rest.now
