use Rattle.std.proofs.Common.{length}
use Rattle.reference_model.proofs.board.+table_from.Given as goal

abbrev pub decreases-table_from : goal.decreases-table_from
decreases-table_from l = length l.board.now
