use Rattle.std.proofs.Common.{refl}
use Rattle.table_model.specs.BoardState.{due_for}
use Rattle.fib_board.proofs.board.Board.new.Goals as goal

pub returns-clause-due : goal.returns-clause-due
unfolding due_for
returns-clause-due c session = rw c.new-2.ensures.items refl
