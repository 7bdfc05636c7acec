use Rattle.table_laws.proofs.Boards.{board_answers_as_history}
use Rattle.table_laws.proofs.jobs.board_answers_as_history.Goals as goal

pub returns : goal.returns
returns c config = board_answers_as_history config
