use Rattle.fib_board.proofs.Following.{takes_follow, reports_follow, collects_follow}
use Rattle.fib_board.proofs.Joining.{adds_follow, forgets_follow, leaves_follow, flushes_follow}
use Rattle.fib_board.proofs.Older.{empty_stands, jobs_older}
use Rattle.fib_board.proofs.Quiet.{quiet_follows}
use Rattle.fib_board.proofs.laws.board_follows_history.Goals as goal

pub returns-clause-empty : goal.returns-clause-empty
returns-clause-empty c = empty_stands

pub returns-clause-older : goal.returns-clause-older
returns-clause-older c = jobs_older

pub returns-clause-add : goal.returns-clause-add
returns-clause-add c config = adds_follow config

pub returns-clause-take : goal.returns-clause-take
returns-clause-take c config = takes_follow config (c.board_answers_as_history.ensures config)

pub returns-clause-report : goal.returns-clause-report
returns-clause-report c config = reports_follow config (c.board_answers_as_history.ensures config)

pub returns-clause-collect : goal.returns-clause-collect
returns-clause-collect c config = collects_follow config

pub returns-clause-forget : goal.returns-clause-forget
returns-clause-forget c config = forgets_follow config

pub returns-clause-leave : goal.returns-clause-leave
returns-clause-leave c config = leaves_follow config

pub returns-clause-flush : goal.returns-clause-flush
returns-clause-flush c config = flushes_follow config

pub returns-clause-quiet : goal.returns-clause-quiet
returns-clause-quiet c config = quiet_follows config
