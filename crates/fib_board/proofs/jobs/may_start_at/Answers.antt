use Rattle.fib_board.proofs.Searching.{judged_at}
use Rattle.fib_board.proofs.jobs.may_start_at.Goals as goal

pub returns : goal.returns
returns c = judged_at c.args.workers c.args.jobs.now.items c.args.worker c.args.at c.requires.ascending c.may_start.result c.index.result.now c.index.ensures c.may_start.ensures
