use Rattle.table_laws.proofs.FibClosed.{fib_closed}
use Rattle.table_laws.proofs.jobs.fib_is_closed.Goals as goal

pub returns : goal.returns
returns c config = fib_closed config
