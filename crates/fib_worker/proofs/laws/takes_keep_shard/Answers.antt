use Rattle.fib_worker.proofs.Reported.{takes_keep}
use Rattle.fib_worker.proofs.laws.takes_keep_shard.Goals as goal

pub returns : goal.returns
returns c config = takes_keep config
