use Rattle.fib_worker.proofs.Reported.{others_keep}
use Rattle.fib_worker.proofs.laws.others_keep_shard.Goals as goal

pub returns : goal.returns
returns c config = others_keep config
