use Rattle.fib_worker.proofs.Reported.{job_keeps}
use Rattle.fib_worker.proofs.laws.job_keeps_shard.Goals as goal

pub returns : goal.returns
returns c config = job_keeps config
