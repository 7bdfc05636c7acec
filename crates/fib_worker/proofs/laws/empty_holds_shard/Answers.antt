use Rattle.fib_worker.proofs.Reported.{empty_holds}
use Rattle.fib_worker.proofs.laws.empty_holds_shard.Goals as goal

pub returns : goal.returns
returns c = empty_holds
