use Rattle.fib_worker.proofs.Reported.{only_worker_holds}
use Rattle.fib_worker.proofs.laws.only_worker_holds_all.Goals as goal

pub returns : goal.returns
returns c = only_worker_holds
