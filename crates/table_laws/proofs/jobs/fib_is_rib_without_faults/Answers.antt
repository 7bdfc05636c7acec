use Rattle.table_laws.proofs.Faultless.{faultless}
use Rattle.table_laws.proofs.jobs.fib_is_rib_without_faults.Goals as goal

pub returns : goal.returns
returns c config = faultless config
