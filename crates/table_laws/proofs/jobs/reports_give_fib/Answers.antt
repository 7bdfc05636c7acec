use Rattle.table_laws.proofs.Reports.{reports}
use Rattle.table_laws.proofs.jobs.reports_give_fib.Goals as goal

pub returns : goal.returns
returns c config = reports config
