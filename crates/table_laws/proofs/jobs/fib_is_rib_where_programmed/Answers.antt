use Rattle.table_laws.proofs.Whole.{same_tables}
use Rattle.table_laws.proofs.jobs.fib_is_rib_where_programmed.Goals as goal

pub returns : goal.returns
returns c = same_tables
