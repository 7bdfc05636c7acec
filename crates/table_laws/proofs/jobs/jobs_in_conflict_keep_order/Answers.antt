use Rattle.table_laws.proofs.Reports.{conflicts_in_order}
use Rattle.table_laws.proofs.jobs.jobs_in_conflict_keep_order.Goals as goal

pub returns : goal.returns
returns c config = conflicts_in_order config
