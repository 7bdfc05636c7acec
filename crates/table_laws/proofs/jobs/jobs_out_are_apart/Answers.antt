use Rattle.table_laws.proofs.Reports.{out_apart}
use Rattle.table_laws.proofs.jobs.jobs_out_are_apart.Goals as goal

pub returns : goal.returns
returns c config = out_apart config
