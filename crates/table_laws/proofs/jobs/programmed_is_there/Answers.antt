use Rattle.table_laws.proofs.Reports.{programmed_there}
use Rattle.table_laws.proofs.jobs.programmed_is_there.Goals as goal

pub returns : goal.returns
returns c config = programmed_there config
