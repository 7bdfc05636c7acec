use Rattle.table_laws.proofs.Completions.{completes_once}
use Rattle.table_laws.proofs.jobs.jobs_complete_once.Goals as goal

pub returns : goal.returns
returns c config = completes_once config
