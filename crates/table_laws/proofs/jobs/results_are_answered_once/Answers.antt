use Rattle.table_laws.proofs.Collected.{answered_once}
use Rattle.table_laws.proofs.jobs.results_are_answered_once.Goals as goal

pub returns : goal.returns
returns c config = answered_once config
