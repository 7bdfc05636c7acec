use Rattle.table_laws.proofs.CollectedResults.{collected_reported}
use Rattle.table_laws.proofs.jobs.collected_was_reported.Goals as goal

pub returns : goal.returns
returns c config = collected_reported config
