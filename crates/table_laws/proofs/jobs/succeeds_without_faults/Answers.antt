use Rattle.table_laws.proofs.Succeeds.{succeeds_without_faults}
use Rattle.table_laws.proofs.jobs.succeeds_without_faults.Goals as goal

pub returns : goal.returns
returns c config = succeeds_without_faults config
