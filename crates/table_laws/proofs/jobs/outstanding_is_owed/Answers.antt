use Rattle.table_laws.proofs.Owed.{outstanding_owed}
use Rattle.table_laws.proofs.jobs.outstanding_is_owed.Goals as goal

pub returns : goal.returns
returns c config = outstanding_owed config
