use Rattle.table_laws.proofs.Ascending.{ascend}
use Rattle.table_laws.proofs.jobs.jobs_ascend.Goals as goal

pub returns : goal.returns
returns c = ascend
