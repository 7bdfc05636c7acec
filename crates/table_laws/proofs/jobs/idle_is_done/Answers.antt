use Rattle.table_laws.proofs.Idle.{idle_is_done}
use Rattle.table_laws.proofs.jobs.idle_is_done.Goals as goal

pub returns : goal.returns
returns c config = idle_is_done config
