use Rattle.table_laws.proofs.Answered.{all_answered}
use Rattle.table_laws.proofs.jobs.all_are_answered.Goals as goal

pub returns : goal.returns
returns c config = all_answered config
