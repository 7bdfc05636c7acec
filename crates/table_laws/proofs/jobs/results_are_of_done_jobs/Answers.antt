use Rattle.table_laws.proofs.DoneAnswers.{of_done_jobs}
use Rattle.table_laws.proofs.jobs.results_are_of_done_jobs.Goals as goal

pub returns : goal.returns
returns c config = of_done_jobs config
