use Rattle.table_laws.proofs.Completions.{programmed_was_reported}
use Rattle.table_laws.proofs.jobs.programmed_was_reported.Goals as goal

pub returns : goal.returns
returns c = programmed_was_reported
