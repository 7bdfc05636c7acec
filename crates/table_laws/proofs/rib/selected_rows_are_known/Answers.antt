use Rattle.table_laws.proofs.KnownInstances.{known_rows, known_answers}
use Rattle.table_laws.proofs.rib.selected_rows_are_known.Goals as goal

pub returns-clause-selected : goal.returns-clause-selected
returns-clause-selected c config = known_rows config

pub returns-clause-answered : goal.returns-clause-answered
returns-clause-answered c config = known_answers config
