use Rattle.table_laws.proofs.Acknowledged.{where_due}
use Rattle.table_laws.proofs.rib.done_where_due.Goals as goal

pub returns : goal.returns
returns c config = where_due config
