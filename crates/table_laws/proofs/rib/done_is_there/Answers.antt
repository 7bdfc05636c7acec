use Rattle.table_laws.proofs.Acknowledged.{is_there}
use Rattle.table_laws.proofs.rib.done_is_there.Goals as goal

pub returns : goal.returns
returns c config = is_there config
