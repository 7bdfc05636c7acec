use Rattle.table_laws.proofs.RibLaws.{closed}
use Rattle.table_laws.proofs.rib.rib_is_closed.Goals as goal

pub returns : goal.returns
returns c config = closed config
