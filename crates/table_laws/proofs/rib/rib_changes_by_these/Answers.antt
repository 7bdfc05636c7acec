use Rattle.table_laws.proofs.RibLaws.{changes}
use Rattle.table_laws.proofs.rib.rib_changes_by_these.Goals as goal

pub returns : goal.returns
returns c config = changes config
