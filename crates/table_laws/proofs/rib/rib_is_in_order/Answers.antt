use Rattle.table_laws.proofs.RibLaws.{sorted}
use Rattle.table_laws.proofs.rib.rib_is_in_order.Goals as goal

pub returns : goal.returns
returns c config = sorted config
