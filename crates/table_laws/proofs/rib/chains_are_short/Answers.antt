use Rattle.table_laws.proofs.RibLaws.{shallow}
use Rattle.table_laws.proofs.rib.chains_are_short.Goals as goal

pub returns : goal.returns
returns c config = shallow config
