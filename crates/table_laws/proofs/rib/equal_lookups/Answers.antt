use Rattle.table_model.proofs.LookupLemmas.{same_table}
use Rattle.table_laws.proofs.rib.equal_lookups.Goals as goal

pub returns : goal.returns
returns c one other = same_table one other
