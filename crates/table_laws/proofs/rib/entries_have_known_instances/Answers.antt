use Rattle.table_laws.proofs.KnownInstances.{known_entries}
use Rattle.table_laws.proofs.rib.entries_have_known_instances.Goals as goal

pub returns : goal.returns
returns c config = known_entries config
