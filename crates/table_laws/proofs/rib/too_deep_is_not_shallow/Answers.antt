use Rattle.table_laws.proofs.Deep.{deep_is}
use Rattle.table_laws.proofs.rib.too_deep_is_not_shallow.Goals as goal

pub returns : goal.returns
returns c = deep_is
