use Rattle.table_laws.proofs.ElectionLaws.{lower}
use Rattle.table_laws.proofs.election.lower_id_is_not_primary.Goals as goal

pub returns : goal.returns
returns c config = lower config
