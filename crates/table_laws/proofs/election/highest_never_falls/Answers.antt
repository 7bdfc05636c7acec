use Rattle.table_laws.proofs.ElectionLaws.{never_falls}
use Rattle.table_laws.proofs.election.highest_never_falls.Goals as goal

pub returns : goal.returns
returns c = never_falls
