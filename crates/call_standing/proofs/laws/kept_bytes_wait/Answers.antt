use Rattle.call_standing.proofs.Waits.{waits}
use Rattle.call_standing.proofs.laws.kept_bytes_wait.Goals as goal

pub returns : goal.returns
returns c = waits
