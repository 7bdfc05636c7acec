use Rattle.server_account.proofs.Begins.{begins}
use Rattle.server_account.proofs.laws.calls_begin.Goals as goal

pub returns : goal.returns
returns c = begins
