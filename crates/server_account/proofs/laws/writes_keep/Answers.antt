use Rattle.server_account.proofs.Writes.{writes_keep}
use Rattle.server_account.proofs.laws.writes_keep.Goals as goal

pub returns : goal.returns
returns c = writes_keep
