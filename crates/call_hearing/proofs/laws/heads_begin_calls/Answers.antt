use Rattle.call_hearing.proofs.Beginning.{heads_begin_calls}
use Rattle.call_hearing.proofs.laws.heads_begin_calls.Goals as goal

pub returns : goal.returns
returns c = heads_begin_calls
