use Rattle.call_hearing.proofs.Lasting.{closed_calls_last}
use Rattle.call_hearing.proofs.laws.closed_calls_last.Goals as goal

pub returns : goal.returns
returns c = closed_calls_last
