use Rattle.call_hearing.proofs.Lasting.{open_calls_last}
use Rattle.call_hearing.proofs.laws.open_calls_last.Goals as goal

pub returns : goal.returns
returns c = open_calls_last
