use Rattle.call_hearing.proofs.Telling.{open_calls_ask}
use Rattle.call_hearing.proofs.laws.open_calls_ask.Goals as goal

pub returns : goal.returns
returns c = open_calls_ask
