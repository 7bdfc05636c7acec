use Rattle.h2_exchange.proofs.Steps.{streams_end}
use Rattle.h2_exchange.proofs.laws.streams_end.Goals as goal

pub returns : goal.returns
returns c = streams_end
