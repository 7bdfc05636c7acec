use Rattle.h2_exchange.proofs.Computed.{responses}
use Rattle.h2_exchange.proofs.examples.responses_are_read.Goals as goal

pub returns : goal.returns
returns c = responses
