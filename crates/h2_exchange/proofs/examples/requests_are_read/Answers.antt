use Rattle.h2_exchange.proofs.Computed.{requests}
use Rattle.h2_exchange.proofs.examples.requests_are_read.Goals as goal

pub returns : goal.returns
returns c = requests
