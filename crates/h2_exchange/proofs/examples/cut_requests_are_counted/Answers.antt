use Rattle.h2_exchange.proofs.Computed.{cut_requests}
use Rattle.h2_exchange.proofs.examples.cut_requests_are_counted.Goals as goal

pub returns : goal.returns
returns c = cut_requests
