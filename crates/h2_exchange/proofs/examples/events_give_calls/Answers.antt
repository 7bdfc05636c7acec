use Rattle.h2_exchange.proofs.Computed.{spelled_calls}
use Rattle.h2_exchange.proofs.examples.events_give_calls.Goals as goal

pub returns : goal.returns
returns c = spelled_calls
