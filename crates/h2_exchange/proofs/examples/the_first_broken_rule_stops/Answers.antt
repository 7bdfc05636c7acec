use Rattle.h2_exchange.proofs.Computed.{stops}
use Rattle.h2_exchange.proofs.examples.the_first_broken_rule_stops.Goals as goal

pub returns : goal.returns
returns c = stops
