use Rattle.h2_exchange.proofs.Staying.{stops_stay}
use Rattle.h2_exchange.proofs.laws.stops_stay.Goals as goal

pub returns : goal.returns
returns c = stops_stay
