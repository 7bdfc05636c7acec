use Rattle.h2_exchange.proofs.Staying.{events_stay}
use Rattle.h2_exchange.proofs.laws.events_stay.Goals as goal

pub returns : goal.returns
returns c = events_stay
