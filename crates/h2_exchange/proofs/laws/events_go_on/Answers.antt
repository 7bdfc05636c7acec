use Rattle.h2_exchange.proofs.Staying.{events_go_on}
use Rattle.h2_exchange.proofs.laws.events_go_on.Goals as goal

pub returns : goal.returns
returns c = events_go_on
