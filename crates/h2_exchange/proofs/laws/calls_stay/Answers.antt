use Rattle.h2_exchange.proofs.Staying.{calls_stay}
use Rattle.h2_exchange.proofs.laws.calls_stay.Goals as goal

pub returns : goal.returns
returns g c = calls_stay
