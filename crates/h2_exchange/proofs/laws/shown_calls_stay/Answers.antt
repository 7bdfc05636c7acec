use Rattle.h2_exchange.proofs.Staying.{shown_calls_stay}
use Rattle.h2_exchange.proofs.laws.shown_calls_stay.Goals as goal

pub returns : goal.returns
returns g c = shown_calls_stay
