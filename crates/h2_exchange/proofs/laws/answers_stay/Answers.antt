use Rattle.h2_exchange.proofs.Staying.{answers_stay}
use Rattle.h2_exchange.proofs.laws.answers_stay.Goals as goal

pub returns : goal.returns
returns g c = answers_stay
