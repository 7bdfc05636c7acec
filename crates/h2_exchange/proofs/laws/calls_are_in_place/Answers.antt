use Rattle.h2_exchange.proofs.Answered.{calls_are_in_place}
use Rattle.h2_exchange.proofs.laws.calls_are_in_place.Goals as goal

pub returns : goal.returns
returns g c = calls_are_in_place
