use Rattle.call_orders.proofs.Single.{singles_are_answered}
use Rattle.call_orders.proofs.laws.singles_are_answered.Goals as goal

pub returns : goal.returns
returns c = singles_are_answered
