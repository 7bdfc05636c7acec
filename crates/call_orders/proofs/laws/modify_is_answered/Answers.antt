use Rattle.call_orders.proofs.Answered.{modify_is_answered}
use Rattle.call_orders.proofs.laws.modify_is_answered.Goals as goal

pub returns : goal.returns
returns c = modify_is_answered
