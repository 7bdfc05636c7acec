use Rattle.call_orders.proofs.Owning.{sessions_are_own}
use Rattle.call_orders.proofs.laws.sessions_are_own.Goals as goal

pub returns : goal.returns
returns c = sessions_are_own
