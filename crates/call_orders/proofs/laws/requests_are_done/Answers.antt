use Rattle.call_orders.proofs.Ordered.{requests_are_done}
use Rattle.call_orders.proofs.laws.requests_are_done.Goals as goal

pub returns : goal.returns
returns c = requests_are_done
