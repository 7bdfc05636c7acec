use Rattle.call_orders.proofs.Closing.{ends_leave}
use Rattle.call_orders.proofs.laws.ends_leave.Goals as goal

pub returns : goal.returns
returns c = ends_leave
