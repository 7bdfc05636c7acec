use Rattle.call_orders.proofs.Leaving.{finished_leave}
use Rattle.call_orders.proofs.laws.finished_leave.Goals as goal

pub returns : goal.returns
returns c = finished_leave
