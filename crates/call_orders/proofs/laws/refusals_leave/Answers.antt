use Rattle.call_orders.proofs.Leaving.{refusals_leave}
use Rattle.call_orders.proofs.laws.refusals_leave.Goals as goal

pub returns : goal.returns
returns c = refusals_leave
