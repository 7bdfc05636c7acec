use Rattle.call_orders.proofs.Closing.{leaves_are_once}
use Rattle.call_orders.proofs.laws.leaves_are_once.Goals as goal

pub returns : goal.returns
returns c = leaves_are_once
