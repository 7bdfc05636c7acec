use Rattle.call_orders.proofs.Ordered.{nothing_else_orders}
use Rattle.call_orders.proofs.laws.nothing_else_orders.Goals as goal

pub returns : goal.returns
returns c = nothing_else_orders
