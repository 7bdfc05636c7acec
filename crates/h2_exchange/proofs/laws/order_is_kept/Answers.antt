use Rattle.h2_exchange.proofs.Ordering.{order_told, order_more}
use Rattle.h2_exchange.proofs.laws.order_is_kept.Goals as goal

pub returns : goal.returns
returns c = record { told = order_told; more = order_more }
