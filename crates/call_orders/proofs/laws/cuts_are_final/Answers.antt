use Rattle.call_orders.proofs.Cuts.{cuts_are_final}
use Rattle.call_orders.proofs.laws.cuts_are_final.Goals as goal

pub returns : goal.returns
returns c = cuts_are_final
