use Rattle.std.proofs.Common.{refl}
use Rattle.call_orders.specs.Calls.{standing}
use Rattle.call_orders.specs.Actions.{events_in}
use Rattle.call_orders.specs.Orders.{cuts}
use Rattle.call_orders.proofs.examples.going_calls.Goals as goal

pub returns : goal.returns
unfolding standing cuts events_in
returns c = λ s m asked e. record {
  two = simp e;
  finished = refl;
  waits = refl;
  dropped = simp e;
  declined = simp e;
  declined_late = simp e;
  no_call = refl;
  lacking = refl;
  lacking_answer = refl;
  lacks = refl;
  other_stream = refl;
}
