use Rattle.std.proofs.Common.{refl}
use Rattle.call_requests.specs.Responses.{get_responses}
use Rattle.call_orders.specs.Calls.{standing}
use Rattle.call_orders.proofs.examples.short_calls.Goals as goal

pub returns : goal.returns
unfolding standing get_responses
returns c = λ s get flush row e f. record {
  get_many = simp e;
  get_first = simp e;
  get_last = simp e;
  get_lacking = simp e;
  get_dropped = simp e;
  get_nothing = simp e;
  nothing_given = simp e;
  flushed = simp f;
  refused = simp f;
  none = refl;
  second = refl;
}
