use Rattle.call_orders.specs.Calls.{standing}
use Rattle.call_orders.proofs.examples.refused_calls.Goals as goal

pub returns : goal.returns
unfolding standing
returns c = λ s m asked other e. record {
  all_primary = simp e;
  differ = simp e;
  no_params = simp e;
  early_election = simp e;
  params_again = simp e;
}
