use Rattle.h2_exchange.proofs.Steps.{window_sums_grow}
use Rattle.h2_exchange.proofs.laws.window_sums_grow.Goals as goal

pub returns : goal.returns
returns c = window_sums_grow
