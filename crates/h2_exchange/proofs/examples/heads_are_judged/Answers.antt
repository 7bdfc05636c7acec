use Rattle.h2_exchange.proofs.Computed.{bad_heads}
use Rattle.h2_exchange.proofs.examples.heads_are_judged.Goals as goal

pub returns : goal.returns
returns c = bad_heads
