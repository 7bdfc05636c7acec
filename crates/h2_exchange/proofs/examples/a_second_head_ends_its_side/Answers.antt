use Rattle.h2_exchange.proofs.Computed.{second_head}
use Rattle.h2_exchange.proofs.examples.a_second_head_ends_its_side.Goals as goal

pub returns : goal.returns
returns c = second_head
