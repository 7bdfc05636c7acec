use Rattle.h2_exchange.proofs.Steps.{header_blocks_grow}
use Rattle.h2_exchange.proofs.laws.header_blocks_grow.Goals as goal

pub returns : goal.returns
returns c = header_blocks_grow
