use Rattle.h2_exchange.proofs.Computed.{block_limits}
use Rattle.h2_exchange.proofs.examples.header_blocks_are_bounded.Goals as goal

pub returns : goal.returns
returns c = block_limits
