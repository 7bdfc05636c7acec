use Rattle.h2_exchange.proofs.Compressing.{written_blocks_are_read}
use Rattle.h2_exchange.proofs.laws.written_blocks_are_read.Goals as goal

pub returns : goal.returns
returns c = written_blocks_are_read
