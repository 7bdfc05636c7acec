use Rattle.h2_exchange.proofs.Heads.{later_blocks_change_nothing}
use Rattle.h2_exchange.proofs.laws.later_blocks_change_nothing.Goals as goal

pub returns : goal.returns
returns c = later_blocks_change_nothing
