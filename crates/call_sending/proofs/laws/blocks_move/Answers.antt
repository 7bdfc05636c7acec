use Rattle.call_sending.proofs.Moving.{block_moves}
use Rattle.call_sending.proofs.laws.blocks_move.Goals as goal

pub returns : goal.returns
returns c = block_moves
