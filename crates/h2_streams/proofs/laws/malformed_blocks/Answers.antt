use Rattle.h2_streams.proofs.Malformed.{malformed_blocks}
use Rattle.h2_streams.proofs.laws.malformed_blocks.Goals as goal

pub returns : goal.returns
returns c = malformed_blocks
