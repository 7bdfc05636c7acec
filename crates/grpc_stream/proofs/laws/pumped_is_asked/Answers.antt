use Rattle.grpc_stream.proofs.Drained.{pumped_is_asked}
use Rattle.grpc_stream.proofs.laws.pumped_is_asked.Goals as goal

pub returns : goal.returns
returns c = pumped_is_asked c.written_blocks_are_read.ensures
