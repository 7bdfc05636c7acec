use Rattle.grpc_stream.proofs.Drained.{pumped_is_answered}
use Rattle.grpc_stream.proofs.laws.pumped_is_answered.Goals as goal

pub returns : goal.returns
returns c = pumped_is_answered c.written_blocks_are_read.ensures
