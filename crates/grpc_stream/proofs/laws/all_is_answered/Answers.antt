use Rattle.grpc_stream.proofs.Entire.{all_is_answered}
use Rattle.grpc_stream.proofs.laws.all_is_answered.Goals as goal

pub returns : goal.returns
returns c = all_is_answered c.written_blocks_are_read.ensures
