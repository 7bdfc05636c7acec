use Rattle.grpc_stream.proofs.Entire.{all_is_asked}
use Rattle.grpc_stream.proofs.laws.all_is_asked.Goals as goal

pub returns : goal.returns
returns c = all_is_asked c.written_blocks_are_read.ensures
