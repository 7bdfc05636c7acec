use Rattle.grpc_stream.proofs.Spoken.{servers_answer}
use Rattle.grpc_stream.proofs.laws.servers_answer.Goals as goal

pub returns : goal.returns
returns c = servers_answer c.written_blocks_are_read.ensures
