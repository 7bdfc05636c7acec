use Rattle.grpc_stream.proofs.Spoken.{clients_ask}
use Rattle.grpc_stream.proofs.laws.clients_ask.Goals as goal

pub returns : goal.returns
returns c = clients_ask c.written_blocks_are_read.ensures
