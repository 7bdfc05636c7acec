use Rattle.grpc_stream.proofs.Sending.{pumps_send}
use Rattle.grpc_stream.proofs.laws.pumps_send.Goals as goal

pub returns : goal.returns
returns c = pumps_send
