use Rattle.grpc_stream.proofs.Sending.{resets_send}
use Rattle.grpc_stream.proofs.laws.resets_send.Goals as goal

pub returns : goal.returns
returns c = resets_send
