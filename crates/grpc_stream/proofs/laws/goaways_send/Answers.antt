use Rattle.grpc_stream.proofs.Sending.{goaways_send}
use Rattle.grpc_stream.proofs.laws.goaways_send.Goals as goal

pub returns : goal.returns
returns c = goaways_send
