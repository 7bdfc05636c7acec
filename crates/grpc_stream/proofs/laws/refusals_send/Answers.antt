use Rattle.grpc_stream.proofs.Refused.{refusals_send}
use Rattle.grpc_stream.proofs.laws.refusals_send.Goals as goal

pub returns : goal.returns
returns c = refusals_send
