use Rattle.grpc_stream.proofs.Refused.{events_send}
use Rattle.grpc_stream.proofs.laws.events_send.Goals as goal

pub returns : goal.returns
returns c = events_send
