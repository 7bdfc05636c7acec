use Rattle.grpc_stream.proofs.Refused.{out_of_memory_sends}
use Rattle.grpc_stream.proofs.laws.out_of_memory_sends.Goals as goal

pub returns : goal.returns
returns c = out_of_memory_sends
