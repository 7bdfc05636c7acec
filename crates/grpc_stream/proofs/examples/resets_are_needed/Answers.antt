use Rattle.grpc_stream.proofs.Read.{resets_are_needed}
use Rattle.grpc_stream.proofs.examples.resets_are_needed.Goals as goal

pub returns : goal.returns
returns c = resets_are_needed
