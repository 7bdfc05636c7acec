use Rattle.grpc_stream.proofs.Read.{ends_are_read}
use Rattle.grpc_stream.proofs.examples.ends_are_read.Goals as goal

pub returns : goal.returns
returns c = ends_are_read
