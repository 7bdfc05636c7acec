use Rattle.grpc_stream.proofs.ClientReads.{client_reads_messages}
use Rattle.grpc_stream.proofs.laws.client_reads_messages.Goals as goal

pub returns : goal.returns
returns c = client_reads_messages
