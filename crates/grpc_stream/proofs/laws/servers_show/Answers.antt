use Rattle.grpc_stream.proofs.Shown.{servers_show}
use Rattle.grpc_stream.proofs.laws.servers_show.Goals as goal

pub returns : goal.returns
returns c = servers_show
