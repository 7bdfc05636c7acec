use Rattle.h2_exchange.proofs.Computed.{full_server}
use Rattle.h2_exchange.proofs.examples.a_server_takes_100_streams.Goals as goal

pub returns : goal.returns
returns c = full_server
