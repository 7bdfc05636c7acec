use Rattle.h2_exchange.proofs.Computed.{last_streams}
use Rattle.h2_exchange.proofs.examples.goaway_names_the_peers_last_stream.Goals as goal

pub returns : goal.returns
returns c = last_streams
