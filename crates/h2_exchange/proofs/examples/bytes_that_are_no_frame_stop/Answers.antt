use Rattle.h2_exchange.proofs.Computed.{rest_stops}
use Rattle.h2_exchange.proofs.examples.bytes_that_are_no_frame_stop.Goals as goal

pub returns : goal.returns
returns c = rest_stops
