use Rattle.h2_exchange.proofs.Computed.{refused_stream}
use Rattle.h2_exchange.proofs.examples.a_stream_too_many_is_refused.Goals as goal

pub returns : goal.returns
returns c = refused_stream
