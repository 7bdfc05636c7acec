use Rattle.h2_exchange.proofs.Computed.{stream_numbers}
use Rattle.h2_exchange.proofs.examples.stream_numbers_are_kept.Goals as goal

pub returns : goal.returns
returns c = stream_numbers
