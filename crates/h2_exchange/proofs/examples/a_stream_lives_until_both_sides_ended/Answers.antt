use Rattle.h2_exchange.proofs.Computed.{stream_life}
use Rattle.h2_exchange.proofs.examples.a_stream_lives_until_both_sides_ended.Goals as goal

pub returns : goal.returns
returns c = stream_life
