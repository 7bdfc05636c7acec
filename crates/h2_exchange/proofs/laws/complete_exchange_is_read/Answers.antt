use Rattle.h2_exchange.proofs.Reading.{complete_exchange_is_read}
use Rattle.h2_exchange.proofs.laws.complete_exchange_is_read.Goals as goal

pub returns : goal.returns
returns c = complete_exchange_is_read
