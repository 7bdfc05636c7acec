use Rattle.h2_exchange.proofs.Known.{exchange_is_determined}
use Rattle.h2_exchange.proofs.laws.exchange_is_determined.Goals as goal

pub returns : goal.returns
returns c = exchange_is_determined
