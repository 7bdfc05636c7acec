use Rattle.h2_exchange.proofs.Sending.{all_is_prefix}
use Rattle.h2_exchange.proofs.laws.all_is_prefix.Goals as goal

pub returns : goal.returns
returns g c = all_is_prefix
