use Rattle.h2_exchange.proofs.Sending.{only_these_are_sent}
use Rattle.h2_exchange.proofs.laws.only_these_are_sent.Goals as goal

pub returns : goal.returns
returns c = only_these_are_sent
