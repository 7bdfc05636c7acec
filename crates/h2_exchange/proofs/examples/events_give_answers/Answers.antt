use Rattle.h2_exchange.proofs.Computed.{spelled_answers}
use Rattle.h2_exchange.proofs.examples.events_give_answers.Goals as goal

pub returns : goal.returns
returns c = spelled_answers
