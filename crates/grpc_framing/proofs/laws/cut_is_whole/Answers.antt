use Rattle.grpc_framing.proofs.Again.{messages_of-again, messages_of-within, messages_of-ending, messages_of-stops}
use Rattle.grpc_framing.proofs.laws.cut_is_whole.Goals as goal

pub returns-clause-again : goal.returns-clause-again
returns-clause-again c = messages_of-again

pub returns-clause-within : goal.returns-clause-within
returns-clause-within c = messages_of-within

pub returns-clause-ending : goal.returns-clause-ending
returns-clause-ending c = messages_of-ending

pub returns-clause-stops : goal.returns-clause-stops
returns-clause-stops c = messages_of-stops
