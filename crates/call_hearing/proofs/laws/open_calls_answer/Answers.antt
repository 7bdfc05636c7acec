use Rattle.call_hearing.proofs.Telling.{open_calls_answer}
use Rattle.call_hearing.proofs.laws.open_calls_answer.Goals as goal

pub returns : goal.returns
returns c = open_calls_answer
