use Rattle.call_hearing.proofs.Lasting.{open_answers_last}
use Rattle.call_hearing.proofs.laws.open_answers_last.Goals as goal

pub returns : goal.returns
returns c = open_answers_last
