use Rattle.call_telling.proofs.Ends.{forgets}
use Rattle.call_telling.proofs.laws.over_calls_are_forgotten.Goals as goal

pub returns : goal.returns
returns c = forgets
