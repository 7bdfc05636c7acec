use Rattle.call_sending.proofs.Done.{turns_end}
use Rattle.call_sending.proofs.laws.turns_end.Goals as goal

pub returns : goal.returns
returns c = turns_end
