use Rattle.call_hearing.proofs.Lasting.{listening_lasts}
use Rattle.call_hearing.proofs.laws.listening_lasts.Goals as goal

pub returns : goal.returns
returns c = listening_lasts
