use Rattle.call_hearing.proofs.Cutting.{cuts_go_on}
use Rattle.call_hearing.proofs.laws.cuts_go_on.Goals as goal

pub returns : goal.returns
returns c = cuts_go_on
