use Rattle.call_hearing.proofs.Telling.{others_tell_nothing}
use Rattle.call_hearing.proofs.laws.others_tell_nothing.Goals as goal

pub returns : goal.returns
returns c = others_tell_nothing
