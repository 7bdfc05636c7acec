use Rattle.call_hearing.proofs.Silent.{others_are_silent}
use Rattle.call_hearing.proofs.laws.others_are_silent.Goals as goal

pub returns : goal.returns
returns c = others_are_silent
