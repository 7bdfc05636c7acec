use Rattle.call_telling.proofs.OneCall.{cuts_are_told}
use Rattle.call_telling.proofs.laws.cuts_are_told.Goals as goal

pub returns : goal.returns
returns c = cuts_are_told
