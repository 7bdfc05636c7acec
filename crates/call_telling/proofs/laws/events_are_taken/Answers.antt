use Rattle.call_telling.proofs.OneCall.{events_are_taken}
use Rattle.call_telling.proofs.laws.events_are_taken.Goals as goal

pub returns : goal.returns
returns c = events_are_taken
