use Rattle.call_hearing.proofs.Telling.{events_tell}
use Rattle.call_hearing.proofs.laws.events_tell.Goals as goal

pub returns : goal.returns
returns c = events_tell
