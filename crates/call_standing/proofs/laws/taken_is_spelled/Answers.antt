use Rattle.call_standing.proofs.Spelled.{carries_call}
use Rattle.call_standing.proofs.laws.taken_is_spelled.Goals as goal

pub returns : goal.returns
returns c = carries_call
