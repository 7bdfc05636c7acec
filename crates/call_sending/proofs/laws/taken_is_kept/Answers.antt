use Rattle.call_sending.proofs.Taking.{taken_is_kept}
use Rattle.call_sending.proofs.laws.taken_is_kept.Goals as goal

pub returns : goal.returns
returns c = taken_is_kept
