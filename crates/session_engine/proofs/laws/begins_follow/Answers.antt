use Rattle.session_engine.proofs.Follows.{begins_follow}
use Rattle.session_engine.proofs.laws.begins_follow.Goals as goal

pub returns : goal.returns
returns c = begins_follow
