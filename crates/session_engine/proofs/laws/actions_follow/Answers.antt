use Rattle.session_engine.proofs.Follows.{actions_follow}
use Rattle.session_engine.proofs.laws.actions_follow.Goals as goal

pub returns : goal.returns
returns c = actions_follow
