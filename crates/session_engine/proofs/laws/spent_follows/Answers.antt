use Rattle.session_engine.proofs.Follows.{spent_begins_follow, spent_follows}
use Rattle.session_engine.proofs.laws.spent_follows.Goals as goal

pub returns-clause-going : goal.returns-clause-going
returns-clause-going c = spent_follows

pub returns-clause-begun : goal.returns-clause-begun
returns-clause-begun c = spent_begins_follow
