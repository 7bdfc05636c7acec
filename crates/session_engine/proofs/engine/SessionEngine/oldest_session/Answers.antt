use Rattle.std.proofs.Common.{None, Some}
use Rattle.session_engine.proofs.Walks.{oldest_found, oldest_is_least}
use Rattle.session_engine.proofs.engine.SessionEngine.oldest_session.Goals as goal

pub returns-in-None-clause-oldest : goal.returns-in-None-clause-oldest
returns-in-None-clause-oldest c = oldest_is_least c.self.inside.calls c.args.self.now c.self.view_is None c.in-None.ensures.oldest c.in-None.ensures.held

pub returns-in-Some-clause-found : goal.returns-in-Some-clause-found
returns-in-Some-clause-found c = oldest_found c.self.inside.calls c.args.self.now c.self.view_is c.in-Some.pair c.in-Some.ensures.oldest c.in-Some.ensures.held

pub returns-in-Some-clause-oldest : goal.returns-in-Some-clause-oldest
returns-in-Some-clause-oldest c =
    oldest_is_least c.self.inside.calls c.args.self.now c.self.view_is (Some c.in-Some.pair) c.in-Some.ensures.oldest c.in-Some.ensures.held
