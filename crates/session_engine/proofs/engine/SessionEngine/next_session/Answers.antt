use Rattle.session_engine.proofs.Walks.{next_is_first, next_within}
use Rattle.session_engine.proofs.engine.SessionEngine.next_session.Goals as goal

pub returns-clause-found : goal.returns-clause-found
returns-clause-found c =
    next_within c.self.inside.calls c.args.self.now c.self.view_is c.args.from c.first_session.result c.first_session.ensures.first c.first_session.ensures.held

pub returns-clause-first : goal.returns-clause-first
returns-clause-first c =
    next_is_first c.self.inside.calls c.args.self.now c.self.view_is c.args.from c.first_session.result c.first_session.ensures.first c.first_session.ensures.ordered
