use Rattle.std.proofs.Common.{refl}
use Rattle.session_engine.specs.Queries.{is_responding}
use Rattle.session_engine.proofs.Walks.{asked_found, asked_none}
use Rattle.session_engine.proofs.engine.SessionEngine.next_selecting.Goals as goal

pub returns-clause-found : goal.returns-clause-found
returns-clause-found c =
    asked_found c.self.inside.calls c.args.self.now c.self.view_is is_responding c.first_selecting.result c.first_selecting.ensures.first c.first_selecting.ensures.held

pub returns-clause-none : goal.returns-clause-none
returns-clause-none c =
    asked_none c.self.inside.calls c.args.self.now c.self.view_is is_responding refl c.first_selecting.result c.first_selecting.ensures.first
