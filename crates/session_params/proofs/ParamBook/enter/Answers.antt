use Rattle.session_params.proofs.Going.{enters}
use Rattle.session_params.proofs.ParamBook.enter.Goals as goal

pub returns-clause-stands : goal.returns-clause-stands
returns-clause-stands c past stands place none = rw c.in_ok-push.ensures.items (enters _ past c.args.session (rw (← c.self.view_is) at stands) place none)
