use Rattle.session_params.proofs.Going.{leaves}
use Rattle.session_params.proofs.ParamBook.leave.Goals as goal

pub returns-clause-stands : goal.returns-clause-stands
returns-clause-stands c past stands = rw c.remove.ensures (leaves _ past c.args.session (rw (← c.self.view_is) at stands))
