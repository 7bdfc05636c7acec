use Rattle.session_params.proofs.Going.{sets}
use Rattle.session_params.proofs.ParamBook.set.Goals as goal

pub returns-clause-stands : goal.returns-clause-stands
returns-clause-stands c past stands = sets _ past c.args.session (rw (← c.self.view_is) at stands) c.args.asked (rw (← c.self.view_is) at c.requires) _ _ c.set_among.ensures.end c.set_among.ensures.session_records
