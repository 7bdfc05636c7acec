use Rattle.std.proofs.Common.{ap, ◌∙◌}
use Rattle.session_params.specs.Rows.{params_in}
use Rattle.session_params.proofs.Going.{params_by}
use Rattle.session_params.proofs.ParamBook.params_of.Goals as goal

pub returns-clause-stands : goal.returns-clause-stands
returns-clause-stands c past stands alive = c.params_among.ensures ∙ ap (params_in c.args.session) (c.deref.ensures.value ∙ c.self.view_is) ∙ params_by _ past c.args.session stands alive
