use Rattle.std.proofs.Common.{ap, ◌∙◌}
use Rattle.session_params.specs.Rows.{is_entered}
use Rattle.session_params.proofs.Going.{entered_by}
use Rattle.session_params.proofs.ParamBook.is_entered.Goals as goal

pub returns-clause-stands : goal.returns-clause-stands
returns-clause-stands c past stands = c.is_in.ensures ∙ ap (is_entered c.args.session) (c.deref.ensures.value ∙ c.self.view_is) ∙ entered_by _ past c.args.session stands
