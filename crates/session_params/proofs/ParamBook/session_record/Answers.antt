use Rattle.std.proofs.Common.{ap, ◌∙◌}
use Rattle.std.specs.Prelude.{find}
use Rattle.session_params.specs.Rows.{is_of}
use Rattle.session_params.proofs.Going.{session_record_by}
use Rattle.session_params.proofs.ParamBook.session_record.Goals as goal

pub returns-clause-stands : goal.returns-clause-stands
returns-clause-stands c past stands = c.session_record_of.ensures ∙ ap (find (is_of c.args.session)) (c.deref.ensures.value ∙ c.self.view_is) ∙ session_record_by _ past c.args.session stands
