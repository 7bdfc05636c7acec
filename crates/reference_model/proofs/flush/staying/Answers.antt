use Rattle.std.proofs.Common.{rules, ◌∙◌, ap}
use Rattle.std.specs.Prelude.{filter, length}
use Rattle.std.proofs.lemmas.Fn.{filter_same}
use Rattle.table_model.specs.Table.{kept, stays}
use Rattle.reference_model.proofs.flush.staying.Goals as goal

pub returns : goal.returns
unfolding kept
returns c = filter_same _ _ _ (λ x b f' k. search rules) _ _ c.retain.ensures.filtered ∙ ap (filter (λ e. stays (length c.args.table.now) c.args.table.now c.args.which e.key)) c.requires
