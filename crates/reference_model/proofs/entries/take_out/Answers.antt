use Rattle.std.proofs.Common.{rules}
use Rattle.std.proofs.lemmas.Fn.{filter_same}
use Rattle.table_model.specs.Table.{take_out}
use Rattle.reference_model.proofs.entries.take_out.Goals as goal

pub returns : goal.returns
unfolding take_out
returns c = filter_same _ _ _ (λ x b f' k. search rules) _ _ c.retain.ensures.filtered
