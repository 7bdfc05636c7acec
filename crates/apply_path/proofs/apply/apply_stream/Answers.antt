use Rattle.apply_path.proofs.Applies.{lacks_memory}
use Rattle.apply_path.proofs.apply.apply_stream.Goals as goal

pub returns-in_default-clause-applies : goal.returns-in_default-clause-applies
returns-in_default-clause-applies g c = lacks_memory c.args.setting.now _ _ _ _ _
