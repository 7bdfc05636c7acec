use Rattle.apply_path.proofs.Applies.{lacks_memory}
use Rattle.gribi_program.specs.Settings.{setting_with}
use Rattle.gribi_program.proofs.program.apply.Goals as goal

pub returns-in_default-clause-applies : goal.returns-in_default-clause-applies
returns-in_default-clause-applies g c = lacks_memory (setting_with c.args.instances) _ _ _ _ _
