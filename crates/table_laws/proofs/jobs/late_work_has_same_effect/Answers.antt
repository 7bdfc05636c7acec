use Rattle.table_model.proofs.Effects.{late_effect}
use Rattle.table_laws.proofs.jobs.late_work_has_same_effect.Goals as goal

pub returns : goal.returns
returns c table work later sorted apart = late_effect table sorted work later apart
