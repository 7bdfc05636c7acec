use Rattle.hpack_tables.proofs.FieldsRead.{stays_in_step}
use Rattle.hpack_tables.proofs.laws.stays_in_step.Goals as goal

pub returns : goal.returns
returns c = stays_in_step
