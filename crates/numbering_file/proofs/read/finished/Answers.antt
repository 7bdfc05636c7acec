use Rattle.std.proofs.Common.{refl}
use Rattle.numbering_file.proofs.read.finished.Goals as goal

pub returns-in-Ok-None : goal.returns-in-Ok-None
returns-in-Ok-None c = (c.args.draft.now, refl, rw c.in-Ok-None.field-0-is at c.in-Ok-None.ensures)
