use Rattle.std.proofs.Common.{arith}
use Rattle.table_lock.proofs.Keeps.{tells}
use Rattle.table_lock.proofs.steps.tell.Goals as goal

pub split_seat-requires : goal.split_seat-requires
split_seat-requires g c = (c.requires.0.0, omega arith, tells g.M.Machine.setup g.M.Machine.stands g.M.Machine.lawful (g.M.Machine.setup c.args.table.now.key.value) _ _ c.requires.1.0)
