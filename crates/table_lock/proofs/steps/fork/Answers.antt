use Rattle.std.proofs.Common.{arith}
use Rattle.table_lock.proofs.Keeps.{forks}
use Rattle.table_lock.proofs.steps.fork.Goals as goal

pub split_seat-new-requires : goal.split_seat-new-requires
split_seat-new-requires g c = (c.requires.0.0, omega arith, forks g.M.Machine.setup g.M.Machine.stands g.M.Machine.lawful (g.M.Machine.setup c.args.table.now.key.value) _ _ c.requires.1.0 c.requires.1.1 c.requires.1.3)
