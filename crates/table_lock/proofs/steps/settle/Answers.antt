use Rattle.std.proofs.Common.{arith}
use Rattle.table_lock.proofs.Keeps.{settles}
use Rattle.table_lock.proofs.steps.settle.Goals as goal

pub load-requires : goal.load-requires
load-requires g c = (c.requires.0.0, omega arith, settles g.M.Machine.setup g.M.Machine.stands g.M.Machine.lawful (g.M.Machine.setup c.args.table.now.key.value) _ _ _ c.requires.1)
