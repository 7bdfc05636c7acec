use Rattle.std.proofs.Common.{arith}
use Rattle.table_lock.proofs.Keeps.{merges}
use Rattle.table_lock.proofs.steps.merge.Goals as goal

pub join_seat-requires : goal.join_seat-requires
join_seat-requires g c = (c.requires.0.0, c.requires.2.0, c.requires.3.2, omega arith, merges g.M.Machine.setup g.M.Machine.stands g.M.Machine.lawful (g.M.Machine.setup c.args.table.now.key.value) _ _ _ _ c.requires.1.0 c.requires.1.3 c.requires.1.1 c.requires.3.0 c.requires.3.1)
