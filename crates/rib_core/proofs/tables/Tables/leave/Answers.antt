use Rattle.rib_core.proofs.tables.Tables.leave.Goals as goal

pub returns-then-purges : goal.returns-then-purges
returns-then-purges c = rw c.if-purges.true c.leave_with_all.ensures
