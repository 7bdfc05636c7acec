use Rattle.table_workers.proofs.Whole.{stepping_from}
use Rattle.table_workers.proofs.step.work_step.Goals as goal

pub returns-clause-works : goal.returns-clause-works
returns-clause-works g c =
    stepping_from c.args.lock.now.setup c.args.worker c.settled_step.result c.args.pass.now c.settle.new.pass c.settled_step.new.pass
    (g.D.Device.contents c.args.device.now) (g.D.Device.contents c.settled_step.new.device) c.settle.ensures.same c.settled_step.ensures.works
