use Rattle.table_workers.proofs.Asking.{idle_reply, work_is, skipped_is, halted_is}
use Rattle.table_workers.proofs.Whole.{step_spent, step_skipped, step_halted, step_idle, step_worked, sound_worked}
use Rattle.table_workers.proofs.step.settled_step.Goals as goal

pub returns-in_default-clause-works : goal.returns-in_default-clause-works
returns-in_default-clause-works g c =
    step_spent c.args.lock.now.setup c.args.worker c.args.pass.now c.call.new.pass (g.D.Device.contents c.args.device.now) c.requires.sound c.in_default.ensures.spent.1 c.in_default.ensures.spent.0

pub returns-in-Work-clause-works : goal.returns-in-Work-clause-works
returns-in-Work-clause-works g c =
    let config = c.args.lock.now.setup in
    step_worked config c.args.worker (c.others_keep_shard.ensures config) (c.takes_keep_shard.ensures config) (c.job_keeps_shard.ensures config)
    c.report.result c.args.pass.now c.call.new.pass c.report.new.pass _ c.in-Work.job c.in-Ok.reply (g.D.Device.contents c.args.device.now) (g.D.Device.contents c.report.new.device)
    c.requires.sound c.in-Ok.ensures.called (work_is c.in-Ok.reply c.in-Work.job c.in-Work.ensures) c.report.ensures.reports

pub returns-in-Work-clause-sound : goal.returns-in-Work-clause-sound
returns-in-Work-clause-sound g c =
    let config = c.args.lock.now.setup in
    sound_worked config c.args.worker (c.others_keep_shard.ensures config) (c.takes_keep_shard.ensures config) (c.job_keeps_shard.ensures config)
    c.report.result c.args.pass.now c.call.new.pass c.report.new.pass _ c.in-Work.job c.in-Ok.reply (g.D.Device.contents c.args.device.now) (g.D.Device.contents c.report.new.device)
    c.in-Ok.ensures.called c.report.ensures.reports

pub returns-in-Skipped-clause-works : goal.returns-in-Skipped-clause-works
returns-in-Skipped-clause-works g c =
    let config = c.args.lock.now.setup in
    step_skipped config c.args.worker (c.others_keep_shard.ensures config) (c.takes_keep_shard.ensures config) (c.job_keeps_shard.ensures config)
    c.args.pass.now c.call.new.pass _ c.in-Ok.reply (g.D.Device.contents c.args.device.now) c.requires.sound c.in-Ok.ensures.called (skipped_is c.in-Ok.reply c.in-Skipped.ensures)

pub returns-in-Halted-clause-works : goal.returns-in-Halted-clause-works
returns-in-Halted-clause-works g c =
    let config = c.args.lock.now.setup in
    step_halted config c.args.worker (c.others_keep_shard.ensures config) (c.takes_keep_shard.ensures config) (c.job_keeps_shard.ensures config)
    c.args.pass.now c.call.new.pass _ c.in-Ok.reply (g.D.Device.contents c.args.device.now) c.requires.sound c.in-Ok.ensures.called (halted_is c.in-Ok.reply c.in-Halted.ensures)

pub returns-in-Idle-clause-works : goal.returns-in-Idle-clause-works
returns-in-Idle-clause-works g c =
    let config = c.args.lock.now.setup in
    step_idle config c.args.worker (c.others_keep_shard.ensures config) (c.takes_keep_shard.ensures config) (c.job_keeps_shard.ensures config)
    c.args.pass.now c.call.new.pass _ c.in-Ok.reply (g.D.Device.contents c.args.device.now) c.requires.sound c.in-Ok.ensures.called
    (idle_reply config c.args.worker c.args.pass.now c.call.new.pass _ c.in-Ok.reply c.in-Ok.ensures.called c.in-Idle.ensures)
