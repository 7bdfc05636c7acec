use Rattle.session_engine.proofs.Collecting.{collect_spent, collect_called}
use Rattle.session_engine.proofs.commands.do_collect.Goals as goal

pub returns-in-Err : goal.returns-in-Err
returns-in-Err g c = collect_spent g.M.Machine.lawful c.args.lock.now.setup c.args.setting.now c.args.pass.now c.call.new.pass c.args.session c.args.is_finished c.args.out.now c.in-Err.ensures.spent.0 c.in-Err.ensures.spent.1 c.requires.sound c.requires.no_end

pub returns-in-Ok : goal.returns-in-Ok
returns-in-Ok g c =
    collect_called g.M.Machine.lawful c.args.lock.now.setup c.args.setting.now c.args.pass.now c.call.new.pass c.args.session c.args.is_finished c.in-Ok.reply c.add_answer-progress.result c.end_finished.result _ c.has_left-has_left.result c.args.out.now c.add_answer-progress.new.out c.end_finished.new.out
    c.in-Ok.ensures.called c.add_answer-progress.ensures.told c.add_answer-progress.ensures.halted c.end_finished.ensures c.is_over-is_over.ensures c.has_left-has_left.ensures
