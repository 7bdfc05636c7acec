use Rattle.std.proofs.Common.{to_z-of_z}
use Rattle.session_engine.proofs.CommandRuns.{spent_made, one_made}
use Rattle.session_engine.proofs.commands.do_command.Goals as goal

pub returns-in-Err : goal.returns-in-Err
returns-in-Err g c = spent_made g.M.Machine.lawful c.args.lock.now.setup c.args.setting.now c.args.pass.now c.call.new.pass c.args.command c.args.out.now c.requires.names.3 c.in-Err.ensures.spent.0 c.in-Err.ensures.spent.1 c.requires.sound c.requires.no_end

pub returns-in-Ok : goal.returns-in-Ok
returns-in-Ok g c =
    let told = rw (to_z-of_z c.ranges.now, c.requires.names.0, c.requires.names.1, c.requires.names.2) at c.add_answer-progress.ensures.told in
    one_made g.M.Machine.lawful c.args.lock.now.setup c.args.setting.now c.args.pass.now c.call.new.pass c.args.command c.in-Ok.reply c.add_answer-progress.result c.args.out.now c.add_answer-progress.new.out
    c.requires.names.3 c.in-Ok.ensures.called told c.add_answer-progress.ensures.halted
