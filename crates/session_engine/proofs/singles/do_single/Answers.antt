use Rattle.session_engine.proofs.SingleCalls.{single_done}
use Rattle.session_engine.proofs.singles.do_single.Goals as goal

pub returns-else-not-names_known : goal.returns-else-not-names_known
returns-else-not-names_known g c =
    single_done g.M.Machine.lawful c.args.lock.now.setup c.args.setting.now c.args.pass.now c.call.new.pass c.args.command c.ended.result c.in-Ok.reply c.answer_single-told.result c.args.out.now c.answer_single-told.new.out
    c.requires.single c.in-Ok.ensures.called (rw c.moment_of_flush-moment.ensures at c.answer_single-told.ensures.told) c.answer_single-told.ensures.halted c.ended.ensures
