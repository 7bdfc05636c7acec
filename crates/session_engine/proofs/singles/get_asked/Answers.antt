use Rattle.session_engine.proofs.Reading.{get_reads, get_refuses}
use Rattle.session_engine.proofs.singles.get_asked.Goals as goal

pub returns-in-Ok : goal.returns-in-Ok
returns-in-Ok c = get_reads c.args.setting.now c.args.message.now c.in-Ok.which c.in-Ok.kinds c.in-Ok.ensures

pub returns-in-Err : goal.returns-in-Err
returns-in-Err c = get_refuses c.args.setting.now c.args.message.now c.in-Err.fault c.refused.result c.in-Err.ensures c.refused.ensures
