use Rattle.session_engine.proofs.Reading.{flush_reads, flush_refuses}
use Rattle.session_engine.proofs.singles.flush_asked.Goals as goal

pub returns-in-Ok : goal.returns-in-Ok
returns-in-Ok c = flush_reads c.args.setting.now c.args.message.now c.in-Ok.by c.in-Ok.which c.args.now c.in-Ok.ensures

pub returns-in-Err : goal.returns-in-Err
returns-in-Err c = flush_refuses c.args.setting.now c.args.message.now c.in-Err.fault c.refused.result c.in-Err.ensures c.refused.ensures
