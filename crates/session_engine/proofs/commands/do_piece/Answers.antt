use Rattle.session_engine.proofs.CommandRuns.{out_of_memory_made}
use Rattle.session_engine.proofs.commands.do_piece.Goals as goal

pub returns-in-Err : goal.returns-in-Err
returns-in-Err g c = out_of_memory_made g.M.Machine.lawful c.args.lock.now.setup c.args.setting.now c.args.pass.now _ c.args.out.now c.requires.sound c.requires.no_end
