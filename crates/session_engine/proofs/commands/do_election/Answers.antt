use Rattle.session_engine.proofs.CommandRuns.{none_made}
use Rattle.session_engine.proofs.commands.do_election.Goals as goal

pub returns-in-None : goal.returns-in-None
returns-in-None g c = rw c.in-None.is (none_made g.M.Machine.lawful c.args.lock.now.setup c.args.setting.now c.args.pass.now c.args.out.now c.requires.sound c.requires.no_end)
