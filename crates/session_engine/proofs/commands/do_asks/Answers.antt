use Rattle.std.proofs.Common.{refl}
use Rattle.session_engine.proofs.CommandRuns.{made_then, made_over}
use Rattle.session_engine.proofs.commands.do_asks.Goals as goal

pub returns-in-GoesOn : goal.returns-in-GoesOn
returns-in-GoesOn g c = made_then g.M.Machine.lawful c.args.lock.now.setup c.args.setting.now c.args.pass.now c.do_params.new.pass c.do_election.new.pass _ _ _ _ _ _ _ c.in-GoesOn.ensures c.do_election.ensures

pub returns-in-Ended : goal.returns-in-Ended
returns-in-Ended g c = made_over g.M.Machine.lawful c.args.lock.now.setup c.args.setting.now c.args.pass.now c.do_params.new.pass _ _ _ _ _ _ refl c.in-Ended.ensures

pub returns-in-OutOfMemory : goal.returns-in-OutOfMemory
returns-in-OutOfMemory g c = made_over g.M.Machine.lawful c.args.lock.now.setup c.args.setting.now c.args.pass.now c.do_params.new.pass _ _ _ _ _ _ refl c.in-OutOfMemory.ensures

pub returns-in-Spent : goal.returns-in-Spent
returns-in-Spent g c = made_over g.M.Machine.lawful c.args.lock.now.setup c.args.setting.now c.args.pass.now c.do_params.new.pass _ _ _ _ _ _ refl c.in-Spent.ensures
