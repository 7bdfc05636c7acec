use Rattle.std.proofs.Common.{refl}
use Rattle.session_engine.proofs.CommandRuns.{made_then, made_over, out_of_memory_made}
use Rattle.session_engine.proofs.commands.do_orders.Goals as goal

pub returns-in_default : goal.returns-in_default
returns-in_default g c = out_of_memory_made g.M.Machine.lawful c.args.lock.now.setup c.args.setting.now c.args.pass.now _ c.args.out.now c.requires.sound c.requires.no_end

pub returns-in-GoesOn : goal.returns-in-GoesOn
returns-in-GoesOn g c =
    let asks = rw (c.in-Ok.ensures.params, c.in-Ok.ensures.election) at c.in-GoesOn.ensures in
    made_then g.M.Machine.lawful c.args.lock.now.setup c.args.setting.now c.args.pass.now c.do_asks.new.pass c.do_operations.new.pass _ _ _ _ _ _ _ asks c.do_operations.ensures

pub returns-in-Ended : goal.returns-in-Ended
returns-in-Ended g c =
    let asks = rw (c.in-Ok.ensures.params, c.in-Ok.ensures.election) at c.in-Ended.ensures in
    made_over g.M.Machine.lawful c.args.lock.now.setup c.args.setting.now c.args.pass.now c.do_asks.new.pass _ _ _ _ _ _ refl asks

pub returns-in-OutOfMemory : goal.returns-in-OutOfMemory
returns-in-OutOfMemory g c =
    let asks = rw (c.in-Ok.ensures.params, c.in-Ok.ensures.election) at c.in-OutOfMemory.ensures in
    made_over g.M.Machine.lawful c.args.lock.now.setup c.args.setting.now c.args.pass.now c.do_asks.new.pass _ _ _ _ _ _ refl asks

pub returns-in-Spent : goal.returns-in-Spent
returns-in-Spent g c =
    let asks = rw (c.in-Ok.ensures.params, c.in-Ok.ensures.election) at c.in-Spent.ensures in
    made_over g.M.Machine.lawful c.args.lock.now.setup c.args.setting.now c.args.pass.now c.do_asks.new.pass _ _ _ _ _ _ refl asks
