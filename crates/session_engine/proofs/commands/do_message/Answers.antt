use Rattle.session_engine.proofs.CommandRuns.{made_done, refused_done}
use Rattle.session_engine.proofs.commands.do_message.Goals as goal

pub returns-in-None : goal.returns-in-None
returns-in-None g c = rw (← c.in-None.ensures.first) (made_done g.M.Machine.lawful c.args.lock.now.setup c.args.setting.now c.args.pass.now c.do_orders.new.pass _ _ c.do_orders.result c.args.out.now c.do_orders.new.out c.do_orders.ensures)

pub returns-in-Some : goal.returns-in-Some
returns-in-Some g c = rw (← c.in-Some.ensures.first) (refused_done g.M.Machine.lawful c.args.lock.now.setup c.args.setting.now c.args.pass.now _ c.refuse.result c.args.out.now c.refuse.new.out c.requires.sound c.refuse.ensures.told c.refuse.ensures.halted c.refuse.ensures.alive)
