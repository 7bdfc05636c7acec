use Rattle.std.proofs.Common.{ap}
use Rattle.session_engine.specs.declared.step.Step.{Step}
use Rattle.session_engine.specs.Stands.{items_in}
use Rattle.session_engine.proofs.Modifying.{closes_view, if_err, request_spent, requested}
use Rattle.session_engine.proofs.engine.SessionEngine.request_modify.Goals as goal

pub returns-clause-done : goal.returns-clause-done
returns-clause-done g c =
    requested g.M.Machine.lawful c.args.lock.now.setup c.args.setting.now c.args.pass.now c.do_message-progress.new.pass c.close_up.new.pass c.args.self.now c.close_up.new.calls c.args.stream c.args.session c.args.message.now
    c.do_message-progress.result c.new-step.result c.do_message-progress.new.out c.close_up.new.step
    (ap items_in c.new-step.ensures) (ap (λ (x : Step). x.halted) c.new-step.ensures) c.requires.call c.do_message-progress.ensures
    (closes_view g.M.Machine.lawful c.args.lock.now.setup c.do_message-progress.result c.args.stream c.args.session c.do_message-progress.new.pass c.close_up.new.pass c.self.inside.calls c.args.self.now c.close_up.new.calls c.do_message-progress.new.out c.close_up.new.step c.self.view_is c.in_ok-close_up.ensures.closed)

pub returns-in_err-close_up-clause-spent : goal.returns-in_err-close_up-clause-spent
returns-in_err-close_up-clause-spent g c =
    if_err c.from_residual.result _ (request_spent g.M.Machine.lawful c.args.lock.now.setup c.args.setting.now c.args.pass.now c.do_message-progress.new.pass c.close_up.new.pass c.args.self.now c.args.stream c.args.session c.args.message.now
    c.do_message-progress.result c.new-step.result c.do_message-progress.new.out
    (ap items_in c.new-step.ensures) (ap (λ (x : Step). x.end) c.new-step.ensures) c.requires.call c.do_message-progress.ensures c.in_err-close_up.ensures.spent)
