use Rattle.std.proofs.Common.{ap, ◌∙◌}
use Rattle.session_engine.specs.declared.step.Step.{Step}
use Rattle.session_engine.specs.Queries.{OpenCallsView, call_on, session_in}
use Rattle.session_engine.specs.Stands.{items_in}
use Rattle.session_engine.proofs.Modifying.{closes_view, collect_spent_in, collects, if_err, session_is}
use Rattle.session_engine.proofs.engine.SessionEngine.collect.Goals as goal

pub returns-clause-done : goal.returns-clause-done
returns-clause-done g c =
    collects g.M.Machine.lawful c.args.lock.now.setup c.args.setting.now c.args.pass.now c.do_collect-progress.new.pass c.close_up.new.pass c.args.self.now c.close_up.new.calls c.args.stream c.in-Some.session c.in-Some.is_finished
    c.do_collect-progress.result.0 c.do_collect-progress.result.1 c.new-step.result c.do_collect-progress.new.out c.close_up.new.step
    (ap items_in c.new-step.ensures) (ap (λ (x : Step). x.halted) c.new-step.ensures) (session_is (call_on c.args.self.now c.args.stream) c.in-Some.session c.in-Some.is_finished (c.in-Some.ensures ∙ ap (λ (l : OpenCallsView). session_in (call_on l c.args.stream)) c.self.view_is)) c.do_collect-progress.ensures
    (closes_view g.M.Machine.lawful c.args.lock.now.setup c.do_collect-progress.result.0 c.args.stream c.in-Some.session c.do_collect-progress.new.pass c.close_up.new.pass c.self.inside.calls c.args.self.now c.close_up.new.calls c.do_collect-progress.new.out c.close_up.new.step c.self.view_is c.in_ok-close_up.ensures.closed)

pub returns-in_err-close_up-clause-spent : goal.returns-in_err-close_up-clause-spent
returns-in_err-close_up-clause-spent g c =
    if_err c.from_residual.result _ (collect_spent_in g.M.Machine.lawful c.args.lock.now.setup c.args.setting.now c.args.pass.now c.do_collect-progress.new.pass c.close_up.new.pass c.args.self.now c.args.stream c.in-Some.session c.in-Some.is_finished
    c.do_collect-progress.result.0 c.do_collect-progress.result.1 c.new-step.result c.do_collect-progress.new.out
    (ap items_in c.new-step.ensures) (ap (λ (x : Step). x.end) c.new-step.ensures) (session_is (call_on c.args.self.now c.args.stream) c.in-Some.session c.in-Some.is_finished (c.in-Some.ensures ∙ ap (λ (l : OpenCallsView). session_in (call_on l c.args.stream)) c.self.view_is)) c.do_collect-progress.ensures c.in_err-close_up.ensures.spent)
