use Rattle.std.proofs.Common.{ap, ◌∙◌}
use Rattle.session_engine.specs.declared.step.Step.{Step}
use Rattle.session_engine.specs.Queries.{OpenCallsView, call_on, received_by}
use Rattle.session_engine.specs.Stands.{items_in}
use Rattle.session_engine.proofs.Opening.{elsewhere_view}
use Rattle.session_engine.proofs.SingleCalls.{finish_kept, finishes_taken_ok, taken_spent_err}
use Rattle.session_engine.proofs.engine.SessionEngine.finish.Goals as goal

pub returns-in-Some-clause-done : goal.returns-in-Some-clause-done
returns-in-Some-clause-done g c =
    finishes_taken_ok g.M.Machine.lawful c.args.lock.now.setup c.args.setting.now c.args.pass.now c.finish_single.new.pass c.args.self.now c.take_receiving.new.self c.finish_single.new.self c.args.stream c.in-Some.method c.in-Some.first c.in-Some.is_more c.finish_single.result
    (c.in-Some.ensures.call ∙ ap (λ (l : OpenCallsView). received_by (call_on l c.args.stream)) c.self.view_is)
    (elsewhere_view c.args.stream c.self.inside.calls c.args.self.now c.take_receiving.new.self c.self.view_is c.take_receiving.ensures.others) c.finish_single.ensures.done

pub returns-in-Some-clause-spent : goal.returns-in-Some-clause-spent
returns-in-Some-clause-spent g c =
    taken_spent_err g.M.Machine.lawful c.args.lock.now.setup c.args.setting.now c.args.pass.now c.finish_single.new.pass c.args.self.now c.args.stream c.in-Some.method c.in-Some.first c.in-Some.is_more c.finish_single.result
    (c.in-Some.ensures.call ∙ ap (λ (l : OpenCallsView). received_by (call_on l c.args.stream)) c.self.view_is) c.finish_single.ensures.spent

pub returns-in-None-clause-done : goal.returns-in-None-clause-done
returns-in-None-clause-done g c =
    finish_kept g.M.Machine.lawful c.args.lock.now.setup c.args.setting.now c.args.pass.now c.args.self.now c.take_receiving.new.self c.finish.new.self c.args.stream c.new.result c.requires.sound
    (c.in-None.ensures.call ∙ ap (λ (l : OpenCallsView). received_by (call_on l c.args.stream)) c.self.view_is) (c.in-None.ensures.kept ∙ c.self.view_is)
    c.finish.ensures.finished c.finish.ensures.others (ap items_in c.new.ensures) (ap (λ (x : Step). x.halted) c.new.ensures)
