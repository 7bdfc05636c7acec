use Rattle.std.proofs.Common.{Some, ap, ◌∙◌}
use Rattle.grpc_heads.specs.GrpcStatus.{GrpcStatus}
use Rattle.call_orders.specs.Owed.{want_of_memory}
use Rattle.session_engine.specs.declared.step.Step.{Step}
use Rattle.session_engine.specs.Stands.{items_in}
use Rattle.session_engine.proofs.Modifying.{if_err}
use Rattle.session_engine.proofs.Opening.{begin_spent, begun_ended, begun_goes, begun_without, elsewhere_view, empty_end}
use Rattle.session_engine.proofs.engine.SessionEngine.begin_modify.Goals as goal

pub returns-in_err-begin_session-clause-spent : goal.returns-in_err-begin_session-clause-spent
returns-in_err-begin_session-clause-spent g c = if_err c.from_residual.result _ (λ s. begin_spent g.M.Machine.lawful c.args.lock.now.setup s c.args.pass.now c.begin_session.new.pass c.args.stream c.in_err-begin_session.ensures.spent)

pub returns-in-None-clause-done : goal.returns-in-None-clause-done
returns-in-None-clause-done g c = λ s.
    (let began = rw c.in-None.is at c.in_ok-begin_session.ensures.begun in
    begun_ended g.M.Machine.lawful c.args.lock.now.setup s c.args.pass.now c.begin_session.new.pass c.args.self.now c.add.new.self c.remove.new.self c.args.stream c.new-step.result c.begin_session.new.step
    (elsewhere_view c.args.stream c.self.inside.calls c.args.self.now c.add.new.self c.self.view_is c.add.ensures.others) c.remove.ensures.removed c.remove.ensures.others
    (ap (λ (x : Step). x.answers) c.new-step.ensures) (ap (λ (x : Step). x.halted) c.new-step.ensures) began)

pub returns-in-Some-clause-done : goal.returns-in-Some-clause-done
returns-in-Some-clause-done g c = λ s.
    (let began = rw c.in-Some.is at c.in_ok-begin_session.ensures.begun in
    begun_goes g.M.Machine.lawful c.args.lock.now.setup s c.args.pass.now c.begin_session.new.pass c.args.self.now c.add.new.self c.set.new.self c.args.stream c.in-Some.session c.new-step.result c.begin_session.new.step
    (elsewhere_view c.args.stream c.self.inside.calls c.args.self.now c.add.new.self c.self.view_is c.add.ensures.others) c.set.ensures.set c.set.ensures.others
    (ap items_in c.new-step.ensures) (ap (λ (x : Step). x.halted) c.new-step.ensures) began)

pub returns-in_default-clause-done : goal.returns-in_default-clause-done
returns-in_default-clause-done g c = λ s.
    begun_without g.M.Machine.lawful c.args.lock.now.setup s c.args.pass.now c.args.self.now c.add.new.self c.args.stream _ c.requires.sound c.requires.unbegun (c.in_default.ensures.err ∙ c.self.view_is)
    (empty_end (record { answers = c.new-step.result.answers; end = Some c.want_of_memory.result; halted = c.new-step.result.halted }) (Some want_of_memory) (ap (λ (x : Step). x.answers) c.new-step.ensures) (ap (λ (x : GrpcStatus). Some x) c.want_of_memory.ensures))
    (ap (λ (x : Step). x.halted) c.new-step.ensures)
