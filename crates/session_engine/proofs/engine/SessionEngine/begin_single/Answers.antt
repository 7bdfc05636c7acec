use Rattle.std.proofs.Common.{Some, ap, ◌∙◌}
use Rattle.grpc_heads.specs.GrpcStatus.{GrpcStatus}
use Rattle.call_orders.specs.Owed.{want_of_memory}
use Rattle.session_engine.specs.declared.step.Step.{Step}
use Rattle.session_engine.specs.Stands.{items_in}
use Rattle.session_engine.proofs.Opening.{elsewhere_view, empty_end, opens, opens_without}
use Rattle.session_engine.proofs.engine.SessionEngine.begin_single.Goals as goal

pub returns : goal.returns
returns c = λ s. opens s c.args.self.now c.add.new.self c.args.stream c.args.method c.new-step.result c.requires.single c.in-Ok.ensures.added
    (elsewhere_view c.args.stream c.self.inside.calls c.args.self.now c.add.new.self c.self.view_is c.add.ensures.others)
    (ap items_in c.new-step.ensures) (ap (λ (x : Step). x.halted) c.new-step.ensures)

pub returns-in_default : goal.returns-in_default
returns-in_default c = λ s. opens_without s c.args.self.now c.add.new.self c.args.stream c.args.method _ c.requires.single c.requires.unbegun (c.in_default.ensures.err ∙ c.self.view_is)
    (empty_end (record { answers = c.new-step.result.answers; end = Some c.want_of_memory.result; halted = c.new-step.result.halted }) (Some want_of_memory) (ap (λ (x : Step). x.answers) c.new-step.ensures) (ap (λ (x : GrpcStatus). Some x) c.want_of_memory.ensures))
    (ap (λ (x : Step). x.halted) c.new-step.ensures)
