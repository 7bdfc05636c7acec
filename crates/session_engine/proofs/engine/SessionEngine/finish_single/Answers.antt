use Rattle.std.proofs.Common.{Some, ap, refl}
use Rattle.grpc_heads.specs.GrpcStatus.{GrpcStatus}
use Rattle.call_orders.specs.Owed.{want_of_memory}
use Rattle.session_engine.specs.declared.step.Step.{Step}
use Rattle.session_engine.proofs.Opening.{empty_end}
use Rattle.session_engine.proofs.SingleCalls.{finishes_refused, finishes_unread}
use Rattle.session_engine.proofs.engine.SessionEngine.finish_single.Goals as goal

pub returns-in-Refused-clause-done : goal.returns-in-Refused-clause-done
returns-in-Refused-clause-done g c =
    finishes_refused g.M.Machine.lawful c.args.lock.now.setup c.args.setting.now c.args.pass.now c.args.self.now c.args.stream c.args.method c.args.first c.args.is_more c.in-Refused.status (record { answers = c.new-step.result.answers; end = Some c.in-Refused.status; halted = c.new-step.result.halted }) c.requires.sound c.requires.taken
    c.in-Refused.ensures (empty_end (record { answers = c.new-step.result.answers; end = Some c.in-Refused.status; halted = c.new-step.result.halted }) (Some c.in-Refused.status) (ap (λ (x : Step). x.answers) c.new-step.ensures) refl) (ap (λ (x : Step). x.halted) c.new-step.ensures)

pub returns-clause-done : goal.returns-clause-done
returns-clause-done g c =
    finishes_unread g.M.Machine.lawful c.args.lock.now.setup c.args.setting.now c.args.pass.now c.args.self.now c.args.stream c.args.method c.args.first c.args.is_more (record { answers = c.new-step-in-OutOfMemory.result.answers; end = Some c.want_of_memory.result; halted = c.new-step-in-OutOfMemory.result.halted })
    c.requires.sound c.requires.taken
    (empty_end (record { answers = c.new-step-in-OutOfMemory.result.answers; end = Some c.want_of_memory.result; halted = c.new-step-in-OutOfMemory.result.halted }) (Some want_of_memory) (ap (λ (x : Step). x.answers) c.new-step-in-OutOfMemory.ensures) (ap (λ (x : GrpcStatus). Some x) c.want_of_memory.ensures))
    (ap (λ (x : Step). x.halted) c.new-step-in-OutOfMemory.ensures)
