use Rattle.std.proofs.Common.{ap}
use Rattle.session_engine.specs.declared.step.Step.{Step}
use Rattle.session_engine.specs.Stands.{items_in}
use Rattle.session_engine.proofs.Giving.{continues_none}
use Rattle.session_engine.proofs.engine.SessionEngine.more.Goals as goal

pub returns-in-OutOfMemory-clause-given : goal.returns-in-OutOfMemory-clause-given
returns-in-OutOfMemory-clause-given c = λ responds. rw c.want_of_memory.ensures
    (continues_none c.args.setting.now c.args.stream c.self.inside.calls c.args.self.now c.give.new.self c.new-step.result c.give.new.out c.self.view_is (ap items_in c.new-step.ensures) (ap (λ (x : Step). x.halted) c.new-step.ensures)
    c.give.ensures.others c.give.ensures.halted c.remove-in-OutOfMemory.new.self c.remove-in-OutOfMemory.ensures.removed c.remove-in-OutOfMemory.ensures.others c.in-OutOfMemory.ensures.given)
