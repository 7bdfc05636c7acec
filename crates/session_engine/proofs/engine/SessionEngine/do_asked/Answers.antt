use Rattle.std.proofs.Common.{ap, ◌∙◌}
use Rattle.session_engine.specs.declared.step.Step.{Step}
use Rattle.session_engine.specs.Stands.{items_in}
use Rattle.session_engine.proofs.Opening.{elsewhere_view}
use Rattle.session_engine.proofs.SingleCalls.{asked_cut, asked_loses, asked_over, asked_selects, finish_spent}
use Rattle.session_engine.proofs.engine.SessionEngine.do_asked.Goals as goal

pub returns-in_default-clause-done : goal.returns-in_default-clause-done
returns-in_default-clause-done g c = λ method first is_more asks. rw c.want_of_memory-in_default.ensures
    (asked_loses g.M.Machine.lawful c.args.lock.now.setup c.args.setting.now c.args.pass.now c.do_single.new.pass c.args.self.now c.add.new.self c.args.stream method first is_more c.args.command c.in-Selects.rows c.new-step.result c.do_single.new.out c.requires.taken (c.in_default.ensures.err ∙ c.self.view_is) c.requires.single asks (ap items_in c.new-step.ensures) (ap (λ (x : Step). x.halted) c.new-step.ensures) c.in-Selects.ensures)

pub returns-in-Spent-clause-spent : goal.returns-in-Spent-clause-spent
returns-in-Spent-clause-spent g c = λ method first is_more asks.
    finish_spent g.M.Machine.lawful c.args.lock.now.setup c.args.setting.now c.args.pass.now c.do_single.new.pass c.args.stream method first is_more c.args.command c.requires.single asks c.in-Spent.ensures

pub returns-in-Over-clause-done : goal.returns-in-Over-clause-done
returns-in-Over-clause-done g c = λ method first is_more asks.
    asked_over g.M.Machine.lawful c.args.lock.now.setup c.args.setting.now c.args.pass.now c.do_single.new.pass c.args.self.now c.args.stream method first is_more c.args.command c.new-step.result c.do_single.new.out c.requires.taken c.requires.single asks (ap items_in c.new-step.ensures) (ap (λ (x : Step). x.halted) c.new-step.ensures) c.in-Over.ensures

pub returns-in-OutOfMemory-clause-done : goal.returns-in-OutOfMemory-clause-done
returns-in-OutOfMemory-clause-done g c = λ method first is_more asks. rw c.want_of_memory.ensures
    (asked_cut g.M.Machine.lawful c.args.lock.now.setup c.args.setting.now c.args.pass.now c.do_single.new.pass c.args.self.now c.args.stream method first is_more c.args.command c.new-step.result c.do_single.new.out c.requires.taken c.requires.single asks (ap items_in c.new-step.ensures) (ap (λ (x : Step). x.halted) c.new-step.ensures) c.in-OutOfMemory.ensures)

pub returns-in-Ok-clause-done : goal.returns-in-Ok-clause-done
returns-in-Ok-clause-done g c = λ method first is_more asks.
    asked_selects g.M.Machine.lawful c.args.lock.now.setup c.args.setting.now c.args.pass.now c.do_single.new.pass c.args.self.now c.add.new.self c.args.stream method first is_more c.args.command c.in-Selects.rows c.new-step.result c.do_single.new.out c.in-Ok.ensures.added
    (elsewhere_view c.args.stream c.self.inside.calls c.args.self.now c.add.new.self c.self.view_is c.add.ensures.others) c.requires.single asks (ap items_in c.new-step.ensures) (ap (λ (x : Step). x.halted) c.new-step.ensures) c.in-Selects.ensures
