use Rattle.grpc_heads.specs.declared.head.Method.TheVariants.{Get, Flush}
use Rattle.session_engine.proofs.Opening.{opening}
use Rattle.session_engine.proofs.engine.SessionEngine.begin_unbegun.Goals as goal

pub returns-in-Modify-clause-done : goal.returns-in-Modify-clause-done
returns-in-Modify-clause-done g c = rw c.in-Modify.is c.begin_modify.ensures.done

pub returns-in-Get-clause-done : goal.returns-in-Get-clause-done
returns-in-Get-clause-done g c = rw c.in-Get.is (λ s.
    opening g.M.Machine.lawful c.args.lock.now.setup s c.args.pass.now c.args.self.now c.begin_single.new.self c.args.stream Get c.begin_single.result c.requires.sound (c.begin_single.ensures s))

pub returns-in-Flush-clause-done : goal.returns-in-Flush-clause-done
returns-in-Flush-clause-done g c = rw c.in-Flush.is (λ s.
    opening g.M.Machine.lawful c.args.lock.now.setup s c.args.pass.now c.args.self.now c.begin_single-in-Flush.new.self c.args.stream Flush c.begin_single-in-Flush.result c.requires.sound (c.begin_single-in-Flush.ensures s))
