use Rattle.rib_core.specs.Recorded.{IsLawful}
use Rattle.engine_tests.proofs.Ready.{pass_after, pass_spent}
use Rattle.engine_tests.proofs.connection.OneConnection.collect.Goals as goal

pub returns-in-Err : goal.returns-in-Err
returns-in-Err g c =
    let k = c.in-Err.ensures.spent in pass_spent IsLawful c.settle.new.self.lock c.settle.new.self.pass c.collect.new.pass k.did c.settle.ensures.pass k.spent

pub returns-in-Ok : goal.returns-in-Ok
returns-in-Ok g c =
    let k = c.in-Ok.ensures.done.0 in pass_after IsLawful c.settle.new.self.lock c.settle.new.self.pass c.collect.new.pass k.did c.settle.ensures.pass k.entries
