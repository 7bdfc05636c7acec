use Rattle.std.proofs.lemmas.Result.{IfOk-weaker}
use Rattle.lock_counter.proofs.Counts.{told}
use Rattle.lock_counter.proofs.threads.add.Goals as goal

pub returns-clause-ok : goal.returns-clause-ok
returns-clause-ok g c = IfOk-weaker c.call.result _ _ (told c.args.lock.now.setup c.args.pass.now c.call.new.pass c.args.amount) c.call.ensures.called
