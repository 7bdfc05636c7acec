use Rattle.call_answers.proofs.Parts.{operations_are}
use Rattle.call_answers.proofs.orders.operations_in.Goals as goal

pub returns : goal.returns
returns c = rw c.new.ensures (operations_are c.args.setting.now c.args.message.now)
