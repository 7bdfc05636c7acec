use Rattle.lock_counter.proofs.Counts.{stands_more}
use Rattle.lock_counter.proofs.counter.CounterMachine.act.Goals as goal

pub returns-clause-event : goal.returns-clause-event
returns-clause-event c = λ by history h few. stands_more c.args.self.now.first c.args.self.now.total by c.args.command history h
