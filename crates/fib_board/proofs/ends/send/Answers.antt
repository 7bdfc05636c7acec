use Rattle.fib_board.proofs.Ending.{sent_out, sent_ascends}
use Rattle.fib_board.proofs.ends.send.Goals as goal

pub returns-clause-items : goal.returns-clause-items
returns-clause-items c tracked is = rw c.send.ensures.out (sent_out c.args.jobs.now.items c.args.at c.index_mut.result.now c.index_mut.ensures.value c.requires.ascending tracked is)

pub returns-clause-ascending : goal.returns-clause-ascending
returns-clause-ascending c = rw c.send.ensures.out (sent_ascends c.args.jobs.now.items c.args.at c.index_mut.result.now c.index_mut.ensures.value c.requires.ascending c.requires.within)
