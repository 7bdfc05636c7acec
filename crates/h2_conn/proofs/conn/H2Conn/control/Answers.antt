use Rattle.h2_conn.specs.State.{state_of}
use Rattle.h2_conn.proofs.Taking.{controls}
use Rattle.h2_conn.proofs.conn.H2Conn.control.Goals as goal

pub returns-clause-took : goal.returns-clause-took
returns-clause-took c = λ d seen last h. controls (state_of c.args.self.now) (state_of c.answer.new.self) d c.args.frame.now c.told_by.result c.requires.plain c.answer.ensures.state c.told_by.ensures seen last h
