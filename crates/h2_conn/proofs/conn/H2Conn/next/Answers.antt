use Rattle.std.proofs.Common.{ap}
use Rattle.h2_conn.specs.State.{state_of, refusal_by}
use Rattle.h2_conn.proofs.Saying.{again, told_end}
use Rattle.h2_conn.proofs.conn.H2Conn.next.Goals as goal

pub returns-in-Some-clause-answers : goal.returns-in-Some-clause-answers
returns-in-Some-clause-answers c = λ d h. (d, h, again (state_of c.args.self.now) d _ c.told.result h (ap refusal_by c.in-Some.is) c.told.ensures.exact)

pub returns-in-Some-ended-clause-answers : goal.returns-in-Some-ended-clause-answers
returns-in-Some-ended-clause-answers c = λ d h. told_end (state_of c.args.self.now) d c.in-Some-ended.stream h (ap refusal_by c.in-None.is) c.in-Some-ended.is
