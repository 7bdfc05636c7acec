use Rattle.h2_conn.specs.State.{state_of}
use Rattle.h2_conn.proofs.Reading.{heard_by}
use Rattle.h2_conn.proofs.conn.H2Conn.hear_frame.Goals as goal

pub returns-clause-heard : goal.returns-clause-heard
returns-clause-heard c = λ d w. heard_by d c.args.frame c.take-took.result c.with_data.result (state_of c.take-took.new.self) c.with_data.ensures.ends (c.take-took.ensures.took d w)
