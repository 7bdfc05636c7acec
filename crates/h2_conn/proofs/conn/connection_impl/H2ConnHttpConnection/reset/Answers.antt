use Rattle.h2_conn.specs.State.{state_of}
use Rattle.h2_conn.proofs.Asking.{cuts, cut_where, some_why}
use Rattle.h2_conn.proofs.conn.connection_impl.H2ConnHttpConnection.reset.Goals as goal

pub returns-clause-ok : goal.returns-clause-ok
returns-clause-ok c = λ d h.
    cuts (state_of c.args.self.now) (state_of c.cut.new.self) d c.args.stream c.args.code _ c.cut.result (some_why c.args.self.now.refusal) c.cut.ensures.ok c.cut.ensures.sends h

pub returns-clause-sends : goal.returns-clause-sends
returns-clause-sends c = λ d h.
    cut_where (state_of c.args.self.now) d c.args.stream _ c.cut.result (some_why c.args.self.now.refusal) c.cut.ensures.sends h
