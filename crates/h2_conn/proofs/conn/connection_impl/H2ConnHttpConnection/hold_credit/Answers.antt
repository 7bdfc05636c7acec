use Rattle.h2_conn.proofs.conn.connection_impl.H2ConnHttpConnection.hold_credit.Goals as goal

pub returns-clause-ahead : goal.returns-clause-ahead
returns-clause-ahead c = c.hold.ensures.ahead
